use Rattle.std.proofs.Common.{◌+◌, ◌*◌, cond, ◌∙◌, arith}
use Rattle.soundness.specs.Numbered.{standing}
use Rattle.soundness.proofs.Numbered.{stands_most}
use Rattle.soundness.proofs.note.Goals as goal

pub overflow_add-place-2 : goal.overflow_add-place-2
overflow_add-place-2 c =
    let a = c.args in
    let s = c.standing-stands.ensures in
    let most = stands_most c.at.result c.cells.result c.at-2.result a.granted in
    record { fits = omega arith }

pub returns : goal.returns
returns c =
    let over = c in
    let a = over.args in
    let read = over in
    c.by.ensures
    ∙ (λ t. cond (over.over.ensures.1 t) 0 (128 + 4 * a.i + (over.standing-stands.ensures ∙ (λ z. standing (over.at.ensures z) (over.cells.ensures z) (over.at-2.ensures z) a.granted)) t))
