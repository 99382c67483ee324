use Rattle.std.proofs.Common.{not, eqb, sym, ap, ◌∙◌, true≢false}
use Rattle.soundness.proofs.Noted.{note_sound}
use Rattle.soundness.proofs.sound.Goals as goal

pub returns : goal.returns
returns c =
    let a = c.args in
    let w = c.look.ensures in
    record { value = ap (λ n. not (eqb n 1)) w.value ∙ note_sound a.card a.s.now a.store a.rows 0; noted = λ t. w.noted (λ z. true≢false (sym t ∙ ap (λ n. not (eqb n 1)) z)) }
