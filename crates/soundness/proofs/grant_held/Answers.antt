use Rattle.std.proofs.Common.{◌&&◌, leb, ap, ◌∙◌}
use Rattle.soundness.specs.Numbered.{marks, cells_in}
use Rattle.soundness.proofs.Numbered.{grant_in_lem, grant_out}
use Rattle.soundness.proofs.grant_held.Goals as goal

pub returns-then-granted-lt32 : goal.returns-then-granted-lt32
returns-then-granted-lt32 c =
    let p = c in
    let a = p.args in
    ap (λ t. marks a.held.now a.granted && t) (ap (leb 1) c.cells.ensures ∙ ap (λ i. leb 1 (cells_in a.s.now i)) p.place_of.ensures.0)
    ∙ grant_in_lem (cells_in a.s.now) a.held.now a.granted p.if-granted-lt32.true

pub returns-else-granted-lt32 : goal.returns-else-granted-lt32
returns-else-granted-lt32 c = let p = c in let a = p.args in grant_out (cells_in a.s.now) a.held.now a.granted p.told-held c.if-granted-lt32.false
