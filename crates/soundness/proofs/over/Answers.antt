use Rattle.std.proofs.Common.{eqb, ap, ◌∙◌}
use Rattle.soundness.proofs.Judged.{over_zero}
use Rattle.soundness.proofs.over.Goals as goal

pub returns : goal.returns
returns c = let a = c.args in (c.saturating_sub.ensures, ap (λ n. eqb n 0) c.saturating_sub.ensures ∙ over_zero a.n a.most)
