use Rattle.std.proofs.Common.{eqb, ap, ◌∙◌}
use Rattle.soundness.proofs.Judged.{greater_zero}
use Rattle.soundness.proofs.worse.Goals as goal

pub returns : goal.returns
returns c = let a = c.args in ap (λ n. eqb n 0) c.max.ensures ∙ greater_zero a.a a.b
