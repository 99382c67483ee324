use Rattle.std.proofs.Common.{◌&&◌, leb, ap, ◌∙◌}
use Rattle.soundness.proofs.Judged.{greater_most}
use Rattle.soundness.proofs.greater_at.Goals as goal

pub returns : goal.returns
returns c n = ap (λ m. leb m n) c.max.ensures ∙ greater_most c.at.result c.at-2.result n ∙ (λ t. leb (c.at.ensures t) n && leb (c.at-2.ensures t) n)
