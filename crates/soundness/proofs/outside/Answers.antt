use Rattle.std.proofs.Common.{◌&&◌, ◌∙◌}
use Rattle.soundness.proofs.outside.Goals as goal

pub returns : goal.returns
returns c = c.worse.ensures ∙ (λ t. c.over.ensures.1 t && c.over-2.ensures.1 t)
