use mathlib.Core.Path.{◌∙◌}
use Rattle.text.proofs.SlipLaws.{last_is}
use Rattle.text.proofs.ends_in.Goals as goal

pub returns : goal.returns
returns c = c.eq.ensures ∙ last_is _ _ _ c.last.ensures.value
