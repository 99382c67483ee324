use Rattle.std.proofs.Common.{◌∙◌, sym}
use Rattle.text.proofs.Same.{same_is}
use Rattle.text.proofs.is.Goals as goal

pub returns : goal.returns
returns c = c.eq.ensures ∙ sym (same_is _ _)
