use Rattle.std.proofs.Common.{◌∙◌}
use Rattle.text.proofs.SlipLaws.{any_has}
use Rattle.text.proofs.has.Goals as goal

pub returns : goal.returns
returns c = c.contains.ensures.value ∙ any_has _ _
