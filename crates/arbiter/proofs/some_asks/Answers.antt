use mathlib.Core.Path.{◌∙◌}
use Rattle.arbiter.proofs.Requests.{any_unit}
use borrow.Author.Rules.{rules}
use Rattle.arbiter.proofs.some_asks.Goals as goal

pub returns : goal.returns
returns c = c.contains.ensures.value ∙ any_unit c.args.asks c.args.priority (search rules)
