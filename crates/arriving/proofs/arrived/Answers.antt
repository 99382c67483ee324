use mathlib.Core.Path.{ap, ◌∙◌}
use Rattle.answer.specs.declared.Answer.TheVariants.{Arrived}
use Rattle.answer.specs.Answers.{counted_with}
use Rattle.arriving.proofs.arrived.Goals as goal

pub returns : goal.returns
returns c = let a = c.args in c.counted.ensures ∙ ap (counted_with (Arrived a.fate) a.place) c.arrival_rises.ensures
