use mathlib.Core.Path.{ap, ◌∙◌}
use Rattle.answer.specs.declared.Answer.TheVariants.{Heard}
use Rattle.answer.specs.Answers.{counted_with, spread, outcome_by}
use Rattle.hearing.proofs.fated.Goals as goal

pub returns : goal.returns
unfolding spread
returns c =
    let a = c.args in
    ap outcome_by (c.counted.ensures ∙ ap (counted_with (Heard a.fate) a.place) c.hearing_rises.ensures)
