use Rattle.state.specs.Placing.{mode_byte}
use borrow.Author.Rules.{rules}
use Rattle.state.proofs.mode_byte.Goals as goal

pub returns-in-One : goal.returns-in-One
unfolding mode_byte
returns-in-One c = search rules

pub returns-in-Four : goal.returns-in-Four
unfolding mode_byte
returns-in-Four c = search rules
