use Rattle.state.specs.Placing.{link_byte}
use borrow.Author.Rules.{rules}
use Rattle.state.proofs.link_byte.Goals as goal

pub returns-in-Uni : goal.returns-in-Uni
unfolding link_byte
returns-in-Uni c = search rules

pub returns-in-Nni : goal.returns-in-Nni
unfolding link_byte
returns-in-Nni c = search rules
