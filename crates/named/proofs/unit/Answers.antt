use mathlib.Core.Path.{sym, ◌∙◌}
use Rattle.named.specs.Named.{unit_text}
use Rattle.named.proofs.SessionLaws.{found_below}
use borrow.Author.Rules.{rules}
use Rattle.named.proofs.unit.Goals as goal

pub put_unit-requires : goal.put_unit-requires
put_unit-requires c =
    let below = found_below c.args.s.now c.args.number _ (sym c.find.ensures ∙ c.in-Some.is) in
    (below, search rules)

pub returns-in-Some : goal.returns-in-Some
unfolding unit_text
returns-in-Some c = rw (sym c.find.ensures ∙ c.in-Some.is) c.put_unit.ensures.0

pub returns-in-None : goal.returns-in-None
unfolding unit_text
returns-in-None c = rw (sym c.find.ensures ∙ c.in-None.is) c.put.ensures
