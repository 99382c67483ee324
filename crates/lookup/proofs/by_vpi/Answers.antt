use mathlib.Core.Path.{ap, ◌∙◌}
use borrow.Author.Tests.{lt-ltb, le-ltb}
use Rattle.lookup.specs.Lookup.{by_vci, by_vpi}
use Rattle.lookup.proofs.by_vpi.Goals as goal

pub returns-in-Empty : goal.returns-in-Empty
unfolding by_vpi
returns-in-Empty c = rw c.in-Empty.is

pub returns-in-Drop : goal.returns-in-Drop
unfolding by_vpi
returns-in-Drop c = rw c.in-Drop.is

pub returns-in-Route : goal.returns-in-Route
unfolding by_vpi
returns-in-Route c = c.goes.ensures ∙ rw c.in-Route.is

pub returns-then-top-h : goal.returns-then-top-h
unfolding by_vpi
returns-then-top-h c =
    rw (c.in-Page.is, lt-ltb c.in-Page.top c.args.h.vci c.if-top-h.true)

pub returns-else-top-h : goal.returns-else-top-h
unfolding by_vpi
returns-else-top-h c =
    let a = c.args in
    c.by_vci.ensures ∙ ap (λ g. by_vci g a.h) c.get.ensures ∙ rw (c.in-Page.is, le-ltb c.in-Page.top a.h.vci c.if-top-h.false)
