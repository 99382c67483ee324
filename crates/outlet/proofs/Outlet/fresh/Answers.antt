use mathlib.Core.Path.{◌∙◌}
use Rattle.outlet.proofs.Laws.{fresh_one, fresh_four}
use Rattle.outlet.proofs.Outlet.fresh.Goals as goal

pub returns-in-One : goal.returns-in-One
returns-in-One c =
    let s = c in
    c.one.ensures ∙ fresh_one s.args.limits c.in-One.is s.requires

pub returns-in-Four : goal.returns-in-Four
returns-in-Four c =
    let s = c in
    c.four.ensures ∙ fresh_four s.args.limits c.in-Four.is
