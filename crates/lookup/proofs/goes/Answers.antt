use mathlib.Core.Path.{ap, ◌∙◌}
use borrow.Author.Tests.{lt-ltb, le-ltb}
use Rattle.lookup.specs.declared.Looked.TheVariants.{Goes}
use Rattle.lookup.specs.Lookup.{goes_by}
use Rattle.lookup.proofs.goes.Goals as goal

pub returns-then-vpi-gt4095 : goal.returns-then-vpi-gt4095
unfolding goes_by
returns-then-vpi-gt4095 c = rw (lt-ltb 4095 c.args.vpi c.if-vpi-gt4095.true)

pub returns : goal.returns
unfolding goes_by
returns c =
    let a = c.args in
    ap (Goes a.routing) c.write.ensures ∙ rw (le-ltb 4095 a.vpi c.if-vpi-gt4095.false)
