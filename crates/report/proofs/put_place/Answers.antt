use borrow.Author.Tests.{ne_eqb}
use Rattle.text.proofs.Splices.{then}
use Rattle.report.specs.Messages.{place}
use native.Mathlib.Omega.{arith}
use Rattle.report.proofs.put_place.Goals as goal

pub returns : goal.returns
unfolding place
returns c = (rw (ne_eqb _ 0 c.if-line-eq0.false) (then _ _ _ _ _ _ _ _ c.put_decimal-next.ensures.0 c.put.ensures (omega arith)), omega arith)
