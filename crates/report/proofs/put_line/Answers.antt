use borrow.Author.Tests.{ne_eqb}
use Rattle.text.proofs.Splices.{then}
use Rattle.report.specs.Messages.{showing}
use native.Mathlib.Omega.{arith}
use Rattle.report.proofs.put_line.Goals as goal

pub returns : goal.returns
unfolding showing
returns c = (rw (ne_eqb _ 0 c.if-line-eq0.false) (then _ _ _ _ _ _ _ _ c.put_shown-next.ensures.0 c.put.ensures (omega arith)), omega arith)
