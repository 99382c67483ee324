use native.Mathlib.Omega.{arith}
use Rattle.named.proofs.put_more.Goals as goal

pub returns : goal.returns
returns c = (rw c.at.ensures at c.put_number.ensures.0, omega arith)
