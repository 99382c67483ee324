use native.Mathlib.Omega.{arith}
use Rattle.named.proofs.put_column.Goals as goal

pub returns : goal.returns
returns c = (rw c.at.ensures at c.say.ensures.0, omega arith)
