use Rattle.text.proofs.Splices.{then}
use native.Mathlib.Omega.{arith}
use Rattle.replies.proofs.summed.Goals as goal

pub returns : goal.returns
returns c = then _ _ _ _ _ _ _ _ c.say-next.ensures.0 (rw c.put_four.ensures at c.put_bytes.ensures.0) (omega arith)
