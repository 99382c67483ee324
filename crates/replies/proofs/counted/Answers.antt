use Rattle.text.proofs.Splices.{then}
use native.Mathlib.Omega.{arith}
use Rattle.replies.proofs.counted.Goals as goal

pub returns : goal.returns
returns c = (then _ _ _ _ _ _ _ _ c.say-next.ensures.0 (rw c.listed.ensures at c.put_numbers.ensures.0) (omega arith), omega arith)
