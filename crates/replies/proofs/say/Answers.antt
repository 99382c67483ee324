use Rattle.text.proofs.Splices.{then}
use native.Mathlib.Omega.{arith}
use Rattle.replies.proofs.say.Goals as goal

pub returns : goal.returns
returns c = (then _ _ _ _ _ _ _ _ c.put-next.ensures c.put_number.ensures.0 (omega arith), omega arith)
