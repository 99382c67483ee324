use native.Mathlib.Omega.{arith}
use Rattle.text.proofs.Splices.{then}
use Rattle.replies.proofs.put_byte.Goals as goal

pub returns : goal.returns
returns c = rw (← c.byte_at.ensures) (then _ _ _ _ _ _ _ _ c.put-next.ensures c.put_hex.ensures.0 (omega arith), omega arith)
