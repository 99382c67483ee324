use native.Mathlib.Omega.{arith}
use Rattle.text.proofs.Splices.{then}
use Rattle.replies.proofs.put_header.Goals as goal

pub returns : goal.returns
returns c =
    rw (← c.byte_at.ensures, ← c.byte_at-2.ensures, ← c.byte_at-3.ensures, ← c.byte_at-4.ensures, ← c.byte_at-5.ensures)
    (then _ _ _ _ _ _ _ _ c.put-next.ensures c.put_hex.ensures.0 (omega arith), omega arith)
