use Rattle.text.proofs.Splices.{then}
use native.Mathlib.Omega.{arith}
use Rattle.named.proofs.put_limits.Goals as goal

pub returns : goal.returns
returns c = (then _ _ _ _ _ _ _ _ (then _ _ _ _ _ _ _ _ (then _ _ _ _ _ _ _ _ (rw c.at.ensures at c.put_mode-moded.ensures.0) c.put_cbr-limited.ensures.0 (omega arith)) c.put_column-full.ensures.0 (omega arith)) c.put_column.ensures.0 (omega arith), omega arith)
