use Rattle.text.proofs.Splices.{then}
use native.Mathlib.Omega.{arith}
use Rattle.named.proofs.put_cbr.Goals as goal

pub returns : goal.returns
returns c = (then _ _ _ _ _ _ _ _ c.put_column-long.ensures.0 c.put_column.ensures.0 (omega arith), omega arith)
