use Rattle.text.proofs.Splices.{then}
use native.Mathlib.Omega.{arith}
use Rattle.named.proofs.put_rings.Goals as goal

pub returns : goal.returns
returns c = (then _ _ _ _ _ _ _ _ (then _ _ _ _ _ _ _ _ c.put_inlet-inlet.ensures.0 c.put_four-heads.ensures.0 (omega arith)) c.put_four.ensures.0 (omega arith), omega arith)
