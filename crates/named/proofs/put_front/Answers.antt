use Rattle.text.proofs.Splices.{then}
use native.Mathlib.Omega.{arith}
use Rattle.named.proofs.put_front.Goals as goal

pub returns : goal.returns
returns c = (then _ _ _ _ _ _ _ _ c.put_settings-set.ensures.0 c.put_limits.ensures.0 (omega arith), omega arith)
