use Rattle.text.proofs.Splices.{then}
use native.Mathlib.Omega.{arith}
use Rattle.named.proofs.put_four.Goals as goal

pub returns : goal.returns
returns c = (then _ _ _ _ _ _ _ _ (then _ _ _ _ _ _ _ _ (then _ _ _ _ _ _ _ _ c.put_column-first.ensures.0 c.put_more-second.ensures.0 (omega arith)) c.put_more-third.ensures.0 (omega arith)) c.put_more.ensures.0 (omega arith), omega arith)
