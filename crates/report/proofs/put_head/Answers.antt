use Rattle.text.proofs.Splices.{then}
use native.Mathlib.Omega.{arith}
use Rattle.report.proofs.put_head.Goals as goal

pub returns : goal.returns
returns c = (then _ _ _ _ _ _ _ _ (then _ _ _ _ _ _ _ _ (then _ _ _ _ _ _ _ _ (then _ _ _ _ _ _ _ _ c.put_place-placed.ensures.0 c.put_card-named.ensures.0 (omega arith)) c.put-refused.ensures (omega arith)) c.put_decimal-numbered.ensures.0 (omega arith)) c.put.ensures (omega arith), omega arith)
