use Rattle.text.proofs.Splices.{then}
use native.Mathlib.Omega.{arith}
use Rattle.report.proofs.put_ok.Goals as goal

pub returns : goal.returns
returns c = (then _ _ _ _ _ _ _ _ (then _ _ _ _ _ _ _ _ (then _ _ _ _ _ _ _ _ (then _ _ _ _ _ _ _ _ (then _ _ _ _ _ _ _ _ (then _ _ _ _ _ _ _ _ c.put_card-named.ensures.0 c.put-good.ensures (omega arith)) c.put_decimal-full.ensures.0 (omega arith)) c.put-bytes.ensures (omega arith)) c.put_decimal-counted.ensures.0 (omega arith)) c.put_units-last.ensures.0 (omega arith)) c.put.ensures (omega arith), omega arith)
