use Rattle.text.proofs.Splices.{then}
use native.Mathlib.Omega.{arith}
use Rattle.report.proofs.put_wide.Goals as goal

pub returns : goal.returns
returns c = (then _ _ _ _ _ _ _ _ (then _ _ _ _ _ _ _ _ (then _ _ _ _ _ _ _ _ c.put_head-headed.ensures.0 c.put_line-lined.ensures.0 (omega arith)) c.put_ask-asked.ensures.0 (omega arith)) c.put.ensures (omega arith), omega arith)
