use Rattle.text.proofs.Splices.{then}
use native.Mathlib.Omega.{arith}
use Rattle.named.proofs.put_cells.Goals as goal

pub returns : goal.returns
returns c = (then _ _ _ _ _ _ _ _ (then _ _ _ _ _ _ _ _ c.put_rings-rings.ensures.0 c.put_ins-ins.ensures.0 (omega arith)) c.put_outs.ensures.0 (omega arith), omega arith)
