use Rattle.text.proofs.Splices.{then}
use native.Mathlib.Omega.{arith}
use Rattle.named.proofs.put_inlet.Goals as goal

pub returns : goal.returns
returns c = (then _ _ _ _ _ _ _ _ (then _ _ _ _ _ _ _ _ (rw c.place_at.ensures at c.say-placed.ensures.0) c.put_column-headed.ensures.0 (omega arith)) c.put_column.ensures.0 (omega arith), omega arith)
