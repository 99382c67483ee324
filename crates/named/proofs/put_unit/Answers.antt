use Rattle.text.proofs.Splices.{then}
use Rattle.named.specs.Named.{place_text}
use native.Mathlib.Omega.{arith}
use Rattle.named.proofs.put_unit.Goals as goal

pub returns : goal.returns
unfolding place_text
returns c = (then _ _ _ _ _ _ _ _ (then _ _ _ _ _ _ _ _ c.put_front-front.ensures.0 c.put_cells-cells.ensures.0 (omega arith)) (rw c.sessions_at.ensures at c.put_sessions.ensures.0) (omega arith), omega arith)
