use Rattle.text.proofs.Splices.{then}
use native.Mathlib.Omega.{arith}
use Rattle.named.proofs.put_settings.Goals as goal

pub returns : goal.returns
returns c = (then _ _ _ _ _ _ _ _ (then _ _ _ _ _ _ _ _ (then _ _ _ _ _ _ _ _ c.put_column-numbered.ensures.0 (rw c.at.ensures at c.put_link-linked.ensures.0) (omega arith)) (rw c.top_at.ensures at c.say-topped.ensures.0) (omega arith)) c.put_column.ensures.0 (omega arith), omega arith)
