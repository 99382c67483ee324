use native.Mathlib.Omega.{arith}
use Rattle.text.proofs.Splices.{then}
use Rattle.replies.proofs.put_field.Goals as goal

pub returns : goal.returns
returns c = then _ _ _ _ _ _ _ _ c.put-next.ensures c.put.ensures (omega arith)
