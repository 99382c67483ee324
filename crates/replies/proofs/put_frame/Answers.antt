use Rattle.text.proofs.Splices.{then}
use native.Mathlib.Omega.{arith}
use Rattle.replies.proofs.put_frame.Goals as goal

pub returns : goal.returns
returns c = (then _ _ _ _ _ _ _ _ (then _ _ _ _ _ _ _ _ (then _ _ _ _ _ _ _ _ c.say-numbered.ensures.0 c.put_who-sent.ensures.0 (omega arith)) c.put_who-all.ensures.0 (omega arith)) c.put_number.ensures.0 (omega arith), omega arith)
