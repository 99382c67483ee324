use Rattle.text.proofs.Splices.{then}
use Rattle.report.specs.Messages.{ask_words}
use native.Mathlib.Omega.{arith}
use Rattle.report.proofs.put_ask.Goals as goal

pub returns-in-Out : goal.returns-in-Out
unfolding ask_words
returns-in-Out c = rw c.in-Out.is (then _ _ _ _ _ _ _ _ (then _ _ _ _ _ _ _ _ c.put-path.ensures c.put_decimal-numbered.ensures.0 (omega arith)) c.put-in-Out.ensures (omega arith), omega arith)
