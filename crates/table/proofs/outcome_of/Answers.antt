use mathlib.Core.Bool.{true}
use lib.ListN.{replicate}
use Rattle.table.proofs.outcome_of.Goals as goal

pub returns : goal.returns
returns c = λ i. record { answer = c.answer_of.ensures i; rises = record { from = 0; to = c.declared_count.ensures i; anew = true; each = replicate 32 0 } }
