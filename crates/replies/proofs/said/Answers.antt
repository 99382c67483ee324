use Rattle.text.proofs.Splices.{then}
use Rattle.replies.specs.ConsoleLines.{said_text}
use native.Mathlib.Omega.{arith}
use Rattle.replies.proofs.said.Goals as goal

pub returns-in-Unloaded : goal.returns-in-Unloaded
unfolding said_text
returns-in-Unloaded c = (rw c.in-Unloaded.is (then _ _ _ _ _ _ _ _ c.say-next.ensures.0 c.put_number.ensures.0 (omega arith)), omega arith)

pub returns-in-Refused : goal.returns-in-Refused
unfolding said_text
returns-in-Refused c = (rw c.in-Refused.is (then _ _ _ _ _ _ _ _ c.put-next.ensures c.say-in-Refused.ensures.0 (omega arith)), omega arith)

pub returns-in-Arrived : goal.returns-in-Arrived
unfolding said_text
returns-in-Arrived c = (rw c.in-Arrived.is (then _ _ _ _ _ _ _ _ c.say-next-in-Arrived.ensures.0 c.put_arrival.ensures.0 (omega arith)), omega arith)

pub returns-in-Heard : goal.returns-in-Heard
unfolding said_text
returns-in-Heard c = (rw c.in-Heard.is (then _ _ _ _ _ _ _ _ c.say-next-in-Heard.ensures.0 c.put_hearing.ensures.0 (omega arith)), omega arith)

pub returns-in-Taken : goal.returns-in-Taken
unfolding said_text
returns-in-Taken c = (rw c.in-Taken.is (then _ _ _ _ _ _ _ _ c.say-next-in-Taken.ensures.0 c.put.ensures (omega arith)), omega arith)

pub returns-in-Empty : goal.returns-in-Empty
unfolding said_text
returns-in-Empty c = (rw c.in-Empty.is (then _ _ _ _ _ _ _ _ c.say-next-in-Empty.ensures.0 c.put-in-Empty.ensures (omega arith)), omega arith)

pub returns-in-Handed : goal.returns-in-Handed
unfolding said_text
returns-in-Handed c = (rw c.in-Handed.is (then _ _ _ _ _ _ _ _ c.say-next-in-Handed.ensures.0 c.put-in-Handed.ensures (omega arith)), omega arith)
