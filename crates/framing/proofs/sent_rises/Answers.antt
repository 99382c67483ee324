use Rattle.framing.specs.Sending.{sent_rises}
use Rattle.framing.proofs.sent_rises.Goals as goal

pub returns-then-addressed : goal.returns-then-addressed
unfolding sent_rises
returns-then-addressed c = rw c.if-addressed.true

pub returns-else-addressed : goal.returns-else-addressed
unfolding sent_rises
returns-else-addressed c = rw c.if-addressed.false
