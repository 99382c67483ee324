use Rattle.replies.proofs.Joins.{fits, no_line}
use Rattle.replies.proofs.bad_line.Goals as goal

pub returns-then-out-lt-ROOM : goal.returns-then-out-lt-ROOM
returns-then-out-lt-ROOM c = no_line _ _ c.if-out-lt-ROOM.true

pub returns : goal.returns
returns c = rw (fits _ _ c.if-out-lt-ROOM.false) c.put.ensures
