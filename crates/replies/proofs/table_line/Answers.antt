use native.Mathlib.Omega.{arith}
use Rattle.std.specs.Prelude.{codes}
use Rattle.replies.proofs.Joins.{three, fits, no_line}
use Rattle.replies.proofs.table_line.Goals as goal

pub returns-then-out-lt-ROOM : goal.returns-then-out-lt-ROOM
returns-then-out-lt-ROOM c = no_line _ _ c.if-out-lt-ROOM.true

pub returns : goal.returns
returns c =
    rw (fits _ _ c.if-out-lt-ROOM.false)
    (three c.args.out.now c.put-word.new.out c.put_answer-next.new.out _ (codes "table") _ _ _ _ _ c.put-word.ensures c.put_answer-next.ensures.0 c.put.ensures (omega arith) (omega arith))
