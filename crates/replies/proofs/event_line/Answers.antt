use native.Mathlib.Omega.{arith}
use Rattle.replies.specs.Lines.{word_of}
use Rattle.replies.proofs.Joins.{three, fits, no_line}
use Rattle.replies.proofs.event_line.Goals as goal

pub returns-then-out-lt-ROOM : goal.returns-then-out-lt-ROOM
returns-then-out-lt-ROOM c = no_line _ _ c.if-out-lt-ROOM.true

pub returns : goal.returns
returns c =
    rw (fits _ _ c.if-out-lt-ROOM.false, ← c.unit_of.ensures)
    (three c.args.out.now c.put_word-word.new.out c.put_outcome-next.new.out _ (word_of c.args.event) _ _ _ _ _ c.put_word-word.ensures.0 c.put_outcome-next.ensures.0 c.put.ensures (omega arith) (omega arith))
