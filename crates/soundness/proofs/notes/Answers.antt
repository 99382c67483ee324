use Rattle.std.proofs.Common.{arith}
use Rattle.soundness.specs.Numbered.{note_at}
use Rattle.soundness.proofs.Sounding.{one_more}
use Rattle.soundness.proofs.notes.Goals as goal

pub loop-i-preserved : goal.loop-i-preserved
loop-i-preserved c =
    let a = c.args in
    let l = c.loop-i in
    one_more (note_at a.granted a.count a.s.now) l.noted-items l.i _ (omega arith) l.invariant c.note.ensures
