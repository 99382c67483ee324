use Rattle.state.specs.Bytes.{col, ring_by}
use Rattle.soundness.proofs.Judged.{ring_flat}
use Rattle.soundness.proofs.ring_over.Goals as goal

pub returns : goal.returns
returns c =
    let a = c.args in
    cc (ring_flat (ring_by (col a.s.now a.i) a.h a.c) a.capacity)
