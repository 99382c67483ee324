use Rattle.store.specs.Places.{part_of, slot_at}
use native.Mathlib.Omega.{arith}
use Rattle.store.proofs.slot_at.Goals as goal

pub overflow_add-result : goal.overflow_add-result
unfolding part_of
overflow_add-result c = omega (arith, c.part_of.ensures)

pub returns : goal.returns
unfolding slot_at
returns c = rw c.part_of.ensures
