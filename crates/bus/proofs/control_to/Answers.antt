use Prim.Native.Nat.{◌+◌}
use Rattle.remainder.proofs.Laws.{residue_lt}
use Rattle.bus.specs.Routing.{divisor, check, controlling}
use native.Mathlib.Omega.{arith}
use Rattle.bus.proofs.control_to.Goals as goal

pub overflow_add-result : goal.overflow_add-result
unfolding check
overflow_add-result c = omega (arith, c.check.ensures, residue_lt divisor 12 (3072 + c.args.unit))

pub returns : goal.returns
unfolding controlling
returns c = rw c.check.ensures
