use Rattle.remainder.proofs.Laws.{residue_lt}
use Rattle.bus.specs.Routing.{divisor, check, routing}
use native.Mathlib.Omega.{arith}
use Rattle.bus.proofs.write.Goals as goal

pub overflow_add-result : goal.overflow_add-result
unfolding check
overflow_add-result c = omega (arith, c.check.ensures, residue_lt divisor 12 c.upper-u.result)

pub returns : goal.returns
unfolding routing
returns c = rw (c.check.ensures, c.upper-u.ensures.value)
