use mathlib.Core.Path.{◌∙◌}
use native.Mathlib.Omega.{arith}
use Rattle.lookup.proofs.vpi_in.Goals as goal

pub overflow_cast-result : goal.overflow_cast-result
overflow_cast-result c = omega (arith, c.type_inv.b 3)

pub returns-in-Narrow : goal.returns-in-Narrow
returns-in-Narrow c = rw c.in-Narrow.is

pub returns-in-Wide : goal.returns-in-Wide
returns-in-Wide c = c.two.ensures ∙ rw c.in-Wide.is
