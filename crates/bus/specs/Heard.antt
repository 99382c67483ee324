-- What a heard frame is: no frame, damaged, a data cell with its target, class and header, or a control or a loopback cell for a unit. A data cell's payload is the frame's
-- bytes 8 to 55. No code holds one: it goes by the routing header. Assumes nothing.
use Rattle.std.specs.Prelude.{ℕ}
use Rattle.bus.specs.declared.Target.{Target}

pub data Heard : Type 0 where
  Length : Heard
  Damaged : Heard
  Cell : Target → ℕ → ℕ → Heard
  Control : ℕ → Heard
  Loopback : ℕ → Heard
