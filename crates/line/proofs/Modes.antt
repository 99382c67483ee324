-- What the limits of a `unit` line are at most, in either mode. Assumes nothing.
use Prim.Native.Nat.{ℕ, ◌≤◌}
use native.Mathlib.Nat.{le_refl}
use native.Mathlib.Omega.{arith}
use Rattle.outlet.specs.declared.Mode.{Mode}
use Rattle.outlet.specs.declared.Mode.TheVariants.{One, Four}
use Rattle.line.specs.Units.{most_length, most_limit, most_vbr}

pub length_most : (mode : Mode) → most_length mode ≤ 88
length_most One = omega arith
length_most Four = le_refl 88

pub limit_most : (mode : Mode) (cbrlength : ℕ) → most_limit mode cbrlength ≤ cbrlength
limit_most One cbrlength = omega arith
limit_most Four cbrlength = le_refl cbrlength

pub vbr_most : (mode : Mode) (cbrlength : ℕ) → most_vbr mode cbrlength ≤ 123
vbr_most One cbrlength = le_refl 123
vbr_most Four cbrlength = omega arith
