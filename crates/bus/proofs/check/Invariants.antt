use mathlib.Core.Path.{◌≡◌}
use Prim.Native.Nat.{◌-◌, ◌*◌, ◌/◌, ◌^◌}
use Rattle.remainder.specs.Division.{residue}
use Rattle.bus.specs.Routing.{divisor}
use Rattle.bus.proofs.check.Given as goal

abbrev pub invariant-loop-turn : goal.invariant-loop-turn
invariant-loop-turn l = let left = 12 - 3 * l.turn in l.rest ≡ residue divisor (12 - left) (l.upper / 2 ^ left)
