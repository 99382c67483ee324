use mathlib.Core.Path.{◌≡◌}
use Prim.Native.Nat.{◌-◌, ◌*◌, ◌/◌, ◌^◌}
use Rattle.remainder.specs.Division.{residue}
use Rattle.header.specs.Check.{divisor}
use Rattle.header.proofs.check.Given as goal

abbrev pub invariant-loop-turn : goal.invariant-loop-turn
invariant-loop-turn l = let left = 36 - 6 * l.turn in l.rest ≡ residue divisor (36 - left) (l.word / 2 ^ left)
