use mathlib.Core.Path.{◌≡◌}
use mathlib.Core.Bool.{true}
use Prim.Native.Nat.{◌≤◌}
use lib.ListN.{drop}
use Rattle.text.specs.Digits.{digits, decimal_of, value}
use Rattle.line.proofs.number.Given as goal

abbrev pub invariant-loop-digit : goal.invariant-loop-digit
invariant-loop-digit l = (l.v ≤ l.hi) × (digits (drop l.digit-index l.s) ≡ true) × (decimal_of l.s ≡ true) × (value 0 l.s ≡ value l.v (drop l.digit-index l.s))
