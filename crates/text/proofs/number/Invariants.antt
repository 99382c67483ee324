use mathlib.Core.Path.{◌≡◌}
use mathlib.Core.Bool.{true}
use Prim.Native.Nat.{◌≤◌}
use lib.ListN.{drop}
use Rattle.text.specs.Digits.{digits, decimal_of, value}
use Rattle.text.proofs.number.Given as goal

abbrev pub invariant-loop-byte : goal.invariant-loop-byte
invariant-loop-byte l = (l.v ≤ l.most) × (digits (drop l.byte-index l.s) ≡ true) × (decimal_of l.s ≡ true) × (value 0 l.s ≡ value l.v (drop l.byte-index l.s))
