use mathlib.Core.Path.{◌≡◌}
use mathlib.Core.List.{◌++◌}
use Prim.Native.Nat.{◌<◌, ◌≤◌, ◌^◌}
use lib.ListN.{length, drop}
use Rattle.text.specs.Decimals.{digits_to}
use Rattle.text.proofs.put_decimal.Given as goal

abbrev pub invariant-loop-left : goal.invariant-loop-left
invariant-loop-left l = (0 < l.k) × (l.k ≤ 20) × (l.left < 10 ^ l.k) × (length l.digits ≡ 20) × (digits_to 20 l.n ≡ digits_to l.k l.left ++ drop l.k l.digits)

abbrev pub decreases-loop-left : goal.decreases-loop-left
decreases-loop-left l = l.k
