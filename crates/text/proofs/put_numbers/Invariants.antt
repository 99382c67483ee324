use mathlib.Core.Path.{◌≡◌}
use Prim.Native.Nat.{◌+◌, ◌*◌, ◌≤◌}
use lib.ListN.{length, take}
use Rattle.text.specs.Writing.{Wrote}
use Rattle.text.specs.Decimals.{number_fields}
use Rattle.text.proofs.put_numbers.Given as goal

abbrev pub invariant-loop-n : goal.invariant-loop-n
invariant-loop-n l = (l.next ≤ l.at + 21 * l.n-index) × (length l.out ≡ length l.initial.out) × Wrote l.initial.out l.at (number_fields (take l.n-index l.numbers)) l.next l.out
