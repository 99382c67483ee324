use mathlib.Core.Path.{◌≡◌}
use Prim.Native.Nat.{◌+◌, ◌≤◌}
use lib.ListN.{length, drop}
use Rattle.text.specs.Text.{split}
use Rattle.text.proofs.count.Given as goal

abbrev pub invariant-loop-b : goal.invariant-loop-b
invariant-loop-b l = (l.n ≤ l.b-index + 1) × (l.n + length (split 9 (drop l.b-index l.s)) ≡ 1 + length (split 9 l.s))
