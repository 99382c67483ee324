use Prim.Native.Nat.{◌+◌, ◌≤◌}
use mathlib.Core.Path.{◌≡◌}
use lib.ListN.{length, take}
use Rattle.octets.specs.Octets.{cat}
use Rattle.text.specs.Writing.{Wrote}
use Rattle.report.specs.Messages.{one_shown}
use Rattle.report.proofs.put_shown.Given as goal

abbrev pub invariant-loop-b : goal.invariant-loop-b
invariant-loop-b l = (l.next ≤ l.at + l.b-index) × (length l.out ≡ length l.initial.out) × Wrote l.initial.out l.at (cat one_shown (take l.b-index (take 80 l.line))) l.next l.out
