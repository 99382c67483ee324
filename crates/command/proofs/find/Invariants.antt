use mathlib.Core.Path.{◌≡◌}
use Prim.Native.Nat.{◌≤◌, ◌-◌}
use lib.ListN.{length, drop}
use Rattle.text.specs.Text.{split}
use Rattle.command.specs.Fields.{place_from}
use Rattle.command.proofs.find.Given as goal

abbrev pub invariant-loop-from : goal.invariant-loop-from
invariant-loop-from l = (l.from ≤ length l.names) × (l.k ≤ l.from) × (place_from 0 (split 9 l.names) l.w ≡ place_from l.k (split 9 (drop l.from l.names)) l.w)

abbrev pub decreases-loop-from : goal.decreases-loop-from
decreases-loop-from l = length l.names - l.from
