use mathlib.Core.Path.{◌≡◌}
use Prim.Native.Nat.{◌+◌, ◌-◌, ◌≤◌}
use lib.ListN.{length, drop}
use Rattle.text.specs.Text.{split}
use Rattle.toowide.specs.Listing.{next_wide, next_in}
use Rattle.toowide.proofs.next_wide.Given as goal

abbrev pub invariant-loop-start : goal.invariant-loop-start
invariant-loop-start l = (l.from + l.before ≤ l.start) × (next_wide l.text l.from ≡ next_in l.before l.start (split 10 (drop l.start l.text)))

abbrev pub decreases-loop-start : goal.decreases-loop-start
decreases-loop-start l = length l.text + 1 - l.start
