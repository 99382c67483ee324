use mathlib.Core.Path.{◌≡◌}
use Prim.Native.Nat.{◌+◌, ◌*◌, ◌≤◌}
use lib.ListN.{length, take}
use Rattle.octets.specs.Octets.{cat}
use Rattle.text.specs.Writing.{Wrote}
use Rattle.replies.specs.ConsoleLines.{row_fields}
use Rattle.replies.proofs.rows.Given as goal

abbrev pub invariant-loop-row : goal.invariant-loop-row
invariant-loop-row l = (l.next ≤ l.initial.next + 273 * l.row-index) × (length l.out ≡ length l.initial.out) × Wrote l.initial.out l.initial.next (cat row_fields (take l.row-index l.rows)) l.next l.out
