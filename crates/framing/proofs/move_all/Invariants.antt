use Rattle.std.proofs.Common.{◌≡◌, ℕ, List, ◌-◌, ◌≤◌, length}
use Rattle.framing.specs.Moves.{Moved, move_from, moved_in}
use Rattle.framing.proofs.move_all.Given as goal

abbrev pub among : List ℕ → List ℕ → List ℕ → Moved
among s store each = record { bytes = s; store = store; each = each }

abbrev pub invariant-loop-i : goal.invariant-loop-i
invariant-loop-i l = (l.i ≤ l.end)
    × (l.end ≤ 32)
    × (length l.store ≡ length l.initial.store)
    × (moved_in l.initial.s l.initial.store ≡ move_from l.i (l.end - l.i) (among l.s l.store l.each))
