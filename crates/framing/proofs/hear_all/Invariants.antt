use Rattle.std.proofs.Common.{◌≡◌, ℕ, ◌-◌, ◌<◌, ◌≤◌, length}
use Rattle.bus.specs.Frame.{heard_as}
use Rattle.state.specs.Bytes.{unit_in}
use Rattle.soundness.specs.Admission.{Housed}
use Rattle.framing.specs.Scenes.{turns, heeded_by}
use Rattle.framing.proofs.Turns.{scene}
use Rattle.framing.proofs.hear_all.Given as goal

abbrev pub invariant-loop-i : goal.invariant-loop-i
invariant-loop-i l = (l.i ≤ l.end)
    × (l.end ≤ 32)
    × (l.copies ≤ l.i)
    × (length l.s ≡ 2048)
    × (length l.store ≡ length l.initial.store)
    × ((j : ℕ) → l.i ≤ j → j < l.end → Housed j (unit_in l.s j) (length l.initial.store))
    × (heeded_by (heard_as l.address l.cell) l.cell l.initial.s l.initial.store l.initial.each ≡ turns (heard_as l.address l.cell) l.cell l.i (l.end - l.i) (scene l.s l.store l.each l.copies l.addressed))
