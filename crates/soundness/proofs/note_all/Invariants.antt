use Rattle.std.proofs.Common.{◌≡◌, ◌-◌, ◌%◌, ◌≤◌}
use Rattle.soundness.specs.Numbered.{note_from, noted_by}
use Rattle.soundness.proofs.note_all.Given as goal

abbrev pub invariant-loop-from : goal.invariant-loop-from
invariant-loop-from l = (l.from ≤ l.initial.from) × (l.initial.from ≤ 32) × (l.from % 8 ≡ 0) × (l.held ≡ noted_by (note_from l.each) l.s l.initial.held l.from (l.initial.from - l.from))

abbrev pub decreases-loop-from : goal.decreases-loop-from
decreases-loop-from l = l.from
