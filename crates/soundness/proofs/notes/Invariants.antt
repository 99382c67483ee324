use Rattle.std.proofs.Common.{◌≡◌, ℕ, ◌<◌, get_or}
use Rattle.soundness.specs.Numbered.{note_at}
use Rattle.soundness.proofs.notes.Given as goal

abbrev pub invariant-loop-i : goal.invariant-loop-i
invariant-loop-i l = (j : ℕ) → j < l.i → get_or l.noted-items j 0 ≡ note_at l.granted l.count l.s j
