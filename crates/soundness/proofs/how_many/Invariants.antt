use Rattle.std.proofs.Common.{◌≡◌, ◌+◌, ◌≤◌, drop}
use Rattle.soundness.specs.Numbered.{how_many}
use Rattle.soundness.proofs.how_many.Given as goal

abbrev pub invariant-loop-note : goal.invariant-loop-note
invariant-loop-note l = (l.n ≤ l.note-index) × (l.n + how_many (drop l.note-index l.held) ≡ how_many l.held)
