use Rattle.std.proofs.Common.{◌≡◌, ℕ, ◌+◌, ◌-◌, ◌*◌, ◌/◌, ◌%◌, ◌^◌, ◌<◌}
use Rattle.soundness.specs.Numbered.{noted_by}
use Rattle.soundness.proofs.note_8.Given as goal

abbrev pub invariant-loop-k : goal.invariant-loop-k
invariant-loop-k l = (notes : ℕ → ℕ) → ((j : ℕ) → j < 8 → l.word / 2 ^ (8 * j) % 256 ≡ notes (l.from + j)) → l.held ≡ noted_by notes l.s l.initial.held (l.from + l.k) (8 - l.k)
