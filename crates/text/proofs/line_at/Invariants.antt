use mathlib.Core.Path.{◌≡◌}
use Prim.Native.Nat.{◌+◌, ◌≤◌}
use lib.ListN.{length}
use Rattle.text.specs.Text.{split, line_from}
use Rattle.text.proofs.line_at.Given as goal

abbrev pub invariant-loop-n : goal.invariant-loop-n
invariant-loop-n l =
    (l.fields ≤ l.n + 1) × (length (line_from l.s l.from) ≡ l.n + length (line_from l.s (l.from + l.n)))
    × (l.fields + length (split 9 (line_from l.s (l.from + l.n))) ≡ 1 + length (split 9 (line_from l.s l.from)))
