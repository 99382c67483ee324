-- The loop of `answer::settle`: before turn i the rows before place i are done. Assumes nothing.
use Rattle.std.proofs.Common.{◌≡◌, ◌≤◌, ◌⊎◌}
use Rattle.answer.specs.Counting.{settled_to}
use Rattle.answer.proofs.settle.Given as goal

abbrev pub invariant-loop-i : goal.invariant-loop-i
invariant-loop-i l = (l.rows ≡ settled_to l.fn.rows l.rises l.i) × ((l.i ≤ l.rises.to) ⊎ (l.i ≤ l.rises.from))
