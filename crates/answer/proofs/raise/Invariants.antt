-- The loop of `answer::raise`: before turn k the first k of the sets are done. Assumes nothing.
use Rattle.std.proofs.Common.{◌≡◌}
use Rattle.answer.specs.Counting.{raised_from}
use Rattle.answer.proofs.raise.Given as goal

abbrev pub invariant-loop-k : goal.invariant-loop-k
invariant-loop-k l = l.rows ≡ raised_from l.fn.rows l.at l.sets l.k
