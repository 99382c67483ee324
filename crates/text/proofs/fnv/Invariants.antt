use mathlib.Core.Path.{◌≡◌}
use lib.ListN.{drop}
use Rattle.text.specs.Fnv.{sum_from, sum as sum_of}
use Rattle.text.proofs.fnv.Given as goal

abbrev pub invariant-loop-byte : goal.invariant-loop-byte
invariant-loop-byte l = sum_of l.bytes ≡ sum_from l.sum (drop l.byte-index l.bytes)
