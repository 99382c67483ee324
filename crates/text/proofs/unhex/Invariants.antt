use mathlib.Core.Path.{◌≡◌}
use lib.ListN.{length}
use lib.Seq.{paste}
use Rattle.text.specs.Hex.{unhex as unhexed}
use Rattle.text.proofs.unhex.Given as goal

abbrev pub invariant-loop-i : goal.invariant-loop-i
invariant-loop-i l = (l.out ≡ paste l.initial.out l.at (unhexed l.s) l.i) × (length l.out ≡ length l.initial.out)
