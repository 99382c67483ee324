use Rattle.octets.specs.Octets.{cat}
use Rattle.text.proofs.Splices.{then}
use native.Mathlib.Omega.{arith}
use Rattle.replies.proofs.put_counters.Goals as goal

pub returns : goal.returns
unfolding cat
returns c = (then _ _ _ _ _ _ _ _ c.put_number-next.ensures.0 (rw c.listed.ensures at c.put_numbers.ensures.0) (omega arith), omega arith)
