use Prim.Native.Nat.{◌<◌}
use mathlib.Core.Path.{◌≡◌}
use lib.ListN.{get_or, drop}
use Rattle.arbiter.specs.Arbitration.{cyclic, first}
use Rattle.arbiter.proofs.first_after.Given as goal

abbrev pub invariant-loop-passed : goal.invariant-loop-passed
invariant-loop-passed l = (l._passed < 32 → l.unit ≡ get_or (cyclic l.last) l._passed 0) × (first l.asks l.priority (cyclic l.last) ≡ first l.asks l.priority (drop l._passed (cyclic l.last)))
