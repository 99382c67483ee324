use mathlib.Core.Path.{◌≡◌}
use Prim.Native.Nat.{◌+◌}
use lib.ListN.{drop}
use Rattle.state.specs.Placing.{puts}
use Rattle.state.proofs.put_columns.Given as goal

abbrev pub invariant-loop-k : goal.invariant-loop-k
invariant-loop-k l = puts l.initial.s l.i l.first l.values ≡ puts l.s l.i (l.first + l.k) (drop l.k l.values)
