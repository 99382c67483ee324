use Prim.Native.Nat.{◌<◌, ◌%◌}
use native.Mathlib.Nat.{one-mul, mod-eq_of_lt}
use lib.Pow.{pow-lt}
use Rattle.state.specs.Placing.{sessions_set}
use native.Mathlib.Omega.{arith}
use Rattle.state.proofs.join.Goals as goal

pub returns : goal.returns
unfolding sessions_set
returns c =
    let h : c.args.session % 8 < 8 = omega arith in
    rw (one-mul, mod-eq_of_lt (pow-lt h))
