use native.Mathlib.Omega.{arith}
use Rattle.text.proofs.Splices.{then}
use Rattle.text.proofs.put_number.Goals as goal

pub returns : goal.returns
returns c =
    let p = c in
    let e = c.put_decimal.ensures in
    (then _ _ _ _ _ _ _ _ p.put-next.ensures e.0 (omega arith), omega arith)
