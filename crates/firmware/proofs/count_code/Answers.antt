-- `firmware::count_code` meets its contract. Assumes nothing.
use Rattle.std.proofs.Common.{length, sym, ◌∙◌, arith}
use Rattle.soundness.proofs.InPlace.{row_there}
use Rattle.firmware.proofs.count_code.Goals as goal

pub overflow_cast-at : goal.overflow_cast-at
overflow_cast-at c =
    let a = c.args in
    let there = row_there a.card a.state.now (length a.store.now) a.rows a.unit c.in-Ok.at (sym c.counted.ensures ∙ c.in-Ok.is) in
    omega arith
