-- `entry::count` meets its contract. Assumes nothing.
use Rattle.std.proofs.Common.{length, sym, ap, ◌∙◌, arith}
use Rattle.std.proofs.lemmas.Result.{err_from_is_err_and}
use Rattle.soundness.proofs.InPlace.{row_there}
use Rattle.entry.specs.Counts.{count_of}
use Rattle.entry.proofs.count.Goals as goal

pub returns-in_err-at : goal.returns-in_err-at
unfolding count_of
returns-in_err-at c =
    let p = err_from_is_err_and c.from_residual.result c.from_residual.ensures.1 in
    rw (p.1, p.2, sym c.counted.ensures ∙ c.in_err-at.was)

pub offset_bounds-rows-at : goal.offset_bounds-rows-at
offset_bounds-rows-at c =
    let a = c.args in
    let there = row_there a.card a.state.now (length a.store.now) (length a.rows.now) a.unit _ (sym c.counted.ensures ∙ c.in_ok-at.was) in
    omega arith

pub bounds-rows-at : goal.bounds-rows-at
bounds-rows-at c =
    let a = c.args in
    (row_there a.card a.state.now (length a.store.now) (length a.rows.now) a.unit _ (sym c.counted.ensures ∙ c.in_ok-at.was)).1

pub returns : goal.returns
unfolding count_of
returns c = rw (sym c.counted.ensures ∙ c.in_ok-at.was)
