use Rattle.std.proofs.Common.{◌≡◌, ℕ, ◌+◌, Bool, true, false, cond, ltb, Option, Err, refl, sym, ◌∙◌}
use Rattle.std.proofs.lemmas.Result.{err_from_is_err_and}
use Rattle.lookup.specs.declared.Record as R
use Rattle.judge.specs.declared.Fault.{Fault}
use Rattle.judge.specs.declared.Fault.TheVariants.{Order, Twice}
use Rattle.judge.specs.Verdicts.{fine, room_for, taken}
use Rattle.judge.specs.Judge.{judge_drop, judge_page}
use Rattle.judge.proofs.judge_page.Goals as goal

-- a `page` line is judged as a `drop` line, and then by its room
dropped : (room used top vpi : ℕ) (got : Option R.Record) (n : ℕ) → judge_drop top vpi got ≡ fine → room_for room used (n + 1) ≡ judge_page room used top vpi got n
unfolding judge_drop judge_page
dropped room used top vpi got n e = pick (ltb top vpi) (taken got) e
  where
    pick : (a b : Bool) → cond a (Err (Order 3)) (cond b (Err (Twice 3)) fine) ≡ fine → room_for room used (n + 1) ≡ cond a (Err (Order 3)) (cond b (Err (Twice 3)) (room_for room used (n + 1)))
    pick true b e = cc
    pick false true e = cc
    pick false false e = refl

undropped : (room used top vpi : ℕ) (got : Option R.Record) (n : ℕ) (fault : Fault) → judge_drop top vpi got ≡ Err fault → Err fault ≡ judge_page room used top vpi got n
unfolding judge_drop judge_page
undropped room used top vpi got n fault e = pick (ltb top vpi) (taken got) e
  where
    pick : (a b : Bool) → cond a (Err (Order 3)) (cond b (Err (Twice 3)) fine) ≡ Err fault → Err fault ≡ cond a (Err (Order 3)) (cond b (Err (Twice 3)) (room_for room used (n + 1)))
    pick true b e = cc
    pick false true e = cc
    pick false false e = cc

pub returns-in_err-judge_drop : goal.returns-in_err-judge_drop
returns-in_err-judge_drop c =
    let p = err_from_is_err_and c.from_residual.result c.from_residual.ensures.1 in
    rw (p.1, p.2) (undropped _ _ _ _ _ _ _ (sym c.judge_drop.ensures ∙ c.in_err-judge_drop.was))

pub returns : goal.returns
returns c = c.room_for.ensures ∙ dropped _ _ _ _ _ _ (sym c.judge_drop.ensures ∙ c.in_ok-judge_drop.was)
