use Prim.Native.Nat.{◌≤◌}
use native.Mathlib.Omega.{arith}
use mathlib.Core.Path.{sym, ap, subst, ◌∙◌}
use lib.Dec.{eqb}
use lib.ListN.{length}
use borrow.Author.Tests.{eqb-true}
use Rattle.answer.specs.declared.Outcome.{Outcome}
use Rattle.answer.specs.Answers.{spread, outcome_by}
use Rattle.soundness.proofs.Laws.{decided_at, decided_refused}
use Rattle.soundness.proofs.InPlace.{LetInPlace, in_place}
use Rattle.hearing.proofs.InPlace.{out_at, store_at_lem, out_refused, store_refused}
use Rattle.hearing.proofs.hear.Goals as goal
use Rattle.hearing.proofs.hear.Goals.{In-Ok}

let_in : (c : In-Ok) → let a = c.args in LetInPlace a.card a.s.now (length a.store.now) a.rows a.unit (eqb (length a.frame.now) 57) c.in-Ok.place
let_in c = let a = c.args in in_place a.card a.s.now (length a.store.now) a.rows a.unit (eqb (length a.frame.now) 57) _ (sym c.admit.ensures ∙ c.in-Ok.is)

pub hear_at-requires : goal.hear_at-requires
hear_at-requires c =
    let a = c.args in
    let l = let_in (goal.at.hear_at-requires c).In-Ok in
    (eqb-true (length a.frame.now) 57 l.let_in.fits, l.housed)

pub returns-in-Ok : goal.returns-in-Ok
returns-in-Ok c =
    let a = c.args in
    let e = sym c.admit.ensures ∙ c.in-Ok.is in
    let l = let_in (goal.at.returns-in-Ok c).In-Ok in
    let h = c.hear_at.ensures in record {
      result_value = (
        h.result_value ∙ out_at a.card a.s.now a.rows a.unit a.frame.now (length a.store.now) _ e,
        (h.kept.0 ∙ decided_at _ _ _ _ e, h.kept.1 ∙ store_at_lem a.card a.s.now a.rows a.unit a.frame.now a.store.now _ e),
      );
      fits = subst (λ (x : Outcome). (x.rises.to ≤ 32) × (x.rises.to ≤ a.rows)) (sym h.result_value) (let b = l.below in omega arith, let r = l.row in omega arith);
    }

pub returns-in-Err : goal.returns-in-Err
unfolding spread
returns-in-Err c =
    let a = c.args in
    let e = sym c.admit.ensures ∙ c.in-Err.is in record {
      result_value = (
        ap outcome_by c.uncounted.ensures ∙ out_refused a.card a.s.now a.rows a.unit a.frame.now (length a.store.now) _ e,
        (decided_refused _ _ _ _ e, store_refused a.card a.s.now a.rows a.unit a.frame.now a.store.now _ e),
      );
      fits = subst (λ (x : Outcome). (x.rises.to ≤ 32) × (x.rises.to ≤ a.rows)) (sym (ap outcome_by c.uncounted.ensures)) (omega arith, omega arith);
    }
