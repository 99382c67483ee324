use Prim.Native.Nat.{◌≤◌}
use native.Mathlib.Omega.{arith}
use mathlib.Core.Path.{refl, sym, ap, subst, ◌∙◌}
use lib.Dec.{eqb}
use lib.ListN.{length}
use borrow.Author.Tests.{eqb-true}
use Rattle.state.specs.Bytes.{shelf_in}
use Rattle.answer.specs.declared.Outcome.{Outcome}
use Rattle.answer.specs.Done.{outcome_of}
use Rattle.answer.specs.Answers.{refused, refused_with, spread, outcome_by}
use Rattle.soundness.specs.Admission.{unit_at}
use Rattle.soundness.proofs.Laws.{decided_at, decided_refused}
use Rattle.soundness.proofs.InPlace.{in_place, came_in, kept_out}
use Rattle.arriving.specs.Arriving.{way_of, done_at, store_at}
use Rattle.arriving.proofs.InPlace.{out_fits}
use Rattle.arriving.proofs.arrive.Goals as goal

pub arrive_at-requires : goal.arrive_at-requires
arrive_at-requires c =
    let a = c.args in
    let b = a.s.now in
    let e = sym c.admit.ensures ∙ c.in-Ok.is in
    let w = in_place a.card b (length a.store.now) a.rows a.unit (eqb (length a.cell.now) 53) _ e in
    (eqb-true (length a.cell.now) 53 w.let_in.fits, w.housed)

pub returns-in-Ok : goal.returns-in-Ok
returns-in-Ok c =
    let a = c.args in
    let b = a.s.now in
    let store = length a.store.now in
    let right = eqb (length a.cell.now) 53 in
    let i = c.in-Ok.place in
    let e = sym c.admit.ensures ∙ c.in-Ok.is in
    let w = in_place a.card b store a.rows a.unit right i e in record {
      result_value = (
        c.arrive_at.ensures.result_value ∙ came_in outcome_of (λ place. done_at a.card (shelf_in b) place a.memory.now a.cell.now) (refused (shelf_in b)) (refused_with 8) a.card b store a.rows a.unit right i e,
        (
          c.arrive_at.ensures.kept.0 ∙ decided_at _ _ _ _ e,
          c.arrive_at.ensures.kept.1 ∙ came_in (λ x. x) (λ place. store_at a.card (shelf_in b) place a.memory.now a.store.now a.cell.now) (λ number. a.store.now) a.store.now a.card b store a.rows a.unit right i e,
        ),
      );
      fits = subst (λ (x : Outcome). (x.rises.to ≤ 32) × (x.rises.to ≤ a.rows)) (sym c.arrive_at.ensures.result_value) (out_fits (way_of a.card (unit_at (shelf_in b) i) a.memory.now a.cell.now) b i a.rows w.below w.row);
    }

pub returns-in-Err : goal.returns-in-Err
unfolding spread
returns-in-Err c =
    let a = c.args in
    let b = a.s.now in
    let store = length a.store.now in
    let right = eqb (length a.cell.now) 53 in
    let n = c.in-Err.number in
    let e = sym c.admit.ensures ∙ c.in-Err.is in record {
      result_value = (
        ap outcome_by c.uncounted.ensures ∙ kept_out outcome_of (λ place. done_at a.card (shelf_in b) place a.memory.now a.cell.now) (refused (shelf_in b)) (refused_with 8) a.card b store a.rows a.unit right n e refl,
        (
          decided_refused _ _ _ _ e,
          kept_out (λ x. x) (λ place. store_at a.card (shelf_in b) place a.memory.now a.store.now a.cell.now) (λ number. a.store.now) a.store.now a.card b store a.rows a.unit right n e refl,
        ),
      );
      fits = subst (λ (x : Outcome). (x.rises.to ≤ 32) × (x.rises.to ≤ a.rows)) (sym (ap outcome_by c.uncounted.ensures)) (omega arith, omega arith);
    }
