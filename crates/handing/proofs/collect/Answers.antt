use Prim.Native.Nat.{◌≤◌}
use native.Mathlib.Omega.{arith}
use mathlib.Core.Path.{refl, sym, ap, subst, ◌∙◌}
use lib.Dec.{eqb}
use lib.ListN.{length}
use borrow.Author.Tests.{eqb-true}
use Rattle.state.specs.Bytes.{shelf_in}
use Rattle.answer.specs.declared.Outcome.{Outcome}
use Rattle.answer.specs.Done.{outcome_of}
use Rattle.answer.specs.Answers.{refused, refused_with, spread, outcome_by}
use Rattle.soundness.proofs.Laws.{decided_at, decided_refused}
use Rattle.soundness.proofs.InPlace.{in_place, came_in, kept_out}
use Rattle.handing.specs.Collects.{collect_at, collect_buffer_at}
use Rattle.handing.proofs.InPlace.{collect_fits}
use Rattle.handing.proofs.collect.Goals as goal

pub collect_at-requires : goal.collect_at-requires
collect_at-requires c =
    let a = c.args in
    let b = a.s.now in
    let e = sym c.admit.ensures ∙ c.in-Ok.is in
    let w = in_place a.card b (length a.store.now) a.rows a.unit (eqb (length a.buffer.now) 56) _ e in
    (eqb-true (length a.buffer.now) 56 w.let_in.fits, w.housed)

pub returns-in-Ok : goal.returns-in-Ok
returns-in-Ok c =
    let a = c.args in
    let b = a.s.now in
    let store = length a.store.now in
    let right = eqb (length a.buffer.now) 56 in
    let i = c.in-Ok.place in
    let e = sym c.admit.ensures ∙ c.in-Ok.is in
    let w = in_place a.card b store a.rows a.unit right i e in
    let done = c.collect_at.ensures in record {
      result_value = (
        done.result_value ∙ came_in outcome_of (collect_at (shelf_in b)) (refused (shelf_in b)) (refused_with 8) a.card b store a.rows a.unit right i e,
        (
          done.kept.0 ∙ decided_at _ _ _ _ e,
          done.kept.1 ∙ came_in (λ x. x) (λ place. collect_buffer_at (shelf_in b) place a.store.now a.buffer.now) (λ number. a.buffer.now) a.buffer.now a.card b store a.rows a.unit right i e,
        ),
      );
      fits = subst (λ (x : Outcome). (x.rises.to ≤ 32) × (x.rises.to ≤ a.rows)) (sym done.result_value) (collect_fits (shelf_in b) i a.rows w.below w.row);
    }

pub returns-in-Err : goal.returns-in-Err
unfolding spread
returns-in-Err c =
    let a = c.args in
    let b = a.s.now in
    let store = length a.store.now in
    let right = eqb (length a.buffer.now) 56 in
    let n = c.in-Err.number in
    let e = sym c.admit.ensures ∙ c.in-Err.is in record {
      result_value = (
        ap outcome_by c.uncounted.ensures ∙ kept_out outcome_of (collect_at (shelf_in b)) (refused (shelf_in b)) (refused_with 8) a.card b store a.rows a.unit right n e refl,
        (
          decided_refused _ _ _ _ e,
          kept_out (λ x. x) (λ place. collect_buffer_at (shelf_in b) place a.store.now a.buffer.now) (λ number. a.buffer.now) a.buffer.now a.card b store a.rows a.unit right n e refl,
        ),
      );
      fits = subst (λ (x : Outcome). (x.rises.to ≤ 32) × (x.rises.to ≤ a.rows)) (sym (ap outcome_by c.uncounted.ensures)) (omega arith, omega arith);
    }
