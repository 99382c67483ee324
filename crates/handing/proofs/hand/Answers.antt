use mathlib.Core.Path.{refl, sym, ap, ◌∙◌}
use lib.Dec.{eqb}
use lib.ListN.{length}
use borrow.Author.Tests.{eqb-true}
use Rattle.state.specs.Bytes.{shelf_in}
use Rattle.answer.specs.Done.{outcome_of}
use Rattle.answer.specs.Answers.{refused, refused_with, spread, outcome_by}
use Rattle.soundness.proofs.Laws.{decided_at, decided_refused}
use Rattle.soundness.proofs.InPlace.{in_place, came_in, kept_out}
use Rattle.handing.specs.Hands.{hand_at, hand_store_at}
use Rattle.handing.proofs.hand.Goals as goal

pub hand_at-requires : goal.hand_at-requires
hand_at-requires c =
    let a = c.args in
    let b = a.s.now in
    let e = sym c.admit.ensures ∙ c.in-Ok.is in
    let w = in_place a.card b (length a.store.now) a.rows a.unit (eqb (length a.cell.now) 56) _ e in
    (eqb-true (length a.cell.now) 56 w.let_in.fits, w.housed)

pub returns-in-Ok : goal.returns-in-Ok
returns-in-Ok c =
    let a = c.args in
    let b = a.s.now in
    let store = length a.store.now in
    let right = eqb (length a.cell.now) 56 in
    let i = c.in-Ok.place in
    let e = sym c.admit.ensures ∙ c.in-Ok.is in
    let done = c.hand_at.ensures in (
      done.result_value ∙ came_in outcome_of (hand_at (shelf_in b)) (refused (shelf_in b)) (refused_with 8) a.card b store a.rows a.unit right i e,
      (
        done.kept.0 ∙ decided_at _ _ _ _ e,
        done.kept.1 ∙ came_in (λ x. x) (λ place. hand_store_at (shelf_in b) place a.store.now a.cell.now) (λ number. a.store.now) a.store.now a.card b store a.rows a.unit right i e,
      ),
    )

pub returns-in-Err : goal.returns-in-Err
unfolding spread
returns-in-Err c =
    let a = c.args in
    let b = a.s.now in
    let store = length a.store.now in
    let right = eqb (length a.cell.now) 56 in
    let n = c.in-Err.number in
    let e = sym c.admit.ensures ∙ c.in-Err.is in (
      ap outcome_by c.uncounted.ensures ∙ kept_out outcome_of (hand_at (shelf_in b)) (refused (shelf_in b)) (refused_with 8) a.card b store a.rows a.unit right n e refl,
      (
        decided_refused _ _ _ _ e,
        kept_out (λ x. x) (λ place. hand_store_at (shelf_in b) place a.store.now a.cell.now) (λ number. a.store.now) a.store.now a.card b store a.rows a.unit right n e refl,
      ),
    )
