use Prim.Native.Nat.{◌+◌, ◌≤◌}
use mathlib.Core.Path.{sym, ap, subst, ◌∙◌}
use mathlib.Core.Bool.{true, false}
use lib.ListN.{length}
use borrow.Author.Tests.{le-leb, lt-leb}
use Rattle.octets.specs.Octets.{splice}
use Rattle.store.specs.Places.{put_at}
use Rattle.answer.specs.Answers.{spread, outcome_by}
use Rattle.handing.proofs.InPlace.{hand_out_by, hand_state_by, hand_store_by, control_inside}
use Rattle.handing.proofs.hand_at.Goals as goal

pub returns-then-at-ge1 : goal.returns-then-at-ge1
unfolding spread
returns-then-at-ge1 c =
    let a = c.args in
    let below = c.requires.1.below in
    let n = c.at in
    let h = le-leb 1 n.result c.if-at-ge1.true in record { result_value = ap outcome_by c.uncounted.ensures ∙ hand_out_by a.s.now a.place below n.result n.ensures true h; kept = (hand_state_by a.s.now a.place below n.result n.ensures true h, hand_store_by a.s.now a.place below n.result n.ensures true h a.store.now a.cell.now) }

pub put_cell-requires : goal.put_cell-requires
put_cell-requires c =
    let a = c.args in
    (c.requires.0, subst (λ n. n + 56 ≤ length a.store.now) (sym c.slot_at.ensures) (control_inside a.place (length a.store.now) _ c.requires.1))

pub returns : goal.returns
unfolding put_at spread
returns c =
    let a = c.args in
    let below = c.requires.1.below in
    let n = c.at in
    let h = lt-leb 1 n.result c.if-at-ge1.false in record {
      result_value = ap outcome_by c.uncounted-2.ensures ∙ hand_out_by a.s.now a.place below n.result n.ensures false h;
      kept = (
        c.put_byte.ensures ∙ hand_state_by a.s.now a.place below n.result n.ensures false h,
        c.put_cell.ensures ∙ ap (λ k. splice a.store.now k a.cell.now) c.slot_at.ensures ∙ hand_store_by a.s.now a.place below n.result n.ensures false h a.store.now a.cell.now,
      );
    }
