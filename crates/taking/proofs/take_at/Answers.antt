use Prim.Native.Nat.{◌+◌, ◌≤◌}
use native.Mathlib.Omega.{arith}
use mathlib.Core.Path.{sym, ap, subst, ◌∙◌}
use lib.ListN.{length}
use Rattle.octets.specs.Octets.{part}
use Rattle.store.specs.Places.{slot_at, outlet_slot, cell_at}
use Rattle.store.specs.Rings.{popped}
use Rattle.state.specs.Bytes.{link_of, with_ring}
use Rattle.answer.specs.Answers.{spread, outcome_by}
use Rattle.soundness.proofs.Laws.{cell_length}
use Rattle.taking.specs.Takes.{outward}
use Rattle.taking.proofs.InPlace.{empty_out, empty_state, empty_buffer, few, inside, taken_out, taken_state, taken_buffer}
use Rattle.taking.proofs.take_at.Goals as goal

pub returns-in_default : goal.returns-in_default
unfolding spread
returns-in_default c =
    let a = c.args in
    let o = c.outlet_at-outlet in
    let l = c.leaving_of in
    let below = c.requires.1.below in
    let e = c.in_default.is in record { result_value = ap outcome_by c.uncounted.ensures ∙ empty_out a.s.now a.place below o.result o.ensures l.result l.ensures e; kept = (empty_state a.s.now a.place below o.result o.ensures l.result l.ensures e, empty_buffer a.s.now a.place below o.result o.ensures l.result l.ensures e a.store.now a.buffer.now) }

pub get_cell-requires : goal.get_cell-requires
get_cell-requires c =
    let a = c.args in
    let o = c.outlet_at-outlet in
    let l = c.leaving_of in
    let below = c.requires.1.below in
    let q = c.in-Some.queue in
    let e = c.in-Some.is in
    let w = c.outlet_at-at.ensures ∙ ap (λ r. slot_at a.place (outlet_slot o.result.limits q r.head)) c.queue-ring.ensures in
    subst (λ n. n + 56 ≤ length a.store.now) (sym w) (inside a.s.now a.place below o.result o.ensures l.result l.ensures q e (length a.store.now) c.requires.1)

pub hand_out-requires : goal.hand_out-requires
hand_out-requires c =
    let a = c.args in
    let o = c.outlet_at-outlet in
    let l = c.leaving_of in
    let below = c.requires.1.below in
    let q = c.in-Some.queue in
    let e = c.in-Some.is in
    let w = c.outlet_at-at.ensures ∙ ap (λ r. slot_at a.place (outlet_slot o.result.limits q r.head)) c.queue-ring.ensures in
    let i = subst (λ n. n + 56 ≤ length a.store.now) (sym w) (inside a.s.now a.place below o.result o.ensures l.result l.ensures q e (length a.store.now) c.requires.1) in
    (cell_length a.store.now c.outlet_at-at.result c.get_cell.result.now i c.get_cell.ensures, c.requires.0)

pub put_ring-requires : goal.put_ring-requires
put_ring-requires c =
    let a = c.args in
    let o = c.outlet_at-outlet in
    let l = c.leaving_of in
    let below = c.requires.1.below in
    let q = c.in-Some.queue in
    let e = c.in-Some.is in
    let f = few a.s.now a.place below o.result o.ensures l.result l.ensures q e in
    (omega arith, omega arith, below)

pub returns : goal.returns
unfolding cell_at spread
returns c =
    let a = c.args in
    let o = c.outlet_at-outlet in
    let l = c.leaving_of in
    let below = c.requires.1.below in
    let q = c.in-Some.queue in
    let e = c.in-Some.is in
    let w = c.outlet_at-at.ensures ∙ ap (λ r. slot_at a.place (outlet_slot o.result.limits q r.head)) c.queue-ring.ensures in
    let r = c.queue-ring.ensures in
    let k = c.link_of-link.ensures ∙ ap link_of c.at.ensures in record {
      result_value = ap outcome_by c.counted.ensures ∙ taken_out a.s.now a.place below o.result o.ensures l.result l.ensures q e;
      kept = (
        c.put_ring.ensures
            ∙ (λ t. with_ring a.s.now (16 + q) (20 + q) a.place ((c.popped-left.ensures ∙ (λ k. popped (r k) (c.capacity.ensures k))) t))
            ∙ taken_state a.s.now a.place below o.result o.ensures l.result l.ensures q e,
        c.hand_out.ensures
            ∙ ap (outward c.link_of-link.result o.result) (c.get_cell.ensures ∙ ap (λ n. part a.store.now n 56) w)
            ∙ taken_buffer a.s.now a.place below o.result o.ensures l.result l.ensures q e c.link_of-link.result k a.store.now a.buffer.now,
      );
    }
