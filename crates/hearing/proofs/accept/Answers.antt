use Prim.Native.Nat.{◌+◌, ◌≤◌, ◌<◌}
use native.Mathlib.Omega.{arith}
use mathlib.Core.Path.{◌≡◌, sym, ap, subst, ◌∙◌}
use lib.ListN.{length}
use Rattle.octets.specs.Octets.{splice}
use Rattle.store.specs.Rings.{pushed}
use Rattle.state.specs.Bytes.{link_of, unit_in, with_ring}
use Rattle.hearing.specs.Hearings.{plan_for, plan_to, slot_of}
use Rattle.hearing.proofs.Plans.{outlet_inside}
use Rattle.hearing.proofs.InPlace.{few, own_ring, own_plan, own_slot, lost_all, queued_fate, queued_state, queued_store}
use Rattle.hearing.proofs.accept.Goals as goal
use Rattle.hearing.proofs.accept.Goals.{After-fate_in, After-outlet_at, After-queue_of-queue}

one_of_four : (c : After-queue_of-queue) → c.queue_of-queue.result < 4
one_of_four c = let a = c.args in few a.s.now a.place a.class _ _ c.limits_at-limits.ensures c.queue_of-queue.ensures

pub ring_at-ring-requires : goal.ring_at-ring-requires
ring_at-ring-requires c = let f = one_of_four (goal.at.ring_at-ring-requires c).After-queue_of-queue in (omega (arith, f), omega (arith, f), c.requires.1.below)

pub put_ring-requires : goal.put_ring-requires
put_ring-requires c = let f = one_of_four (goal.at.put_ring-requires c).After-queue_of-queue in (omega (arith, f), omega (arith, f), c.requires.1.below)

pub outlet_at-requires : goal.outlet_at-requires
outlet_at-requires c = c.requires.1.below

slot : (c : After-outlet_at) → let a = c.args in c.outlet_at.result ≡ slot_of (unit_in a.s.now a.place).outlet a.place c.queue_of-queue.result
slot c =
    let a = c.args in
    own_slot a.s.now a.place a.class _ _ c.limits_at-limits.ensures c.queue_of-queue.ensures _ c.ring_at-ring.ensures _ c.capacity-capacity.ensures _ _ c.tail-tail.ensures c.outlet_at.ensures

pub put_cell-requires : goal.put_cell-requires
put_cell-requires c =
    let s = c in
    let a = s.args in
    (s.requires.0, subst (λ n. n + 56 ≤ length a.store.now) (sym (slot (goal.at.put_cell-requires c).After-outlet_at)) (outlet_inside a.place (length a.store.now) (unit_in a.s.now a.place) _ s.requires.1 (one_of_four (goal.at.put_cell-requires c).After-queue_of-queue)))

plan : (c : After-fate_in) → let a = c.args in plan_to (unit_in a.s.now a.place) a.class a.header ≡ plan_for c.fate_in.result c.queue_of-queue.result
plan c =
    let a = c.args in
    own_plan a.s.now a.place a.class _ _ c.limits_at-limits.ensures c.queue_of-queue.ensures _ c.ring_at-ring.ensures _ c.capacity-capacity.ensures a.header _ _ _
    (c.link_of-link.ensures ∙ ap link_of c.at.ensures) c.limit-limit.ensures c.fate_in.ensures

pub returns-in-Wide : goal.returns-in-Wide
unfolding plan_for
returns-in-Wide c =
    let a = c.args in
    let both = lost_all (unit_in a.s.now a.place) a.s.now a.place a.store.now a.cell.now _ _
    (plan (goal.at.returns-in-Wide c).After-fate_in ∙ ap (λ x. plan_for x c.queue_of-queue.result) c.in-Wide.is) in
    record { value = both.0; kept = both.1 }

pub returns-in-Full : goal.returns-in-Full
unfolding plan_for
returns-in-Full c =
    let a = c.args in
    let both = lost_all (unit_in a.s.now a.place) a.s.now a.place a.store.now a.cell.now _ _
    (plan (goal.at.returns-in-Full c).After-fate_in ∙ ap (λ x. plan_for x c.queue_of-queue.result) c.in-Full.is) in
    record { value = both.0; kept = both.1 }

pub returns-in-Clp : goal.returns-in-Clp
unfolding plan_for
returns-in-Clp c =
    let a = c.args in
    let both = lost_all (unit_in a.s.now a.place) a.s.now a.place a.store.now a.cell.now _ _
    (plan (goal.at.returns-in-Clp c).After-fate_in ∙ ap (λ x. plan_for x c.queue_of-queue.result) c.in-Clp.is) in
    record { value = both.0; kept = both.1 }

pub returns-in-Queued : goal.returns-in-Queued
unfolding plan_for
returns-in-Queued c =
    let a = c.args in
    let b = a.s.now in
    let u = unit_in b a.place in
    let q = c.queue_of-queue.result in
    let e = plan (goal.at.returns-in-Queued c).After-fate_in ∙ ap (λ x. plan_for x q) c.in-Queued.is in
    let r = own_ring b a.place a.class _ _ c.limits_at-limits.ensures c.queue_of-queue.ensures _ c.ring_at-ring.ensures _ c.capacity-capacity.ensures in record {
      value = queued_fate u b a.place _ q e;
      kept = (
        c.put_ring.ensures ∙ ap (with_ring b (16 + q) (20 + q) a.place) (c.pushed.ensures ∙ ap pushed r) ∙ queued_state u b a.place _ q e,
        c.put_cell.ensures ∙ ap (λ n. splice a.store.now n a.cell.now) (slot (goal.at.returns-in-Queued c).After-outlet_at) ∙ queued_store u b a.place _ q e a.store.now a.cell.now,
      );
    }
