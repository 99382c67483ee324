use Prim.Native.Nat.{◌+◌, ◌≤◌}
use native.Mathlib.Omega.{arith}
use mathlib.Core.Path.{sym, ap, subst, ◌∙◌}
use lib.ListN.{length}
use Rattle.octets.specs.Octets.{splice}
use Rattle.store.specs.Places.{slot_at, inlet_slot, put_at}
use Rattle.state.specs.Bytes.{with_ring}
use Rattle.answer.specs.Answers.{outcome_by}
use Rattle.arriving.specs.Arriving.{way_for}
use Rattle.arriving.proofs.InPlace.{lost_out, lost_state, lost_store, full_out, full_state, full_store, queued_out, queued_state, queued_store, inlet_room}
use borrow.Author.Rules.{rules}
use Rattle.arriving.proofs.arrive_at.Goals as goal

pub returns-in-Err : goal.returns-in-Err
returns-in-Err c =
    let a = c.args in
    let below = c.requires.1.below in
    let w = c.way_of in
    let ew = w.ensures ∙ (λ i. way_for a.card (c.settings_at-settings.ensures i) (c.place_at.ensures i) a.memory.now a.cell.now) in
    let e = c.in-Err.is in record { result_value = ap outcome_by c.arrived.ensures ∙ lost_out a.card a.s.now a.place below a.memory.now a.cell.now w.result ew _ e; kept = (lost_state a.card a.s.now a.place below a.memory.now a.cell.now w.result ew _ e, lost_store a.card a.s.now a.place below a.memory.now a.cell.now w.result ew _ e a.store.now) }

pub returns-then-inlet-ge-INLET : goal.returns-then-inlet-ge-INLET
returns-then-inlet-ge-INLET c =
    let a = c.args in
    let below = c.requires.1.below in
    let w = c.way_of in
    let ew = w.ensures ∙ (λ i. way_for a.card (c.settings_at-settings.ensures i) (c.place_at.ensures i) a.memory.now a.cell.now) in
    let e = c.in-Ok.is in
    let r = c.ring_at-inlet in
    let h = c.if-inlet-ge-INLET.true in record { result_value = ap outcome_by c.arrived-then-inlet-ge-INLET.ensures ∙ full_out a.card a.s.now a.place below a.memory.now a.cell.now w.result ew _ _ e r.result r.ensures h; kept = (full_state a.card a.s.now a.place below a.memory.now a.cell.now w.result ew _ _ e r.result r.ensures h, full_store a.card a.s.now a.place below a.memory.now a.cell.now w.result ew _ _ e r.result r.ensures h a.store.now) }

pub inlet_at-requires : goal.inlet_at-requires
inlet_at-requires c = c.requires.1.below

pub put_cell-requires : goal.put_cell-requires
put_cell-requires c =
    let a = c.args in
    let below = c.requires.1.below in
    let w = c.way_of in
    let ew = w.ensures ∙ (λ i. way_for a.card (c.settings_at-settings.ensures i) (c.place_at.ensures i) a.memory.now a.cell.now) in
    let e = c.in-Ok.is in
    let r = c.ring_at-inlet in
    let at = c.inlet_at.ensures ∙ ap (λ p. slot_at a.place (inlet_slot p)) c.tail-tail.ensures in
    (search rules, subst (λ n. n + 56 ≤ length a.store.now) (sym at) (inlet_room a.card a.s.now a.place below a.memory.now a.cell.now w.result ew _ _ e r.result r.ensures (length a.store.now) c.requires.1 c.if-inlet-ge-INLET.false))

pub put_ring-requires : goal.put_ring-requires
put_ring-requires c = (omega arith, omega arith, c.requires.1.below)

pub returns : goal.returns
unfolding put_at
returns c =
    let a = c.args in
    let below = c.requires.1.below in
    let w = c.way_of in
    let ew = w.ensures ∙ (λ i. way_for a.card (c.settings_at-settings.ensures i) (c.place_at.ensures i) a.memory.now a.cell.now) in
    let e = c.in-Ok.is in
    let r = c.ring_at-inlet in
    let at = c.inlet_at.ensures ∙ ap (λ p. slot_at a.place (inlet_slot p)) c.tail-tail.ensures in
    let h = c.if-inlet-ge-INLET.false in record {
      result_value = ap outcome_by c.arrived-2.ensures ∙ queued_out a.card a.s.now a.place below a.memory.now a.cell.now w.result ew _ _ e r.result r.ensures h;
      kept = (
        c.put_ring.ensures ∙ ap (with_ring a.s.now 14 15 a.place) c.pushed.ensures ∙ queued_state a.card a.s.now a.place below a.memory.now a.cell.now w.result ew _ _ e r.result r.ensures h,
        c.put_cell.ensures ∙ (λ i. splice a.store.now (at i) (c.compose.ensures i)) ∙ queued_store a.card a.s.now a.place below a.memory.now a.cell.now w.result ew _ _ e r.result r.ensures h a.store.now,
      );
    }
