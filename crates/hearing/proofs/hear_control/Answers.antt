use Prim.Native.Nat.{◌+◌, ◌≤◌}
use mathlib.Core.Path.{◌≡◌, sym, ap, subst, ◌∙◌}
use lib.ListN.{length}
use Rattle.octets.specs.Octets.{splice}
use Rattle.store.specs.Rings.{tail, pushed}
use Rattle.store.specs.Places.{slot_at, control_out_slot}
use Rattle.state.specs.Bytes.{unit_in, with_ring}
use Rattle.hearing.proofs.Plans.{control_inside}
use Rattle.hearing.proofs.InPlace.{lost_all, control_other, control_full, control_goes, control_ring, control_all}
use Rattle.hearing.proofs.hear_control.Goals as goal
use Rattle.hearing.proofs.hear_control.Goals.{After-control_at}

pub returns-then-at-unit : goal.returns-then-at-unit
returns-then-at-unit c =
    let a = c.args in
    let both = lost_all (unit_in a.s.now a.place) a.s.now a.place a.store.now a.cell.now _ _ (control_other a.s.now a.place a.unit _ c.at.ensures c.if-at-unit.true) in
    record { value = both.0; kept = both.1 }

pub returns-then-ring-ge-CONTROL : goal.returns-then-ring-ge-CONTROL
returns-then-ring-ge-CONTROL c =
    let a = c.args in
    let both = lost_all (unit_in a.s.now a.place) a.s.now a.place a.store.now a.cell.now _ _
    (control_full a.s.now a.place a.unit _ c.at.ensures c.if-at-unit.false _ c.ring_at-ring.ensures c.if-ring-ge-CONTROL.true) in
    record { value = both.0; kept = both.1 }

slot : (c : After-control_at) → let a = c.args in c.control_at.result ≡ slot_at a.place (control_out_slot (tail (unit_in a.s.now a.place).side.controlout 4))
slot c =
    let a = c.args in
    c.control_at.ensures ∙ ap (λ p. slot_at a.place (control_out_slot p)) (c.tail-tail.ensures ∙ ap (λ r. tail r 4) (c.ring_at-ring.ensures ∙ control_ring a.s.now a.place))

pub put_cell-requires : goal.put_cell-requires
put_cell-requires c =
    let s = c in
    let a = s.args in
    (s.requires.0, subst (λ n. n + 56 ≤ length a.store.now) (sym (slot (goal.at.put_cell-requires c).After-control_at)) (control_inside a.place (length a.store.now) (unit_in a.s.now a.place) s.requires.1))

pub returns : goal.returns
returns c =
    let a = c.args in
    let s = a.s.now in
    let e = control_goes s a.place a.unit _ c.at.ensures c.if-at-unit.false _ c.ring_at-ring.ensures c.if-ring-ge-CONTROL.false in
    let all = control_all (unit_in s a.place) s a.place a.store.now a.cell.now _ e in record {
      value = all.0;
      kept = (
        c.put_ring.ensures ∙ ap (with_ring s 28 29 a.place) (c.pushed.ensures ∙ ap pushed (c.ring_at-ring.ensures ∙ control_ring s a.place)) ∙ all.1.0,
        c.put_cell.ensures ∙ ap (λ n. splice a.store.now n a.cell.now) (slot (goal.at.returns c).After-control_at) ∙ all.1.1,
      );
    }
