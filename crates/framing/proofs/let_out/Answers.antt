use Rattle.std.proofs.Common.{◌<◌, ◌≤◌, ap, ◌∙◌, arith}
use Rattle.outlet.specs.declared.Ring.{Ring}
use Rattle.store.specs.Rings.{popped}
use Rattle.store.specs.Places.{slot_at, inlet_slot}
use Rattle.state.specs.Bytes.{col, with_ring}
use Rattle.framing.proofs.Sends.{data_first, control_next, loopback_last}
use Rattle.framing.proofs.let_out.Goals as goal

pub returns-then-inlet-ge1 : goal.returns-then-inlet-ge1
returns-then-inlet-ge1 c =
    let a = c.args in
    let b = a.s.now in
    let e = c.ring_at-inlet.ensures in
    let h : 1 ≤ col b a.place 15 = omega (arith, ap (λ (r : Ring). r.count) e, c.if-inlet-ge1.true) in
    let w = data_first b a.place h in record { value = c.inlet_at.ensures ∙ ap (λ (r : Ring). slot_at a.place (inlet_slot r.head)) e ∙ w.0; kept = c.put_ring.ensures ∙ ap (with_ring b 14 15 a.place) (c.popped.ensures ∙ ap (λ r. popped r 4) e) ∙ w.1 }

pub returns-then-at-ge1 : goal.returns-then-at-ge1
returns-then-at-ge1 c =
    let a = c.args in
    let b = a.s.now in
    let none : col b a.place 15 < 1 = omega (arith, ap (λ (r : Ring). r.count) c.ring_at-inlet.ensures, c.if-inlet-ge1.false) in
    let some : 1 ≤ col b a.place 26 = omega (arith, c.at.ensures, c.if-at-ge1.true) in
    let w = control_next b a.place none some in
    record { value = c.slot_at.ensures ∙ w.0; kept = c.put_byte.ensures ∙ w.1 }

pub returns : goal.returns
returns c =
    let a = c.args in
    let b = a.s.now in
    let none : col b a.place 15 < 1 = omega (arith, ap (λ (r : Ring). r.count) c.ring_at-inlet.ensures, c.if-inlet-ge1.false) in
    let none_either : col b a.place 26 < 1 = omega (arith, c.at.ensures, c.if-at-ge1.false) in
    let w = loopback_last b a.place none none_either in
    record { value = c.slot_at-2.ensures ∙ w.0; kept = c.put_byte-2.ensures ∙ w.1 }
