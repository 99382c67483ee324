use mathlib.Core.Path.{◌≡◌, sym, ap}
use lib.ListN.{get_or}
use borrow.Author.Tests.{ne_eqb, le-leb, lt-leb}
use Rattle.bus.specs.Frame.{third}
use Rattle.bus.specs.Heard.{Damaged, Control, Loopback}
use Rattle.state.specs.Bytes.{unit_in}
use Rattle.hearing.specs.Hearings.{plan_of}
use Rattle.hearing.proofs.InPlace.{lost_all, by_plan}
use Rattle.hearing.proofs.hear_third.Goals as goal

pub returns-then-number-gt31 : goal.returns-then-number-gt31
unfolding plan_of third
returns-then-number-gt31 c =
    let a = c.args in
    let u = unit_in a.s.now a.place in
    let e : third a.class a.number (get_or a.cell.now 2 0) ≡ Damaged = simp (lt-leb _ _ c.if-number-gt31.true) in
    let both = lost_all u a.s.now a.place a.store.now a.cell.now _ _ (ap (plan_of u) e) in
    record { value = both.0; kept = both.1 }

pub returns-then-class-eq0 : goal.returns-then-class-eq0
unfolding third
returns-then-class-eq0 c =
    let a = c.args in
    let u = unit_in a.s.now a.place in
    let e : third a.class a.number (get_or a.cell.now 2 0) ≡ Control a.number = simp (le-leb _ _ c.if-number-gt31.false, c.if-class-eq0.true) in
    let both = by_plan u a.s.now a.place a.store.now a.cell.now _ _ _ _ _ (ap (plan_of u) (sym e)) (c.hear_control.ensures.value, c.hear_control.ensures.kept) in
    record { value = both.0; kept = both.1 }

pub returns-then-class-cell : goal.returns-then-class-cell
unfolding third
returns-then-class-cell c =
    let a = c.args in
    let u = unit_in a.s.now a.place in
    let e : third a.class a.number (get_or a.cell.now 2 0) ≡ Loopback a.number =
    simp (le-leb _ _ c.if-number-gt31.false, ne_eqb _ _ c.if-class-eq0.false, c.if-class-cell.true) in
    let both = by_plan u a.s.now a.place a.store.now a.cell.now _ _ _ _ _ (ap (plan_of u) (sym e)) (c.hear_loopback.ensures.value, c.hear_loopback.ensures.kept) in
    record { value = both.0; kept = both.1 }

pub returns : goal.returns
unfolding plan_of third
returns c =
    let a = c.args in
    let u = unit_in a.s.now a.place in
    let e : third a.class a.number (get_or a.cell.now 2 0) ≡ Damaged = simp (le-leb _ _ c.if-number-gt31.false, ne_eqb _ _ c.if-class-eq0.false, c.if-class-cell.false) in
    let both = lost_all u a.s.now a.place a.store.now a.cell.now _ _ (ap (plan_of u) e) in
    record { value = both.0; kept = both.1 }
