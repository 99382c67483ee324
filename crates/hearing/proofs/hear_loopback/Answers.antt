use Prim.Native.Nat.{◌+◌, ◌≤◌}
use mathlib.Core.Path.{sym, ap, subst, ◌∙◌}
use lib.ListN.{length}
use Rattle.octets.specs.Octets.{splice}
use Rattle.state.specs.Bytes.{unit_in}
use Rattle.hearing.proofs.Plans.{loopback_inside}
use Rattle.hearing.proofs.InPlace.{lost_all, loopback_other, loopback_full, loopback_goes, loopback_all}
use Rattle.hearing.proofs.hear_loopback.Goals as goal

pub returns-then-at-unit : goal.returns-then-at-unit
returns-then-at-unit c =
    let a = c.args in
    let both = lost_all (unit_in a.s.now a.place) a.s.now a.place a.store.now a.cell.now _ _ (loopback_other a.s.now a.place a.unit _ c.at.ensures c.if-at-unit.true) in
    record { value = both.0; kept = both.1 }

pub returns-then-at-ge1 : goal.returns-then-at-ge1
returns-then-at-ge1 c =
    let a = c.args in
    let both = lost_all (unit_in a.s.now a.place) a.s.now a.place a.store.now a.cell.now _ _
    (loopback_full a.s.now a.place a.unit _ c.at.ensures c.if-at-unit.false _ c.at-2.ensures c.if-at-ge1.true) in
    record { value = both.0; kept = both.1 }

pub put_cell-requires : goal.put_cell-requires
put_cell-requires c =
    let s = c in
    let a = s.args in
    (s.requires.0, subst (λ n. n + 56 ≤ length a.store.now) (sym c.slot_at.ensures) (loopback_inside a.place (length a.store.now) (unit_in a.s.now a.place) s.requires.1))

pub returns : goal.returns
returns c =
    let a = c.args in
    let s = a.s.now in
    let e = loopback_goes s a.place a.unit _ c.at.ensures c.if-at-unit.false _ c.at-2.ensures c.if-at-ge1.false in
    let all = loopback_all (unit_in s a.place) s a.place a.store.now a.cell.now _ e in
    record { value = all.0; kept = (c.put_byte.ensures ∙ all.1.0, c.put_cell.ensures ∙ ap (λ n. splice a.store.now n a.cell.now) c.slot_at.ensures ∙ all.1.1) }
