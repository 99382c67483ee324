use mathlib.Core.Path.{sym, ap, ◌∙◌}
use lib.ListN.{take}
use Rattle.bus.proofs.Laws.{heard_parity, heard_carried}
use Rattle.bus.proofs.Wire.{carried_cell}
use Rattle.state.specs.Bytes.{unit_in}
use Rattle.hearing.specs.Hearings.{plan_of}
use Rattle.hearing.specs.InPlace.{outcome_at}
use Rattle.hearing.proofs.Plans.{before_parity}
use Rattle.hearing.proofs.InPlace.{lost_all, by_plan}
use Rattle.hearing.proofs.hear_at.Goals as goal

pub slice_bounds-parity-end : goal.slice_bounds-parity-end
slice_bounds-parity-end c = let s = c in sym (before_parity s.args.frame.now s.requires.0)

pub slice_bounds-hear_cell-end : goal.slice_bounds-hear_cell-end
slice_bounds-hear_cell-end c = let s = c in sym (before_parity s.args.frame.now s.requires.0)

pub hear_cell-requires : goal.hear_cell-requires
hear_cell-requires c = let s = c in (before_parity s.args.frame.now s.requires.0, s.requires.1)

pub returns-then-parity-frame : goal.returns-then-parity-frame
unfolding plan_of
returns-then-parity-frame c =
    let s = c in
    let a = s.args in
    let u = unit_in a.s.now a.place in
    let h = heard_parity a.frame.now s.requires.0 (λ e. c.if-parity-frame.true (c.parity.ensures ∙ e)) in
    let w = lost_all u a.s.now a.place a.store.now (take 56 a.frame.now) _ _ (ap (plan_of u) h) in
    record { result_value = c.fated.ensures ∙ ap (outcome_at a.place) w.0; kept = w.1 }

pub returns : goal.returns
returns c =
    let s = c in
    let a = s.args in
    let u = unit_in a.s.now a.place in
    let f = a.frame.now in
    let h = carried_cell f s.requires.0 ∙ sym (heard_carried f s.requires.0 (sym c.parity.ensures ∙ c.if-parity-frame.false)) in
    let w = by_plan u a.s.now a.place a.store.now (take 56 f) _ _ _ _ _ (ap (plan_of u) h) (c.hear_cell.ensures.value, c.hear_cell.ensures.kept) in
    record { result_value = c.fated-2.ensures ∙ ap (outcome_at a.place) w.0; kept = w.1 }
