use Rattle.std.proofs.Common.{◌≡◌, ◌+◌, ◌≤◌, not, ◌||◌, eqb, length, sym, ap, ◌∙◌, arith, rules}
use Rattle.store.specs.Places.{loopback_in_slot, loopback_out_slot}
use Rattle.store.proofs.Slots.{slot_inside}
use Rattle.state.specs.Bytes.{with_byte}
use Rattle.soundness.proofs.Laws.{cell_length}
use Rattle.framing.proofs.Moves.{moves_by, unmoved_all, moved_all, turned_back}
use Rattle.framing.proofs.move_one.Goals as goal
use Rattle.framing.proofs.move_one.Goals.{After-get_cell, After-slot_at}

pub returns-then-at : goal.returns-then-at
returns-then-at c =
    let a = c.args in
    let both = unmoved_all a.s.now a.store.now a.i
    (moves_by a.s.now a.i ∙ (λ t. not (eqb (sym c.at.ensures t) 0 || not (eqb (sym c.at-2.ensures t) 0))) ∙ ap not c.if-at.true) in
    record { value = both.0; kept = both.1 }

out_inside-at-After-get_cell : (c : After-get_cell) → c.slot_at.result + 56 ≤ length c.args.store.now
out_inside-at-After-get_cell c = let s = c in omega (arith, c.slot_at.ensures, (slot_inside s.args.i loopback_out_slot (omega arith)).1, s.requires.1)

out_inside : (c : After-slot_at) → c.slot_at.result + 56 ≤ length c.args.store.now
out_inside c = let s = c in omega (arith, c.slot_at.ensures, (slot_inside s.args.i loopback_out_slot (omega arith)).1, s.requires.1)

pub get_cell-requires : goal.get_cell-requires
get_cell-requires c = out_inside (goal.at.get_cell-requires c).After-slot_at

full : (c : After-get_cell) → length c.get_cell.result.now ≡ 56
full c = cell_length c.args.store.now c.slot_at.result c.get_cell.result.now (out_inside-at-After-get_cell c) c.get_cell.ensures

pub copy-requires : goal.copy-requires
copy-requires c = let l = full (goal.at.copy-requires c).After-get_cell in omega arith

pub put_cell-requires : goal.put_cell-requires
put_cell-requires c = let s = c in (search rules, omega (arith, c.slot_at-2.ensures, (slot_inside s.args.i loopback_in_slot (omega arith)).1, s.requires.1))

pub returns : goal.returns
returns c =
    let a = c.args in
    let b = a.s.now in
    let e = moves_by b a.i ∙ (λ t. not (eqb (sym c.at.ensures t) 0 || not (eqb (sym c.at-2.ensures t) 0))) ∙ ap not c.if-at.false in
    let w = moved_all b a.store.now a.i e in record {
      value = w.0;
      kept = (
        c.put_byte-2.ensures ∙ ap (λ x. with_byte x 30 a.i 0) c.put_byte.ensures ∙ w.1.0,
        c.put_cell.ensures
            ∙ turned_back a.store.now c.get_cell.result.now _ _ a.i _ _ c.slot_at.ensures c.get_cell.ensures (full (goal.at.returns c).After-get_cell) c.copy.ensures c.turn_back.ensures c.slot_at-2.ensures
            ∙ w.1.1,
      );
    }
