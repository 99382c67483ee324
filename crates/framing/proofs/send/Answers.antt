use Rattle.std.proofs.Common.{◌≡◌, ◌+◌, ◌<◌, ◌≤◌, length, take, sym, ap, ◌∙◌, subst}
use Rattle.octets.specs.Octets.{part}
use Rattle.bus.specs.Frame.{sealed}
use Rattle.bus.proofs.Wire.{heard_sealed}
use Rattle.state.specs.Bytes.{unit_in}
use Rattle.soundness.specs.Admission.{Housed}
use Rattle.soundness.proofs.Laws.{cell_length}
use Rattle.framing.specs.Scenes.{tallied_by, AllHousedIn}
use Rattle.framing.proofs.Sends.{send_inside, sealed_cell, out_housed_in, frame_is, sent_tally, sent_bytes, sent_store_lem}
use Rattle.framing.proofs.send.Goals as goal
use Rattle.framing.proofs.send.Goals.{After-get_cell, After-let_out-at, After-seal, Start}

housed : (c : Start) → Housed c.args.place (unit_in c.args.s.now c.args.place) (length c.args.store.now)
housed c = c.requires.2 c.args.place c.requires.1

below : (c : Start) → c.args.place < 32
below c = (housed c).below

pub let_out-at-requires : goal.let_out-at-requires
let_out-at-requires c = below (goal.at.let_out-at-requires c).Start

cell_inside-at-After-get_cell : (c : After-get_cell) → c.let_out-at.result + 56 ≤ length c.args.store.now
cell_inside-at-After-get_cell c =
    let s = c in
    let a = s.args in
    subst (λ n. n + 56 ≤ length a.store.now) (sym c.let_out-at.ensures.value) (send_inside a.place (length a.store.now) (unit_in a.s.now a.place) (s.requires.2 s.args.place s.requires.1))

cell_inside-at-After-seal : (c : After-seal) → c.let_out-at.result + 56 ≤ length c.args.store.now
cell_inside-at-After-seal c =
    let s = c in
    let a = s.args in
    subst (λ n. n + 56 ≤ length a.store.now) (sym c.let_out-at.ensures.value) (send_inside a.place (length a.store.now) (unit_in a.s.now a.place) (s.requires.2 s.args.place s.requires.1))

cell_inside : (c : After-let_out-at) → c.let_out-at.result + 56 ≤ length c.args.store.now
cell_inside c =
    let s = c in
    let a = s.args in
    subst (λ n. n + 56 ≤ length a.store.now) (sym c.let_out-at.ensures.value) (send_inside a.place (length a.store.now) (unit_in a.s.now a.place) (s.requires.2 s.args.place s.requires.1))

pub get_cell-requires : goal.get_cell-requires
get_cell-requires c = cell_inside (goal.at.get_cell-requires c).After-let_out-at

full-at-After-seal : (c : After-seal) → length c.get_cell.result.now ≡ 56
full-at-After-seal c = cell_length c.args.store.now c.let_out-at.result c.get_cell.result.now (cell_inside-at-After-seal c) c.get_cell.ensures

full : (c : After-get_cell) → length c.get_cell.result.now ≡ 56
full c = cell_length c.args.store.now c.let_out-at.result c.get_cell.result.now (cell_inside-at-After-get_cell c) c.get_cell.ensures

pub seal-requires : goal.seal-requires
seal-requires c = (full (goal.at.seal-requires c).After-get_cell, c.requires.0)

cell : (c : After-seal) → take 56 c.seal.new.frame ≡ c.get_cell.result.now
cell c = sealed_cell c.get_cell.result.now c.seal.new.frame (full-at-After-seal c) c.seal.ensures

whole : (c : After-seal) → length (take 56 c.seal.new.frame) ≡ 56
whole c = ap length (cell c) ∙ full-at-After-seal c

pub slice_bounds-address_of-end-2 : goal.slice_bounds-address_of-end-2
slice_bounds-address_of-end-2 c = sym (whole (goal.at.slice_bounds-address_of-end-2 c).After-seal)

pub address_of-requires : goal.address_of-requires
address_of-requires c = whole (goal.at.address_of-requires c).After-seal

pub slice_bounds-hear_all-end-2 : goal.slice_bounds-hear_all-end-2
slice_bounds-hear_all-end-2 c = sym (whole (goal.at.slice_bounds-hear_all-end-2 c).After-seal)

pub hear_all-heeded-requires : goal.hear_all-heeded-requires
hear_all-heeded-requires c =
    let s = c in
    let a = s.args in
    let n = length a.store.now in
    let e = sym c.let_out-at.ensures.kept in (
      whole (goal.at.hear_all-heeded-requires c).After-seal,
      subst (λ x. AllHousedIn x n) e (out_housed_in a.s.now a.place a.store.now s.told-s s.requires.1 n s.requires.2),
    )

pub returns : goal.returns
returns c =
    let s = c in
    let a = s.args in
    let b = a.s.now in
    let o = c.let_out-at in
    let es = o.ensures.kept in
    let ek = frame_is b a.place a.store.now s.told-s s.requires.1 c.get_cell.result.now (c.get_cell.ensures ∙ ap (λ n. part a.store.now n 56) o.ensures.value) in
    let full56 = whole (goal.at.returns c).After-seal in
    let ef = ap sealed (cell (goal.at.returns c).After-seal) ∙ ek in
    let eh = c.address_of.ensures ∙ sym (heard_sealed (take 56 c.seal.new.frame) full56) in
    let l = c.hear_all-heeded in record {
      each_after = sent_tally b a.place a.store.now s.told-s s.requires.1 a.each.now _ _ _ es full56 ef eh (tallied_by l.result l.new.each) _ l.ensures.each_after c.sent_rises.ensures;
      kept = (
        sent_bytes b a.place a.store.now s.told-s s.requires.1 a.each.now _ _ _ es full56 ef eh _ l.ensures.kept.0,
        (sent_store_lem b a.place a.store.now s.told-s s.requires.1 a.each.now _ _ _ es full56 ef eh _ l.ensures.kept.1, c.seal.ensures ∙ ek),
      );
    }
