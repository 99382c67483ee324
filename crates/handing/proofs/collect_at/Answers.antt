use Prim.Native.Nat.{◌+◌, ◌≤◌}
use native.Mathlib.Omega.{arith}
use mathlib.Core.Path.{◌≡◌, sym, ap, subst, ◌∙◌}
use mathlib.Core.Bool.{true, false}
use lib.ListN.{length}
use borrow.Author.Tests.{eq-eqb, ne_eqb}
use Rattle.octets.specs.Octets.{part}
use Rattle.store.specs.Places.{cell_at}
use Rattle.state.specs.Bytes.{with_ring}
use Rattle.answer.specs.Answers.{spread, outcome_by}
use Rattle.soundness.proofs.Laws.{cell_length}
use Rattle.handing.proofs.InPlace.{oldest_inside, collect_out_by, collect_state_by, collect_buffer_by, buffer_filled}
use Rattle.handing.proofs.collect_at.Goals as goal
use Rattle.handing.proofs.collect_at.Goals.{After-control_at, After-get_cell}

pub returns-then-ring-eq0 : goal.returns-then-ring-eq0
unfolding spread
returns-then-ring-eq0 c =
    let a = c.args in
    let below = c.requires.1.below in
    let r = c.ring_at-ring in
    let h = eq-eqb r.result.count 0 c.if-ring-eq0.true in record { result_value = ap outcome_by c.uncounted.ensures ∙ collect_out_by a.s.now a.place below r.result r.ensures true h; kept = (collect_state_by a.s.now a.place below r.result r.ensures true h, collect_buffer_by a.s.now a.place below r.result r.ensures true h a.store.now a.buffer.now) }

inside-at-After-get_cell : (c : After-get_cell) → c.control_at.result + 56 ≤ length c.args.store.now
inside-at-After-get_cell c =
    let a = c.args in
    let r = c.ring_at-ring in
    subst (λ n. n + 56 ≤ length a.store.now) (sym c.control_at.ensures) (oldest_inside a.s.now a.place c.requires.1.below r.result r.ensures (length a.store.now) c.requires.1)

inside : (c : After-control_at) → c.control_at.result + 56 ≤ length c.args.store.now
inside c =
    let a = c.args in
    let r = c.ring_at-ring in
    subst (λ n. n + 56 ≤ length a.store.now) (sym c.control_at.ensures) (oldest_inside a.s.now a.place c.requires.1.below r.result r.ensures (length a.store.now) c.requires.1)

pub get_cell-requires : goal.get_cell-requires
get_cell-requires c = inside (goal.at.get_cell-requires c).After-control_at

whole : (c : After-get_cell) → length c.get_cell.result.now ≡ 56
whole c = cell_length c.args.store.now c.control_at.result c.get_cell.result.now (inside-at-After-get_cell c) c.get_cell.ensures

pub copy-requires : goal.copy-requires
copy-requires c = omega (arith, whole (goal.at.copy-requires c).After-get_cell, c.requires.0)

pub returns : goal.returns
unfolding cell_at spread
returns c =
    let a = c.args in
    let below = c.requires.1.below in
    let r = c.ring_at-ring in
    let cell = c.get_cell in
    let h = ne_eqb r.result.count 0 c.if-ring-eq0.false in record {
      result_value = ap outcome_by c.counted.ensures ∙ collect_out_by a.s.now a.place below r.result r.ensures false h;
      kept = (
        c.put_ring.ensures ∙ ap (with_ring a.s.now 28 29 a.place) c.popped.ensures ∙ collect_state_by a.s.now a.place below r.result r.ensures false h,
        c.copy.ensures ∙ buffer_filled a.buffer.now cell.result.now c.requires.0 (whole (goal.at.returns c).After-get_cell) ∙ cell.ensures
            ∙ ap (λ n. part a.store.now n 56) c.control_at.ensures
            ∙ collect_buffer_by a.s.now a.place below r.result r.ensures false h a.store.now a.buffer.now,
      );
    }
