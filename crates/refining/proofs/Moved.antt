-- The loopback cells move, on both. Assumes nothing.
use Prim.Native.Nat.{ℕ, zero, suc, ◌+◌, ◌<◌, ◌≤◌, min}
use native.Mathlib.Omega.{arith}
use mathlib.Core.Path.{◌≡◌, refl, sym, ap, subst, ◌∙◌}
use mathlib.Core.Logic.{◌≢◌}
use mathlib.Core.Bool.{Bool, true, false, not, ◌&&◌, cond}
use mathlib.Core.List.{List, [], ◌∷◌, map}
use lib.Dec.{eqb}
use lib.ListN.{length, length-take, length-map, drop, get_or-map}
use borrow.Author.Tests.{ne_eqb}
use Rattle.card.specs.declared.Card.{Card}
use Rattle.bus.specs.Frame.{returned}
use Rattle.outlet.specs.Outlets.{capacity, queue, RingFits}
use Rattle.outlet.specs.declared.Ring.{Ring}
use Rattle.store.specs.Rings as R
use Rattle.store.specs.Places.{Inside, Cell, start, control_in_slot, loopback_in_slot, loopback_out_slot, cell_at, cells, single, single_cells}
use Rattle.store.proofs.Rounds.{ring_kept}
use Rattle.store.proofs.Slots.{start_inside}
use Rattle.store.proofs.Queues.{single_fits, single_one, single_none}
use Rattle.shelf.specs.Shelves as S
use Rattle.shelf.specs.declared.Unit as U
use Rattle.shelf.specs.Shelf.{Shelf}
use Rattle.line.specs.declared.Line.{Line}
use Rattle.soundness.specs.Admission.{unit_at, with_side, Housed}
use Rattle.framing.specs.Moves as framing
use Rattle.framing.proofs.Bits.{taken_if}
use Rattle.framing.proofs.Moves.{moved_same}
use Rattle.framing.proofs.Moving.{moved_units, moved_unit_lem, stores_other, stores_here}
use Rattle.paper.specs.Counters.{taken, occurs}
use Rattle.paper.proofs.Counters.{tallies, Agree, agree, agree_taken}
use Rattle.document.specs.Shelf as D
use Rattle.document.specs.Frame as page
use Rattle.refining.proofs.Alike.{off_bus, SideAlike, UnitAlike, Known, Alike}

-- 1. the cell that moves
abbrev if_moves : Bool → Cell → List Cell
if_moves moves c = cond moves (c ∷ []) []

module _ (store : List ℕ) (i : ℕ) where
  abbrev looped : Cell
  looped = cell_at store i loopback_out_slot

  moving_by : (out back : ℕ) → out ≤ 1 → page.moving_from (single_cells store i loopback_out_slot out) (single_cells store i loopback_in_slot back) ≡ if_moves (not (eqb out 0) && eqb back 0) looped
  unfolding page.moving_from cells R.queue
  moving_by zero back most = refl
  moving_by (suc zero) zero most = refl
  moving_by (suc zero) (suc back) most = rw (ne_eqb (suc back) 0 (λ e. omega arith)) refl
  moving_by (suc (suc out)) back most = absurd (omega arith)

  none_behind : (out : ℕ) → out ≤ 1 → drop 1 (single_cells store i loopback_out_slot out) ≡ []
  unfolding cells R.queue
  none_behind zero most = refl
  none_behind (suc zero) most = refl
  none_behind (suc (suc out)) most = absurd (omega arith)

  module _ (u : U.Unit) (d : D.Unit) (a : UnitAlike store i u d) (n : ℕ) (housed : Housed i u n) where
    moving_is : page.moving d ≡ if_moves (framing.moves u) looped
    unfolding framing.moves
    moving_is = (λ z. page.moving_from (sym a.side.loopbackout z) (sym a.side.loopbackin z)) ∙ moving_by u.side.loopbackout u.side.loopbackin housed.side.loopbackout

    -- what it counts
    pub agree_moves : Agree (taken_if (framing.moves u)) (page.moved_counts d)
    unfolding tallies occurs
    agree_moves = subst (λ m. Agree (taken_if (framing.moves u)) (map (λ c. taken) m)) (sym moving_is) (by (framing.moves u))
      where
        by : (b : Bool) → Agree (taken_if b) (map (λ c. taken) (if_moves b looped))
        by true = agree_taken
        by false = agree 0 [] refl

-- 2. a unit, in a store in which its loopback inlet alone is written
module _ (store after : List ℕ) (i : ℕ) (u : U.Unit) (d : D.Unit) (a : UnitAlike store i u d) (n : ℕ) (housed : Housed i u n)
    (others : (t : ℕ) → t < 146 → loopback_in_slot ≢ t → cell_at after i t ≡ cell_at store i t)
    (here : cell_at after i loopback_in_slot ≡ cond (framing.moves u) (returned (looped store i)) (cell_at store i loopback_in_slot)) where
  ring_same : (base cap : ℕ) (ring : Ring) → RingFits ring cap → cap ≤ 255 → ((k : ℕ) → k < cap → cell_at after i (base + k) ≡ cell_at store i (base + k)) → cells after i base cap ring ≡ cells store i base cap ring
  unfolding cells
  ring_same base cap ring fits few same = ring_kept cap few ring fits (λ p. cell_at store i (base + p)) (λ p. cell_at after i (base + p)) same

  inlet_same : cells after i 123 4 u.inlet ≡ cells store i 123 4 u.inlet
  inlet_same = ring_same 123 4 u.inlet housed.inlet (omega arith) (λ k h. others (123 + k) (omega arith) (λ e. omega arith))

  queue_same : (q : ℕ) → q < 4 → cells after i (start u.outlet.limits q) (capacity u.outlet.limits q) (queue u.outlet q) ≡ cells store i (start u.outlet.limits q) (capacity u.outlet.limits q) (queue u.outlet q)
  queue_same q few =
      let b = start_inside u.outlet.limits q housed.limits few in
      ring_same (start u.outlet.limits q) (capacity u.outlet.limits q) (queue u.outlet q) (housed.queues.each q few) (omega arith)
      (λ k h. others (start u.outlet.limits q + k) (omega arith) (λ e. omega arith))

  single_same : (slot count : ℕ) → count ≤ 1 → cell_at after i slot ≡ cell_at store i slot → single_cells after i slot count ≡ single_cells store i slot count
  single_same slot count most same =
      ring_same slot 1 (single count) (single_fits count most) (omega arith) (λ k h. let z : slot ≡ slot + k = omega arith in subst (λ p. cell_at after i p ≡ cell_at store i p) z same)

  control_same : cells after i 129 4 u.side.controlout ≡ cells store i 129 4 u.side.controlout
  control_same = ring_same 129 4 u.side.controlout housed.side.controlout (omega arith) (λ k h. others (129 + k) (omega arith) (λ e. omega arith))

  -- with other cells beside its data queues
  with_side_lem : (s : _) (e : D.Side) → SideAlike after i s e → UnitAlike after i (with_side u s) (D.with_side d e)
  with_side_lem s e beside =
      record {
        settings = a.settings;
        limits = a.limits;
        sendable = a.sendable;
        inlet = inlet_same ∙ a.inlet;
        rings = a.rings;
        four = a.four;
        queues = λ q h. ap (map off_bus) (queue_same q h) ∙ a.queues q h;
        side = beside;
      }

  by : (b : Bool) → cell_at after i loopback_in_slot ≡ cond b (returned (looped store i)) (cell_at store i loopback_in_slot) →
      UnitAlike after i (cond b (with_side u (record { controlin = u.side.controlin; loopbackin = 1; controlout = u.side.controlout; loopbackout = 0 })) u) (page.moved_by (if_moves b (looped store i)) d)
  unfolding page.moved_by
  by true put =
      with_side_lem _ _
      (record {
        controlin = single_same control_in_slot u.side.controlin housed.side.controlin (others control_in_slot (omega arith) (λ e. omega arith)) ∙ a.side.controlin;
        loopbackin = single_one after i loopback_in_slot ∙ ap (λ c. c ∷ []) put;
        controlout = control_same ∙ a.side.controlout;
        loopbackout = single_none after i loopback_out_slot ∙ sym (none_behind store i u.side.loopbackout housed.side.loopbackout) ∙ ap (drop 1) a.side.loopbackout;
      })
  by false kept =
      with_side_lem u.side d.side
      (record {
        controlin = single_same control_in_slot u.side.controlin housed.side.controlin (others control_in_slot (omega arith) (λ e. omega arith)) ∙ a.side.controlin;
        loopbackin = single_same loopback_in_slot u.side.loopbackin housed.side.loopbackin kept ∙ a.side.loopbackin;
        controlout = control_same ∙ a.side.controlout;
        loopbackout = single_same loopback_out_slot u.side.loopbackout housed.side.loopbackout (others loopback_out_slot (omega arith) (λ e. omega arith)) ∙ a.side.loopbackout;
      })

  unit_moves : UnitAlike after i (framing.moved_unit u) (page.moved_unit d)
  unfolding framing.moved_unit
  unit_moves = subst (λ m. UnitAlike after i (framing.moved_unit u) (page.moved_by m d)) (sym (moving_is store i u d a n housed)) (by (framing.moves u) here)

-- a unit that moved its cell knows what it knew
moves_knows : (card : Card) (memory : List ℕ) (lines : List Line) (u : U.Unit) → Known card memory lines u → Known card memory lines (framing.moved_unit u)
unfolding framing.moved_unit
moves_knows card memory lines u k = by (framing.moves u)
  where
    by : (b : Bool) → Known card memory lines (cond b (with_side u (record { controlin = u.side.controlin; loopbackin = 1; controlout = u.side.controlout; loopbackout = 0 })) u)
    by true = record { looks = k.looks; hearing = k.hearing }
    by false = k

-- 3. all declared units
module _ (card : Card) (shelf : Shelf) (memory store : List ℕ) (d : D.Shelf) (a : Alike card shelf memory store d) (housed : (j : ℕ) → j < length d.units → Housed j (unit_at shelf j) (length store)) where
  -- the document's unit in a place
  paper_unit : (i : ℕ) → D.unit_at (page.moved d) i ≡ page.moved_unit (D.unit_at d i)
  unfolding page.moved_by page.moving_from
  paper_unit i = get_or-map page.moved_unit d.units i D.blank

  as_many : length (page.moved d).units ≡ length d.units
  as_many = length-map d.units page.moved_unit

  count_same : (framing.moved shelf).count ≡ shelf.count
  count_same = moved_same (λ s. s.count) (λ s i u. refl) 0 (S.declared shelf) shelf

  pub moves_alike : Alike card (framing.moved shelf) memory (framing.moved_stores shelf store) (page.moved d)
  moves_alike =
      record {
        many =
            length-take (framing.moved shelf).count (framing.moved shelf).units ∙ (λ z. min (count_same z) (moved_units shelf z))
            ∙ sym (length-take shelf.count shelf.units) ∙ a.many ∙ sym as_many;
        counted = count_same ∙ a.counted ∙ sym as_many;
        units = λ i h.
            let few : i < length d.units = omega (arith, h, as_many) in
            let low : i < length (S.declared shelf) = omega (arith, few, a.many) in
            let within : (k : ℕ) → k < length (S.declared shelf) → Inside k (length store) = λ k l. (housed k (omega (arith, l, a.many))).inside in
            subst (λ u. UnitAlike (framing.moved_stores shelf store) i u (D.unit_at (page.moved d) i)) (sym (moved_unit_lem shelf i low))
            (subst (λ e. UnitAlike (framing.moved_stores shelf store) i (framing.moved_unit (unit_at shelf i)) e) (sym (paper_unit i))
            (unit_moves store (framing.moved_stores shelf store) i (unit_at shelf i) (D.unit_at d i) (a.units i few) (length store) (housed i few) (λ t ht ne. stores_other shelf store within i t ht ne)
            (stores_here shelf store within i low)));
        known = λ i h.
            let few : i < length d.units = omega (arith, h, as_many) in
            subst (Known card memory d.lines) (sym (moved_unit_lem shelf i (omega (arith, few, a.many)))) (moves_knows card memory d.lines (unit_at shelf i) (a.known i few));
        ranged = a.ranged;
        bus = moved_same (λ s. s.bus) (λ s i u. refl) 0 (S.declared shelf) shelf ∙ a.bus;
        arbiter = moved_same (λ s. s.arbiter) (λ s i u. refl) 0 (S.declared shelf) shelf ∙ a.arbiter;
        granted = moved_same (λ s. s.granted) (λ s i u. refl) 0 (S.declared shelf) shelf ∙ a.granted;
        frame = moved_same (λ s. s.frame) (λ s i u. refl) 0 (S.declared shelf) shelf ∙ a.frame;
      }
