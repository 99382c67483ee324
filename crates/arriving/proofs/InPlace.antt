-- The three ways an arrival at lent bytes ends, and that the bytes are then the shelf after an arrival. Assumes nothing.
use Rattle.std.specs.Prelude.{Ok, Err}
use Prim.Native.Nat.{ℕ, ◌+◌, ◌%◌, ◌≤◌, ◌<◌}
use native.Mathlib.Omega.{arith}
use mathlib.Core.Path.{◌≡◌, refl, sym, ap, subst, ◌∙◌}
use mathlib.Core.Bool.{Bool, true, false, cond}
use mathlib.Core.List.{List}
use lib.Dec.{eqb, leb}
use lib.ListN.{length, get_or}
use borrow.Author.Tests.{le-leb, lt-leb}
use Rattle.octets.specs.Octets.{part}
use Rattle.card.specs.declared.Card.{Card}
use Rattle.outlet.specs.declared.Ring.{Ring}
use Rattle.outlet.specs.Outlets.{RingFits}
use Rattle.bus.specs.Frame.{cell}
use Rattle.store.specs.Rings.{tail, pushed}
use Rattle.store.specs.Places.{slot_at, inlet_slot, put_at}
use Rattle.shelf.specs.Shelves.{blank}
use Rattle.shelf.specs.declared.Unit as U
use Rattle.state.specs.Bytes.{col, settings_by, place_by, ring_by, unit_by, unit_in, shelf_in, with_ring}
use Rattle.state.proofs.Laws.{unit_at_lem, inlet_put_lem}
use Rattle.state.proofs.Kept.{ring_long, ring_other}
use Rattle.soundness.specs.Soundings.{formed_all}
use Rattle.soundness.proofs.Kept.{formed_ring}
use Rattle.answer.specs.declared.Arrival as A
use Rattle.answer.specs.declared.Arrival.TheVariants.{Inletfull, Queued}
use Rattle.answer.specs.Done.{Done, outcome_of}
use Rattle.answer.specs.Answers.{refused, spread, outcome_by}
use Rattle.soundness.specs.Admission.{decided, unit_at, with_unit, with_inlet, Housed}
use Rattle.soundness.proofs.Laws.{decided_all, decided_both}
use Rattle.soundness.proofs.InPlace.{formed_in, in_place, below_count}
use Rattle.arriving.specs.Arriving.{Way, way_for, way_of, arrived, inlet_full, cell_in, done_by, store_by, done_at, store_at, arrive_done}
use Rattle.arriving.specs.InPlace.{arrived_with, state_by, state_at, comes_in, arrive_state}
use Rattle.arriving.proofs.Leaves.{inlet_inside}

chosen : {X : Type 0} (P : X → Type 0) (t : Bool) {x y : X} → P x → P y → P (cond t x y)
chosen P true px py = px
chosen P false px py = py

-- the bytes after an arrival at a place: as they were, or with one ring written
module _ (b : List ℕ) (place : ℕ) (below : place < 32) where
  abbrev put : List ℕ
  put = with_ring b 14 15 place (pushed (unit_in b place).inlet)

  state_all : (P : List ℕ → Type 0) → P b → P put → (w : Way) → P (state_by w (unit_in b place) b place)
  unfolding state_by
  state_all P was is (Err fate) = was
  state_all P was is (Ok heads) = chosen P (inlet_full (unit_in b place)) was is

  after : length b ≡ 2048 → (w : Way) → shelf_in (state_by w (unit_in b place) b place) ≡ (done_by w (shelf_in b) place).reply.shelf
  unfolding state_by done_by
  after long (Err fate) = refl
  after long (Ok heads) =
      pick (inlet_full (unit_in b place))
      ∙ ap (λ (u : U.Unit). (cond (inlet_full u) (arrived (shelf_in b) place Inletfull) (arrived (with_unit (shelf_in b) place (with_inlet u (pushed u.inlet))) place Queued)).reply.shelf) (sym (unit_at_lem b place blank below))
    where
      pick : (t : Bool) → shelf_in (cond t b put) ≡ (cond t (arrived (shelf_in b) place Inletfull) (arrived (with_unit (shelf_in b) place (with_inlet (unit_in b place) (pushed (unit_in b place).inlet))) place Queued)).reply.shelf
      pick true = refl
      pick false = inlet_put_lem b place (pushed (unit_in b place).inlet) below long

-- by the settings, the place of the records and the inlet that were read
module _ (card : Card) (b : List ℕ) (place : ℕ) (below : place < 32) (memory c : List ℕ) (w : Way) (ew : w ≡ way_for card (settings_by (col b place)) (place_by (col b place)) memory c) where
  same : unit_in b place ≡ unit_at (shelf_in b) place
  same = sym (unit_at_lem b place blank below)

  here : (x : Way) → w ≡ x → x ≡ way_of card (unit_in b place) memory c
  unfolding way_of unit_by
  here x e = sym e ∙ ew

  there : (x : Way) → w ≡ x → x ≡ way_of card (unit_at (shelf_in b) place) memory c
  there x e = here x e ∙ ap (λ u. way_of card u memory c) same

  module _ (fate : A.Arrival) (e : w ≡ Err fate) where
    pub lost_out : outcome_by (arrived_with place fate) ≡ outcome_of (done_at card (shelf_in b) place memory c)
    unfolding done_by spread
    lost_out = ap (λ x. outcome_of (done_by x (shelf_in b) place)) (there (Err fate) e)

    pub lost_state : b ≡ state_at card b place memory c
    unfolding state_by
    lost_state = ap (λ x. state_by x (unit_in b place) b place) (here (Err fate) e)

    pub lost_store : (store : List ℕ) → store ≡ store_at card (shelf_in b) place memory store c
    unfolding store_by
    lost_store store = ap (λ x. store_by x (unit_at (shelf_in b) place) place store c) (there (Err fate) e)

  module _ (routing header : ℕ) (e : w ≡ Ok (record { routing = routing; header = header })) (ring : Ring) (er : ring ≡ ring_by (col b place) 14 15) where
    inlet_here : ring ≡ (unit_in b place).inlet
    unfolding unit_by
    inlet_here = er

    inlet_there : ring ≡ (unit_at (shelf_in b) place).inlet
    inlet_there = inlet_here ∙ ap (λ (u : U.Unit). u.inlet) same

    out_by : (t : Bool) → leb 4 ring.count ≡ t → outcome_of (cond t (arrived (shelf_in b) place Inletfull) (arrived (cell_in (shelf_in b) place) place Queued)) ≡ outcome_of (done_at card (shelf_in b) place memory c)
    unfolding done_by
    out_by t h =
        ap (λ x. outcome_of (cond x (arrived (shelf_in b) place Inletfull) (arrived (cell_in (shelf_in b) place) place Queued))) (sym h ∙ ap (λ (r : Ring). leb 4 r.count) inlet_there)
        ∙ ap (λ x. outcome_of (done_by x (shelf_in b) place)) (there (Ok (record { routing = routing; header = header })) e)

    state_by_lem : (t : Bool) → leb 4 ring.count ≡ t → cond t b (with_ring b 14 15 place (pushed ring)) ≡ state_at card b place memory c
    unfolding state_by
    state_by_lem t h =
        ap (λ x. cond x b (with_ring b 14 15 place (pushed ring))) (sym h)
        ∙ ap (λ (r : Ring). cond (leb 4 r.count) b (with_ring b 14 15 place (pushed r))) inlet_here
        ∙ ap (λ x. state_by x (unit_in b place) b place) (here (Ok (record { routing = routing; header = header })) e)

    store_by_lem : (t : Bool) → leb 4 ring.count ≡ t → (store : List ℕ) → cond t store (put_at store place (inlet_slot (tail ring 4)) (cell routing 0 header (part c 5 48))) ≡ store_at card (shelf_in b) place memory store c
    unfolding store_by
    store_by_lem t h store =
        ap (λ x. cond x store (put_at store place (inlet_slot (tail ring 4)) (cell routing 0 header (part c 5 48)))) (sym h)
        ∙ ap (λ (r : Ring). cond (leb 4 r.count) store (put_at store place (inlet_slot (tail r 4)) (cell routing 0 header (part c 5 48)))) inlet_there
        ∙ ap (λ x. store_by x (unit_at (shelf_in b) place) place store c) (there (Ok (record { routing = routing; header = header })) e)

    pub inlet_room : (bytes : ℕ) → Housed place (unit_in b place) bytes → ring.count < 4 → slot_at place (inlet_slot (tail ring 4)) + 56 ≤ bytes
    inlet_room bytes h k = inlet_inside place bytes ring h.inside (subst (λ r. RingFits r 4) (sym inlet_here) h.inlet) k

    module _ (h : 4 ≤ ring.count) where
      pub full_out : outcome_by (arrived_with place Inletfull) ≡ outcome_of (done_at card (shelf_in b) place memory c)
      unfolding spread
      full_out = out_by true (le-leb 4 ring.count h)

      pub full_state : b ≡ state_at card b place memory c
      full_state = state_by_lem true (le-leb 4 ring.count h)

      pub full_store : (store : List ℕ) → store ≡ store_at card (shelf_in b) place memory store c
      full_store = store_by_lem true (le-leb 4 ring.count h)

    module _ (h : ring.count < 4) where
      pub queued_out : outcome_by (arrived_with place Queued) ≡ outcome_of (done_at card (shelf_in b) place memory c)
      unfolding spread
      queued_out = out_by false (lt-leb 4 ring.count h)

      pub queued_state : with_ring b 14 15 place (pushed ring) ≡ state_at card b place memory c
      queued_state = state_by_lem false (lt-leb 4 ring.count h)

      pub queued_store : (store : List ℕ) → put_at store place (inlet_slot (tail ring 4)) (cell routing 0 header (part c 5 48)) ≡ store_at card (shelf_in b) place memory store c
      queued_store = store_by_lem false (lt-leb 4 ring.count h)

-- one row changes, that of the unit
pub out_fits : (w : Way) (b : List ℕ) (place rows : ℕ) → place < 32 → place < rows →
    ((outcome_of (done_by w (shelf_in b) place)).rises.to ≤ 32) × ((outcome_of (done_by w (shelf_in b) place)).rises.to ≤ rows)
unfolding done_by
out_fits (Err fate) b place rows h k = (omega arith, omega arith)
out_fits (Ok heads) b place rows h k =
    chosen (λ (x : Done). (x.rises.to ≤ 32) × (x.rises.to ≤ rows)) (inlet_full (unit_at (shelf_in b) place)) (omega arith, omega arith) (omega arith, omega arith)

-- The tie: of bytes that are a state, an arrival leaves the shelf that 01's Arrival leaves, and a state
module _ (card : Card) (b memory : List ℕ) (store rows unit : ℕ) (c : List ℕ) (long : length b ≡ 2048) where
  abbrev state : List ℕ
  state = arrive_state card b memory store rows unit c

  abbrev within : ℕ → List ℕ
  within place = state_at card b place memory c

  below : (i : ℕ) → comes_in card b store rows unit c ≡ Ok i → i < 32
  below i e = (in_place card b store rows unit (eqb (length c) 53) i e).below

  -- what holds of the bytes as they were, and with the inlet's ring of the unit written, holds of them afterwards
  arrive_all : (P : List ℕ → Type 0) → P b → ((i : ℕ) → comes_in card b store rows unit c ≡ Ok i → (h : i < 32) → P (put b i h)) → P state
  arrive_all P was is =
      decided_all P within (λ number. b) (comes_in card b store rows unit c)
      (λ i e. state_all b i (below i e) P was (is i e (below i e)) (way_of card (unit_in b i) memory c))
      (λ number. was)

  pub arrive_decodes : formed_all b ≡ true → shelf_in state ≡ (arrive_done card (shelf_in b) memory store rows unit c).reply.shelf
  arrive_decodes formed =
      decided_both shelf_in (λ (d : Done). d.reply.shelf) within (λ number. b) (λ place. done_at card (shelf_in b) place memory c) (refused (shelf_in b)) (comes_in card b store rows unit c)
      (λ i e.
      after b i (below i e) long (way_of card (unit_in b i) memory c)
      ∙ ap (λ u. (done_by (way_of card u memory c) (shelf_in b) i).reply.shelf) (sym (unit_at_lem b i blank (below i e))))
      (λ number. refl)
      ∙ ap (λ d. (decided d (λ place. done_at card (shelf_in b) place memory c) (refused (shelf_in b))).reply.shelf) (formed_in card b store rows unit (eqb (length c) 53) formed)

  pub arrive_formed : formed_all b ≡ true → formed_all state ≡ true
  arrive_formed formed =
      arrive_all (λ x. formed_all x ≡ true) formed
      (λ i e h. formed_ring b 14 15 i (pushed (unit_in b i).inlet) (omega arith) (omega arith) (omega arith) (omega arith) h ∙ formed)

  pub arrive_long : length state ≡ 2048
  arrive_long = arrive_all (λ x. length x ≡ 2048) long (λ i e h. ring_long b 14 15 i (pushed (unit_in b i).inlet) ∙ long)

  -- every byte but those of the unit's inlet is as it was
  pub arrive_other : (k : ℕ) → ((i : ℕ) → comes_in card b store rows unit c ≡ Ok i → 448 ≤ k → k < 768 → k % 32 ≡ i → ⊥) → get_or state k 0 ≡ get_or b k 0
  arrive_other k apart =
      arrive_all (λ x. get_or x k 0 ≡ get_or b k 0) refl
      (λ i e h. ring_other b 14 15 i (pushed (unit_in b i).inlet) k (λ x. apart i e (omega arith) (omega arith) (omega arith)) (λ x. apart i e (omega arith) (omega arith) (omega arith)))

  -- free bytes and sessions; columns 0 to 13; undeclared places
  pub arrive_free : (k : ℕ) → 768 ≤ k → get_or state k 0 ≡ get_or b k 0
  arrive_free k h = arrive_other k (λ i e p q r. omega arith)

  pub arrive_kept : (k : ℕ) → k < 448 → get_or state k 0 ≡ get_or b k 0
  arrive_kept k h = arrive_other k (λ i e p q r. omega arith)

  pub arrive_others : (k : ℕ) → get_or b 805 0 ≤ k % 32 → get_or state k 0 ≡ get_or b k 0
  arrive_others k h =
      arrive_other k (λ i e p q r.
      let n = below_count card b store rows unit (eqb (length c) 53) i (in_place card b store rows unit (eqb (length c) 53) i e) in
      omega arith)
