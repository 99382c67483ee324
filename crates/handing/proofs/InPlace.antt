-- How a hand and a collect at lent bytes end, and that the bytes are then the shelf after it. Assumes nothing.
use Rattle.std.specs.Prelude.{Ok}
use Prim.Native.Nat.{ℕ, ◌+◌, ◌%◌, ◌≤◌, ◌<◌}
use native.Mathlib.Omega.{arith}
use mathlib.Core.Path.{◌≡◌, refl, sym, ap, subst, ◌∙◌}
use mathlib.Core.Bool.{Bool, true, false, cond}
use mathlib.Core.List.{List}
use lib.Dec.{eqb, leb}
use lib.ListN.{length, get_or}
use lib.Seq.{take_all}
use Rattle.octets.specs.Octets.{splice}
use Rattle.octets.proofs.Parts.{copied}
use Rattle.card.specs.declared.Card.{Card}
use Rattle.outlet.specs.Outlets.{RingFits}
use Rattle.outlet.specs.declared.Ring.{Ring}
use Rattle.store.specs.Places.{Cell, slot_at, control_in_slot, control_out_slot, cell_at, put_at}
use Rattle.store.specs.Rings.{popped}
use Rattle.store.proofs.Slots.{slot_inside}
use Rattle.shelf.specs.Shelves.{blank}
use Rattle.shelf.specs.declared.Unit as U
use Rattle.shelf.specs.Shelf.{Shelf}
use Rattle.state.specs.Bytes.{col, ring_by, unit_by, unit_in, shelf_in, with_ring, with_byte}
use Rattle.state.proofs.Laws.{unit_at_lem, controlin_put, controlout_put}
use Rattle.state.proofs.Kept.{byte_long, byte_other, ring_long, ring_other}
use Rattle.soundness.specs.Soundings.{formed_all}
use Rattle.soundness.proofs.Kept.{formed_byte, formed_ring}
use Rattle.answer.specs.declared.Answer.TheVariants.{Taken, Empty, Handed}
use Rattle.answer.specs.Done.{Done, outcome_of}
use Rattle.answer.specs.Answers.{#taken, none, row, ends, refused}
use Rattle.soundness.specs.Admission.{decided, unit_at, with_unit, Housed}
use Rattle.soundness.proofs.Laws.{decided_all, decided_both}
use Rattle.soundness.proofs.InPlace.{formed_in, in_place, below_count}
use Rattle.handing.specs.Hands.{busy, handed_to, hand_at, hand_store_at, hand_done}
use Rattle.handing.specs.Collects.{bare, collected_from, collect_at, collect_buffer_at, collect_done}
use Rattle.handing.specs.InPlace.{comes_in, hand_state_at, hand_state, collect_state_at, collect_state}

chosen : {X : Type 0} (P : X → Type 0) (t : Bool) {x y : X} → P x → P y → P (cond t x y)
chosen P true px py = px
chosen P false px py = py

module _ (b : List ℕ) (place : ℕ) (below : place < 32) where
  same : unit_in b place ≡ unit_at (shelf_in b) place
  same = sym (unit_at_lem b place blank below)

  -- hand, by the byte that was read
  module _ (n : ℕ) (en : n ≡ col b place 26) (t : Bool) (h : leb 1 n ≡ t) where
    busy_here : t ≡ busy (unit_in b place)
    unfolding unit_by
    busy_here = sym h ∙ ap (leb 1) en

    busy_there : t ≡ busy (unit_at (shelf_in b) place)
    busy_there = busy_here ∙ ap busy same

    pub hand_out_by : outcome_of (cond t (refused (shelf_in b) 11) (ends Handed (with_unit (shelf_in b) place (handed_to (unit_at (shelf_in b) place))) none)) ≡ outcome_of (hand_at (shelf_in b) place)
    hand_out_by = ap (λ x. outcome_of (cond x (refused (shelf_in b) 11) (ends Handed (with_unit (shelf_in b) place (handed_to (unit_at (shelf_in b) place))) none))) busy_there

    pub hand_state_by : cond t b (with_byte b 26 place 1) ≡ hand_state_at b place
    hand_state_by = ap (λ x. cond x b (with_byte b 26 place 1)) busy_here

    pub hand_store_by : (store : List ℕ) (cell : Cell) → cond t store (put_at store place control_in_slot cell) ≡ hand_store_at (shelf_in b) place store cell
    hand_store_by store cell = ap (λ x. cond x store (put_at store place control_in_slot cell)) busy_there

  -- collect, by the ring that was read
  module _ (ring : Ring) (er : ring ≡ ring_by (col b place) 28 29) where
    ring_here : ring ≡ (unit_in b place).side.controlout
    unfolding unit_by
    ring_here = er

    ring_there : ring ≡ (unit_at (shelf_in b) place).side.controlout
    ring_there = ring_here ∙ ap (λ (u : U.Unit). u.side.controlout) same

    -- the oldest cell lies in the store
    pub oldest_inside : (bytes : ℕ) → Housed place (unit_in b place) bytes → slot_at place (control_out_slot ring.head) + 56 ≤ bytes
    oldest_inside bytes h =
        let fits = subst (λ r. RingFits r 4) (sym ring_here) h.side.controlout in
        let few = fits.place (omega arith) in
        omega (arith, (slot_inside place (control_out_slot ring.head) (omega arith)).1, h.inside)

    module _ (t : Bool) (h : eqb ring.count 0 ≡ t) where
      bare_there : t ≡ bare (unit_at (shelf_in b) place)
      bare_there = sym h ∙ ap (λ (r : Ring). eqb r.count 0) ring_there

      pub collect_out_by : outcome_of (cond t (ends Empty (shelf_in b) none) (ends Taken (with_unit (shelf_in b) place (collected_from (unit_at (shelf_in b) place))) (row place #taken))) ≡ outcome_of (collect_at (shelf_in b) place)
      collect_out_by = ap (λ x. outcome_of (cond x (ends Empty (shelf_in b) none) (ends Taken (with_unit (shelf_in b) place (collected_from (unit_at (shelf_in b) place))) (row place #taken)))) bare_there

      pub collect_state_by : cond t b (with_ring b 28 29 place (popped ring 4)) ≡ collect_state_at b place
      collect_state_by =
          ap (λ x. cond x b (with_ring b 28 29 place (popped ring 4))) (sym h)
          ∙ ap (λ (r : Ring). cond (eqb r.count 0) b (with_ring b 28 29 place (popped r 4))) ring_here

      pub collect_buffer_by : (store buffer : List ℕ) → cond t buffer (cell_at store place (control_out_slot ring.head)) ≡ collect_buffer_at (shelf_in b) place store buffer
      collect_buffer_by store buffer =
          ap (λ x. cond x buffer (cell_at store place (control_out_slot ring.head))) (sym h)
          ∙ ap (λ (r : Ring). cond (eqb r.count 0) buffer (cell_at store place (control_out_slot r.head))) ring_there

  -- the shelf that the bytes are afterwards
  module _ (long : length b ≡ 2048) where
    hand_at_decodes : shelf_in (hand_state_at b place) ≡ (hand_at (shelf_in b) place).reply.shelf
    hand_at_decodes =
        pick (busy (unit_in b place))
        ∙ ap (λ (u : U.Unit). (cond (busy u) (refused (shelf_in b) 11) (ends Handed (with_unit (shelf_in b) place (handed_to u)) none)).reply.shelf) same
      where
        pick : (t : Bool) → shelf_in (cond t b (with_byte b 26 place 1)) ≡ (cond t (refused (shelf_in b) 11) (ends Handed (with_unit (shelf_in b) place (handed_to (unit_in b place))) none)).reply.shelf
        pick true = refl
        pick false = controlin_put b place 1 below long

    collect_at_decodes : shelf_in (collect_state_at b place) ≡ (collect_at (shelf_in b) place).reply.shelf
    collect_at_decodes =
        pick (bare (unit_in b place))
        ∙ ap (λ (u : U.Unit). (cond (bare u) (ends Empty (shelf_in b) none) (ends Taken (with_unit (shelf_in b) place (collected_from u)) (row place #taken))).reply.shelf) same
      where
        pick : (t : Bool) → shelf_in (cond t b (with_ring b 28 29 place (popped (unit_in b place).side.controlout 4))) ≡ (cond t (ends Empty (shelf_in b) none) (ends Taken (with_unit (shelf_in b) place (collected_from (unit_in b place))) (row place #taken))).reply.shelf
        pick true = refl
        pick false = controlout_put b place (popped (unit_in b place).side.controlout 4) below long

-- a cell over a buffer of its length
pub buffer_filled : (buffer cell : List ℕ) → length buffer ≡ 56 → length cell ≡ 56 → splice buffer 0 cell ≡ cell
buffer_filled buffer cell lb lc = ap (splice buffer 0) (sym (take_all 56 cell (omega (arith, lc)))) ∙ copied 56 buffer cell lb lc

-- the control cell's slot lies in the store
pub control_inside : (place bytes : ℕ) (u : U.Unit) → Housed place u bytes → slot_at place control_in_slot + 56 ≤ bytes
control_inside place bytes u h = omega (arith, (slot_inside place control_in_slot (omega arith)).1, h.inside)

-- one row changes by a collect, or none
pub collect_fits : (shelf : Shelf) (place rows : ℕ) → place < 32 → place < rows → ((outcome_of (collect_at shelf place)).rises.to ≤ 32) × ((outcome_of (collect_at shelf place)).rises.to ≤ rows)
collect_fits shelf place rows h k =
    chosen (λ (x : Done). (x.rises.to ≤ 32) × (x.rises.to ≤ rows)) (bare (unit_at shelf place)) (omega arith, omega arith) (omega arith, omega arith)

-- The tie: of bytes that are a state, a hand and a collect leave the shelf that 02's W1 leaves, and a state
module _ (card : Card) (b : List ℕ) (store rows unit n : ℕ) (long : length b ≡ 2048) where
  below : (i : ℕ) → comes_in card b store rows unit n ≡ Ok i → i < 32
  below i e = (in_place card b store rows unit (eqb n 56) i e).below

  -- below the number of declared units
  under : (i : ℕ) → comes_in card b store rows unit n ≡ Ok i → i < get_or b 805 0
  under i e = below_count card b store rows unit (eqb n 56) i (in_place card b store rows unit (eqb n 56) i e)

  abbrev after_hand : List ℕ
  after_hand = hand_state card b store rows unit n

  -- what holds of the bytes as they were, and with the unit's control cell written, holds of them afterwards
  hand_all : (P : List ℕ → Type 0) → P b → ((i : ℕ) → comes_in card b store rows unit n ≡ Ok i → P (with_byte b 26 i 1)) → P after_hand
  hand_all P was is =
      decided_all P (hand_state_at b) (λ number. b) (comes_in card b store rows unit n)
      (λ i e. chosen P (busy (unit_in b i)) was (is i e))
      (λ number. was)

  pub hand_decodes : formed_all b ≡ true → shelf_in after_hand ≡ (hand_done card (shelf_in b) store rows unit n).reply.shelf
  hand_decodes formed =
      decided_both shelf_in (λ (d : Done). d.reply.shelf) (hand_state_at b) (λ number. b) (hand_at (shelf_in b)) (refused (shelf_in b)) (comes_in card b store rows unit n)
      (λ i e. hand_at_decodes b i (below i e) long)
      (λ number. refl)
      ∙ ap (λ d. (decided d (hand_at (shelf_in b)) (refused (shelf_in b))).reply.shelf) (formed_in card b store rows unit (eqb n 56) formed)

  pub hand_formed : formed_all b ≡ true → formed_all after_hand ≡ true
  hand_formed formed = hand_all (λ x. formed_all x ≡ true) formed (λ i e. formed_byte b 26 i 1 (omega arith) (omega arith) (below i e) ∙ formed)

  pub hand_long : length after_hand ≡ 2048
  hand_long = hand_all (λ x. length x ≡ 2048) long (λ i e. byte_long b 26 i 1 ∙ long)

  -- every byte but that of the unit's control cell is as it was
  pub hand_other : (k : ℕ) → ((i : ℕ) → comes_in card b store rows unit n ≡ Ok i → 832 ≤ k → k < 864 → k % 32 ≡ i → ⊥) → get_or after_hand k 0 ≡ get_or b k 0
  hand_other k apart =
      hand_all (λ x. get_or x k 0 ≡ get_or b k 0) refl
      (λ i e. let h = below i e in byte_other b 26 i 1 k (λ x. apart i e (omega arith) (omega arith) (omega arith)))

  -- columns 0 to 25; from column 27 on; undeclared places
  pub hand_kept : (k : ℕ) → k < 832 → get_or after_hand k 0 ≡ get_or b k 0
  hand_kept k h = hand_other k (λ i e p q r. omega arith)

  pub hand_free : (k : ℕ) → 864 ≤ k → get_or after_hand k 0 ≡ get_or b k 0
  hand_free k h = hand_other k (λ i e p q r. omega arith)

  pub hand_others : (k : ℕ) → get_or b 805 0 ≤ k % 32 → get_or after_hand k 0 ≡ get_or b k 0
  hand_others k h = hand_other k (λ i e p q r. let c = under i e in omega arith)

  abbrev after_collect : List ℕ
  after_collect = collect_state card b store rows unit n

  abbrev left : ℕ → Ring
  left i = popped (unit_in b i).side.controlout 4

  -- what holds of the bytes as they were, and with the ring of the unit's control outlet written, holds of them afterwards
  collect_all : (P : List ℕ → Type 0) → P b → ((i : ℕ) → comes_in card b store rows unit n ≡ Ok i → P (with_ring b 28 29 i (left i))) → P after_collect
  collect_all P was is =
      decided_all P (collect_state_at b) (λ number. b) (comes_in card b store rows unit n)
      (λ i e. chosen P (bare (unit_in b i)) was (is i e))
      (λ number. was)

  pub collect_decodes : formed_all b ≡ true → shelf_in after_collect ≡ (collect_done card (shelf_in b) store rows unit n).reply.shelf
  collect_decodes formed =
      decided_both shelf_in (λ (d : Done). d.reply.shelf) (collect_state_at b) (λ number. b) (collect_at (shelf_in b)) (refused (shelf_in b)) (comes_in card b store rows unit n)
      (λ i e. collect_at_decodes b i (below i e) long)
      (λ number. refl)
      ∙ ap (λ d. (decided d (collect_at (shelf_in b)) (refused (shelf_in b))).reply.shelf) (formed_in card b store rows unit (eqb n 56) formed)

  pub collect_formed : formed_all b ≡ true → formed_all after_collect ≡ true
  collect_formed formed =
      collect_all (λ x. formed_all x ≡ true) formed
      (λ i e. formed_ring b 28 29 i (left i) (omega arith) (omega arith) (omega arith) (omega arith) (below i e) ∙ formed)

  pub collect_long : length after_collect ≡ 2048
  collect_long = collect_all (λ x. length x ≡ 2048) long (λ i e. ring_long b 28 29 i (left i) ∙ long)

  -- every byte but those of the unit's control outlet is as it was
  pub collect_other : (k : ℕ) → ((i : ℕ) → comes_in card b store rows unit n ≡ Ok i → 896 ≤ k → k < 960 → k % 32 ≡ i → ⊥) → get_or after_collect k 0 ≡ get_or b k 0
  collect_other k apart =
      collect_all (λ x. get_or x k 0 ≡ get_or b k 0) refl
      (λ i e. let h = below i e in ring_other b 28 29 i (left i) k (λ x. apart i e (omega arith) (omega arith) (omega arith)) (λ x. apart i e (omega arith) (omega arith) (omega arith)))

  -- columns 0 to 27; from column 30 on; undeclared places
  pub collect_kept : (k : ℕ) → k < 896 → get_or after_collect k 0 ≡ get_or b k 0
  collect_kept k h = collect_other k (λ i e p q r. omega arith)

  pub collect_free : (k : ℕ) → 960 ≤ k → get_or after_collect k 0 ≡ get_or b k 0
  collect_free k h = collect_other k (λ i e p q r. omega arith)

  pub collect_others : (k : ℕ) → get_or b 805 0 ≤ k % 32 → get_or after_collect k 0 ≡ get_or b k 0
  collect_others k h = collect_other k (λ i e p q r. let c = under i e in omega arith)
