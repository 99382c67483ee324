-- A unit sends; a frame ends. Assumes nothing.
use Rattle.std.proofs.Common.{◌≡◌, ℕ, ◌+◌, ◌*◌, ◌<◌, ◌≤◌, min, Bool, true, false, cond, leb, List, [], ◌∷◌, length, get_or, take, set, replicate, sym, refl, ap, ◌∙◌, subst, arith, length-append, length-set, length-take, get_or-set_other, get_or-set_same, take_at, eq-eqb, ne_eqb, le-leb}
use lib.Bits.{bit_or}
use borrow.Author.Tests.{lt-leb}
use Rattle.octets.specs.Octets.{part}
use Rattle.arbiter.proofs.Requests.{same_or}
use Rattle.bus.specs.Frame.{parity, sealed, heard}
use Rattle.bus.specs.Heard as H
use Rattle.store.specs.Rings.{popped}
use Rattle.store.specs.Places.{slot_at, inlet_slot, control_in_slot, loopback_in_slot, cell_at}
use Rattle.store.proofs.Rounds.{popped_fits}
use Rattle.store.proofs.Slots.{slot_inside}
use Rattle.shelf.specs.Shelves.{declared, blank}
use Rattle.shelf.specs.declared.Side.{Side}
use Rattle.shelf.specs.declared.Unit as U
use Rattle.shelf.specs.Shelf.{Shelf}
use Rattle.shelf.proofs.Finding.{declared_length}
use Rattle.state.specs.Bytes.{col, ring_by, unit_by, unit_in, shelf_in, with_ring, with_byte}
use Rattle.state.proofs.Laws.{units_length, unit_at_lem, inlet_put_lem, controlin_put, loopbackin_put}
use Rattle.state.proofs.Kept.{Column, byte_long, byte_other, ring_long, ring_other}
use Rattle.soundness.specs.Soundings.{formed_all}
use Rattle.soundness.proofs.Kept.{formed_byte, formed_ring}
use Rattle.soundness.specs.Admission.{unit_at, with_unit, with_inlet, with_side, Housed}
use Rattle.framing.specs.Sending.{sent_rises, heard_by_all, heard_store, send_slot, unit_out, sent_frame, cell_out, sent_by, sent_store, AllHoused}
use Rattle.framing.specs.Frames.{checked}
use Rattle.framing.specs.Scenes.{Tally, heeded_of, heeded_by, AllHousedIn}
use Rattle.framing.specs.InPlace.{out_state, sent_state}
use Rattle.framing.proofs.Decoded.{heeded_uncounted, shelf_heard, tally_heard, store_heard}

-- the oldest cell of an inlet lies in the store, and so does the cell that a unit sends
pub head_inside : (place bytes : ℕ) (u : U.Unit) → Housed place u bytes → slot_at place (inlet_slot u.inlet.head) + 56 ≤ bytes
head_inside place bytes u h =
    let head = h.inlet.place (omega arith) in
    omega (arith, (slot_inside place (inlet_slot u.inlet.head) (omega (arith, head))).1, h.inside)

pub send_below : (place bytes : ℕ) (u : U.Unit) → Housed place u bytes → send_slot u < 146
unfolding send_slot
send_below place bytes u h = by (leb 1 u.inlet.count) (leb 1 u.side.controlin)
  where
    by : (s t : Bool) → cond s (inlet_slot u.inlet.head) (cond t control_in_slot loopback_in_slot) < 146
    by true t = let head = h.inlet.place (omega arith) in omega arith
    by false true = omega arith
    by false false = omega arith

pub send_inside : (place bytes : ℕ) (u : U.Unit) → Housed place u bytes → slot_at place (send_slot u) + 56 ≤ bytes
send_inside place bytes u h = omega (arith, (slot_inside place (send_slot u) (send_below place bytes u h)).1, h.inside)

-- a frame has 57 bytes
pub sealed_length : (cell : List ℕ) → length cell ≡ 56 → length (sealed cell) ≡ 57
unfolding sealed
sealed_length cell e = length-append cell (parity cell ∷ []) ∙ ap (λ n. n + 1) e

-- and begins with its cell
pub sealed_cell : (cell frame : List ℕ) → length cell ≡ 56 → frame ≡ sealed cell → take 56 frame ≡ cell
unfolding sealed
sealed_cell cell frame full e = ap (take 56) e ∙ take_at cell (parity cell ∷ []) 56 full

-- a unit without the cell that it sends is housed as before, and so are the others
abbrev control_gone : U.Unit → Side
control_gone u = record { controlin = 0; loopbackin = u.side.loopbackin; controlout = u.side.controlout; loopbackout = u.side.loopbackout }

abbrev loopback_gone : U.Unit → Side
loopback_gone u = record { controlin = u.side.controlin; loopbackin = 0; controlout = u.side.controlout; loopbackout = u.side.loopbackout }

pub unit_housed : (place bytes : ℕ) (u : U.Unit) → Housed place u bytes → Housed place (unit_out u) bytes
unfolding unit_out
unit_housed place bytes u h = by (leb 1 u.inlet.count) (leb 1 u.side.controlin)
  where
    by : (s t : Bool) → Housed place (cond s (with_inlet u (popped u.inlet 4)) (cond t (with_side u (control_gone u)) (with_side u (loopback_gone u)))) bytes
    by true t = record { below = h.below; inside = h.inside; limits = h.limits; queues = h.queues; inlet = popped_fits 4 u.inlet h.inlet; side = h.side }
    by false true = record { below = h.below; inside = h.inside; limits = h.limits; queues = h.queues; inlet = h.inlet; side = record { controlout = h.side.controlout; controlin = omega arith; loopbackin = h.side.loopbackin; loopbackout = h.side.loopbackout } }
    by false false = record { below = h.below; inside = h.inside; limits = h.limits; queues = h.queues; inlet = h.inlet; side = record { controlout = h.side.controlout; controlin = h.side.controlin; loopbackin = omega arith; loopbackout = h.side.loopbackout } }

module _ (shelf : Shelf) (place bytes : ℕ) (u : U.Unit) (same : u ≡ unit_at shelf place) where
  abbrev after : Shelf
  after = with_unit shelf place (unit_out u)

  as_many : length (declared after) ≡ length (declared shelf)
  as_many =
      length-take shelf.count (set shelf.units place (unit_out u)) ∙ ap (min shelf.count) (length-set shelf.units place (unit_out u))
      ∙ sym (length-take shelf.count shelf.units)

  pub out_housed : place < length (declared shelf) → AllHoused shelf bytes → AllHoused after bytes
  out_housed inside all i h =
      let k : i < length (declared shelf) = omega (arith, as_many, h) in
      let there : place < length shelf.units = omega (arith, length-take shelf.count shelf.units, inside) in
      let old = subst (λ x. Housed place x bytes) (sym same) (all place inside) in
      same_or i place
      (λ e. subst (λ n. Housed n (unit_at after n) bytes) (sym e) (subst (λ x. Housed place x bytes) (sym (get_or-set_same shelf.units place (unit_out u) blank there)) (unit_housed place bytes u old)))
      (λ other. subst (λ x. Housed i x bytes) (sym (get_or-set_other shelf.units place i (unit_out u) blank other)) (all i k))

-- each declared unit of lent bytes has its part of the store, and so has each of their shelf
module _ (b : List ℕ) (bytes : ℕ) where
  many : length (declared (shelf_in b)) ≡ min (get_or b 805 0) 32
  many = declared_length (shelf_in b) (units_length b 0 32)

  pub housed_in : AllHoused (shelf_in b) bytes → AllHousedIn b bytes
  housed_in all i h = subst (λ u. Housed i u bytes) (unit_at_lem b i blank (omega arith)) (all i (omega (arith, many)))

  pub housed_out : AllHousedIn b bytes → AllHoused (shelf_in b) bytes
  housed_out all i h = let m = many in subst (λ u. Housed i u bytes) (sym (unit_at_lem b i blank (omega arith))) (all i (omega arith))

-- what a unit of lent bytes sends, and what is left, by what is read of its bytes: data, then control, then loopback
module _ (b : List ℕ) (place : ℕ) where
  pub data_first : 1 ≤ col b place 15 → (slot_at place (inlet_slot (col b place 14)) ≡ slot_at place (send_slot (unit_in b place))) × (with_ring b 14 15 place (popped (ring_by (col b place) 14 15) 4) ≡ out_state b place)
  unfolding send_slot out_state unit_by
  data_first h = let e = sym (le-leb 1 (col b place 15) h) in (
    ap (λ x. slot_at place (cond x (inlet_slot (col b place 14)) (cond (leb 1 (col b place 26)) control_in_slot loopback_in_slot))) e,
    ap (λ x. cond x (with_ring b 14 15 place (popped (ring_by (col b place) 14 15) 4)) (cond (leb 1 (col b place 26)) (with_byte b 26 place 0) (with_byte b 27 place 0))) e,
  )

  module _ (empty : col b place 15 < 1) where
    pub control_next : 1 ≤ col b place 26 → (slot_at place control_in_slot ≡ slot_at place (send_slot (unit_in b place))) × (with_byte b 26 place 0 ≡ out_state b place)
    unfolding send_slot out_state unit_by
    control_next h = let e = sym (lt-leb 1 (col b place 15) empty) in let f = sym (le-leb 1 (col b place 26) h) in (
      (λ t. slot_at place (cond (e t) (inlet_slot (col b place 14)) (cond (f t) control_in_slot loopback_in_slot))),
      (λ t. cond (e t) (with_ring b 14 15 place (popped (ring_by (col b place) 14 15) 4)) (cond (f t) (with_byte b 26 place 0) (with_byte b 27 place 0))),
    )

    pub loopback_last : col b place 26 < 1 → (slot_at place loopback_in_slot ≡ slot_at place (send_slot (unit_in b place))) × (with_byte b 27 place 0 ≡ out_state b place)
    unfolding send_slot out_state unit_by
    loopback_last h = let e = sym (lt-leb 1 (col b place 15) empty) in let f = sym (lt-leb 1 (col b place 26) h) in (
      (λ t. slot_at place (cond (e t) (inlet_slot (col b place 14)) (cond (f t) control_in_slot loopback_in_slot))),
      (λ t. cond (e t) (with_ring b 14 15 place (popped (ring_by (col b place) 14 15) 4)) (cond (f t) (with_byte b 26 place 0) (with_byte b 27 place 0))),
    )

  -- what holds of the bytes with any of the three places written
  out_any : (P : List ℕ → Type 0) → P (with_ring b 14 15 place (popped (unit_in b place).inlet 4)) → P (with_byte b 26 place 0) → P (with_byte b 27 place 0) → P (out_state b place)
  unfolding out_state
  out_any P x y z = by (leb 1 (unit_in b place).inlet.count) (leb 1 (unit_in b place).side.controlin)
    where
      by : (s t : Bool) → P (cond s (with_ring b 14 15 place (popped (unit_in b place).inlet 4)) (cond t (with_byte b 26 place 0) (with_byte b 27 place 0)))
      by true t = x
      by false true = y
      by false false = z

  pub out_kept : length (out_state b place) ≡ length b
  out_kept = out_any (λ x. length x ≡ length b) (ring_long b 14 15 place (popped (unit_in b place).inlet 4)) (byte_long b 26 place 0) (byte_long b 27 place 0)

  pub out_other : (k : ℕ) → ((c : ℕ) → 14 ≤ c → Column c → k ≡ c * 32 + place → ⊥) → get_or (out_state b place) k 0 ≡ get_or b k 0
  out_other k ne =
      out_any (λ x. get_or x k 0 ≡ get_or b k 0)
      (ring_other b 14 15 place (popped (unit_in b place).inlet 4) k (ne 14 (omega arith) (omega arith)) (ne 15 (omega arith) (omega arith)))
      (byte_other b 26 place 0 k (ne 26 (omega arith) (omega arith)))
      (byte_other b 27 place 0 k (ne 27 (omega arith) (omega arith)))

  module _ (hi : place < 32) where
    pub out_formed : formed_all (out_state b place) ≡ formed_all b
    out_formed =
        out_any (λ x. formed_all x ≡ formed_all b)
        (formed_ring b 14 15 place (popped (unit_in b place).inlet 4) (omega arith) (omega arith) (omega arith) (omega arith) hi)
        (formed_byte b 26 place 0 (omega arith) (omega arith) hi)
        (formed_byte b 27 place 0 (omega arith) (omega arith) hi)

    pub out_put : length b ≡ 2048 → shelf_in (out_state b place) ≡ with_unit (shelf_in b) place (unit_out (unit_in b place))
    unfolding out_state unit_out
    out_put long = by (leb 1 u.inlet.count) (leb 1 u.side.controlin)
      where
        u : U.Unit
        u = unit_in b place

        by : (s t : Bool) → shelf_in (cond s (with_ring b 14 15 place (popped u.inlet 4)) (cond t (with_byte b 26 place 0) (with_byte b 27 place 0)))
            ≡ with_unit (shelf_in b) place (cond s (with_inlet u (popped u.inlet 4)) (cond t (with_side u (control_gone u)) (with_side u (loopback_gone u))))
        by true t = inlet_put_lem b place (popped u.inlet 4) hi long
        by false true = controlin_put b place 0 hi long
        by false false = loopbackin_put b place 0 hi long

-- a unit of lent bytes sends
module _ (b : List ℕ) (place : ℕ) (store : List ℕ) (long : length b ≡ 2048) (inside : place < min (get_or b 805 0) 32) where
  here : unit_at (shelf_in b) place ≡ unit_in b place
  here = unit_at_lem b place blank (omega arith)

  pub out_shelf : shelf_in (out_state b place) ≡ cell_out (shelf_in b) place
  unfolding cell_out
  out_shelf = out_put b place (omega arith) long ∙ ap (λ u. with_unit (shelf_in b) place (unit_out u)) (sym here)

  pub out_long : length (out_state b place) ≡ 2048
  out_long = out_kept b place ∙ long

  pub out_housed_in : (bytes : ℕ) → AllHousedIn b bytes → AllHousedIn (out_state b place) bytes
  unfolding cell_out
  out_housed_in bytes all =
      let u = unit_at (shelf_in b) place in
      let few = many b bytes in
      housed_in (out_state b place) bytes (subst (λ s. AllHoused s bytes) (sym out_shelf) (out_housed (shelf_in b) place bytes u refl (omega arith) (housed_out b bytes all)))

  -- what is sent is the frame of that cell
  pub frame_is : (cell : List ℕ) → cell ≡ part store (slot_at place (send_slot (unit_in b place))) 56 → sealed cell ≡ sent_frame (shelf_in b) place store
  unfolding sent_frame cell_at
  frame_is cell e = ap sealed (e ∙ ap (λ (x : U.Unit). part store (slot_at place (send_slot x)) 56) (sym here))

  -- what is heard, counted and stored
  module _ (each s cell : List ℕ) (h : H.Heard) (es : s ≡ out_state b place) (full : length cell ≡ 56) (ef : sealed cell ≡ sent_frame (shelf_in b) place store) (eh : h ≡ heard (sealed cell)) where
    is_cell : cell ≡ take 56 (sent_frame (shelf_in b) place store)
    is_cell = sym (sealed_cell cell (sent_frame (shelf_in b) place store) full (sym ef))

    abbrev counted : Tally → ℕ → Tally
    counted t r = record { each = set t.each place (bit_or (get_or t.each place 0) r); copies = t.copies; addressed = t.addressed }

    sent_heard : heard_by_all (shelf_in s) each h ≡ heard_by_all (cell_out (shelf_in b) place) each (heard (sent_frame (shelf_in b) place store))
    sent_heard i = heard_by_all ((ap shelf_in es ∙ out_shelf) i) each ((eh ∙ ap heard ef) i)

    s_long : length s ≡ 2048
    s_long = ap length es ∙ out_long

    pub sent_tally : (t : Tally) (r : ℕ) → t ≡ (heeded_by h cell s store each).tally → r ≡ sent_rises t.addressed → counted t r ≡ heeded_of (sent_by (shelf_in b) place store each)
    unfolding sent_by
    sent_tally t r et er = ap (counted t) er ∙ ap (λ (x : Tally). counted x (sent_rises x.addressed)) (et ∙ tally_heard h cell s store each s_long ∙ ap heeded_of sent_heard)

    pub sent_bytes : (now : List ℕ) → now ≡ (heeded_by h cell s store each).bytes → now ≡ sent_state b place store
    unfolding sent_state
    sent_bytes now e =
        e ∙ (λ i. (heeded_by ((eh ∙ ap heard ef) i) (is_cell i) (es i) store each).bytes)
        ∙ heeded_uncounted (heard (sent_frame (shelf_in b) place store)) (take 56 (sent_frame (shelf_in b) place store)) (out_state b place) store each (replicate 32 0)

    pub sent_store_lem : (now : List ℕ) → now ≡ (heeded_by h cell s store each).store → now ≡ sent_store (shelf_in b) place store
    unfolding sent_store
    sent_store_lem now e = e ∙ store_heard h cell s store each s_long ∙ (λ i. heard_store ((ap shelf_in es ∙ out_shelf) i) ((eh ∙ ap heard ef) i) store (is_cell i))

  pub sent_shelf : (each : List ℕ) → shelf_in (sent_state b place store) ≡ (sent_by (shelf_in b) place store each).shelf
  unfolding sent_state sent_by
  sent_shelf each =
      let f = sent_frame (shelf_in b) place store in
      ap shelf_in (heeded_uncounted (heard f) (take 56 f) (out_state b place) store (replicate 32 0) each)
      ∙ shelf_heard (heard f) (take 56 f) (out_state b place) store each out_long ∙ ap (λ s. (heard_by_all s each (heard f)).shelf) out_shelf

-- State, then Length
module _ {A : Type 0} (s : Bool) (n : ℕ) (unsound misfit good : A) where
  pub checked_unsound : s ≡ false → unsound ≡ checked s n unsound misfit good
  unfolding checked
  checked_unsound e = rw e

  pub checked_misfit : s ≡ true → (n ≡ 57 → ⊥) → misfit ≡ checked s n unsound misfit good
  unfolding checked
  checked_misfit e h = rw (e, ne_eqb n 57 h)

  pub checked_good : s ≡ true → n ≡ 57 → good ≡ checked s n unsound misfit good
  unfolding checked
  checked_good e h = rw (e, eq-eqb n 57 h)
