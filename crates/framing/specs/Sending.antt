-- A unit sends, and every declared unit hears it. Assumes nothing.
use Rattle.std.specs.Prelude.{ℕ, suc, ◌+◌, ◌<◌, Bool, true, false, cond, ◌||◌, List, [], ◌∷◌, length, take, bit_or, nat_le, slice_index, slice_set}
use Rattle.bus.specs.Frame.{sealed, heard}
use Rattle.bus.specs.Heard as H
use Rattle.store.specs.Rings.{popped}
use Rattle.store.specs.Places.{Cell, inlet_slot, control_in_slot, loopback_in_slot, cell_at}
use Rattle.shelf.specs.Shelves.{declared}
use Rattle.shelf.specs.declared.Unit as U
use Rattle.shelf.specs.Shelf.{Shelf}
use Rattle.answer.specs.Answers.{#sent, #unheard, hearing_rises, queued_one, is_addressed}
use Rattle.soundness.specs.Admission.{unit_at, with_unit, with_inlet, with_side, Housed}
use Rattle.hearing.specs.Hearings.{Copy, copy_of, store_of}

-- the shelf after a frame, the counters that rise at each declared unit, how many copies were queued, whether some unit was addressed
pub record Listened : Type 0 where
  pub shelf : Shelf
  pub each : List ℕ
  pub copies : ℕ
  pub addressed : Bool

-- nothing is heard yet; what the moves counted at each unit stands there
abbrev pub silence : Shelf → List ℕ → Listened
silence shelf each = record { shelf = shelf; each = each; copies = 0; addressed = false }

-- the unit in a place has heard it, with this outcome
abbrev pub after : ℕ → Copy → Listened → Listened
after place copy l =
    record {
      shelf = with_unit l.shelf place copy.unit;
      each = slice_set l.each place (bit_or (slice_index l.each place) (hearing_rises copy.fate));
      copies = l.copies + queued_one copy.fate;
      addressed = l.addressed || is_addressed copy.fate;
    }

-- these units, the first of them in a place, hear it one after the other
unfoldable pub heard_from : H.Heard → ℕ → List U.Unit → Listened → Listened
heard_from h place [] l = l
heard_from h place (u ∷ us) l = heard_from h (suc place) us (after place (copy_of u h) l)

unfoldable pub store_from : H.Heard → ℕ → List U.Unit → List ℕ → Cell → List ℕ
store_from h place [] store cell = store
store_from h place (u ∷ us) store cell = store_from h (suc place) us (store_of u h place store cell) cell

-- "a sent frame is heard by every declared unit"
abbrev pub heard_by_all : Shelf → List ℕ → H.Heard → Listened
heard_by_all shelf each h = heard_from h 0 (declared shelf) (silence shelf each)

abbrev pub heard_store : Shelf → H.Heard → List ℕ → Cell → List ℕ
heard_store shelf h store cell = store_from h 0 (declared shelf) store cell

-- "A sent cell addressing no declared unit also counts `unheard` at its sender"
unfoldable pub sent_rises : Bool → ℕ
sent_rises true = #sent
sent_rises false = #sent + #unheard

abbrev pub count_sent : ℕ → Listened → Listened
count_sent place l =
    record {
      shelf = l.shelf;
      each = slice_set l.each place (bit_or (slice_index l.each place) (sent_rises l.addressed));
      copies = l.copies;
      addressed = l.addressed;
    }

-- "Sending order is document 001's default: data, then control, then loopback.": the slot of the cell that a unit sends, and the unit without it
unfoldable pub send_slot : U.Unit → ℕ
send_slot u = cond (nat_le 1 u.inlet.count) (inlet_slot u.inlet.head) (cond (nat_le 1 u.side.controlin) control_in_slot loopback_in_slot)

unfoldable pub unit_out : U.Unit → U.Unit
unit_out u =
    cond (nat_le 1 u.inlet.count) (with_inlet u (popped u.inlet 4))
    (cond (nat_le 1 u.side.controlin)
    (with_side u (record { controlin = 0; loopbackin = u.side.loopbackin; controlout = u.side.controlout; loopbackout = u.side.loopbackout }))
    (with_side u (record { controlin = u.side.controlin; loopbackin = 0; controlout = u.side.controlout; loopbackout = u.side.loopbackout })))

-- "the unit granted in the frame before sends its oldest cell": the frame, and the shelf without it
unfoldable pub sent_frame : Shelf → ℕ → List ℕ → List ℕ
sent_frame shelf place store = sealed (cell_at store place (send_slot (unit_at shelf place)))

unfoldable pub cell_out : Shelf → ℕ → Shelf
cell_out shelf place = with_unit shelf place (unit_out (unit_at shelf place))

unfoldable pub sent_by : Shelf → ℕ → List ℕ → List ℕ → Listened
sent_by shelf place store each = count_sent place (heard_by_all (cell_out shelf place) each (heard (sent_frame shelf place store)))

unfoldable pub sent_store : Shelf → ℕ → List ℕ → List ℕ
sent_store shelf place store = heard_store (cell_out shelf place) (heard (sent_frame shelf place store)) store (take 56 (sent_frame shelf place store))

-- each declared unit has its part of a store of so many bytes
abbrev pub AllHoused : Shelf → ℕ → Type 0
AllHoused shelf bytes = (i : ℕ) → i < length (declared shelf) → Housed i (unit_at shelf i) bytes
