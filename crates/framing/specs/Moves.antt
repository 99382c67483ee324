-- 02, W1: "A heard loopback cell waits in the loopback outlet .. and moves at the start of the next frame, as a control cell for the unit named in its first
-- tandem byte, to the loopback inlet once that is free". Assumes nothing.
use Rattle.std.specs.Prelude.{ℕ, zero, suc, min, Bool, false, cond, not, ◌&&◌, ◌||◌, List, [], ◌∷◌, replicate, ◌==◌, slice_index, slice_set}
use Rattle.bus.specs.Frame.{returned}
use Rattle.store.specs.Places.{loopback_in_slot, loopback_out_slot, cell_at, put_at}
use Rattle.shelf.specs.Shelves.{declared}
use Rattle.shelf.specs.declared.Unit as U
use Rattle.shelf.specs.Shelf.{Shelf}
use Rattle.state.specs.Bytes.{col, unit_in, with_byte}
use Rattle.answer.specs.Answers.{#taken}
use Rattle.soundness.specs.Admission.{with_unit, with_side}

-- whether a unit's loopback cell moves: it has one, and the place in the inlet is free
unfoldable pub moves : U.Unit → Bool
moves u = not (u.side.loopbackout == 0) && u.side.loopbackin == 0

-- the unit afterwards; "leaving either outlet is `taken`"; the store, where the cell stands in the inlet's slot
unfoldable pub moved_unit : U.Unit → U.Unit
moved_unit u =
    cond (moves u)
    (with_side u (record { controlin = u.side.controlin; loopbackin = 1; controlout = u.side.controlout; loopbackout = 0 }))
    u

unfoldable pub moved_rises : U.Unit → ℕ
moved_rises u = cond (moves u) #taken 0

unfoldable pub moved_store : U.Unit → ℕ → List ℕ → List ℕ
moved_store u place store = cond (moves u) (put_at store place loopback_in_slot (returned (cell_at store place loopback_out_slot))) store

-- these units, the first of them in a place: the shelf, the counters that rise at each, the store
unfoldable pub moved_from : ℕ → List U.Unit → Shelf → Shelf
moved_from place [] shelf = shelf
moved_from place (u ∷ us) shelf = moved_from (suc place) us (with_unit shelf place (moved_unit u))

unfoldable pub each_from : ℕ → List U.Unit → List ℕ → List ℕ
each_from place [] each = each
each_from place (u ∷ us) each = each_from (suc place) us (slice_set each place (moved_rises u))

unfoldable pub store_from : ℕ → List U.Unit → List ℕ → List ℕ
store_from place [] store = store
store_from place (u ∷ us) store = store_from (suc place) us (moved_store u place store)

-- all declared units
abbrev pub moved : Shelf → Shelf
moved shelf = moved_from 0 (declared shelf) shelf

abbrev pub moved_each : Shelf → List ℕ
moved_each shelf = each_from 0 (declared shelf) (replicate 32 0)

abbrev pub moved_stores : Shelf → List ℕ → List ℕ
moved_stores shelf store = store_from 0 (declared shelf) store

-- The same of a state in lent bytes: what is written one place after the other
abbrev pub moved_state : List ℕ → ℕ → List ℕ
moved_state b i = cond (moves (unit_in b i)) (with_byte (with_byte b 27 i 1) 30 i 0) b

pub record Moved : Type 0 where
  pub bytes : List ℕ
  pub store : List ℕ
  pub each : List ℕ

abbrev pub move : ℕ → Moved → Moved
move i x =
    record {
      bytes = moved_state x.bytes i;
      store = moved_store (unit_in x.bytes i) i x.store;
      each = slice_set x.each i (moved_rises (unit_in x.bytes i));
    }

-- so many places from one on
unfoldable pub move_from : ℕ → ℕ → Moved → Moved
move_from i zero x = x
move_from i (suc n) x = move_from (suc i) n (move i x)

abbrev pub moved_in : List ℕ → List ℕ → Moved
moved_in b store = move_from 0 (min (slice_index b 805) 32) (record { bytes = b; store = store; each = replicate 32 0 })

-- whether a loopback cell stands in the outlet of one of so many places from one on
unfoldable pub some_looped : List ℕ → ℕ → ℕ → Bool
some_looped b i zero = false
some_looped b i (suc n) = not (col b i 30 == 0) || some_looped b (suc i) n
