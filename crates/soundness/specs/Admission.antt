-- What every event asks before anything else. Assumes nothing.
use Rattle.std.specs.Prelude.{ℕ, ◌<◌, Bool, true, cond, List, slice_index_or, slice_set, None, Option, Some, Err, Ok, Result}
use Rattle.card.specs.declared.Card.{Card}
use Rattle.outlet.specs.Outlets.{Given, RingFits, RingsFit}
use Rattle.outlet.specs.declared.Ring.{Ring}
use Rattle.store.specs.Places.{Inside}
use Rattle.shelf.specs.Shelves.{declared, blank, find_in}
use Rattle.shelf.specs.declared.Side.{Side}
use Rattle.shelf.specs.declared.Unit as U
use Rattle.shelf.specs.Shelf.{Shelf}
use Rattle.state.specs.Bytes.{shelf_in}
use Rattle.soundness.specs.State.{sound_of, SideFits}
use Rattle.soundness.specs.Soundings.{formed_all}

-- "9 Unit: unit not declared", "10 Length: cell slice or buffer not 53 bytes, frame not 57"
unfoldable pub at_unit : Option ℕ → Bool → Result ℕ ℕ
at_unit (Some place) right = cond right (Ok place) (Err 10)
at_unit None right = Err 9

-- "Refusals 8 to 10, in that order"
unfoldable pub admitted : Card → Shelf → ℕ → ℕ → ℕ → Bool → Result ℕ ℕ
admitted card shelf store rows unit right = cond (sound_of card shelf store rows) (at_unit (find_in (declared shelf) unit) right) (Err 8)

-- the same of a state in lent bytes: bytes that are no link, no mode or no mark, where they say one of a declared unit, are no state
unfoldable pub admitted_in : Card → List ℕ → ℕ → ℕ → ℕ → Bool → Result ℕ ℕ
admitted_in card b store rows unit right = cond (formed_all b) (admitted card (shelf_in b) store rows unit right) (Err 8)

-- what comes of lent bytes that are a state, and of others
abbrev pub formed_or : {X : Type 0} → List ℕ → X → X → X
formed_or b good bad = cond (formed_all b) good bad

-- what an event does where it is let in at a place, and where it is refused with a number
unfoldable pub decided : {X : Type 0} → Result ℕ ℕ → (ℕ → X) → (ℕ → X) → X
decided (Ok place) inside outside = inside place
decided (Err number) inside outside = outside number

-- which row is read
abbrev pub counted : Card → Shelf → ℕ → ℕ → ℕ → Result ℕ ℕ
counted card shelf store rows unit = admitted card shelf store rows unit true

abbrev pub counted_in : Card → List ℕ → ℕ → ℕ → ℕ → Result ℕ ℕ
counted_in card b store rows unit = admitted_in card b store rows unit true

-- the unit in a place, and the shelf with another unit there
abbrev pub unit_at : Shelf → ℕ → U.Unit
unit_at shelf place = slice_index_or shelf.units place blank

abbrev pub with_unit : Shelf → ℕ → U.Unit → Shelf
with_unit shelf place u =
    record {
      bus = shelf.bus;
      count = shelf.count;
      units = slice_set shelf.units place u;
      arbiter = shelf.arbiter;
      granted = shelf.granted;
      frame = shelf.frame;
    }

-- the unit with another ring for its inlet, or for a queue of its outlet
abbrev pub with_inlet : U.Unit → Ring → U.Unit
with_inlet u ring = record { settings = u.settings; outlet = u.outlet; inlet = ring; side = u.side; place = u.place; sessions = u.sessions }

abbrev pub with_queue : U.Unit → ℕ → Ring → U.Unit
with_queue u q ring =
    record {
      settings = u.settings;
      outlet = record { limits = u.outlet.limits; queues = slice_set u.outlet.queues q ring };
      inlet = u.inlet;
      side = u.side;
      place = u.place;
      sessions = u.sessions;
    }

-- the unit with other places beside its data queues
abbrev pub with_side : U.Unit → Side → U.Unit
with_side u side = record { settings = u.settings; outlet = u.outlet; inlet = u.inlet; side = side; place = u.place; sessions = u.sessions }

-- the unit in a place has its part of a store of so many bytes, and its queues have their places there
pub record Housed (place : ℕ) (u : U.Unit) (bytes : ℕ) : Type 0 where
  pub below : place < 32
  pub inside : Inside place bytes
  pub limits : Given u.outlet.limits
  pub queues : RingsFit u.outlet
  pub inlet : RingFits u.inlet 4
  pub side : SideFits u.side
