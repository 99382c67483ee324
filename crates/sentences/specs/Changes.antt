-- A state with one thing changed, and the premise of every sentence. Assumes nothing.
use Rattle.std.specs.Prelude.{ℕ, ◌+◌, List, ◌++◌, length, set, take, drop}
use Rattle.card.specs.declared.Card.{Card}
use Rattle.outlet.specs.declared.Ring.{Ring}
use Rattle.shelf.specs.declared.Unit as U
use Rattle.shelf.specs.Shelf.{Shelf}
use Rattle.paper.specs.State.{Sound, Whole, Formed}
use Rattle.document.specs.Events.{Event}
use Rattle.running.specs.Events.{World, Outcome, happens}
use Rattle.running.specs.Lent.{Lent, Long, does, seen, shown}

-- the shelf with another unit in a place
abbrev pub with_unit : Shelf → ℕ → U.Unit → Shelf
with_unit shelf place u =
    record {
      bus = shelf.bus;
      count = shelf.count;
      units = set shelf.units place u;
      arbiter = shelf.arbiter;
      granted = shelf.granted;
      frame = shelf.frame;
    }

-- a unit with another ring for its inlet, or for a queue of its outlet
abbrev pub with_inlet : U.Unit → Ring → U.Unit
with_inlet u ring = record { settings = u.settings; outlet = u.outlet; inlet = ring; side = u.side; place = u.place; sessions = u.sessions }

abbrev pub with_queue : U.Unit → ℕ → Ring → U.Unit
with_queue u q ring =
    record {
      settings = u.settings;
      outlet = record { limits = u.outlet.limits; queues = set u.outlet.queues q ring };
      inlet = u.inlet;
      side = u.side;
      place = u.place;
      sessions = u.sessions;
    }

-- or with other cells beside its data queues: in its inlet, in its control outlet, in its loopback outlet
abbrev pub with_side : U.Unit → ℕ → ℕ → Ring → ℕ → U.Unit
with_side u controlin loopbackin controlout loopbackout =
    record {
      settings = u.settings;
      outlet = u.outlet;
      inlet = u.inlet;
      side = record { controlin = controlin; loopbackin = loopbackin; controlout = controlout; loopbackout = loopbackout };
      place = u.place;
      sessions = u.sessions;
    }

-- a store with the 56 bytes of a cell from a byte on
abbrev pub with_cell : List ℕ → ℕ → List ℕ → List ℕ
with_cell store at cell = take at store ++ cell ++ drop (at + 56) store

-- a world that no event refuses as State
pub record Runs (card : Card) (w : World) : Type 0 where
  pub whole : Whole w.shelf
  pub sound : Sound card w.shelf (length w.store) (length w.rows)

-- the same of what is lent: the bytes are a state, and the shelf that they are is sound with this store and these rows
pub record StateGood (card : Card) (l : Lent) : Type 0 where
  pub formed : Formed l.state
  pub sound : Sound card (seen l).shelf (length l.store) (length l.rows)

-- A sentence speaks of a shelf and of what comes of each event. Of shelves as values
abbrev pub OnShelves : (Card → World → (Event → Outcome) → Type 0) → Type 0
OnShelves Rule = (card : Card) (w : World) → Runs card w → Rule card w (happens card w)

-- and of lent bytes: the shelf is the one that they are, and what comes of an event is what the contracts of `entry` say of the bytes
abbrev pub InBytes : (Card → World → (Event → Outcome) → Type 0) → Type 0
InBytes Rule = (card : Card) (l : Lent) → Long l → StateGood card l → Rule card (seen l) (λ e. shown (does card l e))
