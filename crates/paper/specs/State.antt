-- When a state is sound, item by item of 01's State, in its own numbers. Assumes nothing.
use Rattle.std.specs.Prelude.{ℕ, ◌+◌, ◌*◌, ◌≤◌, ◌<◌, ◌≡◌, ◌⊎◌, false, List, [], ◌∷◌, length, get_or, take, replicate}
use Rattle.header.specs.declared.Link.TheVariants.{Uni, Nni}
use Rattle.card.specs.declared.Card.{Card}
use Rattle.card.specs.declared.Card.TheVariants.{Wide}
use Rattle.outlet.specs.declared.Mode.TheVariants.{One}
use Rattle.outlet.specs.declared.Ring.{Ring}
use Rattle.shelf.specs.declared.Unit as U
use Rattle.shelf.specs.Shelf.{Shelf}
use Rattle.paper.specs.Outlets.{Given, queue_at, ring_at}

-- the declared units, in `unit` line order, and the one in a place
abbrev pub units : Shelf → List U.Unit
units shelf = take shelf.count shelf.units

abbrev pub none : Ring
none = record { head = 0; count = 0 }

abbrev pub blank : U.Unit
blank =
    record {
      settings = record { number = 0; link = Uni; top = 0; priority = 0 };
      outlet = record {
        limits = record { mode = One; cbrlength = 0; cbrlimit = 0; vbrlimit = 0; mark = false };
        queues = none ∷ none ∷ none ∷ none ∷ [];
      };
      inlet = none;
      side = record { controlin = 0; loopbackin = 0; controlout = none; loopbackout = 0 };
      place = 0;
      sessions = replicate 32 0;
    }

abbrev pub unit_at : Shelf → ℕ → U.Unit
unit_at shelf place = get_or (units shelf) place blank

abbrev pub number_at : Shelf → ℕ → ℕ
number_at shelf place = (unit_at shelf place).settings.number

-- the cells that wait in the inlet of a unit; 02, W1: "an inlet place for a control cell from its processor, one for a loopback cell"
abbrev pub waiting : U.Unit → ℕ
waiting u = u.inlet.count + u.side.controlin + u.side.loopbackin

-- what a unit asks: a priority, 0 for nothing
abbrev pub ask_of : Shelf → ℕ → ℕ
ask_of shelf number = get_or shelf.arbiter.asks number 0

-- a unit with this number is declared, in this place
pub record DeclaredAt (shelf : Shelf) (number place : ℕ) : Type 0 where
  pub inside : place < length (units shelf)
  pub named : number_at shelf place ≡ number

abbrev pub Declared : Shelf → ℕ → Type 0
Declared shelf number = (place : ℕ) × DeclaredAt shelf number place

-- "a count or queue position past its capacity" is not sound; a queue that the mode does not have holds nothing
pub record RingFits (ring : Ring) (capacity : ℕ) : Type 0 where
  pub place : 0 < capacity → ring.head < capacity
  pub nowhere : capacity ≡ 0 → ring.head ≡ 0
  pub held : ring.count ≤ capacity

-- the unit in a place
pub record UnitSound (card : Card) (shelf : Shelf) (u : U.Unit) : Type 0 where
  -- "a unit .. not below the bus number"
  pub below : u.settings.number < shelf.bus
  -- "a setting that its `unit` line on this card could not give": "narrow card only: .. `nni`", "Top VPI is at most 255 for uni, 4,095 for nni", "priority 1 to 3", and its limits
  pub link : u.settings.link ≡ Nni → card ≡ Wide
  pub top_uni : u.settings.link ≡ Uni → u.settings.top ≤ 255
  pub top_nni : u.settings.link ≡ Nni → u.settings.top ≤ 4095
  pub least : 1 ≤ u.settings.priority
  pub most : u.settings.priority ≤ 3
  pub limits : Given u.outlet.limits
  -- "a count or queue position past its capacity"
  pub inlet : RingFits u.inlet 4
  pub queues : (q : ℕ) → q < 4 → RingFits (ring_at u.outlet q) (queue_at u.outlet q).capacity
  -- 02, W1: "each unit gets an inlet place for a control cell .., one for a loopback cell, a four-cell control outlet and a one-cell loopback outlet"
  pub controlin : u.side.controlin ≤ 1
  pub loopbackin : u.side.loopbackin ≤ 1
  pub controlout : RingFits u.side.controlout 4
  pub loopbackout : u.side.loopbackout ≤ 1
  -- "an open grant at a unit without a cell"
  pub grant : u.settings.number ≡ shelf.granted → 1 ≤ waiting u
  -- "a request at one without a cell besides a granted one"; a request is at the unit's priority
  pub ask : (ask_of shelf u.settings.number ≡ 0) ⊎ ((ask_of shelf u.settings.number ≡ u.settings.priority) × (1 ≤ waiting u) × (u.settings.number ≡ shelf.granted → 2 ≤ waiting u))

-- the state, with a store of so many bytes and so many counter rows
pub record Sound (card : Card) (shelf : Shelf) (bytes rows : ℕ) : Type 0 where
  -- "bus not 16 or 32"
  pub bus : (shelf.bus ≡ 16) ⊎ (shelf.bus ≡ 32)
  pub count : shelf.count ≤ 32
  -- "a unit repeated"
  pub once : (i j : ℕ) → i < j → j < length (units shelf) → number_at shelf i ≡ number_at shelf j → ⊥
  pub each : (i : ℕ) → i < length (units shelf) → UnitSound card shelf (unit_at shelf i)
  -- no grant is 255; one is open at a declared unit
  pub granted : (shelf.granted ≡ 255) ⊎ Declared shelf shelf.granted
  -- "a last granted unit not declared"; before any grant it is 255
  pub last : (p : ℕ) → p < 3 → (get_or shelf.arbiter.last p 0 ≡ 255) ⊎ Declared shelf (get_or shelf.arbiter.last p 0)
  -- nobody asks at a number that no unit has
  pub asks : (n : ℕ) → (Declared shelf n → ⊥) → ask_of shelf n ≡ 0
  -- "store or counter rows smaller than Store asks": "cell store below 8,192 bytes a declared unit, or fewer counter rows than units"
  pub store : 8192 * shelf.count ≤ bytes
  pub records : shelf.count ≤ rows

-- of a state in bytes, "a setting that its `unit` line .. could not give" is also a byte of a declared unit that is no link (0 for `uni`, 1 for `nni`), no mode (0 for `one`, 1 for `four`) or
-- no mark (0 or 1): columns 1, 5 and 9 of 32 bytes each; byte 805 is the count of the declared units
pub record Formed (state : List ℕ) : Type 0 where
  pub link : (i : ℕ) → i < 32 → i < get_or state 805 0 → get_or state (32 + i) 0 ≤ 1
  pub mode : (i : ℕ) → i < 32 → i < get_or state 805 0 → get_or state (160 + i) 0 ≤ 1
  pub mark : (i : ℕ) → i < 32 → i < get_or state 805 0 → get_or state (288 + i) 0 ≤ 1

-- the arrays of a shelf have their places, as every shelf that Rattle hands over has
pub record Whole (shelf : Shelf) : Type 0 where
  pub units_32 : length shelf.units ≡ 32
  pub asks_32 : length shelf.arbiter.asks ≡ 32
  pub last_3 : length shelf.arbiter.last ≡ 3
