-- The shelf as a load leaves it, number by number. Assumes nothing.
use Rattle.std.specs.Prelude.{ℕ, ◌*◌, ◌/◌, ◌%◌, ◌^◌, ◌≤◌, ◌≡◌, ◌↔◌, false, length, get_or, replicate}
use mathlib.Core.List.{List, [], ◌∷◌, ◌++◌, Memᴰ as In}
use Rattle.header.specs.declared.Link.TheVariants.{Uni}
use Rattle.outlet.specs.declared.Limits.{Limits}
use Rattle.outlet.specs.declared.Mode.TheVariants.{One}
use Rattle.outlet.specs.declared.Ring.{Ring}
use Rattle.shelf.specs.declared.Settings.{Settings}
use Rattle.shelf.specs.declared.Side.{Side}
use Rattle.shelf.specs.declared.Unit as U
use Rattle.shelf.specs.Shelf.{Shelf}
use Rattle.line.specs.declared.Line.{Line}
use Rattle.line.specs.declared.Line.TheVariants.{Bus, Unit as L-as-Unit, Mc}
use Rattle.promise.specs.Says.{records_of, unit_lines}

-- a queue without a cell
abbrev pub no_cell : Ring
no_cell = record { head = 0; count = 0 }

-- no cell in the places beside the data queues
abbrev pub no_side : Side
no_side = record { controlin = 0; loopbackin = 0; controlout = no_cell; loopbackout = 0 }

-- a place where no unit is declared
abbrev pub no_unit : U.Unit
no_unit =
    record {
      settings = record { number = 0; link = Uni; top = 0; priority = 0 };
      outlet = record {
        limits = record { mode = One; cbrlength = 0; cbrlimit = 0; vbrlimit = 0; mark = false };
        queues = no_cell ∷ no_cell ∷ no_cell ∷ no_cell ∷ [];
      };
      inlet = no_cell;
      side = no_side;
      place = 0;
      sessions = replicate 32 0;
    }

-- "a fresh 16 bus with no units": nobody is granted, 255, nobody was at any of the three priorities, nobody asks, and frames are "numbered from 0"
abbrev pub empty_bus : ℕ → Shelf
empty_bus bus =
    record {
      bus = bus;
      count = 0;
      units = replicate 32 no_unit;
      arbiter = record { last = 255 ∷ 255 ∷ 255 ∷ []; asks = replicate 32 0 };
      granted = 255;
      frame = 0;
    }

-- a unit as its `unit` line declares it, with its records from this byte of the memory on
pub record Declared (told : List Line) (settings : Settings) (limits : Limits) (place : ℕ) (u : U.Unit) : Type 0 where
  pub settings_are : u.settings ≡ settings
  pub limits_are : u.outlet.limits ≡ limits
  pub place_is : u.place ≡ place
  -- "`mc` unit, session: the unit hears that session": session s is bit s % 8 of byte s / 8
  pub sessions : length u.sessions ≡ 32
  pub hears : (s : ℕ) → s ≤ 255 → (get_or u.sessions (s / 8) 0 / 2 ^ (s % 8) % 2 ≡ 1) ↔ In (Mc settings.number s) told
  -- "starts with all queues empty"
  pub inlet : u.inlet ≡ no_cell
  pub queues : u.outlet.queues ≡ no_cell ∷ no_cell ∷ no_cell ∷ no_cell ∷ []
  pub side : u.side ≡ no_side

-- the shelf of these lines, the latest first, before any event: each unit in the place of its `unit` line among those, and nothing granted, asked or sent
pub record Opened (told : List Line) (shelf : Shelf) : Type 0 where
  pub bus : (n : ℕ) → In (Bus n) told → shelf.bus ≡ n
  pub count : shelf.count ≡ unit_lines told
  pub units : (after : List Line) (settings : Settings) (limits : Limits) (before : List Line) → told ≡ after ++ (L-as-Unit settings limits ∷ before) →
      Declared told settings limits (8 * records_of before) (get_or shelf.units (unit_lines before) no_unit)
  pub others : (i : ℕ) → unit_lines told ≤ i → get_or shelf.units i no_unit ≡ no_unit
  pub places : length shelf.units ≡ 32
  pub granted : shelf.granted ≡ 255
  pub last : shelf.arbiter.last ≡ 255 ∷ 255 ∷ 255 ∷ []
  pub asks : shelf.arbiter.asks ≡ replicate 32 0
  pub frame : shelf.frame ≡ 0
