-- The shelf that 2,048 lent bytes are: a column of 32 bytes for each field of a unit, then the rest, then the sessions. Assumes nothing.
use Rattle.std.specs.Prelude.{ℕ, zero, suc, ◌+◌, ◌*◌, ◌/◌, ◌%◌, cond, List, [], ◌∷◌, eqb, get_or, set}
use Rattle.octets.specs.Octets.{part, splice}
use Rattle.header.specs.declared.Link.{Link}
use Rattle.header.specs.declared.Link.TheVariants.{Uni, Nni}
use Rattle.outlet.specs.declared.Mode.{Mode}
use Rattle.outlet.specs.declared.Mode.TheVariants.{One, Four}
use Rattle.outlet.specs.declared.Limits.{Limits}
use Rattle.outlet.specs.declared.Ring.{Ring}
use Rattle.outlet.specs.declared.Outlet.{Outlet}
use Rattle.arbiter.specs.declared.Arbiter.{Arbiter}
use Rattle.shelf.specs.declared.Settings.{Settings}
use Rattle.shelf.specs.declared.Side.{Side}
use Rattle.shelf.specs.declared.Unit as U
use Rattle.shelf.specs.Shelf.{Shelf}

-- the byte of a column at a place
abbrev pub col : List ℕ → ℕ → ℕ → ℕ
col b i c = get_or b (c * 32 + i) 0

unfoldable pub link_of : ℕ → Link
link_of n = cond (eqb n 0) Uni Nni

unfoldable pub mode_of : ℕ → Mode
mode_of n = cond (eqb n 0) One Four

-- a unit by its bytes in each column, and its sessions
abbrev pub settings_by : (ℕ → ℕ) → Settings
settings_by f = record { number = f 0; link = link_of (f 1); top = f 2 * 256 + f 3; priority = f 4 }

abbrev pub limits_by : (ℕ → ℕ) → Limits
limits_by f = record { mode = mode_of (f 5); cbrlength = f 6; cbrlimit = f 7; vbrlimit = f 8; mark = eqb (f 9) 1 }

abbrev pub ring_by : (ℕ → ℕ) → ℕ → ℕ → Ring
ring_by f h c = record { head = f h; count = f c }

abbrev pub outlet_by : (ℕ → ℕ) → Outlet
outlet_by f = record { limits = limits_by f; queues = ring_by f 16 20 ∷ ring_by f 17 21 ∷ ring_by f 18 22 ∷ ring_by f 19 23 ∷ [] }

abbrev pub place_by : (ℕ → ℕ) → ℕ
place_by f = (f 10 * 256 + f 11) * 65536 + (f 12 * 256 + f 13)

abbrev pub side_by : (ℕ → ℕ) → Side
side_by f = record { controlin = f 26; loopbackin = f 27; controlout = ring_by f 28 29; loopbackout = f 30 }

unfoldable pub unit_by : (ℕ → ℕ) → List ℕ → U.Unit
unit_by f sessions =
    record { settings = settings_by f; inlet = ring_by f 14 15; outlet = outlet_by f; side = side_by f; place = place_by f; sessions = sessions }

-- the unit in a place
abbrev pub unit_in : List ℕ → ℕ → U.Unit
unit_in b i = unit_by (col b i) (part b (1024 + 32 * i) 32)

-- so many units from a place on
unfoldable pub units_from : List ℕ → ℕ → ℕ → List U.Unit
units_from b i zero = []
units_from b i (suc n) = unit_in b i ∷ units_from b (suc i) n

-- the whole
abbrev pub shelf_in : List ℕ → Shelf
shelf_in b =
    record {
      bus = get_or b 804 0;
      count = get_or b 805 0;
      units = units_from b 0 32;
      arbiter = record { last = get_or b 800 0 ∷ get_or b 801 0 ∷ get_or b 802 0 ∷ []; asks = part b 768 32 };
      granted = get_or b 803 0;
      frame = get_or b 806 0 * 256 + get_or b 807 0;
    }

-- what a write of a ring in the columns h and c makes of the bytes
abbrev pub with_ring : List ℕ → ℕ → ℕ → ℕ → Ring → List ℕ
with_ring b h c i ring = set (set b (h * 32 + i) ring.head) (c * 32 + i) ring.count

-- what a write of one byte in a column makes of the bytes
abbrev pub with_byte : List ℕ → ℕ → ℕ → ℕ → List ℕ
with_byte b c i v = set b (c * 32 + i) v

-- a unit with another inlet, or other places beside its data queues; a shelf with such a unit
abbrev pub inlet_put : U.Unit → Ring → U.Unit
inlet_put u ring = record { settings = u.settings; inlet = ring; outlet = u.outlet; side = u.side; place = u.place; sessions = u.sessions }

abbrev pub side_put : U.Unit → Side → U.Unit
side_put u side = record { settings = u.settings; inlet = u.inlet; outlet = u.outlet; side = side; place = u.place; sessions = u.sessions }

abbrev pub with_unit : Shelf → ℕ → U.Unit → Shelf
with_unit s i u = record { bus = s.bus; count = s.count; units = set s.units i u; arbiter = s.arbiter; granted = s.granted; frame = s.frame }

-- a unit with another ring in a queue of its outlet
abbrev pub queue_put : U.Unit → ℕ → Ring → U.Unit
queue_put u q ring =
    record {
      settings = u.settings;
      inlet = u.inlet;
      outlet = record { limits = u.outlet.limits; queues = set u.outlet.queues q ring };
      side = u.side;
      place = u.place;
      sessions = u.sessions;
    }

-- what a frame's end makes of the bytes: the arbiter, the open grant and the next frame's number are written
unfoldable pub with_turn : List ℕ → Arbiter → ℕ → ℕ → List ℕ
with_turn b arbiter granted frame =
    set
    (set (set (set (set (set (splice b 768 arbiter.asks) 800 (get_or arbiter.last 0 0)) 801 (get_or arbiter.last 1 0)) 802 (get_or arbiter.last 2 0)) 803 granted) 806 (frame / 256))
    807
    (frame % 256)

-- a shelf with another arbiter, open grant and number of the next frame
abbrev pub turn_put : Shelf → Arbiter → ℕ → ℕ → Shelf
turn_put s arbiter granted frame = record { bus = s.bus; count = s.count; units = s.units; arbiter = arbiter; granted = granted; frame = frame }
