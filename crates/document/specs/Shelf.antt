-- The document's shelf: the table as its lines, inlets and outlets as lists of cells, requests and grants by unit number. Assumes nothing.
use Rattle.std.specs.Prelude.{ℕ, ◌+◌, false, List, [], ◌∷◌, ◌++◌, map, length, get_or, set, Option}
use Rattle.header.specs.declared.Link.TheVariants.{Uni}
use Rattle.bus.specs.declared.Target.{Target}
use Rattle.outlet.specs.declared.Limits.{Limits}
use Rattle.outlet.specs.declared.Mode.TheVariants.{One}
use Rattle.arbiter.specs.Arbitration.{nobody, fresh}
use Rattle.arbiter.specs.declared.Arbiter.{Arbiter}
use Rattle.shelf.specs.Shelves.{place_from}
use Rattle.shelf.specs.declared.Settings.{Settings}
use Rattle.line.specs.declared.Line.{Line}
use Rattle.line.specs.declared.Line.TheVariants.{Bus, Unit as L-as-Unit, Vp, Drop, Page, Vc, Mc}
use Rattle.document.specs.Counters.{Entry}

-- a cell that a unit holds: its header as the bus has it, "always .. a twelve-bit VPI", and its payload
pub record Cell : Type 0 where
  pub header : ℕ
  pub payload : List ℕ

-- a cell that waits for the bus: with the target and the class that its line gives it
pub record Routed : Type 0 where
  pub target : Target
  pub class : ℕ
  pub cell : Cell

-- 02, W1: "each unit gets an inlet place for a control cell from its processor, one for a loopback cell, a four-cell control outlet and a one-cell
-- loopback outlet", each holding "the 56 bytes before parity", the oldest first
pub record Side : Type 0 where
  pub controlin : List (List ℕ)
  pub loopbackin : List (List ℕ)
  pub controlout : List (List ℕ)
  pub loopbackout : List (List ℕ)

-- a unit: its `unit` line, the cells that wait, and the cells of its outlet, the oldest first. Queue q holds class q; in mode `one` all are in queue 0
pub record Unit : Type 0 where
  pub settings : Settings
  pub limits : Limits
  pub inlet : List Routed
  pub queues : List (List Cell)
  pub side : Side

-- the lines have the latest first, the units are in `unit` line order; `arbiter` has the last unit granted at each priority and what each unit asks,
-- `granted` the unit granted in the frame before or nobody, `frame` the next frame's number; the history has the latest first
pub record Shelf : Type 0 where
  pub lines : List Line
  pub bus : ℕ
  pub units : List Unit
  pub arbiter : Arbiter
  pub granted : ℕ
  pub frame : ℕ
  pub history : List Entry

abbrev pub number_of : Unit → ℕ
number_of u = u.settings.number

abbrev pub queue_at : Unit → ℕ → List Cell
queue_at u q = get_or u.queues q []

abbrev pub held : Unit → ℕ → ℕ
held u q = length (queue_at u q)

-- the cells that wait for the bus: data, control and loopback
abbrev pub waiting : Unit → ℕ
waiting u = length u.inlet + length u.side.controlin + length u.side.loopbackin

-- in the four queues together, and the cells in a unit's outlets
abbrev pub in_all : (ℕ → List Cell) → ℕ
in_all f = length (f 0) + length (f 1) + length (f 2) + length (f 3)

abbrev pub in_outlet : Unit → ℕ
in_outlet u = in_all (queue_at u) + length u.side.controlout + length u.side.loopbackout

abbrev pub with_inlet : Unit → List Routed → Unit
with_inlet u inlet = record { settings = u.settings; limits = u.limits; inlet = inlet; queues = u.queues; side = u.side }

abbrev pub with_queue : Unit → ℕ → List Cell → Unit
with_queue u q cells = record { settings = u.settings; limits = u.limits; inlet = u.inlet; queues = set u.queues q cells; side = u.side }

-- with other cells in a place beside the data queues
abbrev pub with_side : Unit → Side → Unit
with_side u side = record { settings = u.settings; limits = u.limits; inlet = u.inlet; queues = u.queues; side = side }

abbrev pub with_control_in : Unit → List (List ℕ) → Unit
with_control_in u cells =
    with_side u (record { controlin = cells; loopbackin = u.side.loopbackin; controlout = u.side.controlout; loopbackout = u.side.loopbackout })

abbrev pub with_loopback_in : Unit → List (List ℕ) → Unit
with_loopback_in u cells =
    with_side u (record { controlin = u.side.controlin; loopbackin = cells; controlout = u.side.controlout; loopbackout = u.side.loopbackout })

abbrev pub with_control_out : Unit → List (List ℕ) → Unit
with_control_out u cells =
    with_side u (record { controlin = u.side.controlin; loopbackin = u.side.loopbackin; controlout = cells; loopbackout = u.side.loopbackout })

abbrev pub with_loopback_out : Unit → List (List ℕ) → Unit
with_loopback_out u cells =
    with_side u (record { controlin = u.side.controlin; loopbackin = u.side.loopbackin; controlout = u.side.controlout; loopbackout = cells })

abbrev pub empty_side : Side
empty_side = record { controlin = []; loopbackin = []; controlout = []; loopbackout = [] }

-- the place of the unit with a number, and the unit in a place
abbrev pub find_in : List Unit → ℕ → Option ℕ
find_in us number = place_from 0 (map number_of us) number

abbrev pub blank : Unit
blank =
    record {
      settings = record { number = 0; link = Uni; top = 0; priority = 0 };
      limits = record { mode = One; cbrlength = 0; cbrlimit = 0; vbrlimit = 0; mark = false };
      inlet = [];
      queues = [] ∷ [] ∷ [] ∷ [] ∷ [];
      side = empty_side;
    }

abbrev pub unit_at : Shelf → ℕ → Unit
unit_at shelf place = get_or shelf.units place blank

-- the shelf with another unit in a place, and what happened there in the history
abbrev pub after : Shelf → ℕ → Unit → List Entry → Shelf
after shelf place u happened =
    record {
      lines = shelf.lines;
      bus = shelf.bus;
      units = set shelf.units place u;
      arbiter = shelf.arbiter;
      granted = shelf.granted;
      frame = shelf.frame;
      history = happened ++ shelf.history;
    }

-- "A good load zeroes its rows and starts with all queues empty": a freshly declared unit, the units of these lines, their bus, and the shelf
abbrev pub fresh_unit : Settings → Limits → Unit
fresh_unit settings limits = record { settings = settings; limits = limits; inlet = []; queues = [] ∷ [] ∷ [] ∷ [] ∷ []; side = empty_side }

abbrev pub units_by : Line → List Unit
units_by (Bus bus) = []
units_by (L-as-Unit settings limits) = fresh_unit settings limits ∷ []
units_by (Vp u v target class outvpi) = []
units_by (Drop u v) = []
units_by (Page u v top) = []
units_by (Vc u v w target class outvpi outvci) = []
units_by (Mc u session) = []

unfoldable pub units_of : List Line → List Unit
units_of [] = []
units_of (l ∷ lines) = units_of lines ++ units_by l

unfoldable pub bus_of : List Line → ℕ
bus_of [] = 16
bus_of (Bus bus ∷ lines) = bus
bus_of (L-as-Unit settings limits ∷ lines) = bus_of lines
bus_of (Vp u v target class outvpi ∷ lines) = bus_of lines
bus_of (Drop u v ∷ lines) = bus_of lines
bus_of (Page u v top ∷ lines) = bus_of lines
bus_of (Vc u v w target class outvpi outvci ∷ lines) = bus_of lines
bus_of (Mc u session ∷ lines) = bus_of lines

abbrev pub opened : List Line → Shelf
opened lines =
    record { lines = lines; bus = bus_of lines; units = units_of lines; arbiter = fresh; granted = nobody; frame = 0; history = [] }
