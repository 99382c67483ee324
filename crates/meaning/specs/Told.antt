-- What the good lines of a table say. A list of lines has the latest first. Assumes nothing.
use Rattle.std.specs.Prelude.{ℕ, zero, suc, ◌+◌, ◌-◌, ◌*◌, Bool, true, false, ◌&&◌, ◌||◌, List, [], ◌∷◌, ◌++◌, eqb, get_or, set, drop, replicate, None, Some, Option}
use Rattle.bus.specs.Routing.{routing}
use Rattle.card.specs.declared.Card.{Card}
use Rattle.lookup.specs.Record.{size, usable, image}
use Rattle.lookup.specs.declared.Record as R
use Rattle.lookup.specs.declared.Record.TheVariants.{Empty, Drop as R-as-Drop, Route, Page as R-as-Page}
use Rattle.shelf.specs.Shelves.{unit, fresh, declared, find_in, blank}
use Rattle.shelf.specs.Sessions.{with_session}
use Rattle.shelf.specs.declared.Unit as U
use Rattle.shelf.specs.Shelf.{Shelf}
use Rattle.line.specs.declared.Line.{Line}
use Rattle.line.specs.declared.Line.TheVariants.{Bus, Unit as L-as-Unit, Vp, Drop, Page, Vc, Mc}

-- A. what one line says
-- whose records: a unit's, one for each VPI, or a page's, the page of a unit and VPI, one for each VCI
pub data Whose : Type 0 where
  of_unit : ℕ → Whose
  of_page : ℕ → ℕ → Whose

unfoldable pub same : Whose → Whose → Bool
same (of_unit a) (of_unit u) = eqb a u
same (of_unit a) (of_page u v) = false
same (of_page a b) (of_unit u) = false
same (of_page a b) (of_page u v) = eqb a u && eqb b v

-- "each `unit` line takes (top VPI + 1) records and each `page` line (top VCI + 1) records": whose, and the top
pub record Opening : Type 0 where
  pub whose : Whose
  pub top : ℕ

unfoldable pub opens : Line → Option Opening
opens (Bus bus) = None
opens (L-as-Unit settings limits) = Some (record { whose = of_unit settings.number; top = settings.top })
opens (Vp u v target class outvpi) = None
opens (Drop u v) = None
opens (Page u v top) = Some (record { whose = of_page u v; top = top })
opens (Vc u v w target class outvpi outvci) = None
opens (Mc u session) = None

-- the record that a line gives to a VPI of a unit or to a VCI of a page; a page's own records start at this place
pub record Giving : Type 0 where
  pub whose : Whose
  pub at : ℕ
  pub gift : R.Record

unfoldable pub gives : Line → ℕ → Option Giving
gives (Bus bus) place = None
gives (L-as-Unit settings limits) place = None
gives (Vp u v target class outvpi) place = Some (record { whose = of_unit u; at = v; gift = Route (routing target class) outvpi 0 })
gives (Drop u v) place = Some (record { whose = of_unit u; at = v; gift = R-as-Drop })
gives (Page u v top) place = Some (record { whose = of_unit u; at = v; gift = R-as-Page top place })
gives (Vc u v w target class outvpi outvci) place =
    Some (record { whose = of_page u v; at = w; gift = Route (routing target class) outvpi outvci })
gives (Mc u session) place = None

-- "`mc` unit, session: the unit hears that session"
unfoldable pub hears_by : Line → ℕ → ℕ → Bool
hears_by (Bus bus) u s = false
hears_by (L-as-Unit settings limits) u s = false
hears_by (Vp a v target class outvpi) u s = false
hears_by (Drop a v) u s = false
hears_by (Page a v top) u s = false
hears_by (Vc a v w target class outvpi outvci) u s = false
hears_by (Mc a session) u s = eqb a u && eqb session s

-- B. what the lines so far say
abbrev pub only : {A : Type 0} → Bool → A → Option A
only true a = Some a
only false a = None

abbrev pub either : {A : Type 0} → Option A → Option A → Option A
either (Some a) b = Some a
either None b = b

abbrev pub else : {A : Type 0} → Option A → A → A
else (Some a) b = a
else None b = b

-- the top of a declared unit, or of a page
abbrev pub top_by : Option Opening → Whose → Option ℕ
top_by None k = None
top_by (Some o) k = only (same o.whose k) o.top

unfoldable pub top_of : List Line → Whose → Option ℕ
top_of [] k = None
top_of (l ∷ told) k = either (top_by (opens l) k) (top_of told k)

-- how many records there are
abbrev pub takes : Option Opening → ℕ
takes None = 0
takes (Some o) = o.top + 1

unfoldable pub total : List Line → ℕ
total [] = 0
total (l ∷ told) = total told + takes (opens l)

-- the record of a VPI of a unit, or of a VCI of a page
abbrev pub given_by : Option Giving → Whose → ℕ → Option R.Record
given_by None k i = None
given_by (Some g) k i = only (same k g.whose && eqb i g.at) g.gift

unfoldable pub record_of : List Line → Whose → ℕ → R.Record
record_of [] k i = Empty
record_of (l ∷ told) k i = else (given_by (gives l (size * total told)) k i) (record_of told k i)

unfoldable pub hears_in : List Line → ℕ → ℕ → Bool
hears_in [] u s = false
hears_in (l ∷ told) u s = hears_by l u s || hears_in told u s

-- C. the records "in line order .. from byte 0 without gaps", each as all the lines say
unfoldable pub tabulate : {A : Type 0} → (ℕ → A) → ℕ → List A
tabulate f zero = []
tabulate f (suc n) = tabulate f n ++ (f n ∷ [])

abbrev pub region_by : (Whose → ℕ → R.Record) → Option Opening → List R.Record
region_by f None = []
region_by f (Some o) = tabulate (f o.whose) (o.top + 1)

unfoldable pub regions : (Whose → ℕ → R.Record) → List Line → List R.Record
regions f [] = []
regions f (l ∷ told) = regions f told ++ region_by f (opens l)

unfoldable pub records : List Line → List R.Record
records told = regions (record_of told) told

-- D. the shelf: units in `unit` line order, each with the place of its first record, hearing its sessions
unfoldable pub declare : Shelf → U.Unit → Shelf
declare shelf u =
    record {
      bus = shelf.bus;
      count = shelf.count + 1;
      units = set shelf.units shelf.count u;
      arbiter = shelf.arbiter;
      granted = shelf.granted;
      frame = shelf.frame;
    }

abbrev pub hearing : U.Unit → ℕ → U.Unit
hearing u session =
    record {
      settings = u.settings;
      outlet = u.outlet;
      inlet = u.inlet;
      side = u.side;
      place = u.place;
      sessions = with_session u.sessions session;
    }

unfoldable pub join_at : Shelf → Option ℕ → ℕ → Shelf
join_at shelf (Some i) session =
    record {
      bus = shelf.bus;
      count = shelf.count;
      units = set shelf.units i (hearing (get_or shelf.units i blank) session);
      arbiter = shelf.arbiter;
      granted = shelf.granted;
      frame = shelf.frame;
    }
join_at shelf None session = shelf

unfoldable pub shelf_by : Line → ℕ → Shelf → Shelf
shelf_by (Bus bus) place shelf = fresh bus
shelf_by (L-as-Unit settings limits) place shelf = declare shelf (unit settings limits place)
shelf_by (Vp a b target class outvpi) place shelf = shelf
shelf_by (Drop a b) place shelf = shelf
shelf_by (Page a b top) place shelf = shelf
shelf_by (Vc a b c target class outvpi outvci) place shelf = shelf
shelf_by (Mc a session) place shelf = join_at shelf (find_in (declared shelf) a) session

unfoldable pub shelf_of : List Line → Shelf
shelf_of [] = fresh 16
shelf_of (l ∷ told) = shelf_by l (size * total told) (shelf_of told)

-- E. the memory: "All other bytes are zero, so are all bytes past the last record up to 262,144 or the memory's end; later bytes are
-- untouched."
unfoldable pub memory_of : Card → List ℕ → List Line → List ℕ
memory_of card memory told = image card (records told) ++ (replicate (usable memory - size * total told) 0 ++ drop (usable memory) memory)
