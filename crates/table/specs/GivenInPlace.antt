-- What a line makes of the state's bytes. Assumes nothing.
use Rattle.std.specs.Prelude.{ℕ, List, None, Option, Some}
use Rattle.outlet.specs.Outlets.{fresh as fresh_outlet}
use Rattle.shelf.specs.Shelves.{declared, find_in}
use Rattle.state.specs.Bytes.{shelf_in}
use Rattle.state.specs.Placing.{fresh_bytes, declared_by, joined}
use Rattle.line.specs.declared.Line.{Line}
use Rattle.line.specs.declared.Line.TheVariants.{Bus, Unit as L-as-Unit, Vp, Drop, Page, Vc, Mc}

-- a unit that was found hears a session more
unfoldable pub joined_at : List ℕ → Option ℕ → ℕ → List ℕ
joined_at b (Some i) session = joined b i session
joined_at b None session = b

-- "`mc` unit, session: the unit hears that session"; a `unit` line declares a unit whose records start at this place
unfoldable pub state_by : Line → ℕ → List ℕ → List ℕ
state_by (Bus bus) place b = fresh_bytes bus
state_by (L-as-Unit settings limits) place b = declared_by b settings (fresh_outlet limits) place
state_by (Vp a v target class outvpi) place b = b
state_by (Drop a v) place b = b
state_by (Page a v top) place b = b
state_by (Vc a v w target class outvpi outvci) place b = b
state_by (Mc a session) place b = joined_at b (find_in (declared (shelf_in b)) a) session
