-- The declared unit that a line names, and the place of its record. Assumes nothing.
use Rattle.std.specs.Prelude.{ℕ, ◌+◌, ◌*◌, List, get_or, None, Option, Some, Err}
use Rattle.arbiter.specs.Arbitration.{nobody}
use Rattle.lookup.specs.Record.{size}
use Rattle.shelf.specs.Shelves.{blank, declared, find_in}
use Rattle.shelf.specs.declared.Unit as U
use Rattle.shelf.specs.Shelf.{Shelf}
use Rattle.line.specs.declared.Line.{Line}
use Rattle.line.specs.declared.Line.TheVariants.{Bus, Unit as L-as-Unit, Vp, Drop, Page, Vc, Mc}
use Rattle.judge.specs.declared.Owner.{Owner}
use Rattle.judge.specs.declared.Fault.TheVariants.{Order}
use Rattle.judge.specs.Verdicts.{Verdict}

-- the number of the unit that a line names; a `bus` line names nobody
abbrev pub unit_of : Line → ℕ
unit_of (Bus bus) = nobody
unit_of (L-as-Unit settings limits) = settings.number
unit_of (Vp u v target class outvpi) = u
unit_of (Drop u v) = u
unit_of (Page u v top) = u
unit_of (Vc u v w target class outvpi outvci) = u
unit_of (Mc u session) = u

-- the declared unit with this number, where there is one
abbrev pub owner_is : ℕ → U.Unit → Owner
owner_is i unit = record { top = unit.settings.top; place = unit.place; at = i }

abbrev pub owner_at : Shelf → Option ℕ → Option Owner
owner_at shelf (Some i) = Some (owner_is i (get_or shelf.units i blank))
owner_at shelf None = None

unfoldable pub owner_of : Shelf → ℕ → Option Owner
owner_of shelf u = owner_at shelf (find_in (declared shelf) u)

-- "unit not declared before use"
unfoldable pub owned_by : Option Owner → (Owner → Verdict) → Verdict
owned_by (Some o) rest = rest o
owned_by None rest = Err (Order 2)

-- the sessions that it hears
abbrev pub sessions_at : Shelf → Owner → List ℕ
sessions_at shelf o = (get_or shelf.units o.at blank).sessions

-- the place of a unit's record for a VPI
abbrev pub spot : Owner → ℕ → ℕ
spot o vpi = o.place + size * vpi
