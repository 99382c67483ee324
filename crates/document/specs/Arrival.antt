-- 01's Arrival. Assumes nothing.
use Rattle.std.specs.Prelude.{ℕ, cond, ◌&&◌, List, [], ◌∷◌, ◌++◌, eqb, leb, ltb, length, get_or, None, Option, Some}
use Rattle.octets.specs.Octets.{four, part}
use Rattle.header.specs.Fields.{fields, word}
use Rattle.header.specs.Check.{check}
use Rattle.header.specs.declared.Header as H
use Rattle.header.specs.declared.Link.TheVariants.{Nni}
use Rattle.bus.specs.declared.Target.{Target}
use Rattle.shelf.specs.declared.Settings.{Settings}
use Rattle.line.specs.declared.Line.{Line}
use Rattle.meaning.specs.Served.{Serving, by_vp, by_drop, by_vc, served}
use Rattle.answer.specs.declared.Arrival as A
use Rattle.answer.specs.declared.Arrival.TheVariants.{Hec, Ignored, Misrouted, Inletfull, Queued}
use Rattle.paper.specs.Counters.{arrival_counts}
use Rattle.document.specs.Counters.{entries}
use Rattle.document.specs.Shelf.{Routed, Unit, Shelf, number_of, unit_at, with_inlet, after}

-- a cell goes to the bus, or is lost with a fate
pub data Way : Type 0 where
  goes : Routed → Way
  lost : A.Arrival → Way

-- "PT and CLP are kept."
abbrev pub routed : Target → ℕ → ℕ → ℕ → H.Header → List ℕ → Routed
routed target class vpi vci h payload =
    record {
      target = target;
      class = class;
      cell = record { header = word Nni (record { gfc = 0; vpi = vpi; vci = vci; pt = h.pt; clp = h.clp }); payload = payload };
    }

-- "kind 0, `misrouted`; drop, `ignored`; route, VCI kept; page, the VCI's record": the line that serves the cell says it, or there is none
unfoldable pub way_by : Option Serving → H.Header → List ℕ → Way
way_by None h payload = lost Misrouted
way_by (Some by_drop) h payload = lost Ignored
way_by (Some (by_vp target class outvpi)) h payload = goes (routed target class outvpi h.vci h payload)
way_by (Some (by_vc target class outvpi outvci)) h payload = goes (routed target class outvpi outvci h payload)

-- "VPI 0 with VCI 0: `ignored`. Then the record for the VPI as that link reads it: above the top .., `misrouted`"
unfoldable pub way_for : List Line → Settings → H.Header → List ℕ → Way
way_for lines s h payload =
    cond (eqb h.vpi 0 && eqb h.vci 0) (lost Ignored)
    (cond (ltb s.top h.vpi) (lost Misrouted) (way_by (served lines s.number h.vpi h.vci) h payload))

-- "A line cell is 53 bytes: header 4, check 1, payload 48.": its header, "as that link reads it"
abbrev pub header_of : Settings → List ℕ → H.Header
header_of s c = fields s.link (four c 0)

-- "Wrong header check: `hec`."
unfoldable pub way_of : List Line → Settings → List ℕ → Way
way_of lines s c = cond (eqb (check (four c 0)) (get_or c 4 0)) (way_for lines s (header_of s c) (part c 5 48)) (lost Hec)

-- "A routed cell finding 4 cells in the inlet is `inletfull`, else `queued`."
unfoldable pub arrival_by : Way → Unit → A.Arrival
arrival_by (lost fate) u = fate
arrival_by (goes r) u = cond (leb 4 (length u.inlet)) Inletfull Queued

unfoldable pub inlet_by : Way → Unit → List Routed
inlet_by (lost fate) u = u.inlet
inlet_by (goes r) u = cond (leb 4 (length u.inlet)) u.inlet (u.inlet ++ (r ∷ []))

-- the fate of a cell that arrives at a unit of these lines, and the shelf afterwards
abbrev pub arrival_of : List Line → Unit → List ℕ → A.Arrival
arrival_of lines u c = arrival_by (way_of lines u.settings c) u

unfoldable pub arrived : Shelf → ℕ → List ℕ → Shelf
arrived shelf place c =
    let u = unit_at shelf place in
    after shelf place (with_inlet u (inlet_by (way_of shelf.lines u.settings c) u)) (entries (number_of u) (arrival_counts (arrival_of shelf.lines u c)))
