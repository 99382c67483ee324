-- What becomes of a cell by the line that serves it. A list of lines has the latest first. Assumes nothing.
use Rattle.std.specs.Prelude.{ℕ, cond, ◌&&◌, List, eqb, ltb, None, Option, Some}
use Rattle.header.specs.Fields.{fields}
use Rattle.header.specs.declared.Header as H
use Rattle.header.specs.declared.Link.{Link}
use Rattle.bus.specs.Routing.{routing}
use Rattle.card.specs.declared.Card.{Card}
use Rattle.lookup.specs.Record.{record_at}
use Rattle.lookup.specs.Lookup.{goes_by, translated}
use Rattle.lookup.specs.declared.Looked.{Looked}
use Rattle.lookup.specs.declared.Looked.TheVariants.{Ignored, Misrouted}
use Rattle.shelf.specs.declared.Unit as U
use Rattle.line.specs.declared.Line.{Line}
use Rattle.meaning.specs.Served.{Serving, by_vp, by_drop, by_vc, served}

-- what becomes of a cell: by a `vp` line its VCI is kept, by a `vc` line it is the line's; PT and CLP are kept
abbrev pub become : Option Serving → H.Header → Looked
become None h = Misrouted
become (Some by_drop) h = Ignored
become (Some (by_vp target class outvpi)) h = goes_by (routing target class) outvpi h.vci h
become (Some (by_vc target class outvpi outvci)) h = goes_by (routing target class) outvpi outvci h

-- "VPI 0 with VCI 0: `ignored`. .. above the top .., `misrouted`"; else the line that serves it, or none
unfoldable pub looked_up : List Line → Link → ℕ → ℕ → ℕ → Looked
looked_up told link u top header =
    let h = fields link header in
    cond (eqb h.vpi 0 && eqb h.vci 0) Ignored (cond (ltb top h.vpi) Misrouted (become (served told u h.vpi h.vci) h))

-- the lookup of a header at a unit of the shelf, in a memory; and what the lines say of it
abbrev pub lookup_at : Card → List ℕ → U.Unit → ℕ → Looked
lookup_at card memory unit header = translated (record_at card memory) unit.settings.link unit.settings.top unit.place header

abbrev pub said_by : List Line → ℕ → U.Unit → ℕ → Looked
said_by told u unit header = looked_up told unit.settings.link u unit.settings.top header
