-- Arrival at a unit. Assumes nothing.
use Rattle.std.specs.Prelude.{ℕ, Bool, cond, List, eqb, leb, length, get_or, Result, Ok, Err}
use Rattle.octets.specs.Octets.{four, part}
use Rattle.card.specs.declared.Card.{Card}
use Rattle.lookup.specs.Record.{record_at}
use Rattle.lookup.specs.Lookup.{sound_header, translated}
use Rattle.lookup.specs.declared.Looked as L
use Rattle.lookup.specs.declared.Looked.TheVariants as looked
use Rattle.bus.specs.Frame.{cell}
use Rattle.store.specs.Rings.{tail, pushed}
use Rattle.store.specs.Places.{inlet_slot, put_at}
use Rattle.shelf.specs.declared.Settings.{Settings}
use Rattle.shelf.specs.declared.Unit as U
use Rattle.shelf.specs.Shelf.{Shelf}
use Rattle.answer.specs.declared.Arrival as A
use Rattle.answer.specs.declared.Arrival.TheVariants.{Hec, Ignored, Misrouted, Inletfull, Queued}
use Rattle.answer.specs.declared.Answer.TheVariants.{Arrived}
use Rattle.answer.specs.Done.{Done}
use Rattle.answer.specs.Answers.{arrival_rises, row, ends, refused}
use Rattle.soundness.specs.Admission.{admitted, decided, unit_at, with_unit, with_inlet}
use Rattle.arriving.specs.declared.Headers.{Headers}

-- where an arriving cell goes: to the bus with these headers, or nowhere, with this fate
abbrev pub Way : Type 0
Way = Result Headers A.Arrival

-- "Then the record for the VPI as that link reads it": ignored, misrouted, or routed
unfoldable pub way_by : L.Looked → Way
way_by looked.Ignored = Err Ignored
way_by looked.Misrouted = Err Misrouted
way_by (looked.Goes routing header) = Ok (record { routing = routing; header = header })

-- "Wrong header check: `hec`."
abbrev pub way_for : Card → Settings → ℕ → List ℕ → List ℕ → Way
way_for card settings at memory c =
    cond (sound_header (four c 0) (get_or c 4 0))
    (way_by (translated (record_at card memory) settings.link settings.top at (four c 0)))
    (Err Hec)

unfoldable pub way_of : Card → U.Unit → List ℕ → List ℕ → Way
way_of card u memory c = way_for card u.settings u.place memory c

-- a cell has arrived at the unit in a place, with this fate
abbrev pub arrived : Shelf → ℕ → A.Arrival → Done
arrived shelf place fate = ends (Arrived fate) shelf (row place (arrival_rises fate))

-- "4 cells in the inlet"
abbrev pub inlet_full : U.Unit → Bool
inlet_full u = leb 4 u.inlet.count

-- the shelf with one cell more in an inlet
abbrev pub cell_in : Shelf → ℕ → Shelf
cell_in shelf place = with_unit shelf place (with_inlet (unit_at shelf place) (pushed (unit_at shelf place).inlet))

-- "A routed cell finding 4 cells in the inlet is `inletfull`, else `queued`."
unfoldable pub done_by : Way → Shelf → ℕ → Done
done_by (Err fate) shelf place = arrived shelf place fate
done_by (Ok heads) shelf place =
    cond (inlet_full (unit_at shelf place)) (arrived shelf place Inletfull) (arrived (cell_in shelf place) place Queued)

-- the queued cell: the two headers, and the payload as it came
unfoldable pub store_by : Way → U.Unit → ℕ → List ℕ → List ℕ → List ℕ
store_by (Err fate) u place store c = store
store_by (Ok heads) u place store c =
    cond (inlet_full u) store (put_at store place (inlet_slot (tail u.inlet 4)) (cell heads.routing 0 heads.header (part c 5 48)))

-- at the unit in a place
abbrev pub done_at : Card → Shelf → ℕ → List ℕ → List ℕ → Done
done_at card shelf place memory c = done_by (way_of card (unit_at shelf place) memory c) shelf place

abbrev pub store_at : Card → Shelf → ℕ → List ℕ → List ℕ → List ℕ → List ℕ
store_at card shelf place memory store c = store_by (way_of card (unit_at shelf place) memory c) (unit_at shelf place) place store c

-- at the unit with a number, if it is let in
abbrev pub let_in : Card → Shelf → ℕ → ℕ → ℕ → List ℕ → Result ℕ ℕ
let_in card shelf store rows unit c = admitted card shelf store rows unit (eqb (length c) 53)

abbrev pub arrive_done : Card → Shelf → List ℕ → ℕ → ℕ → ℕ → List ℕ → Done
arrive_done card shelf memory store rows unit c = decided (let_in card shelf store rows unit c) (λ place. done_at card shelf place memory c) (refused shelf)

abbrev pub arrive_store : Card → Shelf → List ℕ → List ℕ → ℕ → ℕ → List ℕ → List ℕ
arrive_store card shelf memory store rows unit c =
    decided (let_in card shelf (length store) rows unit c) (λ place. store_at card shelf place memory store c) (λ number. store)
