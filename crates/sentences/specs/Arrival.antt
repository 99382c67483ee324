-- Arrival at a unit. Assumes nothing.
use Rattle.std.specs.Prelude.{ℕ, ◌+◌, ◌≤◌, ◌<◌, ◌≡◌, List, length, take, drop}
use Rattle.card.specs.declared.Card.{Card}
use Rattle.answer.specs.declared.Answer.TheVariants.{Arrived}
use Rattle.answer.specs.declared.Arrival as A
use Rattle.answer.specs.declared.Arrival.TheVariants as arrival
use Rattle.paper.specs.Cells.{four, pt, clp, header, bus_cell}
use Rattle.paper.specs.Outlets.{slot_at, behind, longer}
use Rattle.paper.specs.Counters.{arrival_counts, RisenAt}
use Rattle.paper.specs.State.{unit_at, DeclaredAt}
use Rattle.paper.specs.Arrival.{Way, hec, ignored, misrouted, routed, Meets}
use Rattle.document.specs.Events.{Event, arrive, answers}
use Rattle.running.specs.Events.{World, Outcome}
use Rattle.sentences.specs.Changes.{with_unit, with_inlet, with_cell}

-- a cell is lost: its fate is said, it is counted as arrived and by its fate at its unit, and nothing else changes
pub record Lost (w : World) (place : ℕ) (cell : List ℕ) (fate : A.Arrival) (o : Outcome) : Type 0 where
  pub said : o.said ≡ answers (Arrived fate)
  pub shelf : o.world.shelf ≡ w.shelf
  pub memory : o.world.memory ≡ w.memory
  pub store : o.world.store ≡ w.store
  pub rows : RisenAt w.rows place (arrival_counts fate) o.world.rows
  pub bytes : o.bytes ≡ cell

-- the 56 bytes of a routed cell: "PT and CLP are kept.", and the payload
abbrev pub on_bus : ℕ → ℕ → ℕ → List ℕ → List ℕ
on_bus routing v c cell = bus_cell routing (header v c (pt (four cell 0)) (clp (four cell 0))) (take 48 (drop 5 cell))

-- it is queued: it stands behind the others in the inlet, and is counted as arrived; "queued (outlet)" counts copies
pub record Queued (w : World) (place : ℕ) (cell waiting : List ℕ) (o : Outcome) : Type 0 where
  pub said : o.said ≡ answers (Arrived arrival.Queued)
  pub shelf : o.world.shelf ≡ with_unit w.shelf place (with_inlet (unit_at w.shelf place) (longer (unit_at w.shelf place).inlet))
  pub memory : o.world.memory ≡ w.memory
  pub store : o.world.store ≡ with_cell w.store (slot_at place (123 + behind (unit_at w.shelf place).inlet 4)) waiting
  pub rows : RisenAt w.rows place (arrival_counts arrival.Queued) o.world.rows
  pub bytes : o.bytes ≡ cell

-- "A routed cell finding 4 cells in the inlet is `inletfull`, else `queued`."
abbrev pub ComesTo : World → ℕ → List ℕ → Way → Outcome → Type 0
ComesTo w place cell hec o = Lost w place cell arrival.Hec o
ComesTo w place cell ignored o = Lost w place cell arrival.Ignored o
ComesTo w place cell misrouted o = Lost w place cell arrival.Misrouted o
ComesTo w place cell (routed routing v c) o =
    (4 ≤ (unit_at w.shelf place).inlet.count → Lost w place cell arrival.Inletfull o)
    × ((unit_at w.shelf place).inlet.count < 4 → Queued w place cell (on_bus routing v c cell) o)

-- a cell of 53 bytes meets exactly one way, and comes to what 01 says of that
pub record Arrives (card : Card) (w : World) (place : ℕ) (cell : List ℕ) (o : Outcome) : Type 0 where
  pub way : Way
  pub meets : Meets card w.memory (unit_at w.shelf place) cell way
  pub only : (other : Way) → Meets card w.memory (unit_at w.shelf place) cell other → other ≡ way
  pub comes_to : ComesTo w place cell way o

abbrev pub ArrivalRule : Card → World → (Event → Outcome) → Type 0
ArrivalRule card w comes = (unit place : ℕ) → DeclaredAt w.shelf unit place → (cell : List ℕ) → length cell ≡ 53 → Arrives card w place cell (comes (arrive unit cell))
