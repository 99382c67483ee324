-- Arrival, of a state in lent bytes: what is answered, the bytes and the store afterwards. Assumes nothing.
use Rattle.std.specs.Prelude.{ℕ, cond, List, eqb, length, Result, Ok, Err}
use Rattle.card.specs.declared.Card.{Card}
use Rattle.store.specs.Rings.{pushed}
use Rattle.shelf.specs.declared.Unit as U
use Rattle.state.specs.Bytes.{unit_in, shelf_in, with_ring}
use Rattle.answer.specs.declared.Arrival as A
use Rattle.answer.specs.declared.Answer.TheVariants.{Arrived}
use Rattle.answer.specs.declared.Outcome.{Outcome}
use Rattle.answer.specs.declared.Single.{Single}
use Rattle.answer.specs.Done.{outcome_of}
use Rattle.answer.specs.Answers.{arrival_rises, counted_with, refused_with}
use Rattle.soundness.specs.Admission.{admitted_in, formed_or, decided}
use Rattle.arriving.specs.Arriving.{Way, way_of, inlet_full, arrive_done, arrive_store}

-- a cell has arrived at the unit in a place, with this fate
abbrev pub arrived_with : ℕ → A.Arrival → Single
arrived_with place fate = counted_with (Arrived fate) place (arrival_rises fate)

-- the bytes after an arrival at the unit in a place: a cell that is queued is one more in its inlet
unfoldable pub state_by : Way → U.Unit → List ℕ → ℕ → List ℕ
state_by (Err fate) u b place = b
state_by (Ok heads) u b place = cond (inlet_full u) b (with_ring b 14 15 place (pushed u.inlet))

abbrev pub state_at : Card → List ℕ → ℕ → List ℕ → List ℕ → List ℕ
state_at card b place memory c = state_by (way_of card (unit_in b place) memory c) (unit_in b place) b place

-- at the unit with a number, if it is let in
abbrev pub comes_in : Card → List ℕ → ℕ → ℕ → ℕ → List ℕ → Result ℕ ℕ
comes_in card b store rows unit c = admitted_in card b store rows unit (eqb (length c) 53)

abbrev pub arrive_out : Card → List ℕ → List ℕ → ℕ → ℕ → ℕ → List ℕ → Outcome
arrive_out card b memory store rows unit c = formed_or b (outcome_of (arrive_done card (shelf_in b) memory store rows unit c)) (refused_with 8)

abbrev pub arrive_state : Card → List ℕ → List ℕ → ℕ → ℕ → ℕ → List ℕ → List ℕ
arrive_state card b memory store rows unit c = decided (comes_in card b store rows unit c) (λ place. state_at card b place memory c) (λ number. b)

abbrev pub arrive_store_in : Card → List ℕ → List ℕ → List ℕ → ℕ → ℕ → List ℕ → List ℕ
arrive_store_in card b memory store rows unit c = formed_or b (arrive_store card (shelf_in b) memory store rows unit c) store
