-- An event at a unit leaves everything else alone. Assumes nothing.
use Rattle.std.specs.Prelude.{ℕ, ◌+◌, ◌%◌, ◌<◌, ◌≤◌, ◌≡◌, ◌≢◌, ◌⊎◌, List, length, get_or, None, Some}
use Rattle.card.specs.declared.Card.{Card}
use Rattle.store.specs.Places.{part_of}
use Rattle.shelf.specs.Shelves.{declared, find_in}
use Rattle.answer.specs.Counting.{zeros}
use Rattle.soundness.specs.Admission.{unit_at}
use Rattle.document.specs.Events.{Event, named}
use Rattle.running.specs.Events.{World}
use Rattle.running.specs.Lent.{Lent, Long, does, seen}

-- a byte of the store outside the 8,192 bytes of the unit in a place
abbrev pub Outside : ℕ → ℕ → Type 0
Outside place byte = (byte < part_of place) ⊎ (part_of place + 8192 ≤ byte)

-- between these two worlds nothing has changed but the unit in a place, its row and its part of the store
pub record OnlyAt (place : ℕ) (before after : World) : Type 0 where
  pub units : (j : ℕ) → j ≢ place → unit_at after.shelf j ≡ unit_at before.shelf j
  pub rows : (j : ℕ) → j ≢ place → get_or after.rows j zeros ≡ get_or before.rows j zeros
  pub store : (k : ℕ) → Outside place k → get_or after.store k 0 ≡ get_or before.store k 0
  pub many_units : length after.shelf.units ≡ length before.shelf.units
  pub many_rows : length after.rows ≡ length before.rows
  pub many_bytes : length after.store ≡ length before.store
  pub memory : after.memory ≡ before.memory
  pub bus : after.shelf.bus ≡ before.shelf.bus
  pub declared_units : after.shelf.count ≡ before.shelf.count
  pub arbiter : after.shelf.arbiter ≡ before.shelf.arbiter
  pub granted : after.shelf.granted ≡ before.shelf.granted
  pub frame : after.shelf.frame ≡ before.shelf.frame

-- the columns that say what a unit holds: 14 to 23 of its inlet and its queues, 26 to 30 of its places for control and loopback cells
abbrev pub Rings : ℕ → Type 0
Rings k = ((448 ≤ k) × (k < 768)) ⊎ ((832 ≤ k) × (k < 992))

-- of the bytes of the state none has changed but those, in the unit's place
abbrev pub OnlyRings : ℕ → List ℕ → List ℕ → Type 0
OnlyRings place before after = (k : ℕ) → (Rings k → k % 32 ≡ place → ⊥) → get_or after k 0 ≡ get_or before k 0

-- Arrive, hear, take, count, hand and collect change no other unit, no other row and no byte of another part of the store, whatever the state, sound or not, and
-- whatever the event is handed; "9 Unit: unit not declared", "Refusals 8 to 10 .. change nothing"
abbrev pub Isolation : Type 0
Isolation =
    (card : Card) (l : Lent) (e : Event) (unit : ℕ) → Long l → named e ≡ Some unit →
    ((place : ℕ) → find_in (declared (seen l).shelf) unit ≡ Some place → OnlyAt place (seen l) (seen (does card l e).lent) × OnlyRings place l.state (does card l e).lent.state)
    × (find_in (declared (seen l).shelf) unit ≡ None → (does card l e).lent ≡ l)
