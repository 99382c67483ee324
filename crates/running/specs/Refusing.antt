-- Demand 1 over every event: "A bad .. frame, cell, buffer or shelf state is refused with a fixed number"; "every other refusal changes nothing". Assumes nothing.
use Rattle.std.specs.Prelude.{ℕ, ◌≡◌, Bool, true, false, cond, eqb, length, None, Option, Some}
use Rattle.card.specs.declared.Card.{Card}
use Rattle.shelf.specs.Shelves.{declared, find_in, is_at}
use Rattle.shelf.specs.Shelf.{Shelf}
use Rattle.soundness.specs.State.{sound_of}
use Rattle.soundness.specs.Admission.{unit_at}
use Rattle.handing.specs.Hands.{busy}
use Rattle.answer.specs.declared.Answer.TheVariants.{Refused}
use Rattle.document.specs.Events.{Event, arrive, frame, hear, take_cell, count, hand, collect, bytes_of, answers, number_said}
use Rattle.running.specs.Events.{World, happens}

-- "9 Unit: unit not declared"; a frame names none
unfoldable pub known : Shelf → Event → Bool
known shelf (arrive unit cell) = is_at (find_in (declared shelf) unit)
known shelf (frame buffer) = true
known shelf (hear unit heard) = is_at (find_in (declared shelf) unit)
known shelf (take_cell unit buffer) = is_at (find_in (declared shelf) unit)
known shelf (count unit) = is_at (find_in (declared shelf) unit)
known shelf (hand unit cell) = is_at (find_in (declared shelf) unit)
known shelf (collect unit buffer) = is_at (find_in (declared shelf) unit)

-- "10 Length: cell slice or buffer not 53 bytes, frame not 57"; of hand and collect "Length for other than 56 bytes"
unfoldable pub fits : Event → Bool
fits (arrive unit cell) = eqb (length cell) 53
fits (frame buffer) = eqb (length buffer) 57
fits (hear unit heard) = eqb (length heard) 57
fits (take_cell unit buffer) = eqb (length buffer) 53
fits (count unit) = true
fits (hand unit cell) = eqb (length cell) 56
fits (collect unit buffer) = eqb (length buffer) 56

-- "11 Busy, place taken": of a hand-in alone
abbrev pub taken_at : Shelf → Option ℕ → Bool
taken_at shelf (Some place) = busy (unit_at shelf place)
taken_at shelf None = false

unfoldable pub taken : Shelf → Event → Bool
taken shelf (arrive unit cell) = false
taken shelf (frame buffer) = false
taken shelf (hear unit heard) = false
taken shelf (take_cell unit buffer) = false
taken shelf (count unit) = false
taken shelf (hand unit cell) = taken_at shelf (find_in (declared shelf) unit)
taken shelf (collect unit buffer) = false

-- "Refusals 8 to 10, in that order", "then 11 Busy"; 0 where none of them is given
abbrev pub refusal : Card → World → Event → ℕ
refusal card w e =
    cond (sound_of card w.shelf (length w.store) (length w.rows)) (cond (known w.shelf e) (cond (fits e) (cond (taken w.shelf e) 11 0) 10) 9) 8

-- each of 8 to 11 is given exactly when its condition holds and none before it does, for every event on every world
abbrev pub RefusedIff : Type 0
RefusedIff = (card : Card) (w : World) (e : Event) → number_said (happens card w e).said ≡ refusal card w e

-- "Refusals 8 to 10 .. change nothing", and 11: its number is all that is said; shelf, memory, store, rows and the lent bytes are as they were
abbrev pub RefusalChangesNothing : Type 0
RefusalChangesNothing =
    (card : Card) (w : World) (e : Event) → (refusal card w e ≡ 0 → ⊥) → happens card w e ≡ record { said = answers (Refused (refusal card w e)); world = w; bytes = bytes_of e }
