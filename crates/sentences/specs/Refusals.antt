-- "Refusals 8 to 10, in that order, change nothing.", and 11 after them. Assumes nothing.
use Rattle.std.specs.Prelude.{ℕ, ◌≤◌, ◌≡◌, ◌≢◌, ◌↔◌, length}
use Rattle.card.specs.declared.Card.{Card}
use Rattle.shelf.specs.Shelf.{Shelf}
use Rattle.paper.specs.State.{unit_at, DeclaredAt, Declared}
use Rattle.answer.specs.declared.Answer.TheVariants as answer
use Rattle.document.specs.Events.{Event, arrive, frame, hear, take_cell, count, hand, collect, bytes_of, answers, number_said}
use Rattle.running.specs.Lent.{Lent, Long, does, seen}
use Rattle.sentences.specs.Changes.{StateGood}

-- "Unit: unit not declared"; a frame names none
abbrev pub UnitGood : Shelf → Event → Type 0
UnitGood shelf (arrive unit cell) = Declared shelf unit
UnitGood shelf (frame buffer) = Unit {0}
UnitGood shelf (hear unit heard) = Declared shelf unit
UnitGood shelf (take_cell unit buffer) = Declared shelf unit
UnitGood shelf (count unit) = Declared shelf unit
UnitGood shelf (hand unit cell) = Declared shelf unit
UnitGood shelf (collect unit buffer) = Declared shelf unit

-- "Length: cell slice or buffer not 53 bytes, frame not 57"; of hand and collect "Length for other than 56 bytes"
abbrev pub LengthGood : Event → Type 0
LengthGood (arrive unit cell) = length cell ≡ 53
LengthGood (frame buffer) = length buffer ≡ 57
LengthGood (hear unit heard) = length heard ≡ 57
LengthGood (take_cell unit buffer) = length buffer ≡ 53
LengthGood (count unit) = Unit {0}
LengthGood (hand unit cell) = length cell ≡ 56
LengthGood (collect unit buffer) = length buffer ≡ 56

-- "then 11 Busy, place taken": of a hand-in alone
abbrev pub Busy : Shelf → Event → Type 0
Busy shelf (arrive unit cell) = ⊥
Busy shelf (frame buffer) = ⊥
Busy shelf (hear unit heard) = ⊥
Busy shelf (take_cell unit buffer) = ⊥
Busy shelf (count unit) = ⊥
Busy shelf (hand unit cell) = (place : ℕ) × DeclaredAt shelf unit place × (1 ≤ (unit_at shelf place).side.controlin)
Busy shelf (collect unit buffer) = ⊥

-- each number exactly when its condition holds and none before it does, whatever the bytes are; with a number, that is all that is said, and no byte has changed; without one the event is let in
pub record Refused (card : Card) (l : Lent) (e : Event) : Type 0 where
  pub state_8 : (number_said (does card l e).said ≡ 8) ↔ (StateGood card l → ⊥)
  pub unit_9 : (number_said (does card l e).said ≡ 9) ↔ (StateGood card l × (UnitGood (seen l).shelf e → ⊥))
  pub length_10 : (number_said (does card l e).said ≡ 10) ↔ (StateGood card l × UnitGood (seen l).shelf e × (LengthGood e → ⊥))
  pub busy_11 : (number_said (does card l e).said ≡ 11) ↔ (StateGood card l × UnitGood (seen l).shelf e × LengthGood e × Busy (seen l).shelf e)
  pub let_in : (number_said (does card l e).said ≡ 0) ↔ (StateGood card l × UnitGood (seen l).shelf e × LengthGood e × (Busy (seen l).shelf e → ⊥))
  pub only_number : number_said (does card l e).said ≢ 0 → (does card l e).said ≡ answers (answer.Refused (number_said (does card l e).said))
  pub same_lent : number_said (does card l e).said ≢ 0 → (does card l e).lent ≡ l
  pub same_bytes : number_said (does card l e).said ≢ 0 → (does card l e).bytes ≡ bytes_of e

abbrev pub RefusedRule : Type 0
RefusedRule = (card : Card) (l : Lent) (e : Event) → Long l → Refused card l e

-- every event leaves a good state good, with every argument
abbrev pub StateKept : Type 0
StateKept = (card : Card) (l : Lent) (e : Event) → Long l → StateGood card l → StateGood card (does card l e).lent
