-- The events of documents 01 and 02, and what one gives back. Assumes nothing.
use Rattle.std.specs.Prelude.{ℕ, List, [], None, Option, Some}
use Rattle.answer.specs.Answers.{number_of}
use Rattle.answer.specs.declared.Answer as A
use Rattle.answer.specs.declared.Counters as C

-- every event with every argument: a cell, a frame or a buffer is a list of bytes of any length
pub data Event : Type 0 where
  arrive : ℕ → List ℕ → Event
  frame : List ℕ → Event
  hear : ℕ → List ℕ → Event
  take_cell : ℕ → List ℕ → Event
  count : ℕ → Event
  hand : ℕ → List ℕ → Event
  collect : ℕ → List ℕ → Event

-- the bytes that are lent with an event
unfoldable pub bytes_of : Event → List ℕ
bytes_of (arrive unit cell) = cell
bytes_of (frame buffer) = buffer
bytes_of (hear unit heard) = heard
bytes_of (take_cell unit buffer) = buffer
bytes_of (count unit) = []
bytes_of (hand unit cell) = cell
bytes_of (collect unit buffer) = buffer

-- the unit that an event names; a frame is every unit's
unfoldable pub named : Event → Option ℕ
named (arrive unit cell) = Some unit
named (frame buffer) = None
named (hear unit heard) = Some unit
named (take_cell unit buffer) = Some unit
named (count unit) = Some unit
named (hand unit cell) = Some unit
named (collect unit buffer) = Some unit

-- what an event says: an answer, or the counters of a unit
pub data Said : Type 0 where
  answers : A.Answer → Said
  counts : C.Counters → Said

-- 01's "Numbers given back", 0 where nothing is refused
unfoldable pub number_said : Said → ℕ
number_said (answers answer) = number_of answer
number_said (counts row) = 0

-- what an event gives back: what it says, and the lent bytes as they are afterwards
pub record Back : Type 0 where
  pub said : Said
  pub bytes : List ℕ
