-- One event on a shelf in lent bytes: what the contracts of `entry` say, side by side. Assumes nothing.
use Rattle.std.specs.Prelude.{ℕ, ◌≡◌, List, [], ◌∷◌, length}
use Rattle.card.specs.declared.Card.{Card}
use Rattle.state.specs.Bytes.{shelf_in}
use Rattle.answer.specs.declared.Counters as C
use Rattle.entry.specs.Outcomes.{Left, arrives, frames, hears, takes, hands, collects, counts_of, loads}
use Rattle.document.specs.Events.{Event, arrive, frame, hear, take_cell, count, hand, collect, Said, answers}
use Rattle.running.specs.Events.{World, Outcome, count_said}

-- what is lent to a running shelf: the bytes of its state, the memory, the store and the counter rows
pub record Lent : Type 0 where
  pub state : List ℕ
  pub memory : List ℕ
  pub store : List ℕ
  pub rows : List C.Counters

-- a `[u8; 2048]` is lent
abbrev pub Long : Lent → Type 0
Long l = length l.state ≡ 2048

-- what comes of an event: what it says; what is lent, and the bytes that were lent with the event, as they are afterwards
pub record Came : Type 0 where
  pub said : Said
  pub lent : Lent
  pub bytes : List ℕ

abbrev pub came : Lent → Left → Came
came l after =
    record {
      said = answers after.answer;
      lent = record { state = after.state; memory = l.memory; store = after.store; rows = after.rows };
      bytes = after.bytes;
    }

-- each line is the contract of the entry point with that name
unfoldable pub does : Card → Lent → Event → Came
does card l (arrive unit cell) = came l (arrives card l.state l.memory l.store l.rows (length l.rows) unit cell)
does card l (frame buffer) = came l (frames card l.state l.store l.rows (length l.rows) buffer)
does card l (hear unit heard) = came l (hears card l.state l.store l.rows (length l.rows) unit heard)
does card l (take_cell unit buffer) = came l (takes card l.state l.store l.rows (length l.rows) unit buffer)
does card l (hand unit cell) = came l (hands card l.state l.store l.rows (length l.rows) unit cell)
does card l (collect unit buffer) = came l (collects card l.state l.store l.rows (length l.rows) unit buffer)
does card l (count unit) = record { said = count_said (counts_of card l.state l.store l.rows (length l.rows) unit); lent = l; bytes = [] }

-- one event after the other
unfoldable pub run_in : Card → Lent → List Event → Lent
run_in card l [] = l
run_in card l (e ∷ es) = run_in card (does card l e).lent es

-- what the contract of `entry::load` leaves, good table or not: no byte of the state before has a part in it
abbrev pub loaded_in : Card → List ℕ → List ℕ → List ℕ → List C.Counters → Lent
loaded_in card text memory store rows =
    let d = loads card text memory store rows (length rows) in
    record { state = d.state; memory = d.memory; store = store; rows = d.rows }

-- what is lent, with the shelf that the bytes are
abbrev pub seen : Lent → World
seen l = record { shelf = shelf_in l.state; memory = l.memory; store = l.store; rows = l.rows }

abbrev pub shown : Came → Outcome
shown c = record { said = c.said; world = seen c.lent; bytes = c.bytes }
