-- What comes of each of the eight: what is given back, and what was lent, as it is afterwards; b is the state's bytes. The contracts of `entry` and `owned` cite these, and every promise speaks of them.
-- Assumes nothing.
use Rattle.std.specs.Prelude.{ℕ, ◌≡◌, List, length, Result}
use Rattle.card.specs.declared.Card.{Card}
use Rattle.answer.specs.declared.Answer.{Answer}
use Rattle.answer.specs.declared.Outcome.{Outcome}
use Rattle.answer.specs.Counting.{settled}
use Rattle.answer.specs.declared.Counters as C
use Rattle.soundness.specs.Admission.{counted_in}
use Rattle.arriving.specs.InPlace.{arrive_out, arrive_state, arrive_store_in}
use Rattle.framing.specs.InPlace.{frame_out, frame_state, frame_store_in, frame_buffer_in}
use Rattle.hearing.specs.InPlace.{hear_out, hear_state, hear_store_in}
use Rattle.taking.specs.InPlace.{take_out, take_state, take_buffer_in}
use Rattle.handing.specs.InPlace.{hand_out, hand_state, hand_store_in, collect_out, collect_state, collect_buffer_in}
use Rattle.table.specs.EventInPlace.{load_out, load_state}
use Rattle.table.specs.Loads.{load_memory}
use Rattle.entry.specs.Counts.{count_of}

-- what an event leaves: its answer, the state, the store, the rows, and the bytes that were lent with it
pub record Left : Type 0 where
  pub answer : Answer
  pub state : List ℕ
  pub store : List ℕ
  pub rows : List C.Counters
  pub bytes : List ℕ

abbrev pub left : Outcome → List ℕ → List ℕ → List C.Counters → List ℕ → Left
left out state store rows bytes = record { answer = out.answer; state = state; store = store; rows = settled rows out.rises; bytes = bytes }

-- the events, with the first so many of the rows lent
abbrev pub arrives : Card → List ℕ → List ℕ → List ℕ → List C.Counters → ℕ → ℕ → List ℕ → Left
arrives card b memory store rows many unit cell =
    left (arrive_out card b memory (length store) many unit cell) (arrive_state card b memory (length store) many unit cell) (arrive_store_in card b memory store many unit cell) rows cell

abbrev pub frames : Card → List ℕ → List ℕ → List C.Counters → ℕ → List ℕ → Left
frames card b store rows many buffer =
    left (frame_out card b store many (length buffer)) (frame_state card b store many (length buffer)) (frame_store_in card b store many (length buffer)) rows (frame_buffer_in card b store many buffer)

abbrev pub hears : Card → List ℕ → List ℕ → List C.Counters → ℕ → ℕ → List ℕ → Left
hears card b store rows many unit heard =
    left (hear_out card b (length store) many unit heard) (hear_state card b (length store) many unit heard) (hear_store_in card b store many unit heard) rows heard

abbrev pub takes : Card → List ℕ → List ℕ → List C.Counters → ℕ → ℕ → List ℕ → Left
takes card b store rows many unit buffer =
    left (take_out card b (length store) many unit (length buffer)) (take_state card b (length store) many unit (length buffer)) store rows (take_buffer_in card b store many unit buffer)

abbrev pub hands : Card → List ℕ → List ℕ → List C.Counters → ℕ → ℕ → List ℕ → Left
hands card b store rows many unit cell =
    left (hand_out card b (length store) many unit (length cell)) (hand_state card b (length store) many unit (length cell)) (hand_store_in card b store many unit cell) rows cell

abbrev pub collects : Card → List ℕ → List ℕ → List C.Counters → ℕ → ℕ → List ℕ → Left
collects card b store rows many unit buffer =
    left (collect_out card b (length store) many unit (length buffer)) (collect_state card b (length store) many unit (length buffer)) store rows (collect_buffer_in card b store many unit buffer)

abbrev pub counts_of : Card → List ℕ → List ℕ → List C.Counters → ℕ → ℕ → Result C.Counters ℕ
counts_of card b store rows many unit = count_of (counted_in card b (length store) many unit) rows

-- what a load leaves
pub record Laden : Type 0 where
  pub answer : Answer
  pub memory : List ℕ
  pub state : List ℕ
  pub rows : List C.Counters

abbrev pub loads : Card → List ℕ → List ℕ → List ℕ → List C.Counters → ℕ → Laden
loads card text memory store rows many =
    let out = load_out card text memory (length store) many in
    record {
      answer = out.answer;
      memory = load_memory card text memory (length store) many;
      state = load_state card text memory (length store) many;
      rows = settled rows out.rises;
    }

-- that these are what is given back and left: the state, the store and the rows; those and the bytes; the state, the bytes and the rows; the state and the store; the memory, the
-- state and the rows
abbrev pub LeavesStore : Left → Answer → List ℕ → List ℕ → List C.Counters → Type 0
LeavesStore l r state store rows = (r ≡ l.answer) × ((state ≡ l.state) × ((store ≡ l.store) × (rows ≡ l.rows)))

abbrev pub LeavesAll : Left → Answer → List ℕ → List ℕ → List ℕ → List C.Counters → Type 0
LeavesAll l r state store bytes rows = (r ≡ l.answer) × ((state ≡ l.state) × ((store ≡ l.store) × ((bytes ≡ l.bytes) × (rows ≡ l.rows))))

abbrev pub LeavesBytes : Left → Answer → List ℕ → List ℕ → List C.Counters → Type 0
LeavesBytes l r state bytes rows = (r ≡ l.answer) × ((state ≡ l.state) × ((bytes ≡ l.bytes) × (rows ≡ l.rows)))

abbrev pub LeavesCell : Left → Answer → List ℕ → List ℕ → Type 0
LeavesCell l r state store = (r ≡ l.answer) × ((state ≡ l.state) × (store ≡ l.store))

abbrev pub LeavesMemory : Laden → Answer → List ℕ → List ℕ → List C.Counters → Type 0
LeavesMemory l r memory state rows = (r ≡ l.answer) × ((memory ≡ l.memory) × ((state ≡ l.state) × (rows ≡ l.rows)))
