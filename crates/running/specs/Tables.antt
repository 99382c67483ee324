-- Loading a table: when it is refused, with what, and what it leaves; when it is good, and what that leaves. Assumes nothing.
use Rattle.std.specs.Prelude.{ℕ, ◌*◌, ◌<◌, ◌≤◌, ◌≡◌, ◌↔◌, List, ◌++◌, length, get_or, drop, replicate}
use Rattle.card.specs.declared.Card.{Card}
use Rattle.line.specs.declared.Line.{Line}
use Rattle.answer.specs.declared.Counters as C
use Rattle.answer.specs.declared.Answer as A
use Rattle.table.specs.EventInPlace.{load_out}
use Rattle.paper.specs.Answers.{IsOk, IsRefused}
use Rattle.paper.specs.Counters.{zero_row}
use Rattle.promise.specs.Says.{records_of, unit_lines}
use Rattle.promise.specs.Refusals.{Accepts, Refuses}
use Rattle.running.specs.Events.{World}
use Rattle.running.specs.Lent.{loaded_in, seen}
use Rattle.running.specs.Opened.{empty_bus, Opened}
use Rattle.running.specs.Laid.{Laid}

-- the answer that the contract of `entry::load` gives
abbrev pub answer_to : Card → List ℕ → List ℕ → ℕ → ℕ → A.Answer
answer_to card text memory store rows = (load_out card text memory store rows).answer

-- "A bad table .. is refused with a fixed number": each of 1 to 7, with its line, exactly when 01 says so
abbrev pub TableRefusedIff : Type 0
TableRefusedIff =
    (card : Card) (text memory : List ℕ) (store rows number line : ℕ) →
    IsRefused (answer_to card text memory store rows) number line ↔ Refuses card text memory store rows number line

-- a table with none of these faults is good, and no other is; its bytes used are 8 for each record
abbrev pub TableLoadedIff : Type 0
TableLoadedIff =
    (card : Card) (text memory : List ℕ) (store rows used : ℕ) →
    IsOk (answer_to card text memory store rows) used ↔ ((told : List Line) × Accepts card text memory store rows told × (used ≡ 8 * records_of told))

-- "Refusals 1 to 7 zero the memory up to 262,144 bytes": and no other byte
pub record Zeroed (memory zeroed : List ℕ) : Type 0 where
  pub zeros : (at : ℕ) → at < length memory → at < 262144 → get_or zeroed at 0 ≡ 0
  pub later : (at : ℕ) → 262144 ≤ at → get_or zeroed at 0 ≡ get_or memory at 0
  pub long : length zeroed ≡ length memory

-- "touch neither store nor counter rows and give back a fresh 16 bus with no units"
pub record Emptied (memory store : List ℕ) (rows : List C.Counters) (w : World) : Type 0 where
  pub shelf_empty : w.shelf ≡ empty_bus 16
  pub memory_zeroed : Zeroed memory w.memory
  pub store_kept : w.store ≡ store
  pub rows_kept : w.rows ≡ rows

abbrev pub RefusedTableZeroes : Type 0
RefusedTableZeroes =
    (card : Card) (text memory store : List ℕ) (rows : List C.Counters) (number line : ℕ) → Refuses card text memory (length store) (length rows) number line →
    Emptied memory store rows (seen (loaded_in card text memory store rows))

-- the world after a good load of these lines
pub record Fresh (card : Card) (memory store : List ℕ) (rows : List C.Counters) (told : List Line) (w : World) : Type 0 where
  pub shelf_opened : Opened told w.shelf
  pub memory_laid : Laid card memory told w.memory
  pub store_kept : w.store ≡ store
  -- "A good load zeroes its rows and starts with all queues empty."; "rows beyond the declared units are untouched"
  pub rows_zeroed : w.rows ≡ replicate (unit_lines told) zero_row ++ drop (unit_lines told) rows

-- what it answers is `TableLoadedIff`
abbrev pub GoodLoad : Type 0
GoodLoad =
    (card : Card) (text memory store : List ℕ) (rows : List C.Counters) (told : List Line) → Accepts card text memory (length store) (length rows) told →
    Fresh card memory store rows told (seen (loaded_in card text memory store rows))
