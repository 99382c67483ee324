-- The shelf does what the document's shelf does, over every sequence of events after a load, good or refused. Assumes nothing.
use Rattle.std.specs.Prelude.{ℕ, ◌<◌, ◌≤◌, ◌≡◌, List, [], ◌∷◌, length, get_or}
use Rattle.card.specs.declared.Card.{Card}
use Rattle.line.specs.declared.Line.{Line}
use Rattle.answer.specs.declared.Counters as C
use Rattle.promise.specs.Refusals.{Accepts, Refuses}
use Rattle.document.specs.Events.{Event, Back}
use Rattle.paper.specs.Counters.{Counter, value_of, row_at}
use Rattle.document.specs.Counters.{counter_of}
use Rattle.document.specs.Shelf.{opened, units_of, number_of, blank}
use Rattle.document.specs.Steps as document
use Rattle.running.specs.Lent.{Lent, does, run_in, loaded_in}
use Rattle.running.specs.Tables.{Zeroed}

-- what a sequence of events gives back, by the contracts of `entry`
unfoldable pub gives : Card → Lent → List Event → List Back
gives card l [] = []
gives card l (e ∷ es) = record { said = (does card l e).said; bytes = (does card l e).bytes } ∷ gives card (does card l e).lent es

-- "The shelf does what .. document 01 say": from a good load, over every sequence of events with every argument, on either card, whatever memory,
-- store and rows held before, each answer and each lent byte is that of the document's shelf with the table's lines
abbrev pub Refines : Type 0
Refines =
    (card : Card) (text memory store : List ℕ) (rows : List C.Counters) (told : List Line) →
    Accepts card text memory (length store) (length rows) told → (es : List Event) →
    gives card (loaded_in card text memory store rows) es ≡ document.gives (opened told) es

-- and after a refused one, of the shelf without a line: "a fresh 16 bus with no units", on which frames are numbered and every unit is undeclared. Memory, store and rows stay as the
-- refusal left them
pub record Refused (card : Card) (text memory store : List ℕ) (rows : List C.Counters) (es : List Event) : Type 0 where
  pub events : gives card (loaded_in card text memory store rows) es ≡ document.gives (opened []) es
  pub zeroed : Zeroed memory (run_in card (loaded_in card text memory store rows) es).memory
  pub store_kept : (run_in card (loaded_in card text memory store rows) es).store ≡ store
  pub rows_kept : (run_in card (loaded_in card text memory store rows) es).rows ≡ rows

abbrev pub RefinesRefused : Type 0
RefinesRefused =
    (card : Card) (text memory store : List ℕ) (rows : List C.Counters) (number line : ℕ) →
    Refuses card text memory (length store) (length rows) number line → (es : List Event) → Refused card text memory store rows es

-- "the counters equal that history, modulo 4,294,967,296": each counter of each declared unit, and "rows beyond the declared units are untouched"
pub record Counted (card : Card) (text memory store : List ℕ) (rows : List C.Counters) (told : List Line) (es : List Event) : Type 0 where
  pub equal : (i : ℕ) → i < length (units_of told) → (c : Counter) →
      value_of (row_at (run_in card (loaded_in card text memory store rows) es).rows i) c
      ≡ counter_of (document.becomes (opened told) es).history (number_of (get_or (units_of told) i blank)) c
  pub untouched : (i : ℕ) → length (units_of told) ≤ i →
      row_at (run_in card (loaded_in card text memory store rows) es).rows i ≡ row_at rows i

abbrev pub CountersAreHistory : Type 0
CountersAreHistory =
    (card : Card) (text memory store : List ℕ) (rows : List C.Counters) (told : List Line) →
    Accepts card text memory (length store) (length rows) told → (es : List Event) → Counted card text memory store rows told es
