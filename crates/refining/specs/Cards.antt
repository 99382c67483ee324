-- Demand 3 over every sequence of events. Assumes nothing.
use Rattle.std.specs.Prelude.{ℕ, ◌≡◌, ◌↔◌, List, length}
use Rattle.card.specs.declared.Card.TheVariants.{Narrow, Wide}
use Rattle.line.specs.declared.Line.{Line}
use Rattle.answer.specs.declared.Counters as C
use Rattle.promise.specs.Refusals.{Accepts}
use Rattle.promise.specs.Narrow.{NoneWide, FirstWide}
use Rattle.document.specs.Events.{Event}
use Rattle.document.specs.Shelf.{opened}
use Rattle.document.specs.Steps as document
use Rattle.running.specs.Lent.{run_in, loaded_in}
use Rattle.paper.specs.Answers.{IsRefused}
use Rattle.running.specs.Tables.{answer_to}
use Rattle.refining.specs.Refines.{gives}

-- "Take a route table that the twelve-bit card accepts, and lend both cards equal room."
pub record Equal (memory memory' store store' : List ℕ) (rows rows' : List C.Counters) : Type 0 where
  pub memories : length memory ≡ length memory'
  pub stores : length store ≡ length store'
  pub records : length rows ≡ length rows'

-- "The eight-bit card refuses it as too wide, naming the first line that asks for an NNI link, an outgoing path above 255 or the 32-unit bus, exactly
-- when there is such a line.": with that number, at that line, and with no other
abbrev pub TooWide : Type 0
TooWide =
    (text memory memory' store store' : List ℕ) (rows rows' : List C.Counters) → Equal memory memory' store store' rows rows' → (told : List Line) →
    Accepts Wide text memory (length store) (length rows) told → (number line : ℕ) →
    IsRefused (answer_to Narrow text memory' (length store') (length rows')) number line ↔ ((number ≡ 5) × FirstWide told line)

-- "Otherwise, over every sequence of events after loading .. it gives the same answers, cells and counters as the twelve-bit card, and both are those
-- of demand 2.": load's answer too, whatever the two memories, stores and rows held before
pub record Same (text memory memory' store store' : List ℕ) (rows rows' : List C.Counters) (told : List Line) (es : List Event) : Type 0 where
  pub answer : answer_to Narrow text memory' (length store') (length rows') ≡ answer_to Wide text memory (length store) (length rows)
  pub events : gives Narrow (loaded_in Narrow text memory' store' rows') es ≡ gives Wide (loaded_in Wide text memory store rows) es
  -- the two states are equal byte for byte, after the load and after the events
  pub states : (run_in Narrow (loaded_in Narrow text memory' store' rows') es).state ≡ (run_in Wide (loaded_in Wide text memory store rows) es).state
  pub both : gives Wide (loaded_in Wide text memory store rows) es ≡ document.gives (opened told) es

abbrev pub SameCard : Type 0
SameCard =
    (text memory memory' store store' : List ℕ) (rows rows' : List C.Counters) → Equal memory memory' store store' rows rows' → (told : List Line) →
    Accepts Wide text memory (length store) (length rows) told → NoneWide told → (es : List Event) → Same text memory memory' store store' rows rows' told es
