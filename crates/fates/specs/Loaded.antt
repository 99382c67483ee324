-- From a good load on. Assumes nothing.
use Rattle.std.specs.Prelude.{ℕ, List, length}
use Rattle.card.specs.declared.Card.{Card}
use Rattle.line.specs.declared.Line.{Line}
use Rattle.answer.specs.declared.Counters as C
use Rattle.promise.specs.Refusals.{Accepts}
use Rattle.document.specs.Events.{Event}
use Rattle.document.specs.Shelf.{Shelf, opened}
use Rattle.document.specs.Steps.{becomes}

-- what holds of the document's shelf after a table that a card accepts, and after every sequence of events with every argument
abbrev pub FromLoad : (Shelf → Type 0) → Type 0
FromLoad P =
    (card : Card) (text memory store : List ℕ) (rows : List C.Counters) (told : List Line) →
    Accepts card text memory (length store) (length rows) told → (es : List Event) → P (becomes (opened told) es)
