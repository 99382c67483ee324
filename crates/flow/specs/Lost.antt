-- Promise: nothing is lost without a counter. Assumes nothing.
use Rattle.std.specs.Prelude.{ℕ, ◌+◌, ◌<◌, ◌≡◌, List, length, get_or}
use Rattle.line.specs.declared.Line.{Line}
use Rattle.card.specs.declared.Card.{Card}
use Rattle.meaning.specs.Lines.{Good}
use Rattle.document.specs.Events.{Event}
use Rattle.paper.specs.Counters.{Counter, arrived, hec, ignored, misrouted, inletfull, sent, queued, taken}
use Rattle.document.specs.Counters.{times}
use Rattle.document.specs.Shelf.{Unit, Shelf, number_of, waiting, in_outlet, blank, unit_at, units_of, opened}
use Rattle.document.specs.Steps.{becomes}
use Rattle.flow.specs.Order.{handed_all, moved_all}

-- "a unit repeated": no unit number is there twice
abbrev pub Different : List Unit → Type 0
Different us = (i j : ℕ) → i < j → j < length us → number_of (get_or us i blank) ≡ number_of (get_or us j blank) → ⊥

-- how often a counter of the unit in place i counted
abbrev pub happened : Shelf → ℕ → Counter → ℕ
happened d i c = times d.history (number_of (unit_at d i)) c

-- "Each arriving cell meets exactly one fate": each cell that arrived, was handed in or moved was lost and counted so, was sent, or waits; each copy queued at an outlet was
-- taken or is there
pub record Accounted (lines : List Line) (es : List Event) (i : ℕ) : Type 0 where
  pub arrivals :
      let d = becomes (opened lines) es in
      happened d i arrived + length (handed_all (opened lines) es i) + length (moved_all (opened lines) es i) ≡
      happened d i hec + happened d i ignored + happened d i misrouted + happened d i inletfull + happened d i sent + waiting (unit_at d i)
  pub copies :
      let d = becomes (opened lines) es in
      happened d i queued ≡ happened d i taken + in_outlet (unit_at d i)

-- after every sequence of events, of every unit
abbrev pub NothingLost : Type 0
NothingLost = (lines : List Line) → Different (units_of lines) → (es : List Event) (i : ℕ) → i < length (units_of lines) → Accounted lines es i

-- "unit declared again" is Twice: the lines of a good table have no number twice, so all this holds of every shelf that a good load opens
abbrev pub NumbersOnce : Type 0
NumbersOnce = (card : Card) (room : ℕ) (lines : List Line) → Good card room lines → Different (units_of lines)
