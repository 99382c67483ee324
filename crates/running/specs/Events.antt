-- One event on a running shelf, the shelf as a value: what `InPlace` shows that the bytes lent to `entry` come to. Assumes nothing.
use Rattle.std.specs.Prelude.{ℕ, List, [], length, Result, Ok, Err}
use Rattle.card.specs.declared.Card.{Card}
use Rattle.shelf.specs.Shelf.{Shelf}
use Rattle.answer.specs.declared.Answer.TheVariants as answer
use Rattle.answer.specs.Done.{Done}
use Rattle.answer.specs.Counting.{settled}
use Rattle.answer.specs.declared.Counters as C
use Rattle.soundness.specs.Admission.{counted}
use Rattle.arriving.specs.Arriving.{arrive_done, arrive_store}
use Rattle.framing.specs.Frames.{frame_done, frame_store, frame_buffer}
use Rattle.hearing.specs.Hearings.{hear_done, hear_store}
use Rattle.taking.specs.Takes.{take_done, take_buffer}
use Rattle.handing.specs.Hands.{hand_done, hand_store}
use Rattle.handing.specs.Collects.{collect_done, collect_buffer}
use Rattle.document.specs.Events.{Event, arrive, frame, hear, take_cell, count, hand, collect, Said, answers, counts}
use Rattle.entry.specs.Counts.{count_of}

-- what a shelf runs with
pub record World : Type 0 where
  pub shelf : Shelf
  pub memory : List ℕ
  pub store : List ℕ
  pub rows : List C.Counters

-- what comes of an event: what it says; the world, and the bytes that were lent with the event, as they are afterwards
pub record Outcome : Type 0 where
  pub said : Said
  pub world : World
  pub bytes : List ℕ

-- what is done, with the store and the lent bytes afterwards, is the world that the event came to
abbrev pub ended : World → Done → List ℕ → List ℕ → Outcome
ended w done store bytes =
    record {
      said = answers done.reply.answer;
      world = record { shelf = done.reply.shelf; memory = w.memory; store = store; rows = settled w.rows done.rises };
      bytes = bytes;
    }

unfoldable pub count_said : Result C.Counters ℕ → Said
count_said (Ok row) = counts row
count_said (Err number) = answers (answer.Refused number)

-- what each of the seven does
unfoldable pub happens : Card → World → Event → Outcome
happens card w (arrive unit cell) =
    ended w (arrive_done card w.shelf w.memory (length w.store) (length w.rows) unit cell) (arrive_store card w.shelf w.memory w.store (length w.rows) unit cell) cell
happens card w (frame buffer) =
    ended w (frame_done card w.shelf w.store (length w.rows) (length buffer)) (frame_store card w.shelf w.store (length w.rows) (length buffer))
    (frame_buffer card w.shelf w.store (length w.rows) buffer)
happens card w (hear unit heard) =
    ended w (hear_done card w.shelf (length w.store) (length w.rows) unit heard) (hear_store card w.shelf w.store (length w.rows) unit heard) heard
happens card w (take_cell unit buffer) =
    ended w (take_done card w.shelf (length w.store) (length w.rows) unit (length buffer)) w.store (take_buffer card w.shelf w.store (length w.rows) unit buffer)
happens card w (hand unit cell) =
    ended w (hand_done card w.shelf (length w.store) (length w.rows) unit (length cell)) (hand_store card w.shelf w.store (length w.rows) unit cell) cell
happens card w (collect unit buffer) =
    ended w (collect_done card w.shelf (length w.store) (length w.rows) unit (length buffer)) w.store (collect_buffer card w.shelf w.store (length w.rows) unit buffer)
happens card w (count unit) = record { said = count_said (count_of (counted card w.shelf (length w.store) (length w.rows) unit) w.rows); world = w; bytes = [] }
