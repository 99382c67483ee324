-- One event on the document's shelf, and one after the other. Assumes nothing.
use Rattle.std.specs.Prelude.{ℕ, Bool, true, cond, List, [], ◌∷◌, eqb, length, None, Option, Some}
use Rattle.bus.specs.Frame.{heard}
use Rattle.answer.specs.declared.Answer.TheVariants.{Refused, Arrived, Heard}
use Rattle.document.specs.Events.{Event, arrive, frame, hear, take_cell, count, hand, collect, Said, answers, counts, Back}
use Rattle.document.specs.Counters.{counters_of}
use Rattle.document.specs.Shelf.{Shelf, find_in, unit_at, number_of}
use Rattle.document.specs.Arrival.{arrival_of, arrived}
use Rattle.document.specs.Hearing.{hearing_of, handed_in}
use Rattle.document.specs.Frame.{framed, framed_answer, framed_bytes}
use Rattle.document.specs.Take.{Took, takes}
use Rattle.document.specs.Processor.{hands, collects}

-- what comes of an event: what it says, the shelf and the lent bytes as they are afterwards
pub record Step : Type 0 where
  pub said : Said
  pub shelf : Shelf
  pub bytes : List ℕ

abbrev pub step : Said → Shelf → List ℕ → Step
step said shelf bytes = record { said = said; shelf = shelf; bytes = bytes }

-- "Refusals 8 to 10, in that order, change nothing": no shelf of the document is refused as State
abbrev pub refused : Shelf → ℕ → List ℕ → Step
refused shelf number bytes = step (answers (Refused number)) shelf bytes

-- "9 Unit: unit not declared", "10 Length: cell slice or buffer not 53 bytes, frame not 57"
unfoldable pub admitted : Option ℕ → Bool → (ℕ → Step) → (ℕ → Step) → Step
admitted (Some place) right inside outside = cond right (inside place) (outside 10)
admitted None right inside outside = outside 9

abbrev pub took_step : Took → Step
took_step t = step (answers t.answer) t.shelf t.bytes

unfoldable pub happens_to : Shelf → Event → Step
happens_to shelf (arrive unit c) =
    admitted (find_in shelf.units unit) (eqb (length c) 53)
    (λ place. step (answers (Arrived (arrival_of shelf.lines (unit_at shelf place) c))) (arrived shelf place c) c)
    (λ number. refused shelf number c)
happens_to shelf (frame buffer) =
    cond (eqb (length buffer) 57)
    (step (answers (framed_answer shelf buffer)) (framed shelf buffer) (framed_bytes shelf buffer))
    (refused shelf 10 buffer)
happens_to shelf (hear unit f) =
    admitted (find_in shelf.units unit) (eqb (length f) 57)
    (λ place. step (answers (Heard (hearing_of shelf.lines (unit_at shelf place) (heard f)))) (handed_in shelf place f) f)
    (λ number. refused shelf number f)
happens_to shelf (take_cell unit buffer) =
    admitted (find_in shelf.units unit) (eqb (length buffer) 53) (λ place. took_step (takes shelf place buffer)) (λ number. refused shelf number buffer)
happens_to shelf (count unit) =
    admitted (find_in shelf.units unit) true
    (λ place. step (counts (counters_of shelf.history (number_of (unit_at shelf place)))) shelf [])
    (λ number. refused shelf number [])
-- "Length for other than 56 bytes, then 11 Busy"
happens_to shelf (hand unit c) =
    admitted (find_in shelf.units unit) (eqb (length c) 56) (λ place. took_step (hands shelf place c)) (λ number. refused shelf number c)
happens_to shelf (collect unit buffer) =
    admitted (find_in shelf.units unit) (eqb (length buffer) 56) (λ place. took_step (collects shelf place buffer)) (λ number. refused shelf number buffer)

-- what a sequence of events gives back, and the shelf after it
unfoldable pub gives : Shelf → List Event → List Back
gives shelf [] = []
gives shelf (e ∷ es) = record { said = (happens_to shelf e).said; bytes = (happens_to shelf e).bytes } ∷ gives (happens_to shelf e).shelf es

unfoldable pub becomes : Shelf → List Event → Shelf
becomes shelf [] = shelf
becomes shelf (e ∷ es) = becomes (happens_to shelf e).shelf es
