-- Promise: without control and loopback cells all is as document 01 has it. Assumes nothing.
use Rattle.std.specs.Prelude.{ℕ, ◌+◌, ◌<◌, ◌≡◌, length, Some}
use mathlib.Core.List.{List, Memᴰ as In}
use Rattle.bus.specs.Frame.{heard}
use Rattle.bus.specs.Heard as frames
use Rattle.line.specs.declared.Line.{Line}
use Rattle.paper.specs.Counters.{arrived, hec, ignored, misrouted, inletfull, sent, queued, taken}
use Rattle.document.specs.Events.{Event, arrive, frame, hear, take_cell, count, hand, collect}
use Rattle.document.specs.Shelf.{Routed, in_all, queue_at, empty_side, unit_at, units_of, opened}
use Rattle.document.specs.Frame.{moved}
use Rattle.document.specs.Steps.{becomes}
use Rattle.flow.specs.Parts.{From, from_inlet}
use Rattle.flow.specs.Order.{out_from}
use Rattle.flow.specs.Lost.{Different, happened}

-- an event that brings no such cell: no processor hands one in, and no frame handed in is heard as one
abbrev pub Plain : Event → Type 0
Plain (arrive unit c) = Prim.Unit {0}
Plain (frame buffer) = Prim.Unit {0}
Plain (hear unit f) = (n : ℕ) → (heard f ≡ frames.Control n → ⊥) × (heard f ≡ frames.Loopback n → ⊥)
Plain (take_cell unit buffer) = Prim.Unit {0}
Plain (count unit) = Prim.Unit {0}
Plain (hand unit c) = ⊥
Plain (collect unit buffer) = Prim.Unit {0}

-- then the places beside the queues stay empty, nothing moves, and every frame sent is a data cell's
pub record QuietShelf (lines : List Line) (es : List Event) : Type 0 where
  pub beside : (i : ℕ) → (unit_at (becomes (opened lines) es) i).side ≡ empty_side
  pub unmoved : moved (becomes (opened lines) es) ≡ becomes (opened lines) es
  pub data_only : (e : Event) (i : ℕ) (f : From) → out_from (becomes (opened lines) es) e i ≡ Some f → (r : Routed) × (rest : List Routed) × (f ≡ from_inlet r rest)

-- and each arriving cell was lost and counted so, was sent, or waits; each copy queued at an outlet was taken or is in a queue
pub record AsBefore (lines : List Line) (es : List Event) (i : ℕ) : Type 0 where
  pub arrivals :
      let d = becomes (opened lines) es in
      happened d i arrived ≡ happened d i hec + happened d i ignored + happened d i misrouted + happened d i inletfull + happened d i sent + length (unit_at d i).inlet
  pub copies :
      let d = becomes (opened lines) es in
      happened d i queued ≡ happened d i taken + in_all (queue_at (unit_at d i))

-- over every sequence of such events
abbrev pub Quiet : Type 0
Quiet =
    (lines : List Line) (es : List Event) → ((e : Event) → In e es → Plain e) →
    QuietShelf lines es × (Different (units_of lines) → (i : ℕ) → i < length (units_of lines) → AsBefore lines es i)
