-- Promise: cells leave in the order in which they came. Assumes nothing.
use Rattle.std.specs.Prelude.{ℕ, ◌<◌, ◌≡◌, ◌⊎◌, List, [], ◌∷◌, ◌++◌, map, length, None, Option, Some}
use Rattle.bus.specs.Frame.{returned}
use Rattle.line.specs.declared.Line.{Line}
use Rattle.answer.specs.declared.Answer.TheVariants.{Taken}
use Rattle.document.specs.Events.{Event, frame, take_cell, collect, answers}
use Rattle.document.specs.Shelf.{Cell, Routed, Unit, Shelf, number_of, queue_at, held, unit_at, units_of, opened}
use Rattle.document.specs.Frame.{moved_unit, frame_of}
use Rattle.document.specs.Take.{handed}
use Rattle.document.specs.Steps.{happens_to, becomes}
use Rattle.flow.specs.Parts.{From, from_inlet, from_control, from_loopback, cell_of, part_of, out_by, brought_in, handed_at, moved_at, sent_from, control_from, loopback_from, queued_in, controls_in, loopbacks_in, taken_from, collected_from}

-- what events bring, one after the other
unfoldable pub over : {A : Type 0} → (Shelf → Event → List A) → Shelf → List Event → List A
over f d [] = []
over f d (e ∷ es) = f d e ++ over f (happens_to d e).shelf es

-- the cells put into queue q of the unit in place i, and those taken out of it
abbrev pub queued_all : Shelf → List Event → ℕ → ℕ → List Cell
queued_all d es i q = over (λ x e. queued_in x e i q) d es

abbrev pub taken_all : Shelf → List Event → ℕ → ℕ → List Cell
taken_all d es i q = over (λ x e. taken_from x e i q) d es

-- the cells that came into its inlet, and those that it sent
abbrev pub brought_all : Shelf → List Event → ℕ → List Routed
brought_all d es i = over (λ x e. brought_in x e i) d es

abbrev pub sent_all : Shelf → List Event → ℕ → List Routed
sent_all d es i = over (λ x e. sent_from x e i) d es

-- the cells that its processor handed in, and the control cells that it sent; the cells that moved from its loopback outlet, and the loopback cells that it sent
abbrev pub handed_all : Shelf → List Event → ℕ → List (List ℕ)
handed_all d es i = over (λ x e. handed_at x e i) d es

abbrev pub control_sent : Shelf → List Event → ℕ → List (List ℕ)
control_sent d es i = over (λ x e. control_from x e i) d es

abbrev pub moved_all : Shelf → List Event → ℕ → List (List ℕ)
moved_all d es i = over (λ x e. moved_at x e i) d es

abbrev pub loopback_sent : Shelf → List Event → ℕ → List (List ℕ)
loopback_sent d es i = over (λ x e. loopback_from x e i) d es

-- the cells put into its control outlet and those that its processor collected; the cells put into its loopback outlet
abbrev pub control_queued : Shelf → List Event → ℕ → List (List ℕ)
control_queued d es i = over (λ x e. controls_in x e i) d es

abbrev pub collected_all : Shelf → List Event → ℕ → List (List ℕ)
collected_all d es i = over (λ x e. collected_from x e i) d es

abbrev pub loopback_queued : Shelf → List Event → ℕ → List (List ℕ)
loopback_queued d es i = over (λ x e. loopbacks_in x e i) d es

-- "Take gives the oldest cell", "sends its oldest cell": what came, in order, is what left followed by what is there; and so of the four places beside the data queues, to which
-- a cell comes byte for byte, but that one that moves comes to the loopback inlet "as a control cell for the unit named in its first tandem byte"
pub record Ordered (lines : List Line) (es : List Event) (i : ℕ) : Type 0 where
  pub queues : (q : ℕ) → queued_all (opened lines) es i q ≡ taken_all (opened lines) es i q ++ queue_at (unit_at (becomes (opened lines) es) i) q
  pub inlet : brought_all (opened lines) es i ≡ sent_all (opened lines) es i ++ (unit_at (becomes (opened lines) es) i).inlet
  pub controlin : handed_all (opened lines) es i ≡ control_sent (opened lines) es i ++ (unit_at (becomes (opened lines) es) i).side.controlin
  pub loopbackin : map returned (moved_all (opened lines) es i) ≡ loopback_sent (opened lines) es i ++ (unit_at (becomes (opened lines) es) i).side.loopbackin
  pub controlout : control_queued (opened lines) es i ≡ collected_all (opened lines) es i ++ (unit_at (becomes (opened lines) es) i).side.controlout
  pub loopbackout : loopback_queued (opened lines) es i ≡ moved_all (opened lines) es i ++ (unit_at (becomes (opened lines) es) i).side.loopbackout

abbrev pub InOrder : Type 0
InOrder = (lines : List Line) (es : List Event) (i : ℕ) → i < length (units_of lines) → Ordered lines es i

-- a take hands out the one cell that it takes
pub record HandedOut (d : Shelf) (unit : ℕ) (buffer : List ℕ) : Type 0 where
  pub place : ℕ
  pub queue : ℕ
  pub cell : Cell
  pub inside : place < length d.units
  pub named : number_of (unit_at d place) ≡ unit
  pub said : (happens_to d (take_cell unit buffer)).said ≡ answers Taken
  pub left : taken_from d (take_cell unit buffer) place queue ≡ cell ∷ []
  pub others : (i q : ℕ) → ((i ≡ place) × (q ≡ queue) → ⊥) → taken_from d (take_cell unit buffer) i q ≡ []
  pub bytes : (happens_to d (take_cell unit buffer)).bytes ≡ handed (unit_at d place) cell

-- "`empty` with the buffer unchanged", or refused: no cell leaves any queue
pub record NoneOut (d : Shelf) (unit : ℕ) (buffer : List ℕ) : Type 0 where
  pub said : (happens_to d (take_cell unit buffer)).said ≡ answers Taken → ⊥
  pub left : (i q : ℕ) → taken_from d (take_cell unit buffer) i q ≡ []
  pub bytes : (happens_to d (take_cell unit buffer)).bytes ≡ buffer

abbrev pub TakenHanded : Type 0
TakenHanded = (d : Shelf) (unit : ℕ) (buffer : List ℕ) → HandedOut d unit buffer ⊎ NoneOut d unit buffer

-- a collect hands out the one cell that it takes, byte for byte
pub record Collected (d : Shelf) (unit : ℕ) (buffer : List ℕ) : Type 0 where
  pub place : ℕ
  pub cell : List ℕ
  pub inside : place < length d.units
  pub named : number_of (unit_at d place) ≡ unit
  pub said : (happens_to d (collect unit buffer)).said ≡ answers Taken
  pub left : collected_from d (collect unit buffer) place ≡ cell ∷ []
  pub others : (i : ℕ) → (i ≡ place → ⊥) → collected_from d (collect unit buffer) i ≡ []
  pub bytes : (happens_to d (collect unit buffer)).bytes ≡ cell

-- "(or `empty`)", or refused: the buffer is unchanged
pub record NoneCollected (d : Shelf) (unit : ℕ) (buffer : List ℕ) : Type 0 where
  pub said : (happens_to d (collect unit buffer)).said ≡ answers Taken → ⊥
  pub left : (i : ℕ) → collected_from d (collect unit buffer) i ≡ []
  pub bytes : (happens_to d (collect unit buffer)).bytes ≡ buffer

abbrev pub CollectedHanded : Type 0
CollectedHanded = (d : Shelf) (unit : ℕ) (buffer : List ℕ) → Collected d unit buffer ⊎ NoneCollected d unit buffer

-- what the unit in place i sends in an event, if anything, from which of its three places
abbrev pub out_from : Shelf → Event → ℕ → Option From
out_from d e i = out_by (part_of d e i)

-- a frame holds the one cell that is sent
pub record Framed (d : Shelf) (buffer : List ℕ) : Type 0 where
  pub place : ℕ
  pub from : From
  pub inside : place < length d.units
  pub named : number_of (unit_at d place) ≡ d.granted
  pub left : out_from d (frame buffer) place ≡ Some from
  pub others : (i : ℕ) → (i ≡ place → ⊥) → out_from d (frame buffer) i ≡ None
  pub bytes : (happens_to d (frame buffer)).bytes ≡ frame_of (cell_of from)

-- "An idle frame has no bytes and leaves the frame buffer unchanged."
pub record Idle (d : Shelf) (buffer : List ℕ) : Type 0 where
  pub left : (i : ℕ) → out_from d (frame buffer) i ≡ None
  pub bytes : (happens_to d (frame buffer)).bytes ≡ buffer

abbrev pub SentFramed : Type 0
SentFramed = (d : Shelf) (buffer : List ℕ) → Framed d buffer ⊎ Idle d buffer

-- "the oldest cell of the lowest class held (mode `four`)": none leaves queue q while a lower one holds a cell
abbrev pub LowestFirst : Type 0
LowestFirst = (d : Shelf) (e : Event) (i q p : ℕ) → p < q → 0 < held (unit_at d i) p → taken_from d e i q ≡ []

-- "data, then control, then loopback": of a unit whose loopback cell has moved, a data cell leaves if one waits; a control cell only if none does; a loopback cell only if
-- neither does; and what is sent was the first in its place
abbrev pub InTurn : Unit → From → Type 0
InTurn u (from_inlet r rest) = u.inlet ≡ r ∷ rest
InTurn u (from_control c rest) = (u.inlet ≡ []) × (u.side.controlin ≡ c ∷ rest)
InTurn u (from_loopback c rest) = (u.inlet ≡ []) × (u.side.controlin ≡ []) × (u.side.loopbackin ≡ c ∷ rest)

abbrev pub SendingOrder : Type 0
SendingOrder = (d : Shelf) (e : Event) (i : ℕ) → i < length d.units → (f : From) → out_from d e i ≡ Some f → InTurn (moved_unit (unit_at d i)) f
