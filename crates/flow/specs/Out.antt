-- Promise: what the lent bytes hold after a take or a frame came down the right street. Assumes nothing.
use Rattle.std.specs.Prelude.{ℕ, ◌≤◌, ◌<◌, ◌≡◌, ◌↔◌, ◌⊎◌, Bool, true, false, List, [], ◌∷◌, length, get_or, drop, Some}
use Rattle.octets.specs.Octets.{four, part}
use Rattle.header.specs.Fields.{fields}
use Rattle.header.specs.Check.{check}
use Rattle.header.specs.declared.Header as H
use Rattle.header.specs.declared.Link.{Link}
use Rattle.header.specs.declared.Link.TheVariants.{Nni}
use Rattle.card.specs.declared.Card.{Card}
use Rattle.outlet.specs.declared.Limits.{Limits}
use Rattle.outlet.specs.Taking.{marked}
use Rattle.arbiter.specs.Arbitration.{nobody}
use Rattle.line.specs.declared.Line.{Line}
use Rattle.answer.specs.declared.Answer.TheVariants.{Taken}
use Rattle.paper.specs.Cells.{pt}
use Rattle.paper.specs.Outlets.{MarksCell}
use Rattle.promise.specs.Refusals.{Accepts}
use Rattle.document.specs.Arrival.{header_of}
use Rattle.document.specs.Events.{Event, frame, take_cell, answers}
use Rattle.document.specs.Shelf.{Cell, Routed, Shelf, number_of, queue_at, held, unit_at, units_of, opened}
use Rattle.document.specs.Frame.{moved_unit, frame_of}
use Rattle.document.specs.Take.{handed}
use Rattle.document.specs.Steps.{happens_to, becomes}
use Rattle.flow.specs.Lost.{Different}
use Rattle.paper.specs.Words.{AllInRange}
use Rattle.flow.specs.Parts.{From, from_inlet, from_control, from_loopback, cell_of, moved_at}
use Rattle.flow.specs.Order.{out_from, InTurn}
use Rattle.flow.specs.Street.{declared_at, Arrived, HandedIn, Turned, CameFrom, Follows}

-- the shelf after some events
abbrev pub reached : List Line → List Event → Shelf
reached lines es = becomes (opened lines) es

-- what a take then leaves in its buffer; the link of the unit in place i, its limits, and how many cells each of its queues holds
abbrev pub out : List Line → List Event → ℕ → List ℕ → List ℕ
out lines es unit buffer = (happens_to (reached lines es) (take_cell unit buffer)).bytes

abbrev pub link_at : List Line → ℕ → Link
link_at lines i = (declared_at lines i).settings.link

abbrev pub limits_at : List Line → ℕ → Limits
limits_at lines i = (declared_at lines i).limits

abbrev pub held_at : List Line → List Event → ℕ → ℕ → ℕ
held_at lines es i q = held (unit_at (reached lines es) i) q

-- "A line cell is 53 bytes: header 4, check 1, payload 48.": bytes, as a link reads them, with this VPI, VCI and payload, with the CLP of this header and its PT but for the mark;
-- "A UNI unit writes GFC 0. The check is new."
pub record ReadsAs (link : Link) (mark : Bool) (vpi vci : ℕ) (h : H.Header) (payload bytes : List ℕ) : Type 0 where
  pub whole : length bytes ≡ 53
  pub header : fields link (four bytes 0) ≡ record { gfc = 0; vpi = vpi; vci = vci; pt = marked mark h.pt; clp = h.clp }
  pub checked : get_or bytes 4 0 ≡ check (four bytes 0)
  pub payload_is : drop 5 bytes ≡ payload

-- a cell handed out at a declared unit: the oldest of a queue there, meant for it, and with its whole VPI
pub record RightlyTaken (lines : List Line) (es : List Event) (unit : ℕ) (buffer : List ℕ) : Type 0 where
  pub place : ℕ
  pub inside : place < length (units_of lines)
  pub named : number_of (declared_at lines place) ≡ unit
  pub queue : ℕ
  pub cell : Cell
  pub others : List Cell
  pub oldest : queue_at (unit_at (reached lines es) place) queue ≡ cell ∷ others
  pub origin : CameFrom lines es place queue cell
  pub bytes : out lines es unit buffer ≡ handed (unit_at (reached lines es) place) cell
  -- "If mark is 1 and, counted before it leaves, ..", and 02: "only cells whose top PT bit is 0 are marked", of the cell as it was held
  pub mark : Bool
  pub marks_iff : (mark ≡ true) ↔ MarksCell (limits_at lines place) (held_at lines es place) (pt cell.header)
  pub reads :
      let h = fields Nni cell.header in
      ReadsAs (link_at lines place) mark h.vpi h.vci h cell.payload (out lines es unit buffer)

-- every take, after every sequence of events: "Take gives the oldest cell .., or `empty` with the buffer unchanged"
abbrev pub TakenRight : Type 0
TakenRight =
    (lines : List Line) (es : List Event) (unit : ℕ) (buffer : List ℕ) → (happens_to (reached lines es) (take_cell unit buffer)).said ≡ answers Taken → RightlyTaken lines es unit buffer

-- such a cell that arrived at one of our units: VPI and VCI are the line's, payload and CLP the arrival's, PT but for the mark
pub record Delivered (lines : List Line) (es : List Event) (unit : ℕ) (buffer : List ℕ) (t : RightlyTaken lines es unit buffer) (place : ℕ) (r : Routed) (a : Arrived lines es place r) : Type 0 where
  pub line : Follows lines (declared_at lines place).settings a.bytes r
  pub reads :
      ReadsAs (link_at lines t.place) t.mark line.vpi line.vci
      (header_of (declared_at lines place).settings a.bytes) (part a.bytes 5 48) (out lines es unit buffer)

-- every cell handed out that is not of a frame handed in
abbrev pub LineDelivered : Type 0
LineDelivered =
    (lines : List Line) → AllInRange lines → (es : List Event) (unit : ℕ) (buffer : List ℕ) (t : RightlyTaken lines es unit buffer) (place : ℕ) (r : Routed) (a : Arrived lines es place r) →
    t.cell ≡ r.cell → Delivered lines es unit buffer t place r a

-- 02: "the mark belongs to user data": what is never marked, a PT of 4 or more, and at a unit with mark 0 every PT
abbrev pub Spared : Limits → ℕ → Type 0
Spared limits p = (4 ≤ p) ⊎ (limits.mark ≡ false)

-- such a cell leaves with the PT with which it was held, and one that arrived at one of our units with the PT of its arrival, whatever the queues hold
pub record KeepsPt (lines : List Line) (es : List Event) (unit : ℕ) (buffer : List ℕ) (t : RightlyTaken lines es unit buffer) : Type 0 where
  pub held_so : Spared (limits_at lines t.place) (pt t.cell.header) → pt (four (out lines es unit buffer) 0) ≡ pt t.cell.header
  pub arrived_so :
      (place : ℕ) (r : Routed) (a : Arrived lines es place r) → t.cell ≡ r.cell →
      Spared (limits_at lines t.place) (pt (four a.bytes 0)) → pt (four (out lines es unit buffer) 0) ≡ pt (four a.bytes 0)

-- every cell handed out
abbrev pub PtKept : Type 0
PtKept = (lines : List Line) → AllInRange lines → (es : List Event) (unit : ℕ) (buffer : List ℕ) (t : RightlyTaken lines es unit buffer) → KeepsPt lines es unit buffer t

-- a cell that a unit sends, from one of its three places: one that arrived there; one that its processor handed in; one that had moved there
abbrev pub Origin : List Line → List Event → ℕ → From → Type 0
Origin lines es place (from_inlet r rest) = Arrived lines es place r
Origin lines es place (from_control c rest) = HandedIn lines es place c
Origin lines es place (from_loopback c rest) = Turned lines es place c

-- a frame written: of the oldest cell, in the order of sending, of the unit granted in the frame before
pub record RightlySent (lines : List Line) (es : List Event) (buffer : List ℕ) : Type 0 where
  pub place : ℕ
  pub inside : place < length (units_of lines)
  pub named : number_of (declared_at lines place) ≡ (reached lines es).granted
  pub from : From
  pub oldest : InTurn (moved_unit (unit_at (reached lines es) place)) from
  pub origin : Origin lines es place from
  pub bytes : (happens_to (reached lines es) (frame buffer)).bytes ≡ frame_of (cell_of from)

-- every frame after a grant: "Then the unit granted in the frame before sends its oldest cell."
abbrev pub SentRight : Type 0
SentRight =
    (lines : List Line) → Different (units_of lines) → (es : List Event) → ((reached lines es).granted ≡ nobody → ⊥) → (buffer : List ℕ) → length buffer ≡ 57 → RightlySent lines es buffer

-- a cell that moves is not sent in the frame in which it does: nothing comes into the loopback inlet in place i in a frame in which a cell leaves it
abbrev pub NoneMoves : List Line → List Event → Event → ℕ → Type 0
NoneMoves lines es e i = (c : List ℕ) (rest : List (List ℕ)) → out_from (reached lines es) e i ≡ Some (from_loopback c rest) → moved_at (reached lines es) e i ≡ []

-- on a shelf that events have made; `nobody` is no unit's number
abbrev pub MovedNotSent : Type 0
MovedNotSent =
    (lines : List Line) → Different (units_of lines) → (es : List Event) (e : Event) (i : ℕ) → i < length (units_of lines) → (number_of (declared_at lines i) ≡ nobody → ⊥) → NoneMoves lines es e i

-- so of every table that a card accepts: no number is there twice, and each is in its range
abbrev pub MovedLater : Type 0
MovedLater =
    (card : Card) (text memory : List ℕ) (store rows : ℕ) (lines : List Line) → Accepts card text memory store rows lines → (es : List Event) (e : Event) (i : ℕ) → i < length (units_of lines) →
    NoneMoves lines es e i
