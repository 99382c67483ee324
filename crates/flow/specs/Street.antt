-- Promise: every cell goes down the right street. Assumes nothing.
use Rattle.std.specs.Prelude.{ℕ, ◌<◌, ◌≡◌, true, length, get_or, take, drop}
use mathlib.Core.List.{List, Memᴰ as In}
use Rattle.octets.specs.Octets.{part}
use Rattle.header.specs.Fields.{fields}
use Rattle.header.specs.declared.Header as H
use Rattle.header.specs.declared.Link.TheVariants.{Nni}
use Rattle.bus.specs.Frame.{heard, payload, carried, returned}
use Rattle.bus.specs.Heard as frames
use Rattle.bus.specs.declared.Target.{Target}
use Rattle.outlet.specs.Hearing.{queue_of, TooWide}
use Rattle.shelf.specs.declared.Settings.{Settings}
use Rattle.line.specs.declared.Line.{Line}
use Rattle.line.specs.declared.Line.TheVariants.{Vp, Vc}
use Rattle.paper.specs.Words.{AllInRange}
use Rattle.document.specs.Events.{Event, arrive, hear, hand}
use Rattle.document.specs.Shelf.{Cell, Routed, Unit, number_of, queue_at, blank, unit_at, units_of, opened}
use Rattle.document.specs.Arrival.{goes, header_of, way_of}
use Rattle.document.specs.Hearing.{addressed}
use Rattle.document.specs.Steps.{becomes}
use Rattle.flow.specs.Order.{taken_all, sent_all, control_sent, moved_all, loopback_sent, collected_all}

-- the unit in place i, as its `unit` line declares it
abbrev pub declared_at : List Line → ℕ → Unit
declared_at lines i = get_or (units_of lines) i blank

-- a cell that waits for the bus: it arrived there, in these events, and the line that serves it gives its target, class and header; "PT and CLP are kept"
pub record Arrived (lines : List Line) (es : List Event) (place : ℕ) (r : Routed) : Type 0 where
  pub bytes : List ℕ
  pub whole : length bytes ≡ 53
  pub event : In (arrive (number_of (declared_at lines place)) bytes) es
  pub way : way_of lines (declared_at lines place).settings bytes ≡ goes r

-- a control cell that waits for the bus: its processor handed it in, in these events
pub record HandedIn (lines : List Line) (es : List Event) (place : ℕ) (c : List ℕ) : Type 0 where
  pub whole : length c ≡ 56
  pub event : In (hand (number_of (declared_at lines place)) c) es

-- a loopback cell that waits for the bus: it has moved there, "as a control cell for the unit named in its first tandem byte"
pub record Turned (lines : List Line) (es : List Event) (place : ℕ) (c : List ℕ) : Type 0 where
  pub before : List ℕ
  pub moved_there : In before (moved_all (opened lines) es place)
  pub bytes : c ≡ returned before

-- a copy that has its place in queue q of the unit in place i: its target addresses the unit, q is the queue of its class, and it is not "VPI above 255 at a UNI unit, `wide`"
pub record MeantFor (lines : List Line) (i q : ℕ) (target : Target) (class header : ℕ) : Type 0 where
  pub addresses : addressed lines (declared_at lines i) target ≡ true
  pub queue : queue_of (declared_at lines i).limits class ≡ q
  pub narrow : TooWide (declared_at lines i).settings.link header → ⊥

-- a cell in queue q of the unit in place i: a cell that arrived at some unit and was sent, that of a frame handed in, or a data cell that some unit's processor handed in
pub data CameFrom (lines : List Line) (es : List Event) (i q : ℕ) (c : Cell) : Type 0 where
  by_bus : (place : ℕ) (r : Routed) → place < length (units_of lines) → Arrived lines es place r → In r (sent_all (opened lines) es place) → MeantFor lines i q r.target r.class r.cell.header → c ≡ r.cell → CameFrom lines es i q c
  by_hand : (f : List ℕ) (target : Target) (class header : ℕ) → In (hear (number_of (declared_at lines i)) f) es → heard f ≡ frames.Cell target class header → MeantFor lines i q target class header → c ≡ record { header = header; payload = payload f } → CameFrom lines es i q c
  by_processor : (place : ℕ) (b : List ℕ) (target : Target) (class header : ℕ) → place < length (units_of lines) → HandedIn lines es place b → In b (control_sent (opened lines) es place) → carried b ≡ frames.Cell target class header → MeantFor lines i q target class header → c ≡ record { header = header; payload = payload b } → CameFrom lines es i q c

-- the 56 bytes of a cell that the unit in place i heard: a processor handed them in and they were sent, they had moved and were sent, or they are those of a frame handed in
pub data HeardFrom (lines : List Line) (es : List Event) (i : ℕ) (b : List ℕ) : Type 0 where
  from_processor : (place : ℕ) → place < length (units_of lines) → HandedIn lines es place b → In b (control_sent (opened lines) es place) → HeardFrom lines es i b
  from_move : (place : ℕ) → place < length (units_of lines) → Turned lines es place b → In b (loopback_sent (opened lines) es place) → HeardFrom lines es i b
  from_hand : (f : List ℕ) → length f ≡ 57 → In (hear (number_of (declared_at lines i)) f) es → b ≡ take 56 f → HeardFrom lines es i b

-- "control or loopback to one unit": a cell in an outlet beside the queues is of that kind, and for that unit
pub record Beside (lines : List Line) (es : List Event) (i : ℕ) (kind : ℕ → frames.Heard) (b : List ℕ) : Type 0 where
  pub whole : length b ≡ 56
  pub kind_is : carried b ≡ kind (number_of (declared_at lines i))
  pub origin : HeardFrom lines es i b

-- "Not addressed: `other`": every cell held and every cell taken was meant for that unit, every cell that waits and every cell sent has arrived there
pub record Streets (lines : List Line) (es : List Event) (i : ℕ) : Type 0 where
  pub held : (q : ℕ) (c : Cell) → In c (queue_at (unit_at (becomes (opened lines) es) i) q) → CameFrom lines es i q c
  pub taken : (q : ℕ) (c : Cell) → In c (taken_all (opened lines) es i q) → CameFrom lines es i q c
  pub waiting : (r : Routed) → In r (unit_at (becomes (opened lines) es) i).inlet → Arrived lines es i r
  pub sent : (r : Routed) → In r (sent_all (opened lines) es i) → Arrived lines es i r
  pub control_held : (b : List ℕ) → In b (unit_at (becomes (opened lines) es) i).side.controlout → Beside lines es i frames.Control b
  pub collected : (b : List ℕ) → In b (collected_all (opened lines) es i) → Beside lines es i frames.Control b
  pub loopback_held : (b : List ℕ) → In b (unit_at (becomes (opened lines) es) i).side.loopbackout → Beside lines es i frames.Loopback b
  pub turned : (b : List ℕ) → In b (moved_all (opened lines) es i) → Beside lines es i frames.Loopback b
  pub control_sent_lem : (b : List ℕ) → In b (control_sent (opened lines) es i) → HandedIn lines es i b
  pub loopback_sent_lem : (b : List ℕ) → In b (loopback_sent (opened lines) es i) → Turned lines es i b

abbrev pub RightStreet : Type 0
RightStreet = (lines : List Line) (es : List Event) (i : ℕ) → i < length (units_of lines) → Streets lines es i

-- "its other bytes stay": what a processor collects begins with the routing header of a control cell for its very unit, and its bytes 2 to 55 are those of a cell that a processor
-- handed in, or of a frame handed in to some unit
pub data Supplied (lines : List Line) (es : List Event) (rest : List ℕ) : Type 0 where
  by_hand_in : (place : ℕ) (c : List ℕ) → place < length (units_of lines) → HandedIn lines es place c → rest ≡ drop 2 c → Supplied lines es rest
  by_frame : (place : ℕ) (f : List ℕ) → place < length (units_of lines) → In (hear (number_of (declared_at lines place)) f) es → rest ≡ drop 2 (take 56 f) → Supplied lines es rest

abbrev pub BytesStay : Type 0
BytesStay =
    (lines : List Line) (es : List Event) (i : ℕ) → i < length (units_of lines) → (b : List ℕ) → In b (collected_all (opened lines) es i) →
    (carried b ≡ frames.Control (number_of (declared_at lines i))) × Supplied lines es (drop 2 b)

-- "`vp` unit, VPI, target, class, outgoing VPI", "route, VCI kept"; "`vc` unit, VPI, VCI, target, class, outgoing VPI, outgoing VCI": one of these lines gives a cell that arrives at
-- this unit with this header its target and class, and the VPI and VCI with which it goes on
pub data LineGives (lines : List Line) (unit : ℕ) (h : H.Header) (target : Target) (class vpi vci : ℕ) : Type 0 where
  by_path : In (Vp unit h.vpi target class vpi) lines → vci ≡ h.vci → LineGives lines unit h target class vpi vci
  by_circuit : In (Vc unit h.vpi h.vci target class vpi vci) lines → LineGives lines unit h target class vpi vci

-- a cell that goes to the bus follows a line: its header there has the line's VPI and VCI; "PT and CLP are kept", and the payload
pub record Follows (lines : List Line) (s : Settings) (bytes : List ℕ) (r : Routed) : Type 0 where
  pub vpi : ℕ
  pub vci : ℕ
  pub line : LineGives lines s.number (header_of s bytes) r.target r.class vpi vci
  pub header : fields Nni r.cell.header ≡ record { gfc = 0; vpi = vpi; vci = vci; pt = (header_of s bytes).pt; clp = (header_of s bytes).clp }
  pub payload : r.cell.payload ≡ part bytes 5 48

-- of lines with their numbers in range, as those of every table that a card accepts are
abbrev pub LineFollowed : Type 0
LineFollowed = (lines : List Line) → AllInRange lines → (s : Settings) (bytes : List ℕ) (r : Routed) → way_of lines s bytes ≡ goes r → Follows lines s bytes r
