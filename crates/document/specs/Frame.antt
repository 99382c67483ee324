-- 01's Frame, with 02's moves before it and 02's order of sending. Assumes nothing.
use Rattle.std.specs.Prelude.{ℕ, ◌+◌, ◌%◌, ◌^◌, Bool, false, ◌||◌, List, [], ◌∷◌, ◌++◌, map, drop, set, replicate, None, Some, Option}
use Rattle.octets.specs.Octets.{part}
use Rattle.bus.specs.Routing.{routing}
use Rattle.bus.specs.Frame.{cell as on_bus, sealed, carried, returned}
use Rattle.bus.specs.Heard as frame
use Rattle.arbiter.specs.Arbitration.{asks_now, renewed, granted_by}
use Rattle.arbiter.specs.declared.Arbiter.{Arbiter}
use Rattle.arbiter.specs.declared.Granted.{Granted}
use Rattle.line.specs.declared.Line.{Line}
use Rattle.answer.specs.declared.Answer.TheVariants.{Framed}
use Rattle.answer.specs.declared.Answer as N
use Rattle.answer.specs.Answers.{queued_one, is_addressed}
use Rattle.paper.specs.Counters.{Counter, taken, hearing_counts, sent_counts}
use Rattle.document.specs.Counters.{Entry, entries}
use Rattle.document.specs.Shelf.{Routed, Unit, Shelf, number_of, waiting, with_inlet, with_side, with_control_in, with_loopback_in, find_in, unit_at}
use Rattle.document.specs.Hearing.{OnBus, hearing_of, hearing_unit}

-- "A heard loopback cell waits in the loopback outlet .. and moves at the start of the next frame .. to the loopback inlet once that is free": the cell that
-- moves, if one does, of what stands in the outlet and in the inlet
unfoldable pub moving_from : List (List ℕ) → List (List ℕ) → List (List ℕ)
moving_from [] back = []
moving_from (c ∷ rest) [] = c ∷ []
moving_from (c ∷ rest) (b ∷ back) = []

abbrev pub moving : Unit → List (List ℕ)
moving u = moving_from u.side.loopbackout u.side.loopbackin

-- ".. as a control cell for the unit named in its first tandem byte"
unfoldable pub moved_by : List (List ℕ) → Unit → Unit
moved_by [] u = u
moved_by (c ∷ cs) u =
    with_side u
    (record {
      controlin = u.side.controlin;
      loopbackin = returned c ∷ [];
      controlout = u.side.controlout;
      loopbackout = drop 1 u.side.loopbackout;
    })

abbrev pub moved_unit : Unit → Unit
moved_unit u = moved_by (moving u) u

-- "leaving either outlet is `taken`"
abbrev pub moved_counts : Unit → List Counter
moved_counts u = map (λ c. taken) (moving u)

unfoldable pub moved_entries : List Unit → List Entry
moved_entries [] = []
moved_entries (u ∷ us) = entries (number_of u) (moved_counts u) ++ moved_entries us

-- the shelf when they have moved, each at its unit
abbrev pub moved : Shelf → Shelf
moved shelf =
    record {
      lines = shelf.lines;
      bus = shelf.bus;
      units = map moved_unit shelf.units;
      arbiter = shelf.arbiter;
      granted = shelf.granted;
      frame = shelf.frame;
      history = moved_entries shelf.units ++ shelf.history;
    }

-- "First requests: a unit asks if it has a cell besides one already granted." What these units ask now, each by its number
unfoldable pub asking_of : ℕ → List ℕ → List Unit → List ℕ
asking_of granted now [] = now
asking_of granted now (u ∷ us) = asking_of granted (set now (number_of u) (asks_now granted (number_of u) u.settings.priority (waiting u))) us

abbrev pub requests : Shelf → Arbiter
requests shelf = renewed shelf.arbiter shelf.bus shelf.frame (asking_of shelf.granted (replicate 32 0) shelf.units)

-- a data cell on the bus: "routing header 2, tandem header 2 (written zero ..), cell header 4, payload 48"
abbrev pub data_on_bus : Routed → OnBus
data_on_bus r =
    record {
      heard = frame.Cell r.target r.class r.cell.header;
      payload = r.cell.payload;
      bytes = on_bus (routing r.target r.class) 0 r.cell.header r.cell.payload;
    }

-- a control or a loopback cell: "the 56 bytes before parity, sent as they are"
abbrev pub bytes_on_bus : List ℕ → OnBus
bytes_on_bus c = record { heard = carried c; payload = part c 8 48; bytes = c }

-- "A bus frame is 57 bytes: .. parity 1."
abbrev pub frame_of : OnBus → List ℕ
frame_of x = sealed x.bytes

-- "a sent frame is heard by every declared unit": each unit afterwards, how many copies are queued, whether a unit is addressed, the history's lines
abbrev pub all_hear : List Line → List Unit → OnBus → List Unit
all_hear lines us x = map (λ u. hearing_unit lines u x) us

unfoldable pub copies : List Line → List Unit → OnBus → ℕ
copies lines [] x = 0
copies lines (u ∷ us) x = queued_one (hearing_of lines u x.heard) + copies lines us x

unfoldable pub some_addressed : List Line → List Unit → OnBus → Bool
some_addressed lines [] x = false
some_addressed lines (u ∷ us) x = is_addressed (hearing_of lines u x.heard) || some_addressed lines us x

unfoldable pub heard_entries : List Line → List Unit → OnBus → List Entry
heard_entries lines [] x = []
heard_entries lines (u ∷ us) x = entries (number_of u) (hearing_counts (hearing_of lines u x.heard)) ++ heard_entries lines us x

-- what is left when a frame has been on the bus
pub record Sent : Type 0 where
  pub units : List Unit
  pub bytes : List ℕ
  pub queued : ℕ
  pub happened : List Entry

-- "An idle frame has no bytes and leaves the frame buffer unchanged."
abbrev pub idle : Shelf → List ℕ → Sent
idle shelf buffer = record { units = shelf.units; bytes = buffer; queued = 0; happened = [] }

-- what a unit sends, and the unit without it: "Sending order is document 001's default: data, then control, then loopback."
pub record Sending : Type 0 where
  pub cell : OnBus
  pub left : Unit

unfoldable pub sending_from : List Routed → List (List ℕ) → List (List ℕ) → Unit → Option Sending
sending_from (r ∷ rest) control loopback u = Some (record { cell = data_on_bus r; left = with_inlet u rest })
sending_from [] (c ∷ rest) loopback u = Some (record { cell = bytes_on_bus c; left = with_control_in u rest })
sending_from [] [] (c ∷ rest) u = Some (record { cell = bytes_on_bus c; left = with_loopback_in u rest })
sending_from [] [] [] u = None

abbrev pub sending_of : Unit → Option Sending
sending_of u = sending_from u.inlet u.side.controlin u.side.loopbackin u

-- "Then the unit granted in the frame before sends its oldest cell."
unfoldable pub sends_one : Option Sending → Shelf → ℕ → List ℕ → Sent
sends_one None shelf place buffer = idle shelf buffer
sends_one (Some s) shelf place buffer =
    let us = set shelf.units place s.left in
    record {
      units = all_hear shelf.lines us s.cell;
      bytes = frame_of s.cell;
      queued = copies shelf.lines us s.cell;
      happened = entries (number_of (unit_at shelf place)) (sent_counts (some_addressed shelf.lines us s.cell)) ++ heard_entries shelf.lines us s.cell;
    }

unfoldable pub sends : Option ℕ → Shelf → List ℕ → Sent
sends (Some place) shelf buffer = sends_one (sending_of (unit_at shelf place)) shelf place buffer
sends None shelf buffer = idle shelf buffer

abbrev pub sent_in : Shelf → List ℕ → Sent
sent_in shelf buffer = sends (find_in shelf.units shelf.granted) shelf buffer

-- "Then the grant", of the requests as they were renewed first
abbrev pub granting : Shelf → Granted
granting shelf = granted_by (requests shelf)

-- "numbered from 0 modulo 65,536"; "`frame` gives number, sender, unit granted, copies queued"
abbrev pub turned : Shelf → List ℕ → Shelf
turned shelf buffer =
    record {
      lines = shelf.lines;
      bus = shelf.bus;
      units = (sent_in shelf buffer).units;
      arbiter = (granting shelf).arbiter;
      granted = (granting shelf).unit;
      frame = (shelf.frame + 1) % 2 ^ 16;
      history = (sent_in shelf buffer).happened ++ shelf.history;
    }

abbrev pub turned_answer : Shelf → List ℕ → N.Answer
turned_answer shelf buffer = Framed shelf.frame shelf.granted (granting shelf).unit (sent_in shelf buffer).queued

-- a whole frame: the moves first, then requests, sending and grant
abbrev pub framed : Shelf → List ℕ → Shelf
framed shelf buffer = turned (moved shelf) buffer

abbrev pub framed_answer : Shelf → List ℕ → N.Answer
framed_answer shelf buffer = turned_answer (moved shelf) buffer

abbrev pub framed_bytes : Shelf → List ℕ → List ℕ
framed_bytes shelf buffer = (sent_in (moved shelf) buffer).bytes
