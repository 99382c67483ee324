-- A cell that is said to be queued is held, that cell and nothing else, and no other cell is. Assumes nothing.
use Rattle.std.specs.Prelude.{ℕ, ◌<◌, ◌≡◌, ◌↔◌, ◌≢◌, List, [], ◌∷◌, ◌++◌, length, Some, None, Option}
use Rattle.octets.specs.Octets.{part}
use Rattle.header.specs.declared.Header as H
use Rattle.bus.specs.Heard as sort
use Rattle.outlet.specs.Hearing.{queue_of}
use Rattle.line.specs.declared.Line.{Line}
use Rattle.meaning.specs.Served.{Serving, by_vp, by_drop, by_vc}
use Rattle.answer.specs.declared.Arrival.TheVariants as arrival
use Rattle.answer.specs.declared.Hearing.TheVariants as hearing
use Rattle.answer.specs.declared.Answer.TheVariants.{Refused, Handed, Taken, Empty}
use Rattle.document.specs.Events.{Event, arrive, frame, hear, hand, collect, Said, answers}
use Rattle.document.specs.Shelf.{Routed, Unit as D-as-Unit, Shelf, queue_at, with_control_in, with_control_out, find_in, unit_at}
use Rattle.document.specs.Arrival.{routed, header_of, arrival_of}
use Rattle.document.specs.Hearing.{OnBus, hearing_of, as_handed}
use Rattle.document.specs.Frame.{moved_unit}
use Rattle.document.specs.Steps.{happens_to}
use Rattle.flow.specs.Parts.{From, cell_of, without}
use Rattle.flow.specs.Order.{InTurn}
use Rattle.fates.specs.Fates.{line_for, SoundWith}
use Rattle.fates.specs.Loaded.{FromLoad}

-- "route, VCI kept; page, the VCI's record", "PT and CLP are kept": the routed cell that its line makes of a header and a payload
abbrev pub RoutedBy : Option Serving → H.Header → List ℕ → Routed → Type 0
RoutedBy None h bytes r = ⊥
RoutedBy (Some by_drop) h bytes r = ⊥
RoutedBy (Some (by_vp target class outvpi)) h bytes r = r ≡ routed target class outvpi h.vci h bytes
RoutedBy (Some (by_vc target class outvpi outvci)) h bytes r = r ≡ routed target class outvpi outvci h bytes

-- a cell arrives at a unit, which is then this one: `queued` exactly when exactly the routed cell stands behind the others
pub record ArrivalHeld (lines : List Line) (before : D-as-Unit) (c : List ℕ) (after : D-as-Unit) : Type 0 where
  pub queued :
      (arrival_of lines before c ≡ arrival.Queued)
      ↔ ((r : Routed) × RoutedBy (line_for lines before c) (header_of before.settings c) (part c 5 48) r × (after.inlet ≡ before.inlet ++ (r ∷ [])))
  pub lost : (arrival_of lines before c ≡ arrival.Queued → ⊥) → after.inlet ≡ before.inlet
  pub queues : after.queues ≡ before.queues
  pub side : after.side ≡ before.side

-- exactly the copy stands behind the others: of a data cell in the queue of its class, of a control or a loopback cell "the 56 bytes before parity" in the outlet that is for it
abbrev pub Behind : D-as-Unit → OnBus → sort.Heard → D-as-Unit → Type 0
Behind before x sort.Length after = ⊥
Behind before x sort.Damaged after = ⊥
Behind before x (sort.Cell target class header) after =
    let q = queue_of before.limits class in queue_at after q ≡ queue_at before q ++ (record { header = header; payload = x.payload } ∷ [])
Behind before x (sort.Control unit) after = after.side.controlout ≡ before.side.controlout ++ (x.bytes ∷ [])
Behind before x (sort.Loopback unit) after = after.side.loopbackout ≡ before.side.loopbackout ++ (x.bytes ∷ [])

-- nothing stands in the outlets but what did
pub record SameOutlets (before after : D-as-Unit) : Type 0 where
  pub queues : after.queues ≡ before.queues
  pub controlout : after.side.controlout ≡ before.side.controlout
  pub loopbackout : after.side.loopbackout ≡ before.side.loopbackout

-- nothing waits for the bus but what did
pub record SameInlets (before after : D-as-Unit) : Type 0 where
  pub inlet : after.inlet ≡ before.inlet
  pub controlin : after.side.controlin ≡ before.side.controlin
  pub loopbackin : after.side.loopbackin ≡ before.side.loopbackin

-- a unit hears a cell on the bus: `queued` exactly when exactly the copy stands behind the others in its place; no other queue and no other outlet has changed
pub record CopyHeld (lines : List Line) (before : D-as-Unit) (x : OnBus) (after : D-as-Unit) : Type 0 where
  pub queued : (hearing_of lines before x.heard ≡ hearing.Queued) ↔ Behind before x x.heard after
  pub lost : (hearing_of lines before x.heard ≡ hearing.Queued → ⊥) → SameOutlets before after
  pub others : (q : ℕ) → SoundWith before x.heard (λ target class header. q ≢ queue_of before.limits class) (λ unit cells most. Unit {0}) → queue_at after q ≡ queue_at before q
  pub control : ((unit : ℕ) → x.heard ≡ sort.Control unit → ⊥) → after.side.controlout ≡ before.side.controlout
  pub loopback : ((unit : ℕ) → x.heard ≡ sort.Loopback unit → ⊥) → after.side.loopbackout ≡ before.side.loopbackout

-- a processor hands in a cell: it is taken exactly when the place was free, and then exactly that cell stands there; else "11 Busy, place taken", and the unit is as it was
pub record HandHeld (before : D-as-Unit) (c : List ℕ) (said : Said) (after : D-as-Unit) : Type 0 where
  pub taken : (said ≡ answers Handed) ↔ (after.side.controlin ≡ before.side.controlin ++ (c ∷ []))
  pub free : (said ≡ answers Handed) ↔ (before.side.controlin ≡ [])
  pub busy : (said ≡ answers Handed → ⊥) → (said ≡ answers (Refused 11)) × (after ≡ before)
  pub only : after ≡ with_control_in before after.side.controlin

-- a processor collects: exactly the oldest cell of the control outlet, byte for byte, "(or `empty`)", which leaves the buffer and the unit as they were
pub record CollectHeld (before : D-as-Unit) (buffer : List ℕ) (said : Said) (bytes : List ℕ) (after : D-as-Unit) : Type 0 where
  pub oldest : (said ≡ answers Taken) ↔ (before.side.controlout ≡ bytes ∷ after.side.controlout)
  pub empty : (said ≡ answers Taken → ⊥) → (said ≡ answers Empty) × (before.side.controlout ≡ []) × (bytes ≡ buffer) × (after ≡ before)
  pub only : after ≡ with_control_out before after.side.controlout

-- a unit after an event
abbrev pub unit_after : Shelf → Event → ℕ → D-as-Unit
unit_after d e j = unit_at (happens_to d e).shelf j

-- no other unit has changed
abbrev pub Others : Shelf → Event → ℕ → Type 0
Others d e place = (j : ℕ) → j ≢ place → unit_after d e j ≡ unit_at d j

-- arrive, hear, hand and collect at the unit in a place; and a frame at each unit that hears it, once its loopback cell has moved: the sender too, which is without the cell that it sent
pub record Holds (d : Shelf) : Type 0 where
  pub arrived : (unit place : ℕ) (c : List ℕ) → find_in d.units unit ≡ Some place → length c ≡ 53 →
      ArrivalHeld d.lines (unit_at d place) c (unit_after d (arrive unit c) place) × Others d (arrive unit c) place
  pub heard_one : (unit place : ℕ) (f : List ℕ) → find_in d.units unit ≡ Some place → length f ≡ 57 →
      CopyHeld d.lines (unit_at d place) (as_handed f) (unit_after d (hear unit f) place)
      × SameInlets (unit_at d place) (unit_after d (hear unit f) place)
      × Others d (hear unit f) place
  pub heard_all : (buffer : List ℕ) (place : ℕ) (from : From) → length buffer ≡ 57 → find_in d.units d.granted ≡ Some place →
      InTurn (moved_unit (unit_at d place)) from → (j : ℕ) → j < length d.units →
      CopyHeld d.lines (moved_unit (unit_at d j)) (cell_of from) (unit_after d (frame buffer) j)
      × (j ≢ place → SameInlets (moved_unit (unit_at d j)) (unit_after d (frame buffer) j))
      × (j ≡ place → SameInlets (without from (moved_unit (unit_at d j))) (unit_after d (frame buffer) j))
  pub handed : (unit place : ℕ) (c : List ℕ) → find_in d.units unit ≡ Some place → length c ≡ 56 →
      HandHeld (unit_at d place) c (happens_to d (hand unit c)).said (unit_after d (hand unit c) place) × Others d (hand unit c) place
  pub collected : (unit place : ℕ) (buffer : List ℕ) → find_in d.units unit ≡ Some place → length buffer ≡ 56 →
      CollectHeld (unit_at d place) buffer (happens_to d (collect unit buffer)).said (happens_to d (collect unit buffer)).bytes (unit_after d (collect unit buffer) place)
      × Others d (collect unit buffer) place

-- arrive and hear queue exactly when that queue grew by exactly the routed cell or the copy, and otherwise leave all as it was; "one that says `queued`
-- and holds nothing" is none of ours; and so of what a processor hands in and collects
abbrev pub HeldMeansHeld : Type 0
HeldMeansHeld = FromLoad Holds
