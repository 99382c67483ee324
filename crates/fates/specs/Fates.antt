-- "Each arriving cell meets exactly one fate, each copy on the bus meets exactly one fate at each unit it addresses": each fate as a fact in document
-- 01's words, on the document's shelf. Assumes nothing.
use Rattle.std.specs.Prelude.{ℕ, ◌<◌, ◌≤◌, ◌≡◌, ◌↔◌, ◌⊎◌, length, get_or, Some, None, Option}
use mathlib.Core.List.{List, ◌++◌, Memᴰ as In}
use Rattle.octets.specs.Octets.{four}
use Rattle.header.specs.Check.{check}
use Rattle.header.specs.declared.Header as H
use Rattle.bus.specs.declared.Target as T
use Rattle.bus.specs.declared.Target.TheVariants as target
use Rattle.bus.specs.Frame.{heard}
use Rattle.bus.specs.Heard as frame
use Rattle.outlet.specs.Outlets.{capacity}
use Rattle.outlet.specs.Hearing.{queue_of, limit, bus_clp, TooWide}
use Rattle.line.specs.declared.Line.{Line}
use Rattle.line.specs.declared.Line.TheVariants.{Vp, Drop, Vc, Mc}
use Rattle.meaning.specs.Served.{Serving, by_vp, by_drop, by_vc, served}
use Rattle.answer.specs.declared.Arrival as A
use Rattle.answer.specs.declared.Arrival.TheVariants as arrival
use Rattle.answer.specs.declared.Hearing as Q
use Rattle.answer.specs.declared.Hearing.TheVariants as hearing
use Rattle.answer.specs.declared.Answer.TheVariants.{Arrived, Heard}
use Rattle.document.specs.Events.{Event, arrive, hear, Said, answers}
use Rattle.paper.specs.Counters.{Counter, arrival_counts, hearing_counts}
use Rattle.document.specs.Counters.{entries}
use Rattle.document.specs.Shelf.{Unit as D-as-Unit, Shelf, number_of, held, find_in, unit_at}
use Rattle.document.specs.Arrival.{header_of, arrival_of}
use Rattle.document.specs.Hearing.{hearing_of}
use Rattle.document.specs.Steps.{happens_to}

-- "A line cell is 53 bytes: header 4, check 1, payload 48.": the check is right
abbrev pub RightCheck : List ℕ → Type 0
RightCheck c = check (four c 0) ≡ get_or c 4 0

-- "VPI 0 with VCI 0"
abbrev pub Zeros : H.Header → Type 0
Zeros h = (h.vpi ≡ 0) × (h.vci ≡ 0)

-- the line that serves the unit, the VPI and the VCI, if there is one; it is a `vp` or a `vc` line
abbrev pub line_for : List Line → D-as-Unit → List ℕ → Option Serving
line_for lines u c = served lines (number_of u) (header_of u.settings c).vpi (header_of u.settings c).vci

abbrev pub Routes : Option Serving → Type 0
Routes None = ⊥
Routes (Some by_drop) = ⊥
Routes (Some (by_vp target class outvpi)) = Unit {0}
Routes (Some (by_vc target class outvpi outvci)) = Unit {0}

-- that line is in the table; or the table has no line for the unit and the VPI, none for the VCI there
abbrev pub LineIs : List Line → ℕ → ℕ → ℕ → Option Serving → Type 0
LineIs lines u v w None =
    ((target : T.Target) (class outvpi : ℕ) → In (Vp u v target class outvpi) lines → ⊥)
    × (In (Drop u v) lines → ⊥)
    × ((target : T.Target) (class outvpi outvci : ℕ) → In (Vc u v w target class outvpi outvci) lines → ⊥)
LineIs lines u v w (Some by_drop) = In (Drop u v) lines
LineIs lines u v w (Some (by_vp target class outvpi)) = In (Vp u v target class outvpi) lines
LineIs lines u v w (Some (by_vc target class outvpi outvci)) = In (Vc u v w target class outvpi outvci) lines

abbrev pub LineServes : Type 0
LineServes = (lines : List Line) (u v w : ℕ) → LineIs lines u v w (served lines u v w)

-- "a routed cell"
pub record Goes (lines : List Line) (u : D-as-Unit) (c : List ℕ) : Type 0 where
  pub check : RightCheck c
  pub some : Zeros (header_of u.settings c) → ⊥
  pub top : (header_of u.settings c).vpi ≤ u.settings.top
  pub line : Routes (line_for lines u c)

-- "Wrong header check: `hec`. VPI 0 with VCI 0: `ignored`. Then the record for the VPI as that link reads it: above the top or kind 0, `misrouted`;
-- drop, `ignored`; .. A routed cell finding 4 cells in the inlet is `inletfull`, else `queued`."
abbrev pub ArrivalIs : List Line → D-as-Unit → List ℕ → A.Arrival → Type 0
ArrivalIs lines u c arrival.Hec = RightCheck c → ⊥
ArrivalIs lines u c arrival.Ignored =
    RightCheck c × (Zeros (header_of u.settings c) ⊎ (((header_of u.settings c).vpi ≤ u.settings.top) × (line_for lines u c ≡ Some by_drop)))
ArrivalIs lines u c arrival.Misrouted =
    RightCheck c × (Zeros (header_of u.settings c) → ⊥) × ((u.settings.top < (header_of u.settings c).vpi) ⊎ (line_for lines u c ≡ None))
ArrivalIs lines u c arrival.Inletfull = Goes lines u c × (4 ≤ length u.inlet)
ArrivalIs lines u c arrival.Queued = Goes lines u c × (length u.inlet < 4)

-- "address 8 (unit, session, or 0 for broadcast)", "`mc` unit, session: the unit hears that session", "All declared units hear a broadcast"
abbrev pub Addressed : List Line → D-as-Unit → T.Target → Type 0
Addressed lines u (target.Unit number) = number_of u ≡ number
Addressed lines u (target.Session session) = In (Mc (number_of u) session) lines
Addressed lines u target.All = Unit {0}

-- what is heard is a sound frame: the first holds of a data cell's target, class and header; the second of a control or a loopback cell's unit, of what stands in the outlet that is for
-- it and of how many cells that outlet takes: "a four-cell control outlet and a one-cell loopback outlet"
abbrev pub SoundWith : D-as-Unit → frame.Heard → (T.Target → ℕ → ℕ → Type 0) → (ℕ → List (List ℕ) → ℕ → Type 0) → Type 0
SoundWith u frame.Length P Q = ⊥
SoundWith u frame.Damaged P Q = ⊥
SoundWith u (frame.Cell target class header) P Q = P target class header
SoundWith u (frame.Control unit) P Q = Q unit u.side.controlout 4
SoundWith u (frame.Loopback unit) P Q = Q unit u.side.loopbackout 1

-- addressed, and not "VPI above 255 at a UNI unit"
pub record Fits (lines : List Line) (u : D-as-Unit) (target : T.Target) (header : ℕ) : Type 0 where
  pub addressed : Addressed lines u target
  pub narrow : TooWide u.settings.link header → ⊥

-- the queue of a class: its capacity, its limit and how many cells it holds
abbrev pub room : D-as-Unit → ℕ → ℕ
room u class = capacity u.limits (queue_of u.limits class)

abbrev pub limit_of : D-as-Unit → ℕ → ℕ
limit_of u class = limit u.limits (queue_of u.limits class)

abbrev pub held_of : D-as-Unit → ℕ → ℕ
held_of u class = held u (queue_of u.limits class)

-- "Bad parity .. is `damaged`. Not addressed: `other` .. Then: VPI above 255 at a UNI unit, `wide`; queue at capacity, `full`; CLP 1 and the queue at
-- its limit or above, `clp`; else `queued`." Of control and loopback cells 02: "`full` if taken", "Neither cell meets `wide` or `clp`."
abbrev pub HearingIs : List Line → D-as-Unit → frame.Heard → Q.Hearing → Type 0
HearingIs lines u h hearing.Damaged = SoundWith u h (λ target class header. Unit {0}) (λ unit cells most. Unit {0}) → ⊥
HearingIs lines u h hearing.Other = SoundWith u h (λ target class header. Addressed lines u target → ⊥) (λ unit cells most. number_of u ≡ unit → ⊥)
HearingIs lines u h hearing.Wide = SoundWith u h (λ target class header. Addressed lines u target × TooWide u.settings.link header) (λ unit cells most. ⊥)
HearingIs lines u h hearing.Full =
    SoundWith u h
    (λ target class header. Fits lines u target header × (room u class ≤ held_of u class))
    (λ unit cells most. (number_of u ≡ unit) × (most ≤ length cells))
HearingIs lines u h hearing.Clp =
    SoundWith u h
    (λ target class header.
    Fits lines u target header × (held_of u class < room u class) × (bus_clp header ≡ 1) × (limit_of u class ≤ held_of u class))
    (λ unit cells most. ⊥)
HearingIs lines u h hearing.Queued =
    SoundWith u h
    (λ target class header.
    Fits lines u target header × (held_of u class < room u class) × (bus_clp header ≡ 1 → held_of u class < limit_of u class))
    (λ unit cells most. (number_of u ≡ unit) × (length cells < most))

-- each fate exactly when its fact holds
abbrev pub ArrivalFateIff : Type 0
ArrivalFateIff = (lines : List Line) (u : D-as-Unit) (c : List ℕ) (fate : A.Arrival) → (arrival_of lines u c ≡ fate) ↔ ArrivalIs lines u c fate

abbrev pub HearingFateIff : Type 0
HearingFateIff = (lines : List Line) (u : D-as-Unit) (h : frame.Heard) (fate : Q.Hearing) → (hearing_of lines u h ≡ fate) ↔ HearingIs lines u h fate

-- a declared unit's event says that fate, and exactly that fate's counters rise: these lines and no others are new in the history
pub record Tells (shelf : Shelf) (place : ℕ) (e : Event) (said : Said) (counted : List Counter) : Type 0 where
  pub says : (happens_to shelf e).said ≡ said
  pub counts : (happens_to shelf e).shelf.history ≡ entries (number_of (unit_at shelf place)) counted ++ shelf.history

abbrev pub FateCounted : Type 0
FateCounted =
    (shelf : Shelf) (unit place : ℕ) → find_in shelf.units unit ≡ Some place →
    ((c : List ℕ) → length c ≡ 53 → (fate : A.Arrival) → ArrivalIs shelf.lines (unit_at shelf place) c fate →
    Tells shelf place (arrive unit c) (answers (Arrived fate)) (arrival_counts fate))
    × ((f : List ℕ) → length f ≡ 57 → (fate : Q.Hearing) → HearingIs shelf.lines (unit_at shelf place) (heard f) fate →
    Tells shelf place (hear unit f) (answers (Heard fate)) (hearing_counts fate))

abbrev pub FateIff : Type 0
FateIff = ArrivalFateIff × HearingFateIff × FateCounted × LineServes
