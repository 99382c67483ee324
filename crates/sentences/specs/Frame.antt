-- Frame: 02's moves, then 01's requests, sending and grant. Assumes nothing.
use Rattle.std.specs.Prelude.{ℕ, ◌+◌, ◌%◌, ◌≤◌, ◌<◌, ◌≡◌, ◌⊎◌, ◌≢◌, ◌↔◌, Bool, true, cond, ◌&&◌, List, [], ◌∷◌, ◌++◌, eqb, leb, length, get_or, take, drop}
use Rattle.card.specs.declared.Card.{Card}
use Rattle.shelf.specs.declared.Unit as U
use Rattle.shelf.specs.Shelf.{Shelf}
use Rattle.answer.specs.declared.Answer as N
use Rattle.answer.specs.declared.Hearing as H
use Rattle.answer.specs.declared.Hearing.TheVariants as hearing
use Rattle.paper.specs.Cells.{byte, two_bytes, kind, class, address, RoutingCheck, parity}
use Rattle.paper.specs.Outlets.{slot_at, cell_at, shorter}
use Rattle.paper.specs.Counters.{Counter, taken, sent_counts, hearing_counts, RisenIn}
use Rattle.paper.specs.State.{units, unit_at, number_at, blank, ask_of, DeclaredAt, Declared}
use Rattle.paper.specs.Grants.{Wants, Renewed, GrantTo, NoGrant}
use Rattle.paper.specs.Hearing.{HearingIs, queued_in, Quiet}
use Rattle.paper.specs.Answers.{IsFramed}
use Rattle.document.specs.Events.{Event, frame, answers}
use Rattle.running.specs.Events.{World, Outcome}
use Rattle.sentences.specs.Changes.{with_inlet, with_side}
use Rattle.sentences.specs.Hearing.{slot_for, with_copy}

-- 02, W1: "A heard loopback cell waits in the loopback outlet .. and moves at the start of the next frame .. to the loopback inlet once that is free": whether the unit's does, and the unit afterwards
abbrev pub Moves : U.Unit → Type 0
Moves u = (1 ≤ u.side.loopbackout) × (u.side.loopbackin ≡ 0)

abbrev pub has_moved : U.Unit → U.Unit
has_moved u = with_side u u.side.controlin 1 u.side.controlout 0

-- ".. as a control cell for the unit named in its first tandem byte": its routing header is new, "class 0 is control"; its other bytes stay
pub record Returned (before after : List ℕ) : Type 0 where
  pub routing : ℕ
  pub whole : routing < 65536
  pub kind_is : kind routing ≡ 3
  pub class_is : class routing ≡ 0
  pub address_is : address routing ≡ byte before 2
  pub check : RoutingCheck routing
  pub bytes : after ≡ two_bytes routing ++ drop 2 before

-- "leaving either outlet is `taken`"
abbrev pub moved_counts : U.Unit → List Counter
moved_counts u = cond (leb 1 u.side.loopbackout && eqb u.side.loopbackin 0) (taken ∷ []) []

-- between these two worlds the loopback cells have moved, and nothing else has changed
pub record Moved (w m : World) : Type 0 where
  pub moves : (i : ℕ) → i < w.shelf.count → Moves (unit_at w.shelf i) → unit_at m.shelf i ≡ has_moved (unit_at w.shelf i)
  pub stays : (i : ℕ) → i < w.shelf.count → (Moves (unit_at w.shelf i) → ⊥) → unit_at m.shelf i ≡ unit_at w.shelf i
  pub beyond : (i : ℕ) → w.shelf.count ≤ i → get_or m.shelf.units i blank ≡ get_or w.shelf.units i blank
  pub places : length m.shelf.units ≡ 32
  -- the store: the cell stands in the inlet's slot, and no other byte changes; what is lent are bytes, below 256
  pub stored : (i : ℕ) → i < w.shelf.count → Moves (unit_at w.shelf i) → byte (cell_at w.store i 133) 2 < 256 → Returned (cell_at w.store i 133) (cell_at m.store i 128)
  pub kept : (k : ℕ) → ((i : ℕ) → i < w.shelf.count → Moves (unit_at w.shelf i) → (k < slot_at i 128) ⊎ (slot_at i 128 + 56 ≤ k)) → byte m.store k ≡ byte w.store k
  pub long : length m.store ≡ length w.store
  pub rows : RisenIn w.rows w.shelf.count (λ i. moved_counts (unit_at w.shelf i)) m.rows
  pub memory : m.memory ≡ w.memory
  pub bus : m.shelf.bus ≡ w.shelf.bus
  pub count : m.shelf.count ≡ w.shelf.count
  pub arbiter : m.shelf.arbiter ≡ w.shelf.arbiter
  pub granted : m.shelf.granted ≡ w.shelf.granted
  pub frame : m.shelf.frame ≡ w.shelf.frame

-- "First requests: a unit asks if it has a cell besides one already granted.", at its priority; who is not renewed stands; nobody asks at a number that no unit has
pub record Requests (shelf : Shelf) (asks : List ℕ) : Type 0 where
  pub asking : (i : ℕ) → i < length (units shelf) → Renewed shelf.bus shelf.frame (number_at shelf i) → Wants shelf.granted (unit_at shelf i) → get_or asks (number_at shelf i) 0 ≡ (unit_at shelf i).settings.priority
  pub silent : (i : ℕ) → i < length (units shelf) → Renewed shelf.bus shelf.frame (number_at shelf i) → (Wants shelf.granted (unit_at shelf i) → ⊥) → get_or asks (number_at shelf i) 0 ≡ 0
  pub stand : (n : ℕ) → (Renewed shelf.bus shelf.frame n → ⊥) → get_or asks n 0 ≡ ask_of shelf n
  pub undeclared : (n : ℕ) → (Declared shelf n → ⊥) → get_or asks n 0 ≡ 0

-- "An idle frame has no bytes and leaves the frame buffer unchanged."
pub record Idle (w : World) (buffer : List ℕ) (copies : ℕ) (o : Outcome) : Type 0 where
  pub none : copies ≡ 0
  pub units : o.world.shelf.units ≡ w.shelf.units
  pub store : o.world.store ≡ w.store
  pub rows : RisenIn w.rows w.shelf.count (λ i. []) o.world.rows
  pub bytes : o.bytes ≡ buffer

-- "sends its oldest cell"; 02, W1: "Sending order is document 001's default: data, then control, then loopback.": from which slot, and the unit without it
pub data SendsFrom (u : U.Unit) : ℕ → U.Unit → Type 0 where
  data_cell : 1 ≤ u.inlet.count → SendsFrom u (123 + u.inlet.head) (with_inlet u (shorter u.inlet 4))
  control_cell : u.inlet.count ≡ 0 → 1 ≤ u.side.controlin → SendsFrom u 127 (with_side u 0 u.side.loopbackin u.side.controlout u.side.loopbackout)
  loopback_cell : u.inlet.count ≡ 0 → u.side.controlin ≡ 0 → 1 ≤ u.side.loopbackin → SendsFrom u 128 (with_side u u.side.controlin 0 u.side.controlout u.side.loopbackout)

-- the unit in place i when the unit in place p has sent, and is then this one
abbrev pub without : Shelf → ℕ → U.Unit → ℕ → U.Unit
without shelf p left i = cond (eqb i p) left (unit_at shelf i)

-- what is counted at the unit in place i: the fate of its copy; at the sender `sent` before, and "a sent cell addressing no declared unit also counts `unheard`"
abbrev pub counted : ℕ → Bool → List H.Hearing → ℕ → List Counter
counted p heard fates i = cond (eqb i p) (sent_counts heard) [] ++ hearing_counts (get_or fates i hearing.Other)

-- "Then the unit granted in the frame before sends its oldest cell."; "a sent frame is heard by every declared unit": the unit in place p sends this cell
pub record Sends (w : World) (p copies : ℕ) (o : Outcome) : Type 0 where
  pub sender : DeclaredAt w.shelf w.shelf.granted p
  pub slot : ℕ
  pub left : U.Unit
  pub from : SendsFrom (unit_at w.shelf p) slot left
  pub cell : List ℕ
  pub oldest : cell ≡ cell_at w.store p slot
  -- "parity 1"
  pub bytes : o.bytes ≡ cell ++ (parity cell ∷ [])
  -- each declared unit hears it, with exactly one fate
  pub fates : List H.Hearing
  pub many : length fates ≡ w.shelf.count
  pub each : (i : ℕ) → i < w.shelf.count → HearingIs (unit_at w.shelf i) o.bytes (get_or fates i hearing.Other)
  pub only : (i : ℕ) → i < w.shelf.count → (other : H.Hearing) → HearingIs (unit_at w.shelf i) o.bytes other → other ≡ get_or fates i hearing.Other
  -- "copies queued"
  pub queued : copies ≡ queued_in fates
  -- the units: a queued copy is held, the sender is without its cell, nothing else changes
  pub holds : (i : ℕ) → i < w.shelf.count → get_or fates i hearing.Other ≡ hearing.Queued → get_or o.world.shelf.units i blank ≡ with_copy (without w.shelf p left i) o.bytes
  pub keeps : (i : ℕ) → i < w.shelf.count → get_or fates i hearing.Other ≢ hearing.Queued → get_or o.world.shelf.units i blank ≡ without w.shelf p left i
  pub beyond : (i : ℕ) → w.shelf.count ≤ i → get_or o.world.shelf.units i blank ≡ get_or w.shelf.units i blank
  pub places : length o.world.shelf.units ≡ 32
  -- the store: the cell stands where it is queued, and no other byte changes
  pub stored : (i : ℕ) → i < w.shelf.count → get_or fates i hearing.Other ≡ hearing.Queued → take 56 (drop (slot_for (unit_at w.shelf i) i o.bytes) o.world.store) ≡ cell
  pub kept : (k : ℕ) → ((i : ℕ) → i < w.shelf.count → get_or fates i hearing.Other ≡ hearing.Queued → (k < slot_for (unit_at w.shelf i) i o.bytes) ⊎ (slot_for (unit_at w.shelf i) i o.bytes + 56 ≤ k)) →
      byte o.world.store k ≡ byte w.store k
  pub long : length o.world.store ≡ length w.store
  -- the counters; "a damaged frame addresses none"
  pub heard : Bool
  pub unheard : (heard ≢ true) ↔ ((i : ℕ) → i < w.shelf.count → Quiet (get_or fates i hearing.Other))
  pub rows : RisenIn w.rows w.shelf.count (counted p heard fates) o.world.rows

-- requests, sending and grant, with a buffer of 57 bytes
pub record Turned (w : World) (buffer : List ℕ) (o : Outcome) : Type 0 where
  pub asks : List ℕ
  pub requests : Requests w.shelf asks
  -- "Then the grant"
  pub grant :
      GrantTo w.shelf.arbiter.last asks o.world.shelf.granted o.world.shelf.arbiter.last o.world.shelf.arbiter.asks
      ⊎ NoGrant w.shelf.arbiter.last asks o.world.shelf.granted o.world.shelf.arbiter.last o.world.shelf.arbiter.asks
  pub asks_32 : length o.world.shelf.arbiter.asks ≡ 32
  pub last_3 : length o.world.shelf.arbiter.last ≡ 3
  -- "numbered from 0 modulo 65,536"; "`frame` gives number, sender, unit granted, copies queued"; no unit is 255
  pub number : o.world.shelf.frame ≡ (w.shelf.frame + 1) % 65536
  pub copies : ℕ
  pub answer : N.Answer
  pub said : o.said ≡ answers answer
  pub answers_it : IsFramed answer w.shelf.frame w.shelf.granted o.world.shelf.granted copies
  pub bus : o.world.shelf.bus ≡ w.shelf.bus
  pub count : o.world.shelf.count ≡ w.shelf.count
  pub memory : o.world.memory ≡ w.memory
  pub idle : w.shelf.granted ≡ 255 → Idle w buffer copies o
  pub sends : w.shelf.granted ≢ 255 → (p : ℕ) × Sends w p copies o

-- the whole: the moves first
pub record Framed (w : World) (buffer : List ℕ) (o : Outcome) : Type 0 where
  pub between : World
  pub moved : Moved w between
  pub turned : Turned between buffer o

abbrev pub FrameRule : Card → World → (Event → Outcome) → Type 0
FrameRule card w comes = (buffer : List ℕ) → length buffer ≡ 57 → Framed w buffer (comes (frame buffer))
