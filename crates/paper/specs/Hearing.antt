-- What a unit makes of a frame of 57 bytes: 01's Hearing, in its own numbers. Assumes nothing.
use Rattle.std.specs.Prelude.{ℕ, suc, ◌/◌, ◌%◌, ◌^◌, ◌≤◌, ◌<◌, ◌≡◌, ◌⊎◌, ◌≢◌, cond, List, [], ◌∷◌, eqb, get_or}
use Rattle.header.specs.declared.Link.TheVariants.{Uni, Nni}
use Rattle.shelf.specs.declared.Unit as U
use Rattle.answer.specs.declared.Hearing as H
use Rattle.answer.specs.declared.Hearing.TheVariants as hearing
use Rattle.paper.specs.Cells.{two, four, vpi, clp, kind, class, address, Damaged}
use Rattle.paper.specs.Outlets.{number_for, queue_at, held, AtLimit}

-- "`mc` unit, session: the unit hears that session": session s is bit s % 8 of byte s / 8
abbrev pub Hears : List ℕ → ℕ → Type 0
Hears sessions s = get_or sessions (s / 8) 0 / 2 ^ (s % 8) % 2 ≡ 1

-- "address 8 (unit, session, or 0 for broadcast)"; "All declared units hear a broadcast, the sender too."; 02, W1: "kind 3 now means control or loopback to one unit"
pub data Addressed (u : U.Unit) (routing : ℕ) : Type 0 where
  by_unit : kind routing ≡ 0 → address routing ≡ u.settings.number → Addressed u routing
  by_session : kind routing ≡ 1 → Hears u.sessions (address routing) → Addressed u routing
  by_broadcast : kind routing ≡ 2 → Addressed u routing
  by_third : kind routing ≡ 3 → address routing ≡ u.settings.number → Addressed u routing

-- the queue that a frame's data cell is meant for
abbrev pub queue_of : U.Unit → List ℕ → ℕ
queue_of u f = number_for u.outlet.limits.mode (class (two f 0))

-- where a frame's cell waits: in a queue, or beside them. 02, W1: "a four-cell control outlet and a one-cell loopback outlet"
pub data Waits : Type 0 where
  in_queue : ℕ → Waits
  in_control : Waits
  in_loopback : Waits

abbrev pub waits_in : U.Unit → List ℕ → Waits
waits_in u f = cond (eqb (kind (two f 0)) 3) (cond (eqb (class (two f 0)) 0) in_control in_loopback) (in_queue (queue_of u f))

-- how many cells there may be, and how many there are
abbrev pub room_in : U.Unit → Waits → ℕ
room_in u (in_queue q) = (queue_at u.outlet q).capacity
room_in u in_control = 4
room_in u in_loopback = 1

abbrev pub held_in : U.Unit → Waits → ℕ
held_in u (in_queue q) = held u.outlet q
held_in u in_control = u.side.controlout.count
held_in u in_loopback = u.side.loopbackout

-- "queue at capacity"; of a loopback cell "`full` if taken"
abbrev pub NoRoom : U.Unit → List ℕ → Type 0
NoRoom u f = room_in u (waits_in u f) ≤ held_in u (waits_in u f)

abbrev pub Room : U.Unit → List ℕ → Type 0
Room u f = held_in u (waits_in u f) < room_in u (waits_in u f)

-- a data cell. 02, W1: "Neither cell meets `wide` or `clp`."
abbrev pub Data : List ℕ → Type 0
Data f = kind (two f 0) ≢ 3

-- "VPI above 255 at a UNI unit": "The cell header on the bus always has a twelve-bit VPI."
abbrev pub TooWide : U.Unit → List ℕ → Type 0
TooWide u f = Data f × (u.settings.link ≡ Uni) × (255 < vpi Nni (four f 4))

-- a sound frame that is addressed to the unit and not too wide for it
pub record Comes (u : U.Unit) (f : List ℕ) : Type 0 where
  pub sound : Damaged f → ⊥
  pub addressed : Addressed u (two f 0)
  pub narrow : TooWide u f → ⊥

-- "CLP 1 and the queue at its limit or above"
abbrev pub Discards : U.Unit → List ℕ → Type 0
Discards u f = Data f × (clp (four f 4) ≡ 1) × AtLimit (queue_at u.outlet (queue_of u f)).limit (held u.outlet (queue_of u f))

-- "Bad parity .. is `damaged`. Not addressed: `other`, uncounted. .. Then: VPI above 255 at a UNI unit, `wide`; queue at capacity, `full`; CLP 1 and the queue at its limit or above, `clp`; else
-- `queued`."
abbrev pub HearingIs : U.Unit → List ℕ → H.Hearing → Type 0
HearingIs u f hearing.Damaged = Damaged f
HearingIs u f hearing.Other = (Damaged f → ⊥) × (Addressed u (two f 0) → ⊥)
HearingIs u f hearing.Wide = (Damaged f → ⊥) × Addressed u (two f 0) × TooWide u f
HearingIs u f hearing.Full = Comes u f × NoRoom u f
HearingIs u f hearing.Clp = Comes u f × Room u f × Discards u f
HearingIs u f hearing.Queued = Comes u f × Room u f × (Discards u f → ⊥)

-- "copies queued": how many of these fates are `queued`
unfoldable pub queued_in : List H.Hearing → ℕ
queued_in [] = 0
queued_in (hearing.Damaged ∷ fates) = queued_in fates
queued_in (hearing.Other ∷ fates) = queued_in fates
queued_in (hearing.Wide ∷ fates) = queued_in fates
queued_in (hearing.Full ∷ fates) = queued_in fates
queued_in (hearing.Clp ∷ fates) = queued_in fates
queued_in (hearing.Queued ∷ fates) = suc (queued_in fates)

-- the fates of a unit that is not addressed: "a damaged frame addresses none"
abbrev pub Quiet : H.Hearing → Type 0
Quiet fate = (fate ≡ hearing.Damaged) ⊎ (fate ≡ hearing.Other)
