-- 02, W10: how long a unit can wait for its grant. Assumes nothing.
use Rattle.std.specs.Prelude.{ℕ, ◌+◌, ◌<◌, ◌≤◌, ◌≡◌, ◌≢◌, Bool, false, cond, eqb, leb, length, get_or, take}
use mathlib.Core.List.{List, [], ◌∷◌, map, Memᴰ as In}
use Rattle.card.specs.declared.Card.{Card}
use Rattle.arbiter.specs.declared.Grant.{Grant}
use Rattle.state.specs.Bytes.{shelf_in}
use Rattle.line.specs.declared.Line.{Line}
use Rattle.answer.specs.declared.Counters as C
use Rattle.answer.specs.declared.Answer.TheVariants.{Framed, Refused}
use Rattle.paper.specs.Grants.{turn, last_at}
use Rattle.framing.specs.Requests as framing
use Rattle.framing.specs.Moves.{moved}
use Rattle.promise.specs.Refusals.{Accepts}
use Rattle.document.specs.Events.{Event, arrive, frame, hear, take_cell, count, hand, collect, Said, answers, Back}
use Rattle.document.specs.Shelf.{Shelf, number_of, units_of, bus_of, opened}
use Rattle.document.specs.Steps.{becomes}
use Rattle.flow.specs.Parts.{among}
use Rattle.running.specs.Lent.{Lent, run_in, loaded_in}
use Rattle.refining.specs.Refines.{gives}
use Rattle.fates.specs.Frames.{asks_of, granted_now}

-- the frames among these events: a frame that is refused with Length is none
unfoldable pub is_frame : Event → Bool
is_frame (frame buffer) = eqb (length buffer) 57
is_frame (arrive unit cell) = false
is_frame (hear unit heard) = false
is_frame (take_cell unit buffer) = false
is_frame (count unit) = false
is_frame (hand unit cell) = false
is_frame (collect unit buffer) = false

unfoldable pub frames_in : List Event → ℕ
frames_in [] = 0
frames_in (e ∷ es) = cond (is_frame e) 1 0 + frames_in es

-- "the frame in which a .. unit's request is taken up": once requests are renewed, the unit asks, here at this priority. `frames_go_on` has when it does
abbrev pub TakesUp : Shelf → ℕ → ℕ → Type 0
TakesUp d unit priority = get_or (asks_of d) unit 0 ≡ priority

-- "granted by the end of the n-th frame, that frame counted as first": of what these events give back, one says that the unit is granted, and fewer than n frames are before it
abbrev pub said_at : List Back → ℕ → Said
said_at back place = get_or (map (λ b. b.said) back) place (answers (Refused 0))

pub record GrantedBy (unit n : ℕ) (es : List Event) (back : List Back) : Type 0 where
  pub place : ℕ
  pub soon : frames_in (take place es) < n
  pub number : ℕ
  pub sender : ℕ
  pub copies : ℕ
  pub says : said_at back place ≡ answers (Framed number sender unit copies)

-- "declared units at priority 3", by their numbers: who may ask at 3
abbrev pub at_three : List Line → List ℕ
at_three told = map number_of (among (λ u. eqb u.settings.priority 3) (units_of told))

-- of these units, those that stand "in cyclic order after the last unit granted", up to the unit itself: no more units are before them in that order
abbrev pub up_to : ℕ → ℕ → List ℕ → List ℕ
up_to last unit may = among (λ n. leb (turn last n) (turn last unit)) may

-- what of the arbiter the bound rests on, where a unit asks at 3: "of the highest priority asking (3 is highest), the first unit in cyclic order after the last unit granted", "its own
-- kept for each", and the request of another unit stands
pub record InTurn (last asks : List ℕ) (unit : ℕ) (after : Grant) : Type 0 where
  pub highest : get_or asks after.unit 0 ≡ 3
  pub first : turn (last_at last 3) after.unit ≤ turn (last_at last 3) unit
  pub own : last_at after.last 3 ≡ after.unit
  pub stand : unit ≢ after.unit → get_or after.asks unit 0 ≡ 3

-- and of a shelf, whichever units may ask at 3: "the others stand", a request that is renewed too, until it is granted; and who is granted at 3 may ask so
pub record Holds (may : List ℕ) (d : Shelf) : Type 0 where
  pub three : length d.arbiter.last ≡ 3
  pub few : (n : ℕ) → get_or (asks_of d) n 0 ≡ 3 → n < 32
  pub stand : (n : ℕ) → get_or d.arbiter.asks n 0 ≡ 3 → get_or (asks_of d) n 0 ≡ 3
  pub one : get_or (asks_of d) (granted_now d) 0 ≡ 3 → In (granted_now d) may

-- from a good load on, of the units that these lines let ask at 3
abbrev pub HoldsFor : (List Line → List ℕ) → Type 0
HoldsFor may =
    (card : Card) (text memory store : List ℕ) (rows : List C.Counters) (told : List Line) →
    Accepts card text memory (length store) (length rows) told → (es : List Event) → Holds (may told) (becomes (opened told) es)

-- a unit that asks at 3 is granted within so many frames: from a good load on, on either card, in what our shelf gives back after any events, from the frame that takes its request up on, with
-- any events between the frames; data, control and loopback cells ask
abbrev pub Within : (List Line → Shelf → ℕ → ℕ) → Type 0
Within most =
    (card : Card) (text memory store : List ℕ) (rows : List C.Counters) (told : List Line) →
    Accepts card text memory (length store) (length rows) told → (es : List Event) (buffer : List ℕ) (more : List Event) → length buffer ≡ 57 →
    (unit : ℕ) → TakesUp (becomes (opened told) es) unit 3 →
    most told (becomes (opened told) es) unit ≤ frames_in (frame buffer ∷ more) →
    GrantedBy unit (most told (becomes (opened told) es) unit) (frame buffer ∷ more) (gives card (run_in card (loaded_in card text memory store rows) es) (frame buffer ∷ more))

-- these are our shelf's requests, and its last units granted: those that the 2,048 bytes of its state give in that frame
pub record Same (l : Lent) (d : Shelf) : Type 0 where
  pub requests : (framing.requests (moved (shelf_in l.state))).asks ≡ asks_of d
  pub lasts : (shelf_in l.state).arbiter.last ≡ d.arbiter.last

abbrev pub SameRequests : Type 0
SameRequests =
    (card : Card) (text memory store : List ℕ) (rows : List C.Counters) (told : List Line) →
    Accepts card text memory (length store) (length rows) told → (es : List Event) → Same (run_in card (loaded_in card text memory store rows) es) (becomes (opened told) es)

-- of the units that may ask at 3: "n being the number of declared units at priority 3"
abbrev pub WaitsAtMost : (List Line → List ℕ) → Type 0
WaitsAtMost may = Within (λ told d unit. length (may told))

-- and sharper: only those count that stand in cyclic order after the last one granted at 3, up to the unit itself
abbrev pub WaitsItsTurn : (List Line → List ℕ) → Type 0
WaitsItsTurn may = Within (λ told d unit. length (up_to (last_at d.arbiter.last 3) unit (may told)))

-- a table and events with which a unit that asks at a priority is not granted in so many frames
pub record Ungranted (card : Card) (priority n : ℕ) : Type 0 where
  pub text : List ℕ
  pub memory : List ℕ
  pub store : List ℕ
  pub rows : List C.Counters
  pub told : List Line
  pub accepts : Accepts card text memory (length store) (length rows) told
  pub es : List Event
  pub buffer : List ℕ
  pub more : List Event
  pub whole : length buffer ≡ 57
  pub unit : ℕ
  pub asks : TakesUp (becomes (opened told) es) unit priority
  pub enough : n ≤ frames_in (frame buffer ∷ more)
  pub waits : GrantedBy unit n (frame buffer ∷ more) (gives card (run_in card (loaded_in card text memory store rows) es) (frame buffer ∷ more)) → ⊥

-- "on a 16 bus, that no such number holds for priority 1 beside a busy priority 3": of two units the other is at priority 3, and the frames begin with frame 0. That other one is busy: a
-- frame in which somebody asks grants somebody (`frames_go_on`), and the unit itself it does not grant
pub record Starves (card : Card) (n : ℕ) : Type 0 where
  pub low : Ungranted card 1 n
  pub bus : bus_of low.told ≡ 16
  pub two : length (units_of low.told) ≡ 2
  pub one : length (at_three low.told) ≡ 1
  pub first : frames_in low.es ≡ 0

-- with one table for every n
abbrev pub NoBoundBelow : Type 0
NoBoundBelow = (card : Card) → (told : List Line) × ((n : ℕ) → (s : Starves card n) × (s.low.told ≡ told))

-- and no lower number holds for priority 3: of three units one waits for the third frame
pub record Attains (card : Card) : Type 0 where
  pub last : Ungranted card 3 2
  pub three : length (at_three last.told) ≡ 3

abbrev pub BoundAttained : Type 0
BoundAttained = (card : Card) → Attains card
