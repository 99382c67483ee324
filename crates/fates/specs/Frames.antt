-- Frames go on: loopback cells move, who asks is granted in its turn, who is granted sends. Assumes nothing.
use Rattle.std.specs.Prelude.{ℕ, ◌+◌, ◌%◌, ◌^◌, ◌<◌, ◌≤◌, ◌≡◌, ◌↔◌, List, [], ◌∷◌, ◌++◌, map, eqb, length, get_or, Some}
use Rattle.arbiter.specs.Arbitration.{nobody, besides, cyclic, last_at, Asks, FirstOf, Changed}
use Rattle.arbiter.specs.declared.Grant.{Grant}
use Rattle.line.specs.declared.Line.{Line}
use Rattle.answer.specs.declared.Answer.TheVariants.{Framed}
use Rattle.document.specs.Events.{frame, answers}
use Rattle.paper.specs.Grants.{Renewed as RenewedIn}
use Rattle.document.specs.Shelf.{waiting, in_outlet, Unit as D-as-Unit, Shelf, number_of, find_in, unit_at, opened}
use Rattle.document.specs.Frame.{moving, moved_unit, moved_entries, moved, requests, frame_of, granting}
use Rattle.document.specs.Steps.{happens_to}
use Rattle.flow.specs.Parts.{From, cell_of, without}
use Rattle.flow.specs.Order.{InTurn}
use Rattle.fates.specs.Held.{SameInlets, unit_after}
use Rattle.fates.specs.Loaded.{FromLoad}

-- the requests of this frame, once the loopback cells have moved "at the start", and who is granted by them
abbrev pub asks_of : Shelf → List ℕ
asks_of d = (requests (moved d)).asks

abbrev pub granted_now : Shelf → ℕ
granted_now d = (granting (moved d)).unit

-- the shelf after a frame
abbrev pub after_frame : Shelf → List ℕ → Shelf
after_frame d buffer = (happens_to d (frame buffer)).shelf

-- "On a 16 bus each unit's request is renewed every frame; on a 32 bus units 0 to 15 are renewed in even frames and 16 to 31 in odd ones"
abbrev pub Renewed : Shelf → ℕ → Type 0
Renewed d n = RenewedIn d.bus d.frame n

-- what a frame leaves of its grant: the last units granted, and the requests
abbrev pub left_by : Shelf → List ℕ → Grant
left_by d buffer = record { unit = granted_now d; last = (after_frame d buffer).arbiter.last; asks = (after_frame d buffer).arbiter.asks }

-- "a unit asks if it has a cell besides one already granted", a data, a control or a loopback cell: exactly then, and at its own priority; else it has no request
pub record AsksRightly (d : Shelf) (u : D-as-Unit) : Type 0 where
  pub exactly : Asks (asks_of d) (number_of u) ↔ (1 ≤ besides (waiting (moved_unit u)) (eqb (number_of u) d.granted))
  pub at_own : Asks (asks_of d) (number_of u) → get_or (asks_of d) (number_of u) 0 ≡ u.settings.priority
  pub silent : (Asks (asks_of d) (number_of u) → ⊥) → get_or (asks_of d) (number_of u) 0 ≡ 0

-- the unit with this number is declared, and a cell waits there
pub record Waits (d : Shelf) (number : ℕ) : Type 0 where
  pub place : ℕ
  pub declared : place < length d.units
  pub named : number_of (unit_at d place) ≡ number
  pub cell : 1 ≤ waiting (unit_at d place)

-- "Then the grant: of the highest priority asking (3 is highest), the first unit in cyclic order after the last unit granted at each of the three
-- priorities, its own kept for each; before any grant, from unit 0."
pub record GrantedInTurn (d : Shelf) : Type 0 where
  pub place : ℕ
  pub declared : place < length d.units
  pub named : number_of (unit_at d place) ≡ granted_now d
  pub highest : (n : ℕ) → Asks (asks_of d) n → get_or (asks_of d) n 0 ≤ get_or (asks_of d) (granted_now d) 0
  pub first :
      FirstOf (asks_of d) (get_or (asks_of d) (granted_now d) 0) (cyclic (last_at d.arbiter.last (get_or (asks_of d) (granted_now d) 0))) (granted_now d)

-- how many cells these units have in their outlets
unfoldable pub in_outlets : List D-as-Unit → ℕ
in_outlets [] = 0
in_outlets (u ∷ us) = in_outlet u + in_outlets us

-- the cells that move in a frame
unfoldable pub moving_all : List D-as-Unit → List (List ℕ)
moving_all [] = []
moving_all (u ∷ us) = moving u ++ moving_all us

-- "Then the unit granted in the frame before sends its oldest cell.": "data, then control, then loopback". The frame is that cell's, and the sender is without it; "copies queued" is by how
-- many cells the outlets have grown, but for those that have moved from there
pub record SendsOldest (d : Shelf) (buffer : List ℕ) : Type 0 where
  pub sender : Waits d d.granted
  pub found : find_in d.units d.granted ≡ Some sender.place
  pub from : From
  pub oldest : InTurn (moved_unit (unit_at d sender.place)) from
  pub copies : ℕ
  pub says : (happens_to d (frame buffer)).said ≡ answers (Framed d.frame d.granted (granted_now d) copies)
  pub bytes : (happens_to d (frame buffer)).bytes ≡ frame_of (cell_of from)
  pub gone : SameInlets (without from (moved_unit (unit_at d sender.place))) (unit_after d (frame buffer) sender.place)
  pub grown : in_outlets (after_frame d buffer).units + length (moving_all d.units) ≡ copies + in_outlets d.units

-- "An idle frame has no bytes and leaves the frame buffer unchanged.": nothing is sent or heard; loopback cells move, and "leaving either outlet is `taken`"
pub record Idle (d : Shelf) (buffer : List ℕ) : Type 0 where
  pub says : (happens_to d (frame buffer)).said ≡ answers (Framed d.frame nobody (granted_now d) 0)
  pub bytes : (happens_to d (frame buffer)).bytes ≡ buffer
  pub units : (after_frame d buffer).units ≡ map moved_unit d.units
  pub history : (after_frame d buffer).history ≡ moved_entries d.units ++ d.history

-- "numbered from 0"; "before any grant, from unit 0": no unit was granted at any priority, and nobody asks
pub record Starts (d : Shelf) : Type 0 where
  pub number : d.frame ≡ 0
  pub grant : d.granted ≡ nobody
  pub lasts : (p : ℕ) → 1 ≤ p → p ≤ 3 → last_at d.arbiter.last p ≡ nobody
  pub asks : (n : ℕ) → get_or d.arbiter.asks n 0 ≡ 0

pub record GoesOn (d : Shelf) : Type 0 where
  -- a unit whose request is renewed asks rightly, "and the others stand"; nobody asks at a number that no unit has
  pub asks : (i : ℕ) → i < length d.units → Renewed d (number_of (unit_at d i)) → AsksRightly d (unit_at d i)
  pub stand : (n : ℕ) → (Renewed d n → ⊥) → get_or (asks_of d) n 0 ≡ get_or d.arbiter.asks n 0
  pub undeclared : (n : ℕ) → ((i : ℕ) → i < length d.units → number_of (unit_at d i) ≡ n → ⊥) → get_or (asks_of d) n 0 ≡ 0
  -- one is granted exactly if one asks, and in its turn
  pub granted : (granted_now d ≡ nobody → ⊥) ↔ ((n : ℕ) × Asks (asks_of d) n)
  pub in_turn : (granted_now d ≡ nobody → ⊥) → GrantedInTurn d
  -- "the last unit granted at each of the three priorities, its own kept for each", "A grant clears that request."
  pub three : length d.arbiter.last ≡ 3
  pub keeps : (granted_now d ≡ nobody → ⊥) → (buffer : List ℕ) → length buffer ≡ 57 →
      Changed d.arbiter.last (asks_of d) (get_or (asks_of d) (granted_now d) 0) (granted_now d) (left_by d buffer)
  -- without a grant the last units granted and the requests are as they were when these were renewed
  pub rests : granted_now d ≡ nobody → (buffer : List ℕ) → length buffer ≡ 57 → (after_frame d buffer).arbiter ≡ requests (moved d)
  -- a granted unit's oldest cell is sent in the next frame
  pub sends : (d.granted ≡ nobody → ⊥) → (buffer : List ℕ) → length buffer ≡ 57 → SendsOldest d buffer
  pub idle : d.granted ≡ nobody → (buffer : List ℕ) → length buffer ≡ 57 → Idle d buffer
  -- nobody without a cell is ever granted: who is granted in a frame is declared, and still has a cell after it
  pub still : (granted_now d ≡ nobody → ⊥) → (buffer : List ℕ) → length buffer ≡ 57 → Waits (after_frame d buffer) (granted_now d)
  pub opens : (buffer : List ℕ) → length buffer ≡ 57 → (after_frame d buffer).granted ≡ granted_now d
  -- "numbered .. modulo 65,536"
  pub numbers : (buffer : List ℕ) → length buffer ≡ 57 → (after_frame d buffer).frame ≡ (d.frame + 1) % 2 ^ 16

-- from a good load on, over every sequence of events; "a frame that sends once and then only numbers frames" is none of ours
abbrev pub FramesGoOn : Type 0
FramesGoOn = ((lines : List Line) → Starts (opened lines)) × FromLoad GoesOn
