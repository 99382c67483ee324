-- From a good load a sent frame is heard as the cell that was sent, no cell that arrived is damaged, and unheard counts exactly the sent cells that address no declared unit. Assumes
-- nothing.
use Rattle.std.specs.Prelude.{ℕ, suc, ◌<◌, ◌≡◌, ◌≢◌, List, length}
use Rattle.bus.specs.Frame.{heard, payload}
use Rattle.bus.specs.Heard.{Heard, Cell}
use Rattle.arbiter.specs.Arbitration.{nobody}
use Rattle.document.specs.Events.{frame}
use Rattle.paper.specs.Counters.{Counter, unheard, damaged}
use Rattle.document.specs.Counters.{times}
use Rattle.document.specs.Shelf.{Routed, Shelf, number_of, unit_at}
use Rattle.document.specs.Steps.{happens_to}
use Rattle.flow.specs.Parts.{from_inlet, cell_of}
use Rattle.fates.specs.Fates.{Addressed, SoundWith}
use Rattle.fates.specs.Frames.{after_frame, SendsOldest}
use Rattle.fates.specs.Loaded.{FromLoad}

-- a declared unit is addressed; "a damaged frame addresses none"
abbrev pub SomeAddressed : Shelf → Heard → Type 0
SomeAddressed d h =
    (j : ℕ) × (j < length d.units)
    × SoundWith (unit_at d j) h (λ target class header. Addressed d.lines (unit_at d j) target) (λ unit cells most. number_of (unit_at d j) ≡ unit)

-- how often a counter of the unit with this number has risen
abbrev pub risen : Shelf → ℕ → Counter → ℕ
risen d number c = times d.history number c

-- what is heard of a frame
abbrev pub heard_in : Shelf → List ℕ → Heard
heard_in d buffer = heard (happens_to d (frame buffer)).bytes

-- a data cell that arrived is heard with its target, its class and its header, so no unit counts it as `damaged`; what a processor hands in is "sent as they are", and may be
pub record CleanData (d : Shelf) (buffer : List ℕ) (r : Routed) : Type 0 where
  pub sound : heard_in d buffer ≡ Cell r.target r.class r.cell.header
  pub carried : payload (happens_to d (frame buffer)).bytes ≡ r.cell.payload
  pub undamaged : (number : ℕ) → risen (after_frame d buffer) number damaged ≡ risen d number damaged

-- a frame that is not idle: its bytes are heard as the cell that was sent; "A sent cell addressing no declared unit also counts `unheard` at its sender"
pub record CleanFrame (d : Shelf) (buffer : List ℕ) : Type 0 where
  pub sent : SendsOldest d buffer
  pub heard_as : heard_in d buffer ≡ (cell_of sent.from).heard
  pub arrived : (r : Routed) (rest : List Routed) → sent.from ≡ from_inlet r rest → CleanData d buffer r
  pub unheard_once : (SomeAddressed d (heard_in d buffer) → ⊥) → risen (after_frame d buffer) d.granted unheard ≡ suc (risen d d.granted unheard)
  pub heard_by_some : SomeAddressed d (heard_in d buffer) → risen (after_frame d buffer) d.granted unheard ≡ risen d d.granted unheard
  pub elsewhere : (number : ℕ) → number ≢ d.granted → risen (after_frame d buffer) number unheard ≡ risen d number unheard

-- "Bad parity, bad check, .. unicast above 31 or broadcast address not 0 is `damaged`": none of the cells that arrived
abbrev pub CleanTableCleanBus : Type 0
CleanTableCleanBus = FromLoad (λ d. (d.granted ≡ nobody → ⊥) → (buffer : List ℕ) → length buffer ≡ 57 → CleanFrame d buffer)
