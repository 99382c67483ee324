-- Which byte of a state says what: docs/STATE.md, byte by byte. Assumes nothing.
use Rattle.std.specs.Prelude.{ℕ, ◌+◌, ◌*◌, ◌/◌, ◌%◌, ◌^◌, ◌<◌, ◌≡◌, ◌↔◌, true, false, List, [], ◌∷◌, length, get_or}
use Rattle.header.specs.declared.Link.TheVariants.{Uni, Nni}
use Rattle.outlet.specs.declared.Mode.TheVariants.{One, Four}
use Rattle.outlet.specs.declared.Ring.{Ring}
use Rattle.shelf.specs.declared.Unit as U
use Rattle.shelf.specs.Shelf.{Shelf}
use Rattle.paper.specs.State.{units, blank, ask_of, Formed}
use Rattle.paper.specs.Hearing.{Hears}

abbrev pub byte : List ℕ → ℕ → ℕ
byte state k = get_or state k 0

-- "Head is the place of the oldest cell in its ring, count how many cells the ring holds"
abbrev pub ring : ℕ → ℕ → Ring
ring head count = record { head = head; count = count }

-- the unit in a place, "in the order of the table's `unit` lines, counted from 0": "Column c is the 32 bytes from 32 c on. The byte of place p in column c is byte 32 c + p."
pub record UnitLayout (state : List ℕ) (p : ℕ) (u : U.Unit) : Type 0 where
  -- columns 0 to 4: "number of the unit"; "link: 0 uni, 1 nni"; "top VPI, high byte", "low byte"; "priority"
  pub number : u.settings.number ≡ byte state p
  pub uni : byte state (32 + p) ≡ 0 → u.settings.link ≡ Uni
  pub nni : byte state (32 + p) ≡ 1 → u.settings.link ≡ Nni
  pub top : u.settings.top ≡ 256 * byte state (64 + p) + byte state (96 + p)
  pub priority : u.settings.priority ≡ byte state (128 + p)
  -- columns 5 to 9: "mode: 0 one, 1 four"; "CBR length"; "CBR limit"; "VBR limit"; "mark: 0 or 1"
  pub one : byte state (160 + p) ≡ 0 → u.outlet.limits.mode ≡ One
  pub four : byte state (160 + p) ≡ 1 → u.outlet.limits.mode ≡ Four
  pub cbrlength : u.outlet.limits.cbrlength ≡ byte state (192 + p)
  pub cbrlimit : u.outlet.limits.cbrlimit ≡ byte state (224 + p)
  pub vbrlimit : u.outlet.limits.vbrlimit ≡ byte state (256 + p)
  pub no_mark : byte state (288 + p) ≡ 0 → u.outlet.limits.mark ≡ false
  pub mark : byte state (288 + p) ≡ 1 → u.outlet.limits.mark ≡ true
  -- columns 10 to 13: "byte of the memory where its VPI records start, highest byte", "second", "third", "lowest"
  pub place : u.place ≡ 16777216 * byte state (320 + p) + 65536 * byte state (352 + p) + 256 * byte state (384 + p) + byte state (416 + p)
  -- columns 14 and 15: "inlet, head", "count"
  pub inlet : u.inlet ≡ ring (byte state (448 + p)) (byte state (480 + p))
  -- columns 16 to 19 and 20 to 23: heads and counts of queues 0 to 3
  pub queues : u.outlet.queues
      ≡ ring (byte state (512 + p)) (byte state (640 + p)) ∷ ring (byte state (544 + p)) (byte state (672 + p)) ∷ ring (byte state (576 + p)) (byte state (704 + p))
      ∷ ring (byte state (608 + p)) (byte state (736 + p)) ∷ []
  -- columns 26 to 30: "control cell in the inlet: 0 none, 1 one"; "loopback cell in the inlet"; "control outlet, head", "count"; "loopback cell in the outlet"
  pub controlin : u.side.controlin ≡ byte state (832 + p)
  pub loopbackin : u.side.loopbackin ≡ byte state (864 + p)
  pub controlout : u.side.controlout ≡ ring (byte state (896 + p)) (byte state (928 + p))
  pub loopbackout : u.side.loopbackout ≡ byte state (960 + p)
  -- "Bytes 1,024 to 2,047, 32 for each place: those of place p start at 1,024 + 32 p. The unit hears session s if bit s % 8 (bit 0 is the lowest) of byte 1,024 + 32 p + s / 8 is 1."
  pub hears : (s : ℕ) → s < 256 → Hears u.sessions s ↔ (byte state (1024 + 32 * p + s / 8) / 2 ^ (s % 8) % 2 ≡ 1)
  pub sessions : (k : ℕ) → k < 32 → get_or u.sessions k 0 ≡ byte state (1024 + 32 * p + k)
  pub sessions_32 : length u.sessions ≡ 32

-- the shelf: its units by their places, what is asked by their numbers
pub record Layout (state : List ℕ) (shelf : Shelf) : Type 0 where
  pub units_at : (p : ℕ) → p < 32 → UnitLayout state p (get_or shelf.units p blank)
  pub units_32 : length shelf.units ≡ 32
  -- "what each unit asks at, by its number (byte 768 + number)"
  pub asks : (number : ℕ) → number < 32 → ask_of shelf number ≡ byte state (768 + number)
  pub asks_32 : length shelf.arbiter.asks ≡ 32
  -- "the last unit granted at priority 1, 2, 3"
  pub last : shelf.arbiter.last ≡ byte state 800 ∷ byte state 801 ∷ byte state 802 ∷ []
  -- "the open grant"
  pub granted : shelf.granted ≡ byte state 803
  pub bus : shelf.bus ≡ byte state 804
  -- "how many units are declared"
  pub count : shelf.count ≡ byte state 805
  -- "number of the next frame, high byte and low byte"
  pub frame : shelf.frame ≡ 256 * byte state 806 + byte state 807

-- two shelves that agree in all but the places that are not declared
pub record Agree (s t : Shelf) : Type 0 where
  pub units_are : units s ≡ units t
  pub arbiter : s.arbiter ≡ t.arbiter
  pub granted : s.granted ≡ t.granted
  pub bus : s.bus ≡ t.bus
  pub count : s.count ≡ t.count
  pub frame : s.frame ≡ t.frame

-- bytes of which those of link, mode and mark are good are one shelf
abbrev pub LayoutOnce : Type 0
LayoutOnce = (state : List ℕ) (s t : Shelf) → Formed state → Layout state s → Layout state t → Agree s t
