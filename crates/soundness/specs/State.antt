-- When the state of a shelf is sound: 01's State, "bus not 16 or 32; a unit repeated or not below the bus number; a setting that its `unit`
-- line on this card could not give; a count or queue position past its capacity; an open grant at a unit without a cell; a request at one
-- without a cell besides a granted one; a last granted unit not declared; store or counter rows smaller than Store asks". Assumes nothing.
use Rattle.std.specs.Prelude.{◌≡◌, ℕ, suc, ◌*◌, ◌<◌, ◌≤◌, Bool, true, false, not, ◌&&◌, ◌||◌, ◌⊎◌, List, [], ◌∷◌, length, ◌==◌, ◌≢◌, nat_le, nat_lt, slice_index, slice_index_or}
use Rattle.header.specs.Fields.{highest}
use Rattle.header.specs.declared.Link.TheVariants.{Nni}
use Rattle.card.specs.declared.Card.{Card}
use Rattle.card.specs.declared.Card.TheVariants.{Wide}
use Rattle.card.specs.declared.Ask.TheVariants.{On}
use Rattle.card.specs.Cards.{holds}
use Rattle.outlet.specs.Outlets.{between, given, Given, ring_fits, RingFits, rings_fit, RingsFit}
use Rattle.arbiter.specs.Arbitration.{nobody, besides}
use Rattle.shelf.specs.Shelves.{declared, blank, waiting, number_of, numbers}
use Rattle.shelf.specs.declared.Settings.{Settings}
use Rattle.shelf.specs.declared.Side.{Side}
use Rattle.shelf.specs.declared.Unit as U
use Rattle.shelf.specs.Shelf.{Shelf}

unfoldable pub every : {A : Type 0} → (A → Bool) → List A → Bool
every good [] = true
every good (x ∷ xs) = good x && every good xs

-- whether it is one of these numbers; whether none of them is repeated
unfoldable pub among : List ℕ → ℕ → Bool
among [] n = false
among (m ∷ ms) n = m == n || among ms n

unfoldable pub none_repeated : List ℕ → Bool
none_repeated [] = true
none_repeated (n ∷ ns) = not (among ns n) && none_repeated ns

-- "bus not 16 or 32"; no bus has more than 32 units; "cell store below 8,192 bytes a declared unit, or fewer counter rows than units"
unfoldable pub roomy : ℕ → ℕ → ℕ → ℕ → Bool
roomy bus count store rows = (bus == 16 || bus == 32) && nat_le count 32 && nat_le (8192 * count) store && nat_le count rows

-- "Top VPI is at most 255 for uni, 4,095 for nni", "priority 1 to 3"; nni only on the wide card
unfoldable pub settings_given : Card → Settings → Bool
settings_given card s = holds card (On s.link) && nat_le s.top (highest s.link) && between 1 3 s.priority

-- the tests of one unit
abbrev pub below_bus : ℕ → U.Unit → Bool
below_bus bus u = nat_lt (number_of u) bus

abbrev pub could_be_given : Card → U.Unit → Bool
could_be_given card u = settings_given card u.settings && given u.outlet.limits

-- 02, W1: "a four-cell control outlet", and single places
abbrev pub side_fits : Side → Bool
side_fits s = ring_fits s.controlout 4 && nat_le s.controlin 1 && nat_le s.loopbackin 1 && nat_le s.loopbackout 1

abbrev pub within_capacity : U.Unit → Bool
within_capacity u = ring_fits u.inlet 4 && rings_fit u.outlet && side_fits u.side

unfoldable pub unit_fits : Card → ℕ → U.Unit → Bool
unit_fits card bus u = below_bus bus u && could_be_given card u && within_capacity u

-- "an open grant at a unit without a cell"
abbrev pub grant_held : ℕ → ℕ → ℕ → Bool
grant_held granted number cells = not (number == granted) || nat_le 1 cells

-- "a request at one without a cell besides a granted one": a request is 0 or at the unit's priority
abbrev pub ask_held : ℕ → ℕ → ℕ → ℕ → ℕ → Bool
ask_held granted ask number priority cells = ask == 0 || ask == priority && nat_le 1 (besides cells (number == granted))

abbrev pub grant_has_cell : ℕ → U.Unit → Bool
grant_has_cell granted u = grant_held granted (number_of u) (waiting u)

abbrev pub request_has_cell : ℕ → List ℕ → U.Unit → Bool
request_has_cell granted asks u = ask_held granted (slice_index asks (number_of u)) (number_of u) u.settings.priority (waiting u)

-- "a last granted unit not declared", before any grant nobody; the same of an open grant. `known` says which numbers are declared
abbrev pub nobody_or : (ℕ → Bool) → ℕ → Bool
nobody_or known number = number == nobody || known number

abbrev pub lasts_known : (ℕ → Bool) → List ℕ → Bool
lasts_known known last = nobody_or known (slice_index last 0) && nobody_or known (slice_index last 1) && nobody_or known (slice_index last 2)

-- no number but a declared one asks: the requests from number n on
unfoldable pub asks_known : (ℕ → Bool) → ℕ → List ℕ → Bool
asks_known known n [] = true
asks_known known n (ask ∷ asks) = (ask == 0 || known n) && asks_known known (suc n) asks

unfoldable pub arbiter_known : (ℕ → Bool) → ℕ → List ℕ → List ℕ → Bool
arbiter_known known granted last asks = nobody_or known granted && lasts_known known last && asks_known known 0 asks

-- all of it
unfoldable pub sound_of : Card → Shelf → ℕ → ℕ → Bool
sound_of card shelf store rows =
    roomy shelf.bus shelf.count store rows
    && none_repeated (numbers (declared shelf))
    && every (below_bus shelf.bus) (declared shelf)
    && every (could_be_given card) (declared shelf)
    && every within_capacity (declared shelf)
    && every (grant_has_cell shelf.granted) (declared shelf)
    && every (request_has_cell shelf.granted shelf.arbiter.asks) (declared shelf)
    && arbiter_known (among (numbers (declared shelf))) shelf.granted shelf.arbiter.last shelf.arbiter.asks

-- The same item by item, as facts. The places beside the data queues
pub record SideFits (s : Side) : Type 0 where
  pub controlout : RingFits s.controlout 4
  pub controlin : s.controlin ≤ 1
  pub loopbackin : s.loopbackin ≤ 1
  pub loopbackout : s.loopbackout ≤ 1

-- A declared unit
pub record UnitSound (card : Card) (bus granted : ℕ) (asks : List ℕ) (u : U.Unit) : Type 0 where
  pub below : number_of u < bus
  pub link : u.settings.link ≡ Nni → card ≡ Wide
  pub top : u.settings.top ≤ highest u.settings.link
  pub least : 1 ≤ u.settings.priority
  pub most : u.settings.priority ≤ 3
  pub limits : Given u.outlet.limits
  pub inlet : RingFits u.inlet 4
  pub queues : RingsFit u.outlet
  pub side : SideFits u.side
  pub grant : number_of u ≡ granted → 1 ≤ waiting u
  pub ask : (slice_index asks (number_of u) ≡ 0) ⊎ ((slice_index asks (number_of u) ≡ u.settings.priority) × (1 ≤ besides (waiting u) (number_of u == granted)))

-- a unit with this number is declared
abbrev pub DeclaredIn : List U.Unit → ℕ → Type 0
DeclaredIn units number = (i : ℕ) × (i < length units) × (number_of (slice_index_or units i blank) ≡ number)

-- the shelf
pub record Sound (card : Card) (shelf : Shelf) (bytes records : ℕ) : Type 0 where
  pub bus : (shelf.bus ≡ 16) ⊎ (shelf.bus ≡ 32)
  pub count : shelf.count ≤ 32
  pub store : 8192 * shelf.count ≤ bytes
  pub rows : shelf.count ≤ records
  pub once : (i j : ℕ) → i < j → j < length (declared shelf) → number_of (slice_index_or (declared shelf) i blank) ≢ number_of (slice_index_or (declared shelf) j blank)
  pub units : (i : ℕ) → i < length (declared shelf) → UnitSound card shelf.bus shelf.granted shelf.arbiter.asks (slice_index_or (declared shelf) i blank)
  pub granted : (shelf.granted ≡ nobody) ⊎ DeclaredIn (declared shelf) shelf.granted
  pub last : (p : ℕ) → p < 3 → (slice_index shelf.arbiter.last p ≡ nobody) ⊎ DeclaredIn (declared shelf) (slice_index shelf.arbiter.last p)
  pub asks : (n : ℕ) → (DeclaredIn (declared shelf) n → ⊥) → slice_index shelf.arbiter.asks n ≡ 0
