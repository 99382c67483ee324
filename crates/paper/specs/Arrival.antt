-- What an arriving cell meets in any memory at all: 01's Arrival up to the inlet, in its own numbers. Assumes nothing.
use Rattle.std.specs.Prelude.{ℕ, ◌+◌, ◌*◌, ◌≤◌, ◌<◌, ◌≡◌, ◌≢◌, List, length}
use Rattle.card.specs.declared.Card.{Card}
use Rattle.card.specs.declared.Card.TheVariants.{Narrow, Wide}
use Rattle.shelf.specs.declared.Unit as U
use Rattle.paper.specs.Cells.{byte, two, four, vpi, vci, HeaderCheck}

-- it is lost, or a route gives it a routing header, an outgoing VPI and an outgoing VCI
pub data Way : Type 0 where
  hec : Way
  ignored : Way
  misrouted : Way
  routed : (routing vpi vci : ℕ) → Way

-- "8 bytes a record": one is wholly inside the memory; "Byte 0 is the kind: 0 empty, 1 drop, 2 route, 3 page."
abbrev pub Inside : List ℕ → ℕ → Type 0
Inside memory at = at + 8 ≤ length memory

abbrev pub KindAt : List ℕ → ℕ → ℕ → Type 0
KindAt memory at kind = Inside memory at × (byte memory at ≡ kind)

-- "the outgoing VPI is byte 3 on the narrow card, bytes 6 and 7 on the wide one"
abbrev pub outgoing : Card → List ℕ → ℕ → ℕ
outgoing Narrow memory at = byte memory (at + 3)
outgoing Wide memory at = two memory (at + 6)

-- "A route has the routing header in bytes 1 and 2"; "a wide VPI above 4,095 is `misrouted`"
pub data ByRoute (card : Card) (memory : List ℕ) (at outvci : ℕ) (way : Way) : Type 0 where
  above_4095 : 4095 < outgoing card memory at → way ≡ misrouted → ByRoute card memory at outvci way
  goes : outgoing card memory at ≤ 4095 → way ≡ routed (two memory (at + 1)) (outgoing card memory at) outvci → ByRoute card memory at outvci way

-- the VCI's record: "`misrouted` where it is .. not a route"; "for `vc` the outgoing VCI in 4 and 5"
pub data AtCircuit (card : Card) (memory : List ℕ) (at : ℕ) (way : Way) : Type 0 where
  outside : (Inside memory at → ⊥) → way ≡ misrouted → AtCircuit card memory at way
  no_route : Inside memory at → byte memory at ≢ 2 → way ≡ misrouted → AtCircuit card memory at way
  route : KindAt memory at 2 → ByRoute card memory at (two memory (at + 4)) way → AtCircuit card memory at way

-- the VPI's record, for a cell with this VCI
pub data AtPath (card : Card) (memory : List ℕ) (at c : ℕ) (way : Way) : Type 0 where
  -- "A record not wholly inside the memory .. is `misrouted`."
  outside : (Inside memory at → ⊥) → way ≡ misrouted → AtPath card memory at c way
  -- "kind 0, `misrouted`"
  empty : KindAt memory at 0 → way ≡ misrouted → AtPath card memory at c way
  -- "drop, `ignored`"
  drop : KindAt memory at 1 → way ≡ ignored → AtPath card memory at c way
  -- "route, VCI kept"
  route : KindAt memory at 2 → ByRoute card memory at c way → AtPath card memory at c way
  -- "page, the VCI's record, and `misrouted` where it is above the top": "A page has top VCI in 1 and 2 and its first byte's place in 4 to 7."
  page : KindAt memory at 3 → c ≤ two memory (at + 1) → AtCircuit card memory (four memory (at + 4) + 8 * c) way → AtPath card memory at c way
  page_above : KindAt memory at 3 → two memory (at + 1) < c → way ≡ misrouted → AtPath card memory at c way
  -- "an unknown kind .. is `misrouted`"
  unknown : Inside memory at → 3 < byte memory at → way ≡ misrouted → AtPath card memory at c way

-- a sound header at a unit
pub data LookedUp (card : Card) (memory : List ℕ) (u : U.Unit) (header : ℕ) (way : Way) : Type 0 where
  -- "VPI 0 with VCI 0: `ignored`."
  zeros : vpi u.settings.link header ≡ 0 → vci header ≡ 0 → way ≡ ignored → LookedUp card memory u header way
  -- "Then the record for the VPI as that link reads it: above the top .., `misrouted`"
  above : (vpi u.settings.link header ≡ 0 → vci header ≡ 0 → ⊥) → u.settings.top < vpi u.settings.link header → way ≡ misrouted → LookedUp card memory u header way
  below : (vpi u.settings.link header ≡ 0 → vci header ≡ 0 → ⊥) → vpi u.settings.link header ≤ u.settings.top →
      AtPath card memory (u.place + 8 * vpi u.settings.link header) (vci header) way → LookedUp card memory u header way

-- "Wrong header check: `hec`."
pub data Meets (card : Card) (memory : List ℕ) (u : U.Unit) (cell : List ℕ) (way : Way) : Type 0 where
  wrong_check : (HeaderCheck (four cell 0) (byte cell 4) → ⊥) → way ≡ hec → Meets card memory u cell way
  right_check : HeaderCheck (four cell 0) (byte cell 4) → LookedUp card memory u (four cell 0) way → Meets card memory u cell way
