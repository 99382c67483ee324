-- 01's "Memory", byte by byte: what the lines of a table leave of a memory. Assumes nothing.
use Rattle.std.specs.Prelude.{ℕ, ◌+◌, ◌*◌, ◌/◌, ◌%◌, ◌<◌, ◌≤◌, ◌≡◌, length, get_or, take, drop}
use mathlib.Core.List.{List, [], ◌∷◌, ◌++◌, Memᴰ as In}
use Rattle.bus.specs.declared.Target.{Target}
use Rattle.card.specs.declared.Card.{Card}
use Rattle.card.specs.declared.Card.TheVariants.{Narrow, Wide}
use Rattle.outlet.specs.declared.Limits.{Limits}
use Rattle.shelf.specs.declared.Settings.{Settings}
use Rattle.line.specs.declared.Line.{Line}
use Rattle.line.specs.declared.Line.TheVariants.{Unit as L-as-Unit, Vp, Drop, Page, Vc}
use Rattle.paper.specs.Cells.{RoutingOf}
use Rattle.promise.specs.Says.{Gives, IsVc, records_of}
use Rattle.promise.specs.Faults.{Before}

-- "Byte 0 is the kind: 0 empty, 1 drop, 2 route, 3 page. .. All other bytes are zero"
abbrev pub empty_bytes : List ℕ
empty_bytes = 0 ∷ 0 ∷ 0 ∷ 0 ∷ 0 ∷ 0 ∷ 0 ∷ 0 ∷ []

abbrev pub drop_bytes : List ℕ
drop_bytes = 1 ∷ 0 ∷ 0 ∷ 0 ∷ 0 ∷ 0 ∷ 0 ∷ 0 ∷ []

-- "A route has the routing header in bytes 1 and 2, and for `vc` the outgoing VCI in 4 and 5; the outgoing VPI is byte 3 on the narrow card, bytes 6 and 7 on the wide one."
abbrev pub route_bytes : Card → ℕ → ℕ → ℕ → List ℕ
route_bytes Narrow routing outvpi outvci = 2 ∷ routing / 256 ∷ routing % 256 ∷ outvpi ∷ outvci / 256 ∷ outvci % 256 ∷ 0 ∷ 0 ∷ []
route_bytes Wide routing outvpi outvci = 2 ∷ routing / 256 ∷ routing % 256 ∷ 0 ∷ outvci / 256 ∷ outvci % 256 ∷ outvpi / 256 ∷ outvpi % 256 ∷ []

-- the routing header is that of the line's target and class
pub record Route (card : Card) (target : Target) (class outvpi outvci : ℕ) (bytes : List ℕ) : Type 0 where
  pub routing : ℕ
  pub is : RoutingOf target class routing
  pub all : bytes ≡ route_bytes card routing outvpi outvci

-- "A page has top VCI in 1 and 2 and its first byte's place in 4 to 7."
abbrev pub page_bytes : ℕ → ℕ → List ℕ
page_bytes top place = 3 ∷ top / 256 ∷ top % 256 ∷ 0 ∷ place / 16777216 ∷ place / 65536 % 256 ∷ place / 256 % 256 ∷ place % 256 ∷ []

-- "each `unit` line takes (top VPI + 1) records and each `page` line (top VCI + 1) records, in line order, 8 bytes a record, from byte 0 without gaps": so the record of a VPI stands behind
-- the records of all the lines before its unit's line, and that of a VCI behind those of all the lines before its page. A list of lines has the latest first
pub record VpiAt (told : List Line) (unit vpi at : ℕ) : Type 0 where
  pub after : List Line
  pub settings : Settings
  pub limits : Limits
  pub before : List Line
  pub all : told ≡ after ++ (L-as-Unit settings limits ∷ before)
  pub number : settings.number ≡ unit
  pub within : vpi ≤ settings.top
  pub place : at ≡ 8 * (records_of before + vpi)

pub record VciAt (told : List Line) (unit vpi vci at : ℕ) : Type 0 where
  pub after : List Line
  pub top : ℕ
  pub before : List Line
  pub all : told ≡ after ++ (Page unit vpi top ∷ before)
  pub within : vci ≤ top
  pub place : at ≡ 8 * (records_of before + vci)

-- the eight bytes from a place on
abbrev pub eight : List ℕ → ℕ → List ℕ
eight memory at = take 8 (drop at memory)

-- what these lines leave of a memory
pub record Laid (card : Card) (memory : List ℕ) (told : List Line) (laid : List ℕ) : Type 0 where
  -- the record of a unit's VPI is as its `vp`, `drop` or `page` line says, "and for `vc` the outgoing VCI": a `vp` line has none
  pub by_vp : (unit vpi : ℕ) (target : Target) (class outvpi at : ℕ) → In (Vp unit vpi target class outvpi) told → VpiAt told unit vpi at →
      Route card target class outvpi 0 (eight laid at)
  pub by_drop : (unit vpi at : ℕ) → In (Drop unit vpi) told → VpiAt told unit vpi at → eight laid at ≡ drop_bytes
  -- a page's first byte stands behind the records of all the lines before it
  pub by_page : (after : List Line) (unit vpi top : ℕ) (before : List Line) (at : ℕ) → told ≡ after ++ (Page unit vpi top ∷ before) → VpiAt told unit vpi at →
      eight laid at ≡ page_bytes top (8 * records_of before)
  -- and empty where there is no such line
  pub by_none : (unit vpi at : ℕ) → (Before told (Gives unit vpi) → ⊥) → VpiAt told unit vpi at → eight laid at ≡ empty_bytes
  -- that of a page's VCI is as its `vc` line says, or empty
  pub by_vc : (unit vpi vci : ℕ) (target : Target) (class outvpi outvci at : ℕ) → In (Vc unit vpi vci target class outvpi outvci) told → VciAt told unit vpi vci at →
      Route card target class outvpi outvci (eight laid at)
  pub by_no_vc : (unit vpi vci at : ℕ) → (Before told (IsVc unit vpi vci) → ⊥) → VciAt told unit vpi vci at → eight laid at ≡ empty_bytes
  -- "so are all bytes past the last record up to 262,144 or the memory's end"
  pub past : (at : ℕ) → 8 * records_of told ≤ at → at < length memory → at < 262144 → get_or laid at 0 ≡ 0
  -- "later bytes are untouched"
  pub later : (at : ℕ) → 262144 ≤ at → get_or laid at 0 ≡ get_or memory at 0
  pub long : length laid ≡ length memory
