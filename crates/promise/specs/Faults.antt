-- When a line is at fault: rows 2 to 6 of 01's "Numbers given back", as facts about the lines before it. Assumes nothing.
use Rattle.std.specs.Prelude.{ℕ, ◌*◌, ◌<◌, ◌≤◌, ◌≡◌, ◌⊎◌, Bool, true, false, length}
use mathlib.Core.List.{List, [], ◌∷◌, Memᴰ as In}
use Rattle.card.specs.declared.Card.{Card}
use Rattle.card.specs.declared.Card.TheVariants.{Narrow}
use Rattle.line.specs.declared.Line.{Line}
use Rattle.line.specs.declared.Line.TheVariants.{Bus, Page, Mc}
use Rattle.paper.specs.Words.{words_of, InRange}
use Rattle.promise.specs.Says.{Declares, Uses, HasUnit, HasTarget, HasVpi, Gives, IsVc, IsWide, records_of}

-- some line before it is such
abbrev pub Before : List Line → (Line → Type 0) → Type 0
Before told P = (l : Line) × In l told × P l

-- "3 Order", of a line after those told before it, the latest of them first
pub data OutOfOrder (told : List Line) (l : Line) : Type 0 where
  -- "first line is not `bus`"
  first_not_bus : told ≡ [] → ((bus : ℕ) → l ≡ Bus bus → ⊥) → OutOfOrder told l
  -- "or `bus` again"
  bus_again : (bus again : ℕ) → In (Bus bus) told → l ≡ Bus again → OutOfOrder told l
  -- "unit .. not below the bus number"
  unit_off : (bus u : ℕ) → In (Bus bus) told → HasUnit u l → bus ≤ u → OutOfOrder told l
  -- "target unit not below the bus number"
  target_off : (bus u : ℕ) → In (Bus bus) told → HasTarget u l → bus ≤ u → OutOfOrder told l
  -- "unit not declared before use"
  not_declared : (u : ℕ) → Uses u l → ((top : ℕ) → Before told (Declares u top) → ⊥) → OutOfOrder told l
  -- "VPI above that unit's top"
  vpi_above : (u vpi top : ℕ) → HasVpi u vpi l → Before told (Declares u top) → top < vpi → OutOfOrder told l
  -- "`vc` without its page before it"
  no_page : (u vpi vci : ℕ) → IsVc u vpi vci l → ((top : ℕ) → In (Page u vpi top) told → ⊥) → OutOfOrder told l
  -- "or above its top VCI"
  vci_above : (u vpi vci top : ℕ) → IsVc u vpi vci l → In (Page u vpi top) told → top < vci → OutOfOrder told l

-- "4 Twice", of the same
pub data Again (told : List Line) (l : Line) : Type 0 where
  -- "unit declared again"
  unit_again : (u top top₁ : ℕ) → Declares u top l → Before told (Declares u top₁) → Again told l
  -- "unit and VPI given again by `vp`, `drop` or `page`"
  vpi_again : (u vpi : ℕ) → Gives u vpi l → Before told (Gives u vpi) → Again told l
  -- "same `vc`"
  vc_again : (u vpi vci : ℕ) → IsVc u vpi vci l → Before told (IsVc u vpi vci) → Again told l
  -- "same `mc`"
  mc_again : (u session : ℕ) → l ≡ Mc u session → In (Mc u session) told → Again told l

-- the records of these lines exceed "the memory or 262,144 bytes", at "8 bytes a record"
abbrev pub Exceeds : List ℕ → List Line → Type 0
Exceeds memory told = (length memory < 8 * records_of told) ⊎ (262144 < 8 * records_of told)

-- the condition for a number, of a line after those told before it
pub data Fault (card : Card) (memory : List ℕ) (told : List Line) (l : Line) (number : ℕ) : Type 0 where
  -- "3 Order", as above
  order : OutOfOrder told l → number ≡ 3 → Fault card memory told l number
  -- "4 Twice", as above
  twice : Again told l → number ≡ 4 → Fault card memory told l number
  -- "5 Wide: narrow card only: `bus` 32, `nni`, or outgoing VPI above 255"
  wide : card ≡ Narrow → IsWide l → number ≡ 5 → Fault card memory told l number
  -- "6 Room: records so far exceed the memory or 262,144 bytes": those of this line too
  room : Exceeds memory (l ∷ told) → number ≡ 6 → Fault card memory told l number

-- the same of its bytes, and whether a newline ended them
pub data Condition (card : Card) (memory : List ℕ) (told : List Line) (bytes : List ℕ) (ended : Bool) (number : ℕ) : Type 0 where
  -- "2 Form: .. missing final newline, empty text (line 1)"
  not_ended : ended ≡ false → number ≡ 2 → Condition card memory told bytes ended number
  -- "2 Form: unknown word, wrong field count, field outside its range": they are the words of no line whose numbers are in their ranges
  no_line : ((l : Line) → InRange l → bytes ≡ words_of l → ⊥) → number ≡ 2 → Condition card memory told bytes ended number
  -- 3 to 6, of the line whose words they are
  fault : (l : Line) → ended ≡ true → InRange l → bytes ≡ words_of l → Fault card memory told l number → Condition card memory told bytes ended number

-- no condition holds of any of these lines, each after those before it; the latest comes first
abbrev pub Faultless : Card → List ℕ → List Line → Type 0
Faultless card memory [] = Unit {0}
Faultless card memory (l ∷ told) = ((number : ℕ) → Fault card memory told l number → ⊥) × Faultless card memory told
