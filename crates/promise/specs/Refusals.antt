-- When loading refuses a table: 01's refusals 1 to 7, told of the text's bytes. Assumes nothing.
use Rattle.std.specs.Prelude.{ℕ, ◌+◌, ◌*◌, ◌<◌, ◌≤◌, ◌≡◌, Bool, true, false, ◌⊎◌, length}
use mathlib.Core.List.{List, [], ◌∷◌, ◌++◌, Memᴰ as In}
use Rattle.card.specs.declared.Card.{Card}
use Rattle.line.specs.declared.Line.{Line}
use Rattle.paper.specs.Words.{text_of, AllInRange}
use Rattle.promise.specs.Says.{unit_lines}
use Rattle.promise.specs.Faults.{Condition, Faultless}

-- a line of a text behind these lines goes up to its newline or up to the text's end
pub data Ends (text bytes rest : List ℕ) (ended : Bool) : Type 0 where
  -- "each line ended by a newline"
  newline : (after : List ℕ) → rest ≡ 10 ∷ after → ended ≡ true → Ends text bytes rest ended
  -- "missing final newline": some bytes, and then the text ends
  no_newline : rest ≡ [] → 0 < length bytes → ended ≡ false → Ends text bytes rest ended
  -- "empty text (line 1)": one line, without a byte and without a newline
  empty_text : text ≡ [] → ended ≡ false → Ends text bytes rest ended

-- its bytes, none of them a newline, and whether a newline ended it
pub record LineAt (text : List ℕ) (before : List Line) (bytes : List ℕ) (ended : Bool) : Type 0 where
  pub rest : List ℕ
  pub all : text ≡ text_of before ++ (bytes ++ rest)
  pub one : In 10 bytes → ⊥
  pub ends : Ends text bytes rest ended

-- "1 Long: text above 65,536 bytes; line 0"
pub record Long (text : List ℕ) (number line : ℕ) : Type 0 where
  pub long : 65536 < length text
  pub number_is : number ≡ 1
  pub line_is : line ≡ 0

-- "then the first faulty line, counted from 1, with 2 to 6 tried in that order on it": on no line before it does a condition hold, on it that of this
-- number, and none of a number before
pub record AtLine (card : Card) (text memory : List ℕ) (number line : ℕ) : Type 0 where
  pub short : length text ≤ 65536
  pub before : List Line
  pub bytes : List ℕ
  pub ended : Bool
  pub it : LineAt text before bytes ended
  pub ranged : AllInRange before
  pub faultless : Faultless card memory before
  pub counted : line ≡ length before + 1
  pub faulty : Condition card memory before bytes ended number
  pub first : (m : ℕ) → m < number → Condition card memory before bytes ended m → ⊥

-- the text is that of these lines, one or more, the latest first: each number in its range, and no condition holds of any of them
pub record AllGood (card : Card) (text memory : List ℕ) (told : List Line) : Type 0 where
  pub some : told ≡ [] → ⊥
  pub all : text ≡ text_of told
  pub ranged : AllInRange told
  pub faultless : Faultless card memory told

-- "7 Store: cell store below 8,192 bytes a declared unit, or fewer counter rows than units; line 0"
pub record Store (card : Card) (text memory : List ℕ) (store rows number line : ℕ) : Type 0 where
  pub short : length text ≤ 65536
  pub told : List Line
  pub fine : AllGood card text memory told
  pub little : (store < 8192 * unit_lines told) ⊎ (rows < unit_lines told)
  pub number_is : number ≡ 7
  pub line_is : line ≡ 0

-- none of these: every line is good, and there is store and there are rows enough
pub record Accepts (card : Card) (text memory : List ℕ) (store rows : ℕ) (told : List Line) : Type 0 where
  pub short : length text ≤ 65536
  pub fine : AllGood card text memory told
  pub store_enough : 8192 * unit_lines told ≤ store
  pub rows_enough : unit_lines told ≤ rows

-- Long first, then the first faulty line, then Store
abbrev pub Refuses : Card → List ℕ → List ℕ → ℕ → ℕ → ℕ → ℕ → Type 0
Refuses card text memory store rows number line =
    Long text number line ⊎ AtLine card text memory number line ⊎ Store card text memory store rows number line
