-- The lines of a text as they are read, and that they are those whose words it is. Assumes nothing.
use Rattle.std.specs.Prelude.{ℕ, ◌≡◌, Bool, cond, List, [], ◌∷◌, ◌↔◌, eqb, length, Ok, Err}
use Rattle.text.specs.Text.{split}
use Rattle.line.specs.declared.Wrong.TheVariants.{Newline}
use Rattle.line.specs.Lines.{Reading, reading_of}
use Rattle.line.specs.declared.Line.{Line}
use Rattle.table.specs.Load.{readings_of}
use Rattle.paper.specs.Words.{text_of, AllInRange}
use Rattle.promise.specs.Refusals.{LineAt}

-- the lines of a text; "empty text (line 1)" is a line that no newline ended
unfoldable pub lines_of : List ℕ → List Reading
lines_of text = cond (eqb (length text) 0) (Err Newline ∷ []) (readings_of (split 10 text))

-- lines that could be read, the latest first, and what follows them
unfoldable pub read_then : List Line → List Reading → List Reading
read_then [] rest = rest
read_then (l ∷ told) rest = read_then told (Ok l ∷ rest)

-- all can be read exactly if the text is that of lines in range, one or more
abbrev pub AllReadIff : Type 0
AllReadIff =
    (text : List ℕ) (told : List Line) →
    (lines_of text ≡ read_then told []) ↔ ((told ≡ [] → ⊥) × AllInRange told × (text ≡ text_of told))

-- behind lines that could be read stands this one, exactly if the text is that of those lines and then this one's bytes
pub record ReadAt (text : List ℕ) (before : List Line) (it : Reading) : Type 0 where
  pub ranged : AllInRange before
  pub bytes : List ℕ
  pub ended : Bool
  pub here : LineAt text before bytes ended
  pub read : reading_of bytes ended ≡ it

abbrev pub LineReadIff : Type 0
LineReadIff =
    (text : List ℕ) (before : List Line) (it : Reading) →
    ((after : List Reading) × (lines_of text ≡ read_then before (it ∷ after))) ↔ ReadAt text before it
