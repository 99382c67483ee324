-- A line's text: fields parted by one byte, and words. Assumes nothing.
use Rattle.std.specs.Prelude.{ℕ, suc, ◌-◌, Bool, true, false, ◌&&◌, cond, length, get_or, drop, eqb}
use mathlib.Core.List.{List, [], ◌∷◌, tail}

-- the field at place k, and the empty text where there is none
abbrev pub at : List (List ℕ) → ℕ → List ℕ
at fs k = get_or fs k []

-- b in front of the first field
abbrev pub push : ℕ → List (List ℕ) → List (List ℕ)
push b fs = (b ∷ at fs 0) ∷ tail fs

-- "fields parted by one tab, each line ended by a newline": one field more than there are bytes that part them
unfoldable pub split : ℕ → List ℕ → List (List ℕ)
split parting [] = [] ∷ []
split parting (b ∷ r) = cond (eqb b parting) ([] ∷ split parting r) (push b (split parting r))

-- the fields of a line: a tab is byte 9
abbrev pub fields_of : List ℕ → List (List ℕ)
fields_of text = split 9 text

-- the line that starts at from: a newline is byte 10
abbrev pub line_from : List ℕ → ℕ → List ℕ
line_from text from = at (split 10 (drop from text)) 0

-- field f; 02, W5: "counted from the word as 1"
abbrev pub field_of : ℕ → List (List ℕ) → List ℕ
field_of f fs = at fs (f - 1)

-- what stands after the first field and its tab: `proofs.Split.after_fields` says that the fields of that are those from the second on
unfoldable pub after_of : List ℕ → List ℕ
after_of text = drop (suc (length (at (fields_of text) 0))) text

-- a line's fields, given those from field 2, 4, 6, 7 or 9 on: those in front of them are empty, and nobody looks at them
abbrev pub from2 : List (List ℕ) → List (List ℕ)
from2 fs = [] ∷ fs

abbrev pub from4 : List (List ℕ) → List (List ℕ)
from4 fs = [] ∷ [] ∷ from2 fs

abbrev pub from6 : List (List ℕ) → List (List ℕ)
from6 fs = [] ∷ [] ∷ from4 fs

abbrev pub from7 : List (List ℕ) → List (List ℕ)
from7 fs = [] ∷ from6 fs

abbrev pub from9 : List (List ℕ) → List (List ℕ)
from9 fs = [] ∷ [] ∷ from7 fs

-- whether two texts are the same
unfoldable pub same : List ℕ → List ℕ → Bool
same [] [] = true
same [] (c ∷ t) = false
same (b ∷ s) [] = false
same (b ∷ s) (c ∷ t) = eqb b c && same s t
