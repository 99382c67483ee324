-- What a person may have got wrong in a line of fields: docs/CONSOLE.md, "Hints"; docs/FORMATS.md, refusal 2. Assumes nothing.
use Rattle.std.specs.Prelude.{ℕ, Bool, false, ◌||◌, cond, List, [], ◌∷◌, eqb, Option, Some, None}
use Rattle.text.specs.declared.Slip.{Slip}
use Rattle.text.specs.declared.Slip.TheVariants.{Blanks, Return, Both}

-- whether a byte stands in a text, and whether it is its last one
unfoldable pub has : ℕ → List ℕ → Bool
has byte [] = false
has byte (b ∷ r) = eqb b byte || has byte r

unfoldable pub ends_in : ℕ → List ℕ → Bool
ends_in byte [] = false
ends_in byte (b ∷ []) = eqb b byte
ends_in byte (b ∷ c ∷ r) = ends_in byte (c ∷ r)

-- "a blank in it" (byte 32), "a carriage return at its end" (byte 13), or both
unfoldable pub slip_of : List ℕ → Option Slip
slip_of text = cond (ends_in 13 text) (cond (has 32 text) (Some Both) (Some Return)) (cond (has 32 text) (Some Blanks) None)
