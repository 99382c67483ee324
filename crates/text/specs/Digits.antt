-- Decimal digits in a field. Assumes nothing.
use Rattle.std.specs.Prelude.{ℕ, ◌+◌, ◌*◌, ◌-◌, Bool, true, false, not, ◌&&◌, List, [], ◌∷◌, leb, eqb}

-- whether b is one of the digits 0 to 9
unfoldable pub digit : ℕ → Bool
digit b = leb 48 b && leb b 57

-- whether all bytes are digits
unfoldable pub digits : List ℕ → Bool
digits [] = true
digits (b ∷ r) = digit b && digits r

-- not empty, and no 0 in front of another byte
unfoldable pub plain : List ℕ → Bool
plain [] = false
plain (b ∷ []) = true
plain (b ∷ c ∷ r) = not (eqb b 48)

-- "Numbers are decimal without needless zeros."
unfoldable pub decimal_of : List ℕ → Bool
decimal_of s = plain s && digits s

-- the number that the digits say, read after digits that say v
unfoldable pub value : ℕ → List ℕ → ℕ
value v [] = v
value v (b ∷ r) = value (v * 10 + (b - 48)) r
