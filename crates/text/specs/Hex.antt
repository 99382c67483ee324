-- "Bytes are pairs of hex digits, read in either case, written in capitals" (docs/CONSOLE.md; so the bench too). Assumes nothing.
use Rattle.std.specs.Prelude.{ℕ, ◌+◌, ◌*◌, ◌-◌, ◌/◌, ◌%◌, Bool, true, ◌&&◌, cond, List, [], ◌∷◌, leb, ltb, eqb, length}
use Rattle.octets.specs.Octets.{cat}

-- the value of a hex digit, 0 to 9, A to F or a to f; 16 of what is none
unfoldable pub hex_digit : ℕ → ℕ
hex_digit b =
    cond (leb 48 b && leb b 57) (b - 48)
    (cond (leb 65 b && leb b 70) (b - 55)
    (cond (leb 97 b && leb b 102) (b - 87) 16))

-- whether all bytes are hex digits
unfoldable pub hex_digits : List ℕ → Bool
hex_digits [] = true
hex_digits (b ∷ r) = ltb (hex_digit b) 16 && hex_digits r

-- whether a text is pairs of hex digits
unfoldable pub is_hex : List ℕ → Bool
is_hex s = eqb (length s % 2) 0 && hex_digits s

-- the bytes that the pairs of a text say
unfoldable pub unhex : List ℕ → List ℕ
unhex [] = []
unhex (a ∷ []) = []
unhex (a ∷ b ∷ r) = (hex_digit a * 16 + hex_digit b) ∷ unhex r

-- a digit below 16, and the two of a byte
unfoldable pub capital : ℕ → ℕ
capital d = cond (ltb d 10) (48 + d) (55 + d)

abbrev pub hex_pair : ℕ → List ℕ
hex_pair n = capital (n / 16) ∷ capital (n % 16) ∷ []

-- bytes as hex, pair after pair
abbrev pub hex_of : List ℕ → List ℕ
hex_of bytes = cat hex_pair bytes
