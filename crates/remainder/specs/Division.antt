-- Long division of polynomials over two elements. A polynomial is the list of its coefficients, the highest first; to subtract is to
-- exclusive-or. Assumes nothing.
use Rattle.std.specs.Prelude.{ℕ, zero, suc, ◌*◌, ◌/◌, ◌%◌, ◌^◌, ◌≡◌, Bool, true, false, cond, List, [], ◌∷◌, ◌++◌, length, replicate}
use Rattle.std.specs.Int.Bits.{bit_xor}
use Rattle.remainder.specs.Bits.{bits, number}

-- one coefficient less another
abbrev pub less : Bool → Bool → Bool
less a true = cond a false true
less a false = a

-- p less q, their highest coefficients one above the other; past its end q is 0
unfoldable pub minus : List Bool → List Bool → List Bool
minus [] q = []
minus (a ∷ p) [] = a ∷ p
minus (a ∷ p) (b ∷ q) = less a b ∷ minus p q

-- n steps of the long division of p by x^k + g, where g has the k lower coefficients: each strikes out the highest coefficient of what is
-- left, by subtracting the divisor below it where that coefficient is 1
unfoldable pub divide : List Bool → ℕ → List Bool → List Bool
divide g zero p = p
divide g (suc n) [] = []
divide g (suc n) (a ∷ p) = divide g n (cond a (minus p g) p)

-- the k zero coefficients that times x^k adds
abbrev pub zeros : ℕ → List Bool
zeros k = replicate k false

-- the remainder of p times x^k by x^k + g
unfoldable pub remainder : List Bool → List Bool → List Bool
remainder g p = divide g (length p) (p ++ zeros (length g))

-- q times x^k + g
unfoldable pub times : List Bool → List Bool → List Bool
times g [] = zeros (length g)
times g (a ∷ q) = a ∷ minus (times g q) (cond a g [])

-- what the word remainder means: p times x^k is some multiple of x^k + g, and r, which has k coefficients (to subtract is to add)
pub record IsRemainder (g p r : List Bool) : Type 0 where
  pub quotient : List Bool
  pub digits : length quotient ≡ length p
  pub below : length r ≡ length g
  pub whole : p ++ zeros (length g) ≡ minus (times g quotient) (zeros (length p) ++ r)

-- the same of a number of w bits, as a number
unfoldable pub residue : List Bool → ℕ → ℕ → ℕ
residue g w n = number (remainder g (bits w n))

-- what n bits more make of the remainder so far, of n + d bits: its n highest bits and the new ones are struck out together and leave their own remainder, and its
-- other bits come n places higher
unfoldable pub advance : List Bool → ℕ → ℕ → ℕ → ℕ → ℕ
advance g n d rest next = bit_xor (residue g n (bit_xor (rest / 2 ^ d) next)) (rest % 2 ^ d * 2 ^ n)
