-- A number as its binary digits, and back. Assumes nothing.
use Rattle.std.specs.Prelude.{ℕ, zero, suc, ◌+◌, ◌/◌, ◌%◌, ◌^◌, Bool, cond, List, [], ◌∷◌, ◌++◌, length, eqb}

-- whether bit k of n is set, the lowest being bit 0
abbrev pub bit : ℕ → ℕ → Bool
bit k n = eqb (n / 2 ^ k % 2) 1

-- the w low bits of n, the highest first
unfoldable pub bits : ℕ → ℕ → List Bool
bits zero n = []
bits (suc w) n = bit w n ∷ bits w n

-- the number that bits say, the highest first
unfoldable pub number : List Bool → ℕ
number [] = 0
number (b ∷ bs) = cond b (2 ^ length bs) 0 + number bs

-- the bits of several numbers of w bits, one after the other
unfoldable pub bits_of : ℕ → List ℕ → List Bool
bits_of w [] = []
bits_of w (n ∷ ns) = bits w n ++ bits_of w ns
