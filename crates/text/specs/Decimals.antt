-- Numbers in decimal, written and read: "Numbers are decimal without needless zeros." Assumes nothing.
use Rattle.std.specs.Prelude.{ℕ, zero, suc, ◌+◌, ◌/◌, ◌%◌, cond, List, [], ◌∷◌, ◌++◌, leb, ltb, Result, Ok, Err}
use Rattle.octets.specs.Octets.{cat}
use Rattle.text.specs.Digits.{decimal_of, value}
use Rattle.text.specs.declared.NotNumber.{NotNumber}
use Rattle.text.specs.declared.NotNumber.TheVariants.{Above, Malformed}

-- the digits of n, if there are at most k: below 10 the one digit, else those of n / 10 and then the last
unfoldable pub digits_to : ℕ → ℕ → List ℕ
digits_to zero n = []
digits_to (suc k) n = cond (ltb n 10) ((48 + n) ∷ []) (digits_to k (n / 10) ++ (48 + n % 10) ∷ [])

-- a number in decimal: below 2^64 there are at most twenty digits
unfoldable pub decimal : ℕ → List ℕ
decimal n = digits_to 20 n

-- a number as a field of its own, behind the tab that parts it from the field before
abbrev pub number_field : ℕ → List ℕ
number_field n = 9 ∷ decimal n

-- numbers as fields, one after the other
abbrev pub number_fields : List ℕ → List ℕ
number_fields numbers = cat number_field numbers

-- the number that a text says, up to most
unfoldable pub number_of : ℕ → List ℕ → Result ℕ NotNumber
number_of most s = cond (decimal_of s) (cond (leb (value 0 s) most) (Ok (value 0 s)) (Err Above)) (Err Malformed)
