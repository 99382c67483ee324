-- What is written is read back: a number's decimal digits say the number, a byte's hex digits the byte. Assumes nothing.
use mathlib.Core.Path.{◌≡◌, refl, sym, ap, ap₂, ◌∙◌}
use mathlib.Core.Bool.{Bool, true, false, cond}
use mathlib.Core.List.{List, [], ◌∷◌, ◌++◌}
use Prim.Native.Nat.{ℕ, zero, suc, ◌+◌, ◌*◌, ◌-◌, ◌/◌, ◌%◌, ◌^◌, ◌<◌}
use native.Mathlib.Nat.{pow-suc}
use native.Mathlib.Omega.{arith}
use lib.Dec.{ltb}
use borrow.Author.Tests.{ltb-true, ltb-false}
use Rattle.text.specs.Digits.{value}
use Rattle.text.specs.Hex.{hex_digit, unhex, capital, hex_pair}
use Rattle.text.specs.Decimals.{digits_to, decimal}
use Rattle.text.proofs.HexLaws.{decimal_digit, capital_digit}

value_snoc : (v : ℕ) (s : List ℕ) (b : ℕ) → value v (s ++ b ∷ []) ≡ value v s * 10 + (b - 48)
unfolding value
value_snoc v [] b = refl
value_snoc v (x ∷ s) b = value_snoc (v * 10 + (x - 48)) s b

tenth : (n p : ℕ) → n < p * 10 → n / 10 < p
tenth n p h = omega arith

digits_say : (k n : ℕ) → n < 10 ^ k → value 0 (digits_to k n) ≡ n
unfolding value digits_to
digits_say zero n h = omega arith
digits_say (suc k) n h = go (ltb n 10) refl (digits_say k (n / 10) (tenth n (10 ^ k) (rw (pow-suc 10 k) at h)))
  where
    go : (t : Bool) → ltb n 10 ≡ t → value 0 (digits_to k (n / 10)) ≡ n / 10 → value 0 (cond t ((48 + n) ∷ []) (digits_to k (n / 10) ++ (48 + n % 10) ∷ [])) ≡ n
    go true e r = let h = ltb-true n 10 e in omega arith
    go false e r = value_snoc 0 (digits_to k (n / 10)) (48 + n % 10) ∙ ap (λ m. m * 10 + (48 + n % 10 - 48)) r ∙ omega arith

-- the number that is written is the number that its digits say
pub decimal_says : (n : ℕ) → n < 10 ^ 20 → value 0 (decimal n) ≡ n
unfolding decimal
decimal_says n h = digits_say 20 n h

digit_back : (d : ℕ) → d < 16 → hex_digit (capital d) ≡ d
unfolding capital
digit_back d h = go (ltb d 10) refl
  where
    go : (t : Bool) → ltb d 10 ≡ t → hex_digit (cond t (48 + d) (55 + d)) ≡ d
    go true e = let l = ltb-true d 10 e in sym (decimal_digit (48 + d) (omega arith) (omega arith)) ∙ omega arith
    go false e = let l = ltb-false d 10 e in sym (capital_digit (55 + d) (omega arith) (omega arith)) ∙ omega arith

-- the byte that is written is the byte that its pair says
pub byte_says : (b : ℕ) → b < 256 → unhex (hex_pair b) ≡ b ∷ []
unfolding unhex
byte_says b h = ap (λ n. n ∷ []) (ap₂ (λ x y. x * 16 + y) (digit_back (b / 16) (omega arith)) (digit_back (b % 16) (omega arith)) ∙ omega arith)
