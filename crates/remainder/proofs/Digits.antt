-- Laws of a number's binary digits. Assumes nothing.
use mathlib.Core.Path.{◌≡◌, refl, sym, ap, ap₂, ◌∙◌}
use mathlib.Core.Bool.{Bool, true, false, cond}
use mathlib.Core.List.{List, [], ◌∷◌, ◌++◌}
use Prim.Native.Nat.{ℕ, zero, suc, ◌+◌, ◌*◌, ◌/◌, ◌%◌, ◌^◌, ◌<◌}
use native.Mathlib.Nat.{suc-add, add-suc, zero-add, mod-eq_of_lt, mod-one, mod-lt, le_of_suc-le-suc, not-suc-le-zero, one-mul, zero-mul, add_comm, pow-suc}
use native.Mathlib.Numerals.{add-one}
use native.Mathlib.Omega.{arith}
use lib.ListN.{length}
use lib.Dec.{eqb}
use lib.Pow.{mod-pow-add, shr-shr, field, mod-mod-pow, high, low}
use lib.Bits.{bit_xor, xor_shr, xor_mod}
use Rattle.remainder.specs.Bits.{bits, number}
use Rattle.remainder.specs.Division.{less, minus}

pub bits_length : (w n : ℕ) → length (bits w n) ≡ w
unfolding bits
bits_length zero n = refl
bits_length (suc w) n = ap suc (bits_length w n)

-- a digit below 2 is 0 or 1
two_ways : (P : ℕ → Type 0) → P 0 → P 1 → (d : ℕ) → d < 2 → P d
two_ways P z o zero h = z
two_ways P z o (suc zero) h = o
two_ways P z o (suc (suc d)) h = absurd (not-suc-le-zero (le_of_suc-le-suc (le_of_suc-le-suc h)))

digit_times : (d x : ℕ) → d < 2 → cond (eqb d 1) x 0 ≡ d * x
digit_times d x = two_ways (λ d. cond (eqb d 1) x 0 ≡ d * x) (sym (zero-mul x)) (sym (one-mul x)) d

-- the number that the w low bits say
pub number_bits : (w n : ℕ) → number (bits w n) ≡ n % 2 ^ w
unfolding bits number
number_bits zero n = sym (mod-one n)
number_bits (suc w) n =
    rw (bits_length w n, number_bits w n, digit_times (n / 2 ^ w % 2) (2 ^ w) (mod-lt (n / 2 ^ w) (omega arith)))
    (sym (mod-pow-add n 1 w) ∙ ap (λ k. n % 2 ^ k) (omega arith))

pub number_of : (w n : ℕ) → n < 2 ^ w → number (bits w n) ≡ n
number_of w n h = number_bits w n ∙ mod-eq_of_lt h

-- exclusive-or of numbers subtracts their digits
digit_xor : (a b : ℕ) → a < 2 → b < 2 → eqb (bit_xor a b) 1 ≡ less (eqb a 1) (eqb b 1)
digit_xor a b ha hb =
    two_ways (λ a. eqb (bit_xor a b) 1 ≡ less (eqb a 1) (eqb b 1))
    (two_ways (λ b. eqb (bit_xor 0 b) 1 ≡ less (eqb 0 1) (eqb b 1)) refl refl b hb)
    (two_ways (λ b. eqb (bit_xor 1 b) 1 ≡ less (eqb 1 1) (eqb b 1)) refl refl b hb)
    a ha

pub bits_xor : (w a b : ℕ) → bits w (bit_xor a b) ≡ minus (bits w a) (bits w b)
unfolding bits minus
bits_xor zero a b = refl
bits_xor (suc w) a b =
    ap₂ ◌∷◌
    (ap (λ n. eqb (n % 2) 1) (xor_shr a b w) ∙ ap (λ n. eqb n 1) (xor_mod (a / 2 ^ w) (b / 2 ^ w) 1) ∙ digit_xor _ _ (mod-lt (a / 2 ^ w) (omega arith)) (mod-lt (b / 2 ^ w) (omega arith)))
    (bits_xor w a b)

-- the high digits, then the low ones
pub bits_append : (v w n : ℕ) → bits (v + w) n ≡ bits v (n / 2 ^ w) ++ bits w n
unfolding bits
bits_append zero w n = ap (λ k. bits k n) (zero-add w)
bits_append (suc v) w n =
    ap (λ k. bits k n) (suc-add v w)
    ∙ ap₂ ◌∷◌ (ap (λ k. eqb (n / 2 ^ k % 2) 1) (add_comm v w) ∙ ap (λ m. eqb (m % 2) 1) (sym (shr-shr n w v))) (bits_append v w n)

-- what stands above the low digits does not count
above : (w j n : ℕ) → bits w (n % 2 ^ (j + w)) ≡ bits w n
unfolding bits
above zero j n = refl
above (suc w) j n =
    rw (add-suc j w, ← (suc-add j w))
    (ap₂ ◌∷◌ (ap (λ m. eqb (m % 2) 1) (field n (suc j) w) ∙ ap (λ m. eqb m 1) (ap (λ k. n / 2 ^ w % 2 ^ k % 2) (sym (add-one j)) ∙ mod-mod-pow (n / 2 ^ w) j 1)) (above w (suc j) n))

pub bits_mod : (w n : ℕ) → bits w (n % 2 ^ w) ≡ bits w n
bits_mod w n = ap (λ k. bits w (n % 2 ^ k)) (sym (zero-add w)) ∙ above w 0 n

-- one digit d above m
push : (d k m : ℕ) → m < 2 ^ k → bits (suc k) (d * 2 ^ k + m) ≡ eqb (d % 2) 1 ∷ bits k m
unfolding bits
push d k m h = ap₂ ◌∷◌ (ap (λ n. eqb (n % 2) 1) (high d k h)) (sym (bits_mod k (d * 2 ^ k + m)) ∙ ap (bits k) (low d k h))

-- bits say a number below 2^w, and are its digits
pub number_lt : (bs : List Bool) → number bs < 2 ^ length bs
unfolding number
number_lt [] = omega arith
number_lt (true ∷ bs) = rw pow-suc (let h = number_lt bs in omega arith)
number_lt (false ∷ bs) = rw pow-suc (let h = number_lt bs in omega arith)

pub bits_number : (bs : List Bool) → bits (length bs) (number bs) ≡ bs
unfolding bits number
bits_number [] = refl
bits_number (true ∷ bs) =
    ap (λ n. bits (suc (length bs)) (n + number bs)) (sym (one-mul (2 ^ length bs)))
    ∙ push 1 (length bs) (number bs) (number_lt bs) ∙ ap (λ l. true ∷ l) (bits_number bs)
bits_number (false ∷ bs) =
    ap (λ n. bits (suc (length bs)) (n + number bs)) (sym (zero-mul (2 ^ length bs)))
    ∙ push 0 (length bs) (number bs) (number_lt bs) ∙ ap (λ l. false ∷ l) (bits_number bs)
