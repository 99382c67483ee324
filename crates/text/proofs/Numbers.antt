-- The laws of digits that the readers cite: what a byte and a text have, and one turn of each loop. Assumes nothing.
use mathlib.Core.Path.{◌≡◌, refl, ap}
use mathlib.Core.Bool.{Bool, true, false, ◌&&◌}
use mathlib.Core.List.{List, [], ◌∷◌}
use Prim.Native.Nat.{ℕ, suc, ◌+◌, ◌*◌, ◌-◌, ◌≤◌, ◌<◌}
use native.Mathlib.Nat.{le_refl, le_trans}
use native.Mathlib.Numerals.{add-one}
use native.Mathlib.Omega.{arith}
use lib.Dec.{leb, eqb}
use lib.ListN.{length, get_or, drop, drop_of_length-le}
use lib.Seq.{drop-cons}
use Rattle.std.specs.List.{list_all}
use borrow.Author.Tests.{leb-true, le-leb, eq-eqb, ne_eqb}
use Rattle.text.specs.Digits.{digit, digits, plain, decimal_of, value}

-- what `all` says
pub all_digits : (s : List ℕ) → list_all digit s ≡ digits s
unfolding digits
all_digits [] = refl
all_digits (b ∷ r) = ap (λ t. digit b && t) (all_digits r)

-- digits, byte by byte
module _ (s : List ℕ) (i : ℕ) (h : i < length s) where
  pub digits_on : digit (get_or s i 0) ≡ true → digits (drop i s) ≡ digits (drop (i + 1) s)
  unfolding digits
  digits_on e = rw (add-one, drop-cons s i 0, e)

  pub value_on : (v : ℕ) → value v (drop i s) ≡ value (v * 10 + (get_or s i 0 - 48)) (drop (i + 1) s)
  unfolding value
  value_on v = rw (add-one, drop-cons s i 0)

pub value_end : (v : ℕ) (s : List ℕ) (i : ℕ) → length s ≤ i → value v (drop i s) ≡ v
unfolding value
value_end v s i h = rw (drop_of_length-le s h)

pub within : (b : ℕ) → 48 ≤ b → b ≤ 57 → digit b ≡ true
unfolding digit
within b h k = simp (le-leb _ _ h, le-leb _ _ k)

-- a text that is no plain number, and one that is
pub empty : (s : List ℕ) → length s ≡ 0 → false ≡ decimal_of s
unfolding decimal_of plain
empty [] h = refl
empty (b ∷ r) h = absurd (omega arith)

pub zero_alone : (s : List ℕ) → get_or s 0 0 ≡ 48 → eqb (length s) 1 ≡ decimal_of s
unfolding decimal_of plain digits digit
zero_alone [] e = absurd (omega arith)
zero_alone (b ∷ []) e = rw e
zero_alone (b ∷ c ∷ r) e = simp (eq-eqb _ _ e, ne_eqb _ _ (λ (h : suc (suc (length r)) ≡ 1). absurd (omega arith)))

pub one_digit : (s : List ℕ) → (length s ≡ 0 → ⊥) → length s ≤ 1 → digits s ≡ decimal_of s
unfolding decimal_of plain
one_digit [] h k = absurd (omega arith)
one_digit (b ∷ []) h k = refl
one_digit (b ∷ c ∷ r) h k = absurd (omega arith)

pub no_zero : (s : List ℕ) → (length s ≡ 0 → ⊥) → (get_or s 0 0 ≡ 48 → ⊥) → digits s ≡ decimal_of s
unfolding decimal_of plain
no_zero [] h k = absurd (omega arith)
no_zero (b ∷ []) h k = refl
no_zero (b ∷ c ∷ r) h k = simp (ne_eqb _ _ k)

-- the parts of a test of two
pub second : (a b : Bool) → a && b ≡ true → b ≡ true
second true b e = e
second false b e = cc

pub first : (a b : Bool) → a && b ≡ true → a ≡ true
first true b e = refl
first false b e = e

-- what a decimal number has: digits, and a digit at each place
pub has_digits : (s : List ℕ) → decimal_of s ≡ true → digits s ≡ true
unfolding decimal_of
has_digits s e = second (plain s) (digits s) e

pub digit_at : (s : List ℕ) (i : ℕ) → i < length s → digits (drop i s) ≡ true → digit (get_or s i 0) ≡ true
unfolding digits
digit_at s i h e = first _ _ (rw (drop-cons s i 0) at e)

pub at_least : (b : ℕ) → digit b ≡ true → (48 ≤ b) × (b ≤ 57)
unfolding digit
at_least b e = (leb-true 48 b (first _ _ e), leb-true b 57 (second (leb 48 b) _ e))

-- more digits make no smaller number
pub grows : (v : ℕ) (r : List ℕ) → v ≤ value v r
unfolding value
grows v [] = le_refl v
grows v (b ∷ r) = le_trans (omega arith) (grows (v * 10 + (b - 48)) r)
