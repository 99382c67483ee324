-- Laws of subtracting polynomials. Assumes nothing.
use mathlib.Core.Path.{◌≡◌, refl, sym, ap, ap₂, ◌∙◌}
use mathlib.Core.Bool.{Bool, true, false, cond}
use mathlib.Core.List.{List, [], ◌∷◌, ◌++◌}
use Prim.Native.Nat.{ℕ, zero, suc, ◌+◌, ◌≤◌}
use native.Mathlib.Nat.{suc-add, zero-add, le_of_suc-le-suc, not-suc-le-zero}
use native.Mathlib.Omega.{arith}
use lib.ListN.{length}
use Rattle.remainder.specs.Division.{less, minus, zeros}

less_less : (a b c : Bool) → less (less a b) c ≡ less (less a c) b
less_less a true true = refl
less_less a true false = refl
less_less a false true = refl
less_less a false false = refl

pub minus_minus : (p q r : List Bool) → minus (minus p q) r ≡ minus (minus p r) q
unfolding minus
minus_minus [] q r = refl
minus_minus (a ∷ p) [] [] = refl
minus_minus (a ∷ p) [] (c ∷ r) = refl
minus_minus (a ∷ p) (b ∷ q) [] = refl
minus_minus (a ∷ p) (b ∷ q) (c ∷ r) = ap₂ ◌∷◌ (less_less a b c) (minus_minus p q r)

pub minus_length : (p q : List Bool) → length (minus p q) ≡ length p
unfolding minus
minus_length [] q = refl
minus_length (a ∷ p) [] = refl
minus_length (a ∷ p) (b ∷ q) = ap suc (minus_length p q)

pub minus_append : (p q r : List Bool) → length q ≤ length p → minus (p ++ r) q ≡ minus p q ++ r
unfolding minus
minus_append [] [] [] h = refl
minus_append [] [] (c ∷ r) h = refl
minus_append [] (b ∷ q) r h = absurd (not-suc-le-zero h)
minus_append (a ∷ p) [] r h = refl
minus_append (a ∷ p) (b ∷ q) r h = ap (λ l. less a b ∷ l) (minus_append p q r (le_of_suc-le-suc h))

pub minus_heads : (p q r s : List Bool) → length p ≡ length q → minus (p ++ r) (q ++ s) ≡ minus p q ++ minus r s
unfolding minus
minus_heads [] [] r s e = refl
minus_heads [] (b ∷ q) r s e = absurd (not-suc-le-zero {n = length q} (omega arith))
minus_heads (a ∷ p) [] r s e = absurd (not-suc-le-zero {n = length p} (omega arith))
minus_heads (a ∷ p) (b ∷ q) r s e = ap (λ l. less a b ∷ l) (minus_heads p q r s (omega arith))

pub minus_zeros : (p : List Bool) (k : ℕ) → minus p (zeros k) ≡ p
unfolding minus
minus_zeros [] k = refl
minus_zeros (a ∷ p) zero = refl
minus_zeros (a ∷ p) (suc k) = ap (λ l. a ∷ l) (minus_zeros p k)

pub zeros_add : (j k : ℕ) → zeros (j + k) ≡ zeros j ++ zeros k
zeros_add zero k = ap zeros (zero-add k)
zeros_add (suc j) k = ap zeros (suc-add j k) ∙ ap (λ l. false ∷ l) (zeros_add j k)

-- zeros less q is q
pub zeros_minus : (q : List Bool) → minus (zeros (length q)) q ≡ q
unfolding minus
zeros_minus [] = refl
zeros_minus (true ∷ q) = ap (λ l. true ∷ l) (zeros_minus q)
zeros_minus (false ∷ q) = ap (λ l. false ∷ l) (zeros_minus q)

-- s with q below it, as a subtraction from s with zeros below it
pub below : (s q : List Bool) → s ++ q ≡ minus (s ++ zeros (length q)) (zeros (length s) ++ q)
unfolding minus
below [] q = sym (zeros_minus q)
below (a ∷ s) q = ap (λ l. a ∷ l) (below s q)

-- subtracting twice is nothing
less_twice : (a b : Bool) → less (less a b) b ≡ a
less_twice true true = refl
less_twice true false = refl
less_twice false true = refl
less_twice false false = refl

pub minus_twice : (p q : List Bool) → minus (minus p q) q ≡ p
unfolding minus
minus_twice [] q = refl
minus_twice (a ∷ p) [] = refl
minus_twice (a ∷ p) (b ∷ q) = ap₂ ◌∷◌ (less_twice a b) (minus_twice p q)

pub minus_nil : (p : List Bool) → minus p [] ≡ p
unfolding minus
minus_nil [] = refl
minus_nil (a ∷ p) = refl

-- one after the other, or both together
less_assoc : (a b c : Bool) → less a (less b c) ≡ less (less a b) c
less_assoc a true true = sym (less_twice a true)
less_assoc a true false = refl
less_assoc a false true = refl
less_assoc a false false = refl

pub minus_assoc : (p q r : List Bool) → length p ≡ length q → minus p (minus q r) ≡ minus (minus p q) r
unfolding minus
minus_assoc [] q r e = refl
minus_assoc (a ∷ p) [] r e = absurd (not-suc-le-zero {n = length p} (omega arith))
minus_assoc (a ∷ p) (b ∷ q) [] e = refl
minus_assoc (a ∷ p) (b ∷ q) (c ∷ r) e = ap₂ ◌∷◌ (less_assoc a b c) (minus_assoc p q r (omega arith))

pub minus_both : (p q r : List Bool) → length p ≡ length q → minus (minus p r) (minus q r) ≡ minus p q
minus_both p q r e = minus_assoc (minus p r) q r (minus_length p r ∙ e) ∙ ap (λ l. minus l r) (minus_minus p r q) ∙ minus_twice (minus p q) r
