-- Long division gives the remainder, and nothing else is one. Assumes nothing.
use mathlib.Core.Path.{◌≡◌, refl, sym, ap, ap₂, ◌∙◌}
use mathlib.Core.Bool.{Bool, true, false, cond}
use mathlib.Core.List.{List, [], ◌∷◌, ◌++◌}
use Prim.Native.Nat.{ℕ, zero, suc, ◌+◌}
use native.Mathlib.Nat.{not-suc-le-zero, zero-add}
use native.Mathlib.Omega.{arith}
use lib.ListN.{length, drop, get_or, length-append, length-replicate}
use Rattle.remainder.specs.Division.{less, minus, divide, zeros, remainder, times, IsRemainder}
use Rattle.remainder.proofs.Minus.{minus_minus, minus_length, minus_twice, minus_nil, zeros_minus}
use Rattle.remainder.proofs.Laws.{remainder_length}

-- the digits that long division strikes out
quotient : List Bool → ℕ → List Bool → List Bool
quotient g zero p = []
quotient g (suc n) [] = false ∷ quotient g n []
quotient g (suc n) (a ∷ p) = a ∷ quotient g n (cond a (minus p g) p)

quotient_length : (g : List Bool) (n : ℕ) (p : List Bool) → length (quotient g n p) ≡ n
unfolding quotient
quotient_length g zero p = refl
quotient_length g (suc n) [] = ap suc (quotient_length g n [])
quotient_length g (suc n) (a ∷ p) = ap suc (quotient_length g n (cond a (minus p g) p))

-- what a step subtracts
struck : (a : Bool) (g p : List Bool) → cond a (minus p g) p ≡ minus p (cond a g [])
struck true g p = refl
struck false g p = sym (minus_nil p)

-- a step, and the product that has one digit more
step : (a : Bool) (g p t z : List Bool) → cond a (minus p g) p ≡ minus t z → p ≡ minus (minus t (cond a g [])) z
step a g p t z h =
    let c = cond a g [] in
    sym (minus_minus t c z ∙ ap (λ l. minus l c) (sym h ∙ struck a g p) ∙ minus_twice p c)

back : (a : Bool) (g p t z : List Bool) → p ≡ minus (minus t (cond a g [])) z → cond a (minus p g) p ≡ minus t z
back a g p t z h =
    let c = cond a g [] in
    struck a g p ∙ ap (λ l. minus l c) (h ∙ minus_minus t c z) ∙ minus_twice (minus t z) c

whole : (g : List Bool) (n : ℕ) (p : List Bool) → length p ≡ n + length g → p ≡ minus (times g (quotient g n p)) (zeros n ++ divide g n p)
unfolding quotient times divide minus
whole g zero p h = sym (ap (λ k. minus (zeros k) p) (sym (h ∙ zero-add (length g))) ∙ zeros_minus p)
whole g (suc n) [] h = absurd (not-suc-le-zero {n = n + length g} (omega arith))
whole g (suc n) (a ∷ p) h =
    let q = cond a (minus p g) p in
    let e : length q ≡ length p = ap length (struck a g p) ∙ minus_length p (cond a g []) in
    ap (λ l. a ∷ l) (step a g p (times g (quotient g n q)) (zeros n ++ divide g n q) (whole g n q (omega arith)))

only : (g : List Bool) (n : ℕ) (p q r : List Bool) → length q ≡ n → length r ≡ length g → p ≡ minus (times g q) (zeros n ++ r) → r ≡ divide g n p
unfolding times divide minus
only g zero p [] r e l h = sym (h ∙ ap (λ k. minus (zeros k) r) (sym l) ∙ zeros_minus r)
only g zero p (b ∷ q) r e l h = absurd (not-suc-le-zero {n = length q} (omega arith))
only g (suc n) p [] r e l h = absurd (not-suc-le-zero {n = n} (omega arith))
only g (suc n) [] (b ∷ q) r e l h = absurd (not-suc-le-zero {n = length (minus (minus (times g q) (cond b g [])) (zeros n ++ r))} (omega (arith, ap length h)))
only g (suc n) (a ∷ p) (b ∷ q) r e l h =
    let same : b ≡ a = sym (ap (λ k. get_or k 0 false) h) in
    only g n (cond a (minus p g) p) q r (omega arith) l
    (back a g p (times g q) (zeros n ++ r) (ap (drop 1) h ∙ ap (λ c. minus (minus (times g q) (cond c g [])) (zeros n ++ r)) same))

-- the remainder of the definition is the remainder
pub remainder_is : (g p : List Bool) → IsRemainder g p (remainder g p)
unfolding remainder
remainder_is g p =
    let long = p ++ zeros (length g) in
    record {
      quotient = quotient g (length p) long;
      digits = quotient_length g (length p) long;
      below = remainder_length g p;
      whole = whole g (length p) long (simp (length-append, length-replicate));
    }

pub remainder_only : (g p r : List Bool) → IsRemainder g p r → r ≡ remainder g p
unfolding remainder
remainder_only g p r h = only g (length p) (p ++ zeros (length g)) h.quotient r h.digits h.below h.whole
