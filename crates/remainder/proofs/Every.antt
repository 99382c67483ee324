-- A rule proved by one test that antt computes, at each number of n bits. Assumes nothing.
use mathlib.Core.Path.{subst}
use mathlib.Core.Bool.{Bool, true, false, ◌&&◌}
use mathlib.Core.List.{List, [], ◌∷◌}
use Prim.Native.Nat.{ℕ, zero, suc, ◌^◌, ◌<◌}
use lib.Dec.{T}
use Rattle.remainder.specs.Bits.{bits, number}
use Rattle.remainder.proofs.Digits.{number_of}

both_left : (a b : Bool) → T (a && b) → T a
both_left true b t = tt
both_left false b t = t

both_right : (a b : Bool) → T (a && b) → T b
both_right true b t = t
both_right false b t = absurd t

-- the test f passes at each list of n bits
abbrev pub everywhere : ℕ → (List Bool → Bool) → Bool
everywhere zero f = f []
everywhere (suc n) f = everywhere n (λ bs. f (false ∷ bs)) && everywhere n (λ bs. f (true ∷ bs))

either : (f : List Bool → Bool) (b : Bool) (l : List Bool) → T (f (false ∷ l)) → T (f (true ∷ l)) → T (f (b ∷ l))
either f false l x y = x
either f true l x y = y

at_bits : (n : ℕ) (f : List Bool → Bool) → T (everywhere n f) → (k : ℕ) → T (f (bits n k))
unfolding bits
at_bits zero f t k = t
at_bits (suc n) f t k =
    let low = everywhere n (λ bs. f (false ∷ bs)) in
    let high = everywhere n (λ bs. f (true ∷ bs)) in
    either f _ (bits n k) (at_bits n (λ bs. f (false ∷ bs)) (both_left low high t) k) (at_bits n (λ bs. f (true ∷ bs)) (both_right low high t) k)

pub each : (n : ℕ) (f : ℕ → Bool) → T (everywhere n (λ bs. f (number bs))) → (k : ℕ) → k < 2 ^ n → T (f k)
each n f t k h = subst (λ m. T (f m)) (number_of n k h) (at_bits n (λ bs. f (number bs)) t k)
