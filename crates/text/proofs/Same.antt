-- The laws of `same` that `is` cites. Assumes nothing.
use mathlib.Core.Path.{◌≡◌, refl, ap}
use mathlib.Core.Bool.{true, ◌&&◌}
use mathlib.Core.List.{List, [], ◌∷◌}
use Prim.Native.Nat.{ℕ}
use native.Mathlib.Omega.{arith}
use lib.Dec.{eqb}
use borrow.Author.Tests.{eqb-true, eq-eqb}
use Rattle.text.proofs.Numbers.{first, second}
use Rattle.std.specs.Str.{bytes_eq}
use Rattle.text.specs.Text.{same}

-- what `==` says
pub same_is : (s w : List ℕ) → same s w ≡ bytes_eq s w
unfolding same
same_is [] [] = refl
same_is [] (c ∷ w) = refl
same_is (b ∷ s) [] = refl
same_is (b ∷ s) (c ∷ w) = ap (λ t. eqb b c && t) (same_is s w)

-- `same` says whether two texts are equal
pub same_eq : (s w : List ℕ) → same s w ≡ true → s ≡ w
unfolding same
same_eq [] [] e = refl
same_eq [] (c ∷ w) e = absurd (let z : ◌≡◌ {A = ℕ} 0 1 = cc in omega arith)
same_eq (b ∷ s) [] e = absurd (let z : ◌≡◌ {A = ℕ} 0 1 = cc in omega arith)
same_eq (b ∷ s) (c ∷ w) e = λ i. eqb-true b c (first (eqb b c) (same s w) e) i ∷ same_eq s w (second (eqb b c) (same s w) e) i

pub same_self : (s : List ℕ) → same s s ≡ true
unfolding same
same_self [] = refl
same_self (b ∷ s) = rw (eq-eqb b b refl) (same_self s)
