-- Each answer of a number from what was found, and that a number which is read is in its range. Assumes nothing.
use mathlib.Core.Path.{◌≡◌, refl}
use mathlib.Core.Bool.{Bool, true, false, ◌&&◌, cond, and-false}
use mathlib.Core.List.{List}
use Prim.Native.Nat.{ℕ, ◌≤◌, ◌<◌}
use native.Mathlib.Omega.{arith}
use lib.Dec.{leb}
use borrow.Author.Tests.{leb-true, le-leb, lt-leb}
use Rattle.text.specs.Digits.{decimal_of, value}
use Rattle.text.proofs.Numbers.{first, second}
use Rattle.line.specs.declared.Wrong.TheVariants.{Number, Range}
use Rattle.std.specs.Prelude.{Ok, Err}
use Rattle.line.specs.Ranged.{ranged}

-- each answer
module _ (f lo hi : ℕ) (s : List ℕ) where
  pub no_number : decimal_of s ≡ false → Err (Number f) ≡ ranged f lo hi s
  unfolding ranged
  no_number d = simp d

  pub too_big : decimal_of s ≡ true → hi < value 0 s → Err (Range f) ≡ ranged f lo hi s
  unfolding ranged
  too_big d h = simp (d, lt-leb _ _ h, and-false)

  pub too_small : decimal_of s ≡ true → value 0 s < lo → Err (Range f) ≡ ranged f lo hi s
  unfolding ranged
  too_small d h = simp (d, lt-leb _ _ h)

  pub in_range : (v : ℕ) → decimal_of s ≡ true → value 0 s ≡ v → lo ≤ v → v ≤ hi → Ok v ≡ ranged f lo hi s
  unfolding ranged
  in_range v d e h k = simp (d, e, le-leb _ _ h, le-leb _ _ k)

  -- a number that is read is in its range
  pub ranged_in : {n : ℕ} → ranged f lo hi s ≡ Ok n → (lo ≤ n) × (n ≤ hi)
  unfolding ranged
  ranged_in {n} e = go (decimal_of s) _ refl e
    where
      go : (d t : Bool) → leb lo (value 0 s) && leb (value 0 s) hi ≡ t → cond d (cond t (Ok (value 0 s)) (Err (Range f))) (Err (Number f)) ≡ Ok n → (lo ≤ n) × (n ≤ hi)
      go true true p q =
          let z : value 0 s ≡ n = cc in
          (rw z at (leb-true lo (value 0 s) (first _ _ p)), rw z at (leb-true (value 0 s) hi (second (leb lo (value 0 s)) _ p)))
      go true false p q = absurd (let z : ◌≡◌ {A = ℕ} 0 1 = cc in omega arith)
      go false t p q = absurd (let z : ◌≡◌ {A = ℕ} 0 1 = cc in omega arith)
