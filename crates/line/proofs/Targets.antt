-- `aim_of` of a text that begins with neither `u` nor `m`. Assumes nothing.
use mathlib.Core.Path.{◌≡◌}
use mathlib.Core.Bool.{and-false}
use mathlib.Core.List.{List, [], ◌∷◌}
use Prim.Native.Nat.{ℕ, ◌<◌}
use native.Mathlib.Omega.{arith}
use lib.ListN.{length, get_or}
use borrow.Author.Tests.{ne_eqb}
use Rattle.bus.specs.declared.Target.TheVariants.{All}
use Rattle.line.specs.declared.Wrong.TheVariants.{Range}
use Rattle.std.specs.Prelude.{Ok, Err}
use Rattle.text.specs.Text.{same}
use Rattle.line.specs.Ranged.{aim_of}

module _ (f : ℕ) where
  pub all : (s : List ℕ) → length s ≡ 1 → get_or s 0 0 ≡ 98 → Ok All ≡ aim_of f s
  unfolding aim_of same
  all [] n e = absurd (omega arith)
  all (b ∷ []) n e = rw e
  all (b ∷ c ∷ r) n e = absurd (omega arith)

  pub other : (s : List ℕ) → length s ≡ 1 → (get_or s 0 0 ≡ 117 → ⊥) → (get_or s 0 0 ≡ 109 → ⊥) → (get_or s 0 0 ≡ 98 → ⊥) → Err (Range f) ≡ aim_of f s
  unfolding aim_of same
  other [] n u m e = absurd (omega arith)
  other (b ∷ []) n u m e = simp (ne_eqb _ _ u, ne_eqb _ _ m, ne_eqb _ _ e)
  other (b ∷ c ∷ r) n u m e = absurd (omega arith)

  pub longer : (s : List ℕ) → 1 < length s → (get_or s 0 0 ≡ 117 → ⊥) → (get_or s 0 0 ≡ 109 → ⊥) → Err (Range f) ≡ aim_of f s
  unfolding aim_of same
  longer [] n u m = absurd (omega arith)
  longer (b ∷ []) n u m = absurd (omega arith)
  longer (b ∷ c ∷ r) n u m = simp (ne_eqb _ _ u, ne_eqb _ _ m, and-false)
