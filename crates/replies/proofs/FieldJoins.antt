-- Fields are written one behind the other. Assumes nothing.
use mathlib.Core.Path.{◌≡◌, sym}
use mathlib.Core.List.{List, [], ◌∷◌, ◌++◌, append-nil}
use Prim.Native.Nat.{ℕ, ◌≤◌}
use lib.ListN.{length}
use borrow.Author.Tests.{eq-eqb, ne_eqb}
use Rattle.octets.specs.Octets.{cat}
use Rattle.text.specs.Writing.{Wrote}
use Rattle.text.specs.Decimals.{decimal}
use Rattle.text.proofs.Splices.{then, cat_snoc}
use Rattle.arbiter.specs.Arbitration.{nobody}
use Rattle.replies.specs.LineFields.{tabbed, fields, who}

one_field : (f : List ℕ) → tabbed f ≡ fields (f ∷ [])
unfolding cat
one_field f = sym (append-nil (tabbed f))

-- the first field
pub one : (b b₁ : List ℕ) (k p : ℕ) (f : List ℕ) → Wrote b k (tabbed f) p b₁ → Wrote b k (fields (f ∷ [])) p b₁
one b b₁ k p f w = rw (← one_field f) w

-- and one more
pub more : (b b₁ b₂ : List ℕ) (k p q : ℕ) (fs : List (List ℕ)) (g : List ℕ) → Wrote b k (fields fs) p b₁ → Wrote b₁ p (tabbed g) q b₂ → p ≤ length b → Wrote b k (fields (fs ++ g ∷ [])) q b₂
more b b₁ b₂ k p q fs g w x room = rw (cat_snoc tabbed fs g) (then b b₁ b₂ (fields fs) (tabbed g) k p q w x room)

pub who_nobody : (n : ℕ) → n ≡ nobody → who n ≡ 45 ∷ []
unfolding who
who_nobody n e = simp (eq-eqb n nobody e)

pub who_number : (n : ℕ) → (n ≡ nobody → ⊥) → who n ≡ decimal n
unfolding who
who_number n e = simp (ne_eqb n nobody e)
