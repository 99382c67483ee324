-- From tests to facts and back: what it is that a test says. Assumes nothing.
use mathlib.Core.Path.{◌≡◌, refl, sym}
use mathlib.Core.Bool.{Bool, true, false, ◌&&◌, ◌||◌, false≢true}
use mathlib.Core.Logic.{◌↔◌, ◌⊎◌, inl, inr, ⊎_elim}
use Prim.Native.Nat.{ℕ, ◌≤◌, ◌<◌}
use lib.Dec.{eqb, leb, ltb}
use borrow.Author.Tests.{eqb-true, leb-true, ltb-true, eq-eqb, le-leb, lt-ltb}

-- a test holds or does not
pub decide : {P : Type 0} (b : Bool) → (b ≡ true → P) → (b ≡ false → P) → P
decide true y n = y refl
decide false y n = n refl

-- two tests that hold in the same cases
pub same : (a b : Bool) → (a ≡ true → b ≡ true) → (b ≡ true → a ≡ true) → a ≡ b
same true b f g = sym (f refl)
same false true f g = g refl
same false false f g = refl

pub le_iff : (m n : ℕ) → (leb m n ≡ true) ↔ (m ≤ n)
le_iff m n = (leb-true m n, le-leb m n)

pub lt_iff : (m n : ℕ) → (ltb m n ≡ true) ↔ (m < n)
lt_iff m n = (ltb-true m n, lt-ltb m n)

pub eq_iff : (m n : ℕ) → (eqb m n ≡ true) ↔ (m ≡ n)
eq_iff m n = (eqb-true m n, eq-eqb m n)

pub and_iff : {a b : Bool} {P Q : Type 0} → (a ≡ true) ↔ P → (b ≡ true) ↔ Q → ((a && b) ≡ true) ↔ (P × Q)
and_iff {a = true} {b = b} p q = (λ e. (p.0 refl, q.0 e), λ w. q.1 w.1)
and_iff {a = false} {b = b} p q = (λ e. absurd (false≢true e), λ w. absurd (false≢true (p.1 w.0)))

pub or_iff : {a b : Bool} {P Q : Type 0} → (a ≡ true) ↔ P → (b ≡ true) ↔ Q → ((a || b) ≡ true) ↔ (P ⊎ Q)
or_iff {a = true} {b = b} p q = (λ e. inl (p.0 refl), λ w. refl)
or_iff {a = false} {b = b} p q = (λ e. inr (q.0 e), ⊎_elim (λ x. absurd (false≢true (p.1 x))) q.1)
