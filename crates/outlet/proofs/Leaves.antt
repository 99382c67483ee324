-- Which cell leaves and whether it is marked, in plain facts; what its header keeps. Assumes nothing.
use Rattle.std.specs.Prelude.{None, Option, Some}
use mathlib.Core.Path.{◌≡◌, refl, ap, subst, ◌∙◌}
use mathlib.Core.Logic.{◌↔◌, inr}
use mathlib.Core.Bool.{Bool, true, false, ◌&&◌, cond}
use Prim.Native.Nat.{ℕ, zero, suc, ◌+◌, ◌-◌, ◌≤◌, ◌<◌}
use native.Mathlib.Omega.{arith}
use lib.Dec.{eqb, ltb}
use borrow.Author.Tests.{eqb-true, eqb-false, ltb-true, ltb-false, lt-ltb, le-ltb}
use Rattle.outlet.proofs.Truth.{le_iff, and_iff, or_iff}
use Rattle.outlet.specs.declared.Mode.{Mode}
use Rattle.outlet.specs.declared.Mode.TheVariants.{One, Four}
use Rattle.outlet.specs.declared.Outlet.{Outlet}
use Rattle.outlet.specs.Hearing.{limit, held, at_limit}
use Rattle.outlet.specs.Taking.{queues, lowest, leaving, LeavingOf, congested_in, marks, CongestedIn}
use Rattle.outlet.proofs.Fates.{limit_in}

-- in each mode
pub marks_in : (outlet : Outlet) (mode : Mode) → outlet.limits.mode ≡ mode → marks outlet ≡ (outlet.limits.mark && congested_in mode outlet)
unfolding marks
marks_in outlet mode e = ap (λ m. outlet.limits.mark && congested_in m outlet) e

pub leaving_first : (outlet : Outlet) → 0 < held outlet 0 → leaving outlet ≡ Some 0
unfolding leaving lowest
leaving_first outlet h = go outlet.limits.mode
  where
    go : (mode : Mode) → lowest (held outlet) 0 (queues mode) ≡ Some 0
    go One = rw (lt-ltb 0 (held outlet 0) h)
    go Four = rw (lt-ltb 0 (held outlet 0) h)

-- the search goes from queue to queue
module _ (cells : ℕ → ℕ) (q many : ℕ) where
  pub lowest_here : q < many → 0 < cells q → lowest cells q (many - q) ≡ Some q
  unfolding lowest
  lowest_here h n = let e : many - q ≡ suc (many - (q + 1)) = omega arith in rw (e, lt-ltb 0 (cells q) n)

  pub lowest_on : q < many → cells q ≤ 0 → lowest cells q (many - q) ≡ lowest cells (q + 1) (many - (q + 1))
  unfolding lowest
  lowest_on h n = let e : many - q ≡ suc (many - (q + 1)) = omega arith in rw (e, le-ltb 0 (cells q) n)

  pub lowest_past : many ≤ q → lowest cells q (many - q) ≡ None
  unfolding lowest
  lowest_past h = let e : many - q ≡ 0 = omega arith in rw e

pub leaving_start : (outlet : Outlet) → leaving outlet ≡ lowest (held outlet) 0 (queues outlet.limits.mode - 0)
unfolding leaving
leaving_start outlet = let e : queues outlet.limits.mode ≡ queues outlet.limits.mode - 0 = omega arith in ap (lowest (held outlet) 0) e

-- the lowest of some queues, as a fact
From : (ℕ → ℕ) → ℕ → ℕ → Option ℕ → Type 0
From cells q n (Some k) = (q ≤ k) × (k < q + n) × (0 < cells k) × ((p : ℕ) → q ≤ p → p < k → cells p ≡ 0)
From cells q n None = (p : ℕ) → q ≤ p → p < q + n → cells p ≡ 0

module _ (cells : ℕ → ℕ) where
  -- from the next queue on, and here
  also : (q : ℕ) (none : cells q ≡ 0) (P : ℕ → Type 0) → ((p : ℕ) → q + 1 ≤ p → P p → cells p ≡ 0) → (p : ℕ) → q ≤ p → P p → cells p ≡ 0
  also q none P f p h w = go (eqb p q) refl
    where
      go : (b : Bool) → eqb p q ≡ b → cells p ≡ 0
      go true e = ap cells (eqb-true p q e) ∙ none
      go false e = let ne = eqb-false p q e in f p (omega arith) w

  later : (q n : ℕ) (l : Option ℕ) → cells q ≡ 0 → From cells (q + 1) n l → From cells q (suc n) l
  unfolding From
  later q n (Some k) none w = (omega arith, omega arith, w.2, also q none (λ p. p < k) w.3)
  later q n None none w = also q none (λ p. p < q + suc n) (λ p a b. w p a (omega arith))

  lowest_holds : (q n : ℕ) → From cells q n (lowest cells q n)
  unfolding From lowest
  lowest_holds q zero = λ p a b. absurd (omega arith)
  lowest_holds q (suc n) = go (ltb 0 (cells q)) refl (lowest_holds (q + 1) n)
    where
      go : (b : Bool) → ltb 0 (cells q) ≡ b → From cells (q + 1) n (lowest cells (q + 1) n) → From cells q (suc n) (cond b (Some q) (lowest cells (q + 1) n))
      go true e w = (omega arith, omega arith, ltb-true 0 (cells q) e, λ p a b. absurd (omega arith))
      go false e w = let z = ltb-false 0 (cells q) e in later q n (lowest cells (q + 1) n) (omega arith) w

  from_first : (n : ℕ) (l : Option ℕ) → From cells 0 n l → LeavingOf cells n l
  unfolding From
  from_first n (Some k) w = (omega arith, w.2, λ p h. w.3 p (omega arith) h)
  from_first n None w = λ p h. w p (omega arith) (omega arith)

  -- no two of these facts hold together
  not_below : (n a b : ℕ) → LeavingOf cells n (Some a) → LeavingOf cells n (Some b) → a < b → ⊥
  not_below n a b w v h = let z = v.2 a h in let y = w.1 in omega arith

  unique : (n : ℕ) (l m : Option ℕ) → LeavingOf cells n l → LeavingOf cells n m → l ≡ m
  unique n (Some a) (Some b) w v =
      let x : a < b → ⊥ = not_below n a b w v in
      let y : b < a → ⊥ = not_below n b a v w in
      ap Some (omega arith)
  unique n (Some a) None w v = let z = v a w.0 in let y = w.1 in absurd (omega arith)
  unique n None (Some b) w v = let z = w b v.0 in let y = v.1 in absurd (omega arith)
  unique n None None w v = refl

-- the cell of queue q leaves exactly when q holds one and no lower queue does; none leaves exactly when none holds one
pub leaving_iff : (outlet : Outlet) (l : Option ℕ) → (leaving outlet ≡ l) ↔ LeavingOf (held outlet) (queues outlet.limits.mode) l
unfolding leaving
leaving_iff outlet l =
    let cells = held outlet in
    let n = queues outlet.limits.mode in
    let w : LeavingOf cells n (lowest cells 0 n) = from_first cells n (lowest cells 0 n) (lowest_holds cells 0 n) in
    (λ e. subst (λ m. LeavingOf cells n m) e w, λ v. unique cells n (lowest cells 0 n) l w v)

-- the mark
at_limit_iff : (outlet : Outlet) (q n : ℕ) → limit outlet.limits q ≡ n → (at_limit outlet q ≡ true) ↔ (n ≤ held outlet q)
unfolding at_limit
at_limit_iff outlet q n e = rw e (le_iff n (held outlet q))

pub marks_iff : (outlet : Outlet) → (marks outlet ≡ true) ↔ ((outlet.limits.mark ≡ true) × CongestedIn outlet.limits.mode outlet)
unfolding marks
marks_iff outlet = and_iff (λ e. e, λ e. e) (go outlet.limits.mode refl)
  where
    go : (mode : Mode) → outlet.limits.mode ≡ mode → (congested_in mode outlet ≡ true) ↔ CongestedIn mode outlet
    go One e = at_limit_iff outlet 0 outlet.limits.vbrlimit (limit_in outlet.limits 0 One e)
    go Four e =
        or_iff (at_limit_iff outlet 1 outlet.limits.cbrlimit (limit_in outlet.limits 1 Four e))
        (at_limit_iff outlet 2 outlet.limits.vbrlimit (limit_in outlet.limits 2 Four e))

-- a cell of class 0 too is marked when CBR or VBR is at its limit
pub control_marked : (outlet : Outlet) → outlet.limits.mode ≡ Four → outlet.limits.mark ≡ true → 0 < held outlet 0 → outlet.limits.vbrlimit ≤ held outlet 2 → (leaving outlet ≡ Some 0) × (marks outlet ≡ true)
control_marked outlet four mark cell full = (leaving_first outlet cell, (marks_iff outlet).1 (mark, rw four (inr full)))
