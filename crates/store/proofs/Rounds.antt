-- A ring is a queue, whatever its places hold. Assumes nothing.
use mathlib.Core.Path.{◌≡◌, refl, sym, ap, ◌∙◌}
use mathlib.Core.Logic.{◌≢◌}
use mathlib.Core.List.{[], ◌∷◌, ◌++◌}
use Prim.Native.Nat.{ℕ, zero, suc, ◌+◌, ◌-◌, ◌≤◌, ◌<◌, min}
use native.Mathlib.Nat.{not-suc-le-zero, add-zero}
use native.Mathlib.Numerals.{sub-one}
use native.Mathlib.Omega.{arith}
use lib.ListN.{length}
use borrow.Author.Tests.{lt-ltb, le-ltb}
use Rattle.outlet.specs.Outlets.{RingFits}
use Rattle.outlet.specs.declared.Ring.{Ring}
use Rattle.store.specs.Rings.{back, next, tail, pushed, popped, queue, in_ring}
use Rattle.store.proofs.Slots.{by_lt}

-- 1. places
back_in : (cap p : ℕ) → p < cap → back cap p ≡ p
unfolding back
back_in cap p h = rw (lt-ltb p cap h)

back_past : (cap p : ℕ) → cap ≤ p → back cap p ≡ p - cap
unfolding back
back_past cap p h = rw (le-ltb p cap h)

pub back_lt : (cap p : ℕ) → p < cap + cap → back cap p < cap
back_lt cap p h = by_lt p cap (λ l. rw (back_in cap p l) l) (λ l. rw (back_past cap p l) (omega arith))

next_in : (cap p : ℕ) → p + 1 < cap → next cap p ≡ p + 1
unfolding next
next_in cap p h = rw (lt-ltb (p + 1) cap h)

next_past : (cap p : ℕ) → cap ≤ p + 1 → next cap p ≡ 0
unfolding next
next_past cap p h = rw (le-ltb (p + 1) cap h)

pub next_lt : (cap p : ℕ) → 0 < cap → next cap p < cap
next_lt cap p h = by_lt (p + 1) cap (λ l. rw (next_in cap p l) l) (λ l. rw (next_past cap p l) h)

-- one on, then n on
back_next : (cap p n : ℕ) → p < cap → n < cap → back cap (next cap p + n) ≡ back cap (p + suc n)
back_next cap p n hp hn =
    by_lt (p + 1) cap
    (λ l. rw (next_in cap p l) (ap (back cap) (omega arith)))
    (λ l. rw (next_past cap p l, back_in cap (0 + n) (omega arith), back_past cap (p + suc n) (omega arith)) (omega arith))

-- places of different age are different
back_apart : (cap p k n : ℕ) → p < cap → k < n → n < cap → back cap (p + k) ≢ back cap (p + n)
back_apart cap p k n hp hk hn e =
    by_lt (p + n) cap
    (λ l. let a = back_in cap (p + n) l in let b = back_in cap (p + k) (omega arith) in omega arith)
    (λ l. let a = back_past cap (p + n) l in
    by_lt (p + k) cap (λ m. let b = back_in cap (p + k) m in omega arith) (λ m. let b = back_past cap (p + k) m in omega arith))

-- 2. queues
module _ {A : Type 0} where
  pub length_queue : (at : ℕ → A) (cap h n : ℕ) → length (queue at cap h n) ≡ n
  unfolding queue
  length_queue at cap h zero = refl
  length_queue at cap h (suc n) = ap suc (length_queue at cap (next cap h) n)

  queue_last : (at : ℕ → A) (cap h n : ℕ) → h < cap → n < cap → queue at cap h (suc n) ≡ queue at cap h n ++ (at (back cap (h + n)) ∷ [])
  unfolding queue
  queue_last at cap h zero hh hn = rw (add-zero, back_in cap h hh)
  queue_last at cap h (suc n) hh hn =
      ap (λ q. at h ∷ q) (queue_last at cap (next cap h) n (next_lt cap h (omega arith)) (omega arith))
      ∙ ap (λ p. at h ∷ (queue at cap (next cap h) n ++ (at p ∷ []))) (back_next cap h n hh (omega arith))

  queue_same : (f g : ℕ → A) (cap h n : ℕ) → h < cap → n ≤ cap → ((k : ℕ) → k < n → f (back cap (h + k)) ≡ g (back cap (h + k))) → queue f cap h n ≡ queue g cap h n
  unfolding queue
  queue_same f g cap h zero hh hn same = refl
  queue_same f g cap h (suc n) hh hn same =
      λ i. first i ∷ queue_same f g cap (next cap h) n (next_lt cap h (omega arith)) (omega arith) (λ k hk. rw (back_next cap h k hh (omega arith)) (same (suc k) (omega arith))) i
    where
      first : f h ≡ g h
      first = rw (add-zero, back_in cap h hh) at (same 0 (omega arith))

-- 3. rings: what a ring that fits its places holds
module _ (cap : ℕ) (small : cap ≤ 255) (ring : Ring) (fit : RingFits ring cap) where
  -- where the next one goes is one of the places
  tail_back : 0 < cap → tail ring cap ≡ back cap (ring.head + ring.count)
  unfolding tail
  tail_back h =
      let p = fit.place h in
      let l = back_lt cap (ring.head + ring.count) (omega (arith, fit.held)) in
      omega arith

  pub tail_lt : 0 < cap → tail ring cap < cap
  tail_lt h = let p = fit.place h in rw (tail_back h) (back_lt cap (ring.head + ring.count) (omega (arith, fit.held)))

  -- nothing is written into the places
  pub ring_kept : {A : Type 0} (f g : ℕ → A) → ((k : ℕ) → k < cap → g k ≡ f k) → in_ring g cap ring ≡ in_ring f cap ring
  unfolding queue
  ring_kept f g same =
      by_lt 0 cap
      (λ h. let p = fit.place h in
      queue_same g f cap ring.head ring.count p fit.held (λ k hk. same (back cap (ring.head + k)) (back_lt cap (ring.head + k) (omega (arith, fit.held)))))
      (λ h. let z : ring.count ≡ 0 = omega (arith, fit.held) in rw z)

  -- one is written past the newest: it is the last
  pub ring_pushed : {A : Type 0} (f g : ℕ → A) (c : A) → ring.count < cap → g (tail ring cap) ≡ c → ((k : ℕ) → k < cap → k ≢ tail ring cap → g k ≡ f k) → in_ring g cap (pushed ring) ≡ in_ring f cap ring ++ (c ∷ [])
  unfolding pushed
  ring_pushed f g c room put same =
      let h : 0 < cap = omega arith in
      let p = fit.place h in
      let t = tail_back h in
      let n : min (ring.count + 1) 255 ≡ suc ring.count = omega arith in
      ap (queue g cap ring.head) n ∙ queue_last g cap ring.head ring.count p room
      ∙ (λ i. queue_same g f cap ring.head ring.count p (omega arith) (λ k hk. same (back cap (ring.head + k)) (back_lt cap (ring.head + k) (omega arith)) (λ e. back_apart cap ring.head k ring.count p hk room (e ∙ t))) i ++ ((ap g (sym t) ∙ put) i ∷ []))

-- the oldest is the first, and without it the others stay
pub ring_popped : {A : Type 0} (cap : ℕ) (ring : Ring) (f : ℕ → A) → 0 < ring.count → in_ring f cap ring ≡ f ring.head ∷ in_ring f cap (popped ring cap)
unfolding queue popped
ring_popped cap ring f h = go ring.count h
  where
    go : (n : ℕ) → 0 < n → queue f cap ring.head n ≡ f ring.head ∷ queue f cap (next cap ring.head) (n - 1)
    go zero h = absurd (not-suc-le-zero h)
    go (suc n) h = rw sub-one

-- 4. and it fits after each step
pub pushed_fits : (cap : ℕ) (ring : Ring) → RingFits ring cap → cap ≤ 255 → ring.count < cap → RingFits (pushed ring) cap
unfolding pushed
pushed_fits cap ring fit small room = record { place = fit.place; nowhere = fit.nowhere; held = omega arith }

pub popped_fits : (cap : ℕ) (ring : Ring) → RingFits ring cap → RingFits (popped ring cap) cap
unfolding popped
popped_fits cap ring fit = record { place = λ h. next_lt cap ring.head h; nowhere = λ e. next_past cap ring.head (omega arith); held = omega (arith, fit.held) }
