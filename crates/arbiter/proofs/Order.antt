-- The cyclic order: every unit once, each behind the one that it is next to; from any of them on it is the same order, turned. Assumes nothing.
use mathlib.Core.Path.{◌≡◌, refl, sym, ap, ◌∙◌}
use mathlib.Core.Bool.{Bool, true, false}
use mathlib.Core.List.{List}
use Prim.Native.Nat.{ℕ, zero, suc, ◌+◌, ◌*◌, ◌-◌, ◌≤◌, ◌<◌, min}
use native.Mathlib.Nat.{add-zero}
use native.Mathlib.Omega.{arith}
use lib.Dec.{ltb}
use lib.ListN.{length, get_or, take, drop, length-append, length-take, length-drop, get_or-append}
use lib.Seq.{get_or-append-add, get_or-take, get_or-drop, ext_get_or}
use borrow.Author.Tests.{lt-ltb, le-ltb, ltb-true, ltb-false}
use Rattle.arbiter.specs.Arbitration.{run, units, turned, cyclic, next}

-- one number is below another, or is not
pub below_or : {P : Type 0} (m n : ℕ) → (m < n → P) → (n ≤ m → P) → P
below_or {P} m n f g = pick (ltb m n) refl
  where
    pick : (b : Bool) → ltb m n ≡ b → P
    pick true t = f (ltb-true m n t)
    pick false t = g (ltb-false m n t)

run_length : (n count : ℕ) → length (run n count) ≡ count
unfolding run
run_length n zero = refl
run_length n (suc count) = ap suc (run_length (suc n) count)

run_at : (n count i : ℕ) → i < count → get_or (run n count) i 0 ≡ n + i
unfolding run
run_at n zero i h = absurd (omega arith)
run_at n (suc count) zero h = sym (add-zero n)
run_at n (suc count) (suc i) h = let e : suc n + i ≡ n + suc i = omega arith in run_at (suc n) count i (omega arith) ∙ e

pub units_length : length units ≡ 32
units_length = run_length 0 32

pub unit_at_lem : (i : ℕ) → i < 32 → get_or units i 0 ≡ i
unit_at_lem i h = let e : 0 + i ≡ i = omega arith in run_at 0 32 i h ∙ e

pub next_below : (n : ℕ) → n < 31 → next n ≡ n + 1
unfolding next
next_below n h = rw (lt-ltb n 31 h)

pub next_top : (n : ℕ) → 31 ≤ n → next n ≡ 0
unfolding next
next_top n h = rw (le-ltb n 31 h)

module _ (order : List ℕ) (full : length order ≡ 32) (k : ℕ) where
  behind_length : length (drop (suc k) order) ≡ 32 - suc k
  behind_length = length-drop (suc k) order ∙ ap (λ n. n - suc k) full

  turned_length : length (turned order k) ≡ 32
  turned_length =
      let a = behind_length in
      let b : length (take (suc k) order) ≡ min (suc k) 32 = length-take (suc k) order ∙ ap (min (suc k)) full in
      length-append (drop (suc k) order) (take (suc k) order) ∙ omega arith

  turned_first : (i : ℕ) → i < 32 - suc k → get_or (turned order k) i 0 ≡ get_or order (suc k + i) 0
  turned_first i h =
      let a = behind_length in
      get_or-append (drop (suc k) order) (take (suc k) order) 0 i (omega arith) ∙ get_or-drop (suc k) order i 0

  turned_then : (i : ℕ) → 32 - suc k ≤ i → i < 32 → get_or (turned order k) i 0 ≡ get_or order (i - (32 - suc k)) 0
  turned_then i h l =
      let a = behind_length in
      let e : i ≡ length (drop (suc k) order) + (i - (32 - suc k)) = omega arith in
      ap (λ n. get_or (turned order k) n 0) e
      ∙ get_or-append-add (drop (suc k) order) (take (suc k) order) (i - (32 - suc k)) 0
      ∙ get_or-take (suc k) order (i - (32 - suc k)) 0 (omega arith)

module _ (last : ℕ) where
  pub cyclic_length : length (cyclic last) ≡ 32
  unfolding cyclic
  cyclic_length = turned_length units units_length last

  -- first the units above the last one, then from unit 0 on
  pub cyclic_above : (k : ℕ) → k < 32 - suc last → get_or (cyclic last) k 0 ≡ suc last + k
  unfolding cyclic
  cyclic_above k h = turned_first units units_length last k h ∙ unit_at_lem (suc last + k) (omega arith)

  pub cyclic_below : (k : ℕ) → 32 - suc last ≤ k → k < 32 → get_or (cyclic last) k 0 ≡ k - (32 - suc last)
  unfolding cyclic
  cyclic_below k h l = turned_then units units_length last k h l ∙ unit_at_lem (k - (32 - suc last)) (omega arith)

  -- what stands at a place, in the two cases
  spot : {P : Type 0} (k : ℕ) → k < 32 → (k < 32 - suc last → get_or (cyclic last) k 0 ≡ suc last + k → P) → (32 - suc last ≤ k → get_or (cyclic last) k 0 ≡ k - (32 - suc last) → P) → P
  spot k l f g = below_or k (32 - suc last) (λ h. f h (cyclic_above k h)) (λ h. g h (cyclic_below k h l))

  pub cyclic_start : get_or (cyclic last) 0 0 ≡ next last
  cyclic_start =
      spot 0 (omega arith)
      (λ h e. e ∙ sym (next_below last (omega arith) ∙ omega arith))
      (λ h e. e ∙ sym (next_top last (omega arith) ∙ omega arith))

  pub cyclic_next : (k : ℕ) → k + 1 < 32 → get_or (cyclic last) (k + 1) 0 ≡ next (get_or (cyclic last) k 0)
  cyclic_next k l =
      spot k (omega arith)
      (λ h e.
      spot (k + 1) l
      (λ j f. f ∙ sym (next_below (get_or (cyclic last) k 0) (omega arith) ∙ omega arith))
      (λ j f. f ∙ sym (next_top (get_or (cyclic last) k 0) (omega arith) ∙ omega arith)))
      (λ h e. cyclic_below (k + 1) (omega arith) l ∙ sym (next_below (get_or (cyclic last) k 0) (omega arith) ∙ omega arith))

  -- every unit stands in it, once
  pub cyclic_unit : (k : ℕ) → k < 32 → get_or (cyclic last) k 0 < 32
  cyclic_unit k l = spot k l (λ h e. omega arith) (λ h e. omega arith)

  pub cyclic_has : (n : ℕ) → n < 32 → (k : ℕ) × (k < 32) × (get_or (cyclic last) k 0 ≡ n)
  cyclic_has n l =
      below_or last n
      (λ h. (n - suc last, omega arith, cyclic_above (n - suc last) (omega arith) ∙ omega arith))
      (λ h. (n + (32 - suc last), omega arith, cyclic_below (n + (32 - suc last)) (omega arith) (omega arith) ∙ omega arith))

  pub cyclic_once : (i j : ℕ) → i < 32 → j < 32 → get_or (cyclic last) i 0 ≡ get_or (cyclic last) j 0 → i ≡ j
  cyclic_once i j h l e =
      spot i h
      (λ a x. spot j l (λ b y. omega arith) (λ b y. omega arith))
      (λ a x. spot j l (λ b y. omega arith) (λ b y. omega arith))

-- after the unit at a place of an order comes that order, turned
module _ (last k : ℕ) (h : k < 32) where
  same_spot : (i j t : ℕ) → i < 32 → j < 32 → j + 32 * t ≡ suc k + i → get_or (cyclic (get_or (cyclic last) k 0)) i 0 ≡ get_or (cyclic last) j 0
  same_spot i j t l m w =
      spot last k h
      (λ a x. spot (get_or (cyclic last) k 0) i l (λ b y. spot last j m (λ d z. omega arith) (λ d z. omega arith)) (λ b y. spot last j m (λ d z. omega arith) (λ d z. omega arith)))
      (λ a x. spot (get_or (cyclic last) k 0) i l (λ b y. spot last j m (λ d z. omega arith) (λ d z. omega arith)) (λ b y. spot last j m (λ d z. omega arith) (λ d z. omega arith)))

  turned_at : (i : ℕ) → i < 32 → get_or (cyclic (get_or (cyclic last) k 0)) i 0 ≡ get_or (turned (cyclic last) k) i 0
  turned_at i l =
      let full = cyclic_length last in
      below_or i (32 - suc k)
      (λ a. same_spot i (suc k + i) 0 l (omega arith) (omega arith) ∙ sym (turned_first (cyclic last) full k i a))
      (λ a. same_spot i (i - (32 - suc k)) 1 l (omega arith) (omega arith) ∙ sym (turned_then (cyclic last) full k i a l))

  pub cyclic_after : cyclic (get_or (cyclic last) k 0) ≡ turned (cyclic last) k
  cyclic_after =
      let e = cyclic_length (get_or (cyclic last) k 0) in
      ext_get_or 0 (cyclic (get_or (cyclic last) k 0)) (turned (cyclic last) k) (e ∙ sym (turned_length (cyclic last) (cyclic_length last) k))
      (λ i j. turned_at i (omega arith))
