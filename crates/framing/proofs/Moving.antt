-- The moves on the document's side of the bytes: what stands at each declared unit afterwards, and which slots of the store are written. Assumes nothing.
use Rattle.std.proofs.Common.{◌≡◌, ℕ, zero, suc, ◌+◌, ◌<◌, ◌≤◌, Bool, true, false, cond, ◌≢◌, ◌⊎◌, List, [], ◌∷◌, length, get_or, set, replicate, sym, refl, ap, ◌∙◌, subst, inl, inr, arith, length-set, length-take, get_or-set_other, get_or-set_same}
use lib.ListN.{length-replicate, get_or-replicate}
use Rattle.bus.specs.Frame.{returned}
use Rattle.bus.proofs.Wire.{length_returned}
use Rattle.store.specs.Places.{Inside, loopback_in_slot, loopback_out_slot, cell_at, put_at}
use Rattle.store.proofs.Slots.{cell_length, put_length, put_here, put_other}
use Rattle.shelf.specs.Shelves.{declared, blank}
use Rattle.shelf.specs.declared.Unit as U
use Rattle.shelf.specs.Shelf.{Shelf}
use Rattle.shelf.proofs.Finding.{declared_at}
use Rattle.soundness.specs.Admission.{unit_at, with_unit}
use Rattle.framing.specs.Moves.{moves, moved_unit, moved_rises, moved_store, moved_from, each_from, store_from, moved, moved_each, moved_stores}
use Rattle.framing.proofs.Moves.{either, moved_same}

-- these units, the first of them in a place; and the places before and behind them
moved_before : (i : ℕ) (us : List U.Unit) (s : Shelf) (j : ℕ) → j < i → unit_at (moved_from i us s) j ≡ unit_at s j
unfolding moved_from
moved_before i [] s j h = refl
moved_before i (u ∷ us) s j h = moved_before (suc i) us (with_unit s i (moved_unit u)) j (omega arith) ∙ get_or-set_other s.units i j (moved_unit u) blank (λ e. omega arith)

moved_at : (i : ℕ) (us : List U.Unit) (s : Shelf) (j k : ℕ) → k ≡ i + j → j < length us → k < length s.units → unit_at (moved_from i us s) k ≡ moved_unit (get_or us j blank)
unfolding moved_from
moved_at i [] s j k e h l = absurd (omega arith)
moved_at i (u ∷ us) s zero k e h l =
    let here : k ≡ i = omega arith in
    moved_before (suc i) us (with_unit s i (moved_unit u)) k (omega arith) ∙ ap (λ n. get_or (set s.units i (moved_unit u)) n blank) here ∙ get_or-set_same s.units i (moved_unit u) blank (omega arith)
moved_at i (u ∷ us) s (suc j) k e h l =
    let m = length-set s.units i (moved_unit u) in
    moved_at (suc i) us (with_unit s i (moved_unit u)) j k (omega arith) (omega arith) (omega (arith, m))

each_before : (i : ℕ) (us : List U.Unit) (each : List ℕ) (j : ℕ) → j < i → get_or (each_from i us each) j 0 ≡ get_or each j 0
unfolding each_from
each_before i [] each j h = refl
each_before i (u ∷ us) each j h = each_before (suc i) us (set each i (moved_rises u)) j (omega arith) ∙ get_or-set_other each i j (moved_rises u) 0 (λ e. omega arith)

each_at : (i : ℕ) (us : List U.Unit) (each : List ℕ) (j k : ℕ) → k ≡ i + j → j < length us → k < length each → get_or (each_from i us each) k 0 ≡ moved_rises (get_or us j blank)
unfolding each_from
each_at i [] each j k e h l = absurd (omega arith)
each_at i (u ∷ us) each zero k e h l =
    let here : k ≡ i = omega arith in
    each_before (suc i) us (set each i (moved_rises u)) k (omega arith) ∙ ap (λ n. get_or (set each i (moved_rises u)) n 0) here ∙ get_or-set_same each i (moved_rises u) 0 (omega arith)
each_at i (u ∷ us) each (suc j) k e h l =
    let m = length-set each i (moved_rises u) in
    each_at (suc i) us (set each i (moved_rises u)) j k (omega arith) (omega arith) (omega (arith, m))

each_behind : (i : ℕ) (us : List U.Unit) (each : List ℕ) (k : ℕ) → i + length us ≤ k → get_or (each_from i us each) k 0 ≡ get_or each k 0
unfolding each_from
each_behind i [] each k h = refl
each_behind i (u ∷ us) each k h = each_behind (suc i) us (set each i (moved_rises u)) k (omega arith) ∙ get_or-set_other each i k (moved_rises u) 0 (λ e. omega arith)

-- the store: each of these units has its part in it
abbrev Within : ℕ → List U.Unit → ℕ → Type 0
Within i us bytes = (k : ℕ) → i ≤ k → k < i + length us → Inside k bytes

module _ (u : U.Unit) (i : ℕ) (store : List ℕ) (inside : Inside i (length store)) where
  back_long : length (returned (cell_at store i loopback_out_slot)) ≡ 56
  back_long = let l = cell_length store i loopback_out_slot (omega arith) inside in length_returned (cell_at store i loopback_out_slot) (omega (arith, l)) ∙ l

  one_long : length (moved_store u i store) ≡ length store
  unfolding moved_store
  one_long = either (λ (x : List ℕ). length x ≡ length store) (moves u) (put_at store i loopback_in_slot (returned (cell_at store i loopback_out_slot))) store (put_length store i loopback_in_slot (omega arith) inside (returned (cell_at store i loopback_out_slot)) back_long) refl

  -- only the slot of its loopback inlet is written
  one_other : (j t : ℕ) → t < 146 → (i ≢ j) ⊎ (loopback_in_slot ≢ t) → cell_at (moved_store u i store) j t ≡ cell_at store j t
  unfolding moved_store
  one_other j t ht ne = either (λ (x : List ℕ). cell_at x j t ≡ cell_at store j t) (moves u) (put_at store i loopback_in_slot (returned (cell_at store i loopback_out_slot))) store (put_other store i loopback_in_slot (omega arith) inside (returned (cell_at store i loopback_out_slot)) back_long j t ht ne) refl

  one_here : cell_at (moved_store u i store) i loopback_in_slot ≡ cond (moves u) (returned (cell_at store i loopback_out_slot)) (cell_at store i loopback_in_slot)
  unfolding moved_store
  one_here = by (moves u)
    where
      by : (t : Bool) → cell_at (cond t (put_at store i loopback_in_slot (returned (cell_at store i loopback_out_slot))) store) i loopback_in_slot ≡ cond t (returned (cell_at store i loopback_out_slot)) (cell_at store i loopback_in_slot)
      by true = put_here store i loopback_in_slot (omega arith) inside (returned (cell_at store i loopback_out_slot)) back_long
      by false = refl

narrower : (i : ℕ) (u : U.Unit) (us : List U.Unit) (store : List ℕ) → Within i (u ∷ us) (length store) → Within (suc i) us (length (moved_store u i store))
narrower i u us store all k low high = subst (Inside k) (sym (one_long u i store (all i (omega arith) (omega arith)))) (all k (omega arith) (omega arith))

store_long : (i : ℕ) (us : List U.Unit) (store : List ℕ) → Within i us (length store) → length (store_from i us store) ≡ length store
unfolding store_from
store_long i [] store all = refl
store_long i (u ∷ us) store all = store_long (suc i) us (moved_store u i store) (narrower i u us store all) ∙ one_long u i store (all i (omega arith) (omega arith))

store_other : (i : ℕ) (us : List U.Unit) (store : List ℕ) → Within i us (length store) → (j t : ℕ) → t < 146 → (j < i) ⊎ (loopback_in_slot ≢ t) → cell_at (store_from i us store) j t ≡ cell_at store j t
unfolding store_from
store_other i [] store all j t ht ne = refl
store_other i (u ∷ us) store all j t ht (inl h) =
    store_other (suc i) us (moved_store u i store) (narrower i u us store all) j t ht (inl (omega arith)) ∙ one_other u i store (all i (omega arith) (omega arith)) j t ht (inl (λ e. omega arith))
store_other i (u ∷ us) store all j t ht (inr n) =
    store_other (suc i) us (moved_store u i store) (narrower i u us store all) j t ht (inr n) ∙ one_other u i store (all i (omega arith) (omega arith)) j t ht (inr n)

store_here : (i : ℕ) (us : List U.Unit) (store : List ℕ) → Within i us (length store) → (j k : ℕ) → k ≡ i + j → j < length us →
    cell_at (store_from i us store) k loopback_in_slot ≡ cond (moves (get_or us j blank)) (returned (cell_at store k loopback_out_slot)) (cell_at store k loopback_in_slot)
unfolding store_from
store_here i [] store all j k e h = absurd (omega arith)
store_here i (u ∷ us) store all zero k e h =
    let here : k ≡ i = omega arith in
    store_other (suc i) us (moved_store u i store) (narrower i u us store all) k loopback_in_slot (omega arith) (inl (omega arith))
    ∙ ap (λ n. cell_at (moved_store u i store) n loopback_in_slot) here
    ∙ one_here u i store (all i (omega arith) (omega arith))
    ∙ ap (λ n. cond (moves u) (returned (cell_at store n loopback_out_slot)) (cell_at store n loopback_in_slot)) (sym here)
store_here i (u ∷ us) store all (suc j) k e h =
    let apart : i ≢ k = λ q. omega arith in
    let in_is = one_other u i store (all i (omega arith) (omega arith)) k loopback_in_slot (omega arith) (inl apart) in
    let out_is = one_other u i store (all i (omega arith) (omega arith)) k loopback_out_slot (omega arith) (inl apart) in
    store_here (suc i) us (moved_store u i store) (narrower i u us store all) j k (omega arith) (omega arith)
    ∙ (λ z. cond (moves (get_or us j blank)) (returned (out_is z)) (in_is z))

-- the shelf, the counters and the store, place by place
module _ (shelf : Shelf) where
  pub moved_units : length (moved shelf).units ≡ length shelf.units
  moved_units = moved_same (λ s. length s.units) (λ s i u. length-set s.units i u) 0 (declared shelf) shelf

  pub moved_none : (j : ℕ) → length (declared shelf) ≤ j → j < 32 → get_or (moved_each shelf) j 0 ≡ 0
  moved_none j h few = each_behind 0 (declared shelf) (replicate 32 0) j (omega arith) ∙ get_or-replicate 32 j 0 0 few

  module _ (j : ℕ) (h : j < length (declared shelf)) where
    few : (j < shelf.count) × (j < length shelf.units)
    few = let l = length-take shelf.count shelf.units in (omega arith, omega arith)

    unit_is : get_or (declared shelf) j blank ≡ unit_at shelf j
    unit_is = declared_at shelf j blank few.0

    pub moved_unit_lem : unit_at (moved shelf) j ≡ moved_unit (unit_at shelf j)
    moved_unit_lem = moved_at 0 (declared shelf) shelf j j (omega arith) h few.1 ∙ ap moved_unit unit_is

    pub moved_rises_lem : j < 32 → get_or (moved_each shelf) j 0 ≡ moved_rises (unit_at shelf j)
    moved_rises_lem hj = let l = length-replicate {A = ℕ} 32 0 in each_at 0 (declared shelf) (replicate 32 0) j j (omega arith) h (omega arith) ∙ ap moved_rises unit_is

  module _ (store : List ℕ) (all : (k : ℕ) → k < length (declared shelf) → Inside k (length store)) where
    within : Within 0 (declared shelf) (length store)
    within k low high = all k (omega arith)

    pub stores_long : length (moved_stores shelf store) ≡ length store
    stores_long = store_long 0 (declared shelf) store within

    pub stores_other : (j t : ℕ) → t < 146 → loopback_in_slot ≢ t → cell_at (moved_stores shelf store) j t ≡ cell_at store j t
    stores_other j t ht ne = store_other 0 (declared shelf) store within j t ht (inr ne)

    pub stores_here : (j : ℕ) → j < length (declared shelf) →
        cell_at (moved_stores shelf store) j loopback_in_slot ≡ cond (moves (unit_at shelf j)) (returned (cell_at store j loopback_out_slot)) (cell_at store j loopback_in_slot)
    stores_here j h = store_here 0 (declared shelf) store within j j (omega arith) h ∙ ap (λ u. cond (moves u) (returned (cell_at store j loopback_out_slot)) (cell_at store j loopback_in_slot)) (unit_is j h)
