-- Parts and slots of the store do not overlap and lie inside it; a slot that is written, and every other slot. Assumes nothing.
use mathlib.Core.Path.{◌≡◌, refl, sym, ap, ◌∙◌}
use mathlib.Core.Logic.{◌≢◌, ◌⊎◌, inl, inr, ⊎_elim}
use mathlib.Core.Bool.{Bool, true, false}
use mathlib.Core.List.{List}
use Prim.Native.Nat.{ℕ, zero, suc, ◌+◌, ◌*◌, ◌-◌, ◌≤◌, ◌<◌}
use native.Mathlib.Nat.{add-zero, add-suc}
use native.Mathlib.Omega.{arith}
use lib.Dec.{ltb}
use lib.ListN.{length, get_or, drop, length-drop}
use lib.Seq.{length-take-le}
use borrow.Author.Tests.{ltb-true, ltb-false}
use Rattle.outlet.specs.Outlets.{capacity, capacities, GivenIn, Given}
use Rattle.octets.specs.Octets.{splice, part}
use Rattle.octets.proofs.Parts.{length_splice, part_same, part_before, part_after}
use Rattle.outlet.specs.declared.Mode.{Mode}
use Rattle.outlet.specs.declared.Mode.TheVariants.{One, Four}
use Rattle.outlet.specs.declared.Limits.{Limits}
use Rattle.store.specs.Places.{part_of, slot_at, Inside, starts, start, outlet_slot, Cell, cell_at, put_at}

starts_le : (mode : Mode) (l q : ℕ) → get_or (starts mode l) q 123 ≤ 123 + l
starts_le One l zero = omega arith
starts_le One l (suc q) = omega arith
starts_le Four l zero = omega arith
starts_le Four l (suc zero) = omega arith
starts_le Four l (suc (suc zero)) = omega arith
starts_le Four l (suc (suc (suc zero))) = omega arith
starts_le Four l (suc (suc (suc (suc q)))) = omega arith

pub start_le : (limits : Limits) (q : ℕ) → start limits q ≤ 123 + limits.cbrlength
unfolding start
start_le limits q = starts_le limits.mode limits.cbrlength q

-- 1. the queues of an outlet, one after the other: each starts where the one before it ends, and the inlet where the last ends
starts_next : (mode : Mode) (l c v q : ℕ) → GivenIn mode l c v → q < 4 → get_or (starts mode l) q 123 + get_or (capacities mode l) q 0 ≡ get_or (starts mode l) (suc q) 123
starts_next One l c v zero g h = refl
starts_next One l c v (suc zero) g h = refl
starts_next One l c v (suc (suc zero)) g h = refl
starts_next One l c v (suc (suc (suc zero))) g h = refl
starts_next One l c v (suc (suc (suc (suc q)))) g h = absurd (omega arith)
starts_next Four l c v zero g h = refl
starts_next Four l c v (suc zero) g h = refl
starts_next Four l c v (suc (suc zero)) g h = omega arith
starts_next Four l c v (suc (suc (suc zero))) g h = refl
starts_next Four l c v (suc (suc (suc (suc q)))) g h = absurd (omega arith)

pub start_next : (limits : Limits) (q : ℕ) → Given limits → q < 4 → start limits q + capacity limits q ≡ start limits (suc q)
unfolding start capacity
start_next limits q g h = starts_next limits.mode limits.cbrlength limits.cbrlimit limits.vbrlimit q g h

-- so a lower queue ends before a higher one starts
start_apart : (limits : Limits) (q d : ℕ) → Given limits → q + d < 4 → start limits q + capacity limits q ≤ start limits (suc (q + d))
start_apart limits q zero g h = let e = start_next limits q g (omega arith) in rw add-zero (omega arith)
start_apart limits q (suc d) g h =
    let a = start_apart limits q d g (omega arith) in
    let e = start_next limits (suc (q + d)) g (omega arith) in
    rw add-suc (omega arith)

pub start_below : (limits : Limits) (q r : ℕ) → Given limits → q < r → r < 5 → start limits q + capacity limits q ≤ start limits r
start_below limits q r g h k =
    let e : suc (q + (r - q - 1)) ≡ r = omega arith in
    let s : start limits (suc (q + (r - q - 1))) ≡ start limits r = ap (start limits) e in
    let a = start_apart limits q (r - q - 1) g (omega arith) in
    omega arith

-- and the last before the inlet
start_four : (limits : Limits) → start limits 4 ≡ 123
unfolding start
start_four limits = go limits.mode
  where
    go : (mode : Mode) → get_or (starts mode limits.cbrlength) 4 123 ≡ 123
    go One = refl
    go Four = refl

pub start_inside : (limits : Limits) (q : ℕ) → Given limits → q < 4 → start limits q + capacity limits q ≤ 123
start_inside limits q g h = let s = start_four limits in let a = start_below limits q 4 g h (omega arith) in omega arith

pub slot_below : (limits : Limits) (q p : ℕ) → Given limits → q < 4 → p < capacity limits q → outlet_slot limits q p < 123
slot_below limits q p g h k = let s = start_inside limits q g h in omega arith

-- 2. parts and slots
pub parts_apart : (i j : ℕ) → i < j → part_of i + 8192 ≤ part_of j
unfolding part_of
parts_apart i j h = omega arith

-- "cell store below 8,192 bytes a declared unit": the parts of so many units lie in a store that has as much
pub part_inside : (i count bytes : ℕ) → i < count → 8192 * count ≤ bytes → Inside i bytes
unfolding part_of
part_inside i count bytes h s = omega arith

pub slot_inside : (i slot : ℕ) → slot < 146 → (part_of i ≤ slot_at i slot) × (slot_at i slot + 56 ≤ part_of i + 8192)
unfolding slot_at
slot_inside i slot h = (omega arith, omega arith)

pub slot_in_store : (i count slot bytes : ℕ) → i < count → 8192 * count ≤ bytes → slot < 146 → slot_at i slot + 56 ≤ bytes
slot_in_store i count slot bytes h s k = let a = part_inside i count bytes h s in let b = slot_inside i slot k in omega arith

-- two slots that are not the same do not overlap
abbrev pub Apart : ℕ → ℕ → Type 0
Apart a b = (a + 56 ≤ b) ⊎ (b + 56 ≤ a)

pub by_lt : {P : Type 0} (a b : ℕ) → (a < b → P) → (b ≤ a → P) → P
by_lt {P} a b y n = go (ltb a b) refl
  where
    go : (t : Bool) → ltb a b ≡ t → P
    go true e = y (ltb-true a b e)
    go false e = n (ltb-false a b e)

pub slots_apart : (i s j t : ℕ) → s < 146 → t < 146 → (i ≢ j) ⊎ (s ≢ t) → Apart (slot_at i s) (slot_at j t)
unfolding slot_at
slots_apart i s j t hs ht ne =
    by_lt i j (λ h. let a = parts_apart i j h in inl (omega arith))
    (λ h. by_lt j i (λ k. let a = parts_apart j i k in inr (omega arith))
    (λ k. let e : i ≡ j = omega arith in
    let p : part_of i ≡ part_of j = ap part_of e in
    let d : s ≢ t = ⊎_elim (λ n. absurd (n e)) (λ n. n) ne in
    by_lt s t (λ l. inl (omega arith)) (λ l. let m : s ≡ t → ⊥ = d in inr (omega arith))))

-- 3. a cell is written into a slot
module _ (store : List ℕ) (i s : ℕ) (hs : s < 146) (inside : Inside i (length store)) where
  room : slot_at i s + 56 ≤ length store
  room = let a = slot_inside i s hs in omega arith

  pub cell_length : length (cell_at store i s) ≡ 56
  unfolding cell_at
  cell_length = let r = room in length-take-le 56 (drop (slot_at i s) store) (rw length-drop (omega arith))

  module _ (cell : Cell) (whole : length cell ≡ 56) where
    fits : slot_at i s + length cell ≤ length store
    fits = let r = room in omega arith

    pub put_length : length (put_at store i s cell) ≡ length store
    unfolding put_at
    put_length = length_splice store (slot_at i s) cell fits

    -- it stands there
    pub put_here : cell_at (put_at store i s cell) i s ≡ cell
    unfolding cell_at put_at
    put_here = ap (part (splice store (slot_at i s) cell) (slot_at i s)) (sym whole) ∙ part_same store (slot_at i s) cell fits

    -- and every other slot is as it was
    pub put_other : (j t : ℕ) → t < 146 → (i ≢ j) ⊎ (s ≢ t) → cell_at (put_at store i s cell) j t ≡ cell_at store j t
    unfolding cell_at put_at
    put_other j t ht ne =
        ⊎_elim (λ h. part_after store (slot_at i s) cell fits (slot_at j t) 56 (omega arith)) (λ h. part_before store (slot_at i s) cell fits (slot_at j t) 56 h)
        (slots_apart i s j t hs ht ne)
