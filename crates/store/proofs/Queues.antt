-- The queues of the units of a store: a cell that is written past the newest of a queue is its last, and every other queue is as it was.
-- Assumes nothing.
use mathlib.Core.Path.{◌≡◌, refl, ap, ◌∙◌}
use mathlib.Core.Logic.{◌≢◌, ◌⊎◌, inl, inr, ⊎_elim}
use mathlib.Core.List.{List, [], ◌∷◌, ◌++◌}
use Prim.Native.Nat.{ℕ, ◌+◌, ◌≤◌, ◌<◌}
use native.Mathlib.Nat.{add-zero}
use native.Mathlib.Omega.{arith}
use lib.ListN.{length}
use Rattle.outlet.specs.Outlets.{capacity, Given, RingFits}
use Rattle.outlet.specs.declared.Limits.{Limits}
use Rattle.outlet.specs.declared.Ring.{Ring}
use Rattle.store.specs.Rings.{tail, pushed, popped, queue}
use Rattle.store.specs.Places.{Inside, start, outlet_slot, inlet_slot, Cell, cell_at, put_at, cells, outlet_cells, inlet_cells, single, single_cells}
use Rattle.store.proofs.Slots.{by_lt, start_below, start_inside, slot_below, put_here, put_other}
use Rattle.store.proofs.Rounds.{tail_lt, length_queue, ring_kept, ring_pushed, ring_popped}

-- 1. any ring of slots
pub length_cells : (store : List ℕ) (i base cap : ℕ) (ring : Ring) → length (cells store i base cap ring) ≡ ring.count
unfolding cells
length_cells store i base cap ring = length_queue (λ p. cell_at store i (base + p)) cap ring.head ring.count

pub cells_popped : (store : List ℕ) (i base cap : ℕ) (ring : Ring) → 0 < ring.count → cells store i base cap ring ≡ cell_at store i (base + ring.head) ∷ cells store i base cap (popped ring cap)
unfolding cells
cells_popped store i base cap ring h = ring_popped cap ring (λ p. cell_at store i (base + p)) h

module _ (i base cap : ℕ) (fits : base + cap ≤ 146) (ring : Ring) (fit : RingFits ring cap) (store : List ℕ) (cell : Cell) (whole : length cell ≡ 56) where
  pub cells_pushed : Inside i (length store) → ring.count < cap → cells (put_at store i (base + tail ring cap) cell) i base cap (pushed ring) ≡ cells store i base cap ring ++ (cell ∷ [])
  unfolding cells
  cells_pushed inside room =
      let l = tail_lt cap (omega arith) ring fit (omega arith) in
      let s = base + tail ring cap in
      ring_pushed cap (omega arith) ring fit (λ p. cell_at store i (base + p)) (λ p. cell_at (put_at store i s cell) i (base + p)) cell room
      (put_here store i s (omega arith) inside cell whole)
      (λ k hk ne. put_other store i s (omega arith) inside cell whole i (base + k) (omega arith) (inr (λ e. ne (omega arith))))

  -- the slot that is written is another unit's, or none of the ring's
  pub cells_kept : (j s : ℕ) → s < 146 → Inside j (length store) → (j ≢ i) ⊎ ((s < base) ⊎ (base + cap ≤ s)) → cells (put_at store j s cell) i base cap ring ≡ cells store i base cap ring
  unfolding cells
  cells_kept j s hs inside other =
      ring_kept cap (omega arith) ring fit (λ p. cell_at store i (base + p)) (λ p. cell_at (put_at store j s cell) i (base + p))
      (λ k hk. put_other store j s hs inside cell whole i (base + k) (omega arith)
      (⊎_elim (λ n. inl n) (λ w. inr (λ e. ⊎_elim (λ a. omega arith) (λ a. omega arith) w)) other))

-- 2. the queues of an outlet. The oldest cell of queue q
pub outlet_popped : (store : List ℕ) (i : ℕ) (limits : Limits) (q : ℕ) (ring : Ring) → 0 < ring.count →
    outlet_cells store i limits q ring ≡ cell_at store i (outlet_slot limits q ring.head) ∷ outlet_cells store i limits q (popped ring (capacity limits q))
outlet_popped store i limits q ring h = cells_popped store i (start limits q) (capacity limits q) ring h

module _ (i : ℕ) (limits : Limits) (given : Given limits) (q : ℕ) (hq : q < 4) (ring : Ring) (fit : RingFits ring (capacity limits q)) (store : List ℕ) (cell : Cell) (whole : length cell ≡ 56) where
  -- a cell goes into queue q
  pub outlet_pushed : Inside i (length store) → ring.count < capacity limits q →
      outlet_cells (put_at store i (outlet_slot limits q (tail ring (capacity limits q))) cell) i limits q (pushed ring) ≡ outlet_cells store i limits q ring ++ (cell ∷ [])
  outlet_pushed inside room =
      let b = start_inside limits q given hq in
      cells_pushed i (start limits q) (capacity limits q) (omega arith) ring fit store cell whole inside room

  -- one goes into another queue of the unit, behind its outlet (into its inlet, or a place beside the data queues), into another unit
  pub outlet_beside : Inside i (length store) → (r p : ℕ) → r < 4 → p < capacity limits r → q ≢ r →
      outlet_cells (put_at store i (outlet_slot limits r p) cell) i limits q ring ≡ outlet_cells store i limits q ring
  outlet_beside inside r p hr hp ne =
      let b = start_inside limits q given hq in
      let d = start_inside limits r given hr in
      cells_kept i (start limits q) (capacity limits q) (omega arith) ring fit store cell whole i (outlet_slot limits r p) (omega arith) inside
      (inr
      (by_lt q r (λ h. let a = start_below limits q r given h (omega arith) in inr (omega arith)) (λ h. let a = start_below limits r q given (omega arith) (omega arith) in inl (omega arith))))

  pub outlet_behind : Inside i (length store) → (s : ℕ) → 123 ≤ s → s < 146 → outlet_cells (put_at store i s cell) i limits q ring ≡ outlet_cells store i limits q ring
  outlet_behind inside s least most =
      let b = start_inside limits q given hq in
      cells_kept i (start limits q) (capacity limits q) (omega arith) ring fit store cell whole i s most inside (inr (inr (omega arith)))

  pub outlet_above : Inside i (length store) → (p : ℕ) → p < 4 → outlet_cells (put_at store i (inlet_slot p) cell) i limits q ring ≡ outlet_cells store i limits q ring
  outlet_above inside p hp = outlet_behind inside (inlet_slot p) (omega arith) (omega arith)

  pub outlet_elsewhere : (j s : ℕ) → s < 146 → Inside j (length store) → j ≢ i → outlet_cells (put_at store j s cell) i limits q ring ≡ outlet_cells store i limits q ring
  outlet_elsewhere j s hs there ne =
      let b = start_inside limits q given hq in
      cells_kept i (start limits q) (capacity limits q) (omega arith) ring fit store cell whole j s hs there (inl ne)

-- a cell that goes into a queue of the outlet leaves every ring behind the outlet as it was
pub cells_below : (i base cap : ℕ) → 123 ≤ base → base + cap ≤ 146 → (ring : Ring) → RingFits ring cap → (store : List ℕ) (cell : Cell) → length cell ≡ 56 → Inside i (length store) →
    (limits : Limits) → Given limits → (r p : ℕ) → r < 4 → p < capacity limits r → cells (put_at store i (outlet_slot limits r p) cell) i base cap ring ≡ cells store i base cap ring
cells_below i base cap high fits ring fit store cell whole inside limits given r p hr hp =
    let d = slot_below limits r p given hr hp in
    cells_kept i base cap fits ring fit store cell whole i (outlet_slot limits r p) (omega arith) inside (inr (inl (omega arith)))

-- 3. the inlet
pub inlet_popped : (store : List ℕ) (i : ℕ) (ring : Ring) → 0 < ring.count → inlet_cells store i ring ≡ cell_at store i (inlet_slot ring.head) ∷ inlet_cells store i (popped ring 4)
inlet_popped store i ring h = cells_popped store i 123 4 ring h

module _ (i : ℕ) (ring : Ring) (fit : RingFits ring 4) (store : List ℕ) (cell : Cell) (whole : length cell ≡ 56) where
  pub inlet_pushed : Inside i (length store) → ring.count < 4 → inlet_cells (put_at store i (inlet_slot (tail ring 4)) cell) i (pushed ring) ≡ inlet_cells store i ring ++ (cell ∷ [])
  inlet_pushed inside room = cells_pushed i 123 4 (omega arith) ring fit store cell whole inside room

  pub inlet_below : Inside i (length store) → (limits : Limits) → Given limits → (r p : ℕ) → r < 4 → p < capacity limits r →
      inlet_cells (put_at store i (outlet_slot limits r p) cell) i ring ≡ inlet_cells store i ring
  inlet_below inside limits given r p hr hp =
      cells_below i 123 4 (omega arith) (omega arith) ring fit store cell whole inside limits given r p hr hp

  pub inlet_elsewhere : (j s : ℕ) → s < 146 → Inside j (length store) → j ≢ i → inlet_cells (put_at store j s cell) i ring ≡ inlet_cells store i ring
  inlet_elsewhere j s hs there ne = cells_kept i 123 4 (omega arith) ring fit store cell whole j s hs there (inl ne)

-- 4. a single place is a ring of one: none there, one there, one put there. The laws of any ring say what leaves it as it was
pub single_fits : (count : ℕ) → count ≤ 1 → RingFits (single count) 1
single_fits count h = record { place = λ z. omega arith; nowhere = λ z. refl; held = h }

pub single_none : (store : List ℕ) (i slot : ℕ) → single_cells store i slot 0 ≡ []
unfolding cells queue
single_none store i slot = refl

pub single_one : (store : List ℕ) (i slot : ℕ) → single_cells store i slot 1 ≡ cell_at store i slot ∷ []
unfolding cells queue
single_one store i slot = ap (λ s. cell_at store i s ∷ []) (add-zero slot)

pub single_put : (store : List ℕ) (i slot : ℕ) (cell : Cell) → slot < 146 → Inside i (length store) → length cell ≡ 56 → single_cells (put_at store i slot cell) i slot 1 ≡ cell ∷ []
single_put store i slot cell few inside whole = single_one (put_at store i slot cell) i slot ∙ ap (λ c. c ∷ []) (put_here store i slot few inside cell whole)
