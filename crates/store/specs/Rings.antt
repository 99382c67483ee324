-- A ring of places as a queue: the steps of a ring, and the things that stand in its places, the oldest first. Assumes nothing.
use Rattle.std.specs.Prelude.{ℕ, zero, suc, ◌+◌, ◌-◌, min, cond, List, [], ◌∷◌, ltb}
use Rattle.outlet.specs.declared.Ring.{Ring}

-- a place past the end of a ring comes back to its start
unfoldable pub back : ℕ → ℕ → ℕ
back capacity p = cond (ltb p capacity) p (p - capacity)

-- the place after a place: after the last comes the first
unfoldable pub next : ℕ → ℕ → ℕ
next capacity p = cond (ltb (p + 1) capacity) (p + 1) 0

-- where the next cell goes; one cell more; without the oldest cell. What no byte holds is 255: no ring has so many places
unfoldable pub tail : Ring → ℕ → ℕ
tail ring capacity = min (back capacity (ring.head + ring.count)) 255

unfoldable pub pushed : Ring → Ring
pushed ring = record { head = ring.head; count = min (ring.count + 1) 255 }

unfoldable pub popped : Ring → ℕ → Ring
popped ring capacity = record { head = next capacity ring.head; count = ring.count - 1 }

-- the oldest n things from a place of a ring on; `at` says what stands in a place
unfoldable pub queue : {A : Type 0} → (ℕ → A) → ℕ → ℕ → ℕ → List A
queue at capacity head zero = []
queue at capacity head (suc n) = at head ∷ queue at capacity (next capacity head) n

-- the things in a ring
abbrev pub in_ring : {A : Type 0} → (ℕ → A) → ℕ → Ring → List A
in_ring at capacity ring = queue at capacity ring.head ring.count
