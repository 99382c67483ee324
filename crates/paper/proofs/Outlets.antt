-- What the code's rooms say of queues and the store is what the paper says. Assumes nothing.
use Prim.Native.Nat.{ℕ, zero, suc, ◌+◌, ◌-◌, ◌<◌, ◌≤◌, min}
use native.Mathlib.Nat.{mod-eq_of_lt}
use native.Mathlib.Omega.{arith}
use mathlib.Core.Path.{◌≡◌, refl, sym, subst}
use mathlib.Core.Logic.{◌↔◌}
use mathlib.Core.List.{List}
use lib.ListN.{length, get_or}
use Rattle.outlet.specs.Outlets as outlet
use Rattle.outlet.specs.declared.Mode.{Mode}
use Rattle.outlet.specs.declared.Mode.TheVariants.{One, Four}
use Rattle.outlet.specs.declared.Limits.{Limits}
use Rattle.outlet.specs.declared.Ring.{Ring}
use Rattle.outlet.specs.Hearing as hearing
use Rattle.store.specs.Rings as rings
use Rattle.store.specs.Places as places
use Rattle.paper.specs.Outlets.{queues_in, queues, number_for, nowhere, AtLimit, slot_at, cell_at, behind, longer, shorter}

-- the queue of a class
pub number_is : (limits : Limits) (class : ℕ) → class < 4 → hearing.queue_of limits class ≡ number_for limits.mode class
unfolding hearing.queue_of
number_is limits class h = by limits.mode
  where
    by : (mode : Mode) → hearing.queue_in mode class ≡ number_for mode class
    by One = refl
    by Four = mod-eq_of_lt h

-- its capacity; a queue that the mode does not have holds nothing
capacity_in : (mode : Mode) (l c v q : ℕ) → get_or (outlet.capacities mode l) q 0 ≡ (get_or (queues_in mode l c v) q nowhere).capacity
capacity_in One l c v zero = refl
capacity_in One l c v (suc zero) = refl
capacity_in One l c v (suc (suc zero)) = refl
capacity_in One l c v (suc (suc (suc zero))) = refl
capacity_in One l c v (suc (suc (suc (suc q)))) = refl
capacity_in Four l c v zero = refl
capacity_in Four l c v (suc zero) = refl
capacity_in Four l c v (suc (suc zero)) = refl
capacity_in Four l c v (suc (suc (suc zero))) = refl
capacity_in Four l c v (suc (suc (suc (suc q)))) = refl

pub capacity_is : (limits : Limits) (q : ℕ) → outlet.capacity limits q ≡ (get_or (queues limits) q nowhere).capacity
unfolding outlet.capacity
capacity_is limits q = capacity_in limits.mode limits.cbrlength limits.cbrlimit limits.vbrlimit q

-- its first slot
first_in : (mode : Mode) (l c v q : ℕ) → q < length (queues_in mode l c v) → get_or (places.starts mode l) q 123 ≡ (get_or (queues_in mode l c v) q nowhere).first
first_in One l c v zero h = refl
first_in One l c v (suc q) h = absurd (omega arith)
first_in Four l c v zero h = refl
first_in Four l c v (suc zero) h = refl
first_in Four l c v (suc (suc zero)) h = refl
first_in Four l c v (suc (suc (suc zero))) h = refl
first_in Four l c v (suc (suc (suc (suc q)))) h = absurd (omega arith)

pub first_is : (limits : Limits) (q : ℕ) → q < length (queues limits) → places.start limits q ≡ (get_or (queues limits) q nowhere).first
unfolding places.start
first_is limits q h = first_in limits.mode limits.cbrlength limits.cbrlimit limits.vbrlimit q h

-- its limit, where the queue is below its capacity: there a queue without a limit is below it
limit_in : (mode : Mode) (l c v q n : ℕ) → q < length (queues_in mode l c v) → n < (get_or (queues_in mode l c v) q nowhere).capacity →
    (hearing.limit_of mode c v (get_or (queues_in mode l c v) q nowhere).capacity q ≤ n) ↔ AtLimit (get_or (queues_in mode l c v) q nowhere).limit n
limit_in One l c v zero n h b = (λ x. x, λ x. x)
limit_in One l c v (suc q) n h b = absurd (omega arith)
limit_in Four l c v zero n h b = (λ x. omega arith, λ x. absurd x)
limit_in Four l c v (suc zero) n h b = (λ x. x, λ x. x)
limit_in Four l c v (suc (suc zero)) n h b = (λ x. x, λ x. x)
limit_in Four l c v (suc (suc (suc zero))) n h b = (λ x. omega arith, λ x. absurd x)
limit_in Four l c v (suc (suc (suc (suc q)))) n h b = absurd (omega arith)

pub limit_iff : (limits : Limits) (q n : ℕ) → q < length (queues limits) → n < outlet.capacity limits q → (hearing.limit limits q ≤ n) ↔ AtLimit (get_or (queues limits) q nowhere).limit n
unfolding hearing.limit
limit_iff limits q n h b =
    subst (λ k. (hearing.limit_of limits.mode limits.cbrlimit limits.vbrlimit k q ≤ n) ↔ AtLimit (get_or (queues limits) q nowhere).limit n) (sym (capacity_is limits q))
    (limit_in limits.mode limits.cbrlength limits.cbrlimit limits.vbrlimit q n h (subst (λ k. n < k) (capacity_is limits q) b))

-- the store
pub slot_is : (place slot : ℕ) → places.slot_at place slot ≡ slot_at place slot
unfolding places.slot_at places.part_of
slot_is place slot = refl

pub cell_is : (store : List ℕ) (place slot : ℕ) → places.cell_at store place slot ≡ cell_at store place slot
unfolding places.cell_at places.slot_at places.part_of
cell_is store place slot = refl

-- a ring
pub behind_is : (ring : Ring) (capacity : ℕ) → rings.tail ring capacity < 255 → rings.tail ring capacity ≡ behind ring capacity
unfolding rings.tail rings.back
behind_is ring capacity h = small (behind ring capacity) h
  where
    small : (x : ℕ) → min x 255 < 255 → min x 255 ≡ x
    small x g = omega arith

pub longer_is : (ring : Ring) → ring.count < 255 → rings.pushed ring ≡ longer ring
unfolding rings.pushed
longer_is ring h = λ i. record { head = ring.head; count = more i }
  where
    more : min (ring.count + 1) 255 ≡ ring.count + 1
    more = omega arith

pub shorter_is : (ring : Ring) (capacity : ℕ) → rings.popped ring capacity ≡ shorter ring capacity
unfolding rings.popped rings.next
shorter_is ring capacity = refl
