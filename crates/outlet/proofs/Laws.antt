-- What a capacity is, what the tests of an outlet say, and that a fresh outlet passes them. Assumes nothing.
use mathlib.Core.Path.{◌≡◌, refl, sym, subst, ◌∙◌}
use mathlib.Core.Bool.{Bool, true, false, ◌&&◌}
use mathlib.Core.Logic.{◌↔◌}
use mathlib.Core.List.{List, map}
use Prim.Native.Nat.{ℕ, zero, suc, ◌+◌, ◌-◌, ◌<◌}
use native.Mathlib.Omega.{arith}
use lib.Dec.{leb, ltb, eqb-suc-zero}
use lib.ListN.{length, get_or, length-map}
use borrow.Author.Tests.{ne_eqb}
use Rattle.outlet.proofs.Truth.{le_iff, lt_iff, eq_iff, and_iff}
use Rattle.outlet.specs.Outlets.{capacities, capacity, given_in, given, GivenIn, Given, within, nothing, ring_fits, RingFits, queue_fits, rings_fit, outlet_fits, RingsFit, empty, queue, fresh, one, four}
use Rattle.outlet.specs.declared.Mode.{Mode}
use Rattle.outlet.specs.declared.Mode.TheVariants.{One, Four}
use Rattle.outlet.specs.declared.Limits.{Limits}
use Rattle.outlet.specs.declared.Ring.{Ring}
use Rattle.outlet.specs.declared.Outlet.{Outlet}

-- the length of an array of structs, as the code's relation has it
pub length_mapped : (X Y : Type 0) (f : X → Y) (l : List X) (n : ℕ) → length (map f l) ≡ n → length l ≡ n
length_mapped X Y f l n p = sym (length-map l f) ∙ p

-- in mode one there is one queue, and in mode four there are four
pub one_other : (l q : ℕ) → (q ≡ 0 → ⊥) → get_or (capacities One l) q 0 ≡ 0
one_other l zero h = absurd (h refl)
one_other l (suc zero) h = refl
one_other l (suc (suc zero)) h = refl
one_other l (suc (suc (suc zero))) h = refl
one_other l (suc (suc (suc (suc q)))) h = refl

-- the limits that a `unit` line gives
given_in_iff : (mode : Mode) (l c v : ℕ) → (given_in mode l c v ≡ true) ↔ GivenIn mode l c v
given_in_iff One l c v =
    let e = and_iff (and_iff (eq_iff l 0) (eq_iff c 0)) (and_iff (le_iff 1 v) (le_iff v 123)) in
    (λ t. let w = e.0 t in (w.0.0, w.0.1, w.1.0, w.1.1), λ w. e.1 ((w.0, w.1), (w.2, w.3)))
given_in_iff Four l c v =
    let e = and_iff (and_iff (and_iff (le_iff 1 l) (le_iff l 88)) (and_iff (le_iff 1 c) (le_iff c l))) (and_iff (le_iff 1 v) (le_iff v (89 - l))) in (
      λ t. let w = e.0 t in (w.0.0.0, w.0.0.1, w.0.1.0, w.0.1.1, w.1.0, w.1.1),
      λ w. e.1 (((w.0, w.1), (w.2, w.3)), (w.4, w.5)),
    )

pub given_iff : (limits : Limits) → (given limits ≡ true) ↔ Given limits
unfolding given
given_iff limits = given_in_iff limits.mode limits.cbrlength limits.cbrlimit limits.vbrlimit

-- with such limits the queues of an outlet hold 123 cells in all
all_in : (mode : Mode) (l c v : ℕ) → GivenIn mode l c v → get_or (capacities mode l) 0 0 + get_or (capacities mode l) 1 0 + get_or (capacities mode l) 2 0 + get_or (capacities mode l) 3 0 ≡ 123
all_in One l c v g = refl
all_in Four l c v g = omega arith

pub capacity_all : (limits : Limits) → Given limits → capacity limits 0 + capacity limits 1 + capacity limits 2 + capacity limits 3 ≡ 123
unfolding capacity
capacity_all limits g = all_in limits.mode limits.cbrlength limits.cbrlimit limits.vbrlimit g

-- the test of a ring as a fact
pub fits_iff : (ring : Ring) (k : ℕ) → (ring_fits ring k ≡ true) ↔ RingFits ring k
unfolding ring_fits
fits_iff ring zero =
    let e = and_iff (eq_iff ring.head 0) (eq_iff ring.count 0) in
    (λ t. let w = e.0 t in record { place = λ h. omega arith; nowhere = λ h. w.0; held = omega arith }, λ f. e.1 (f.nowhere refl, omega (arith, f.held)))
fits_iff ring (suc n) =
    let e = and_iff (lt_iff ring.head (suc n)) (le_iff ring.count (suc n)) in
    let r : ring_fits ring (suc n) ≡ (ltb ring.head (suc n) && leb ring.count (suc n)) = rw (eqb-suc-zero n) in
    (λ t. let w = e.0 (sym r ∙ t) in record { place = λ h. w.0; nowhere = λ h. omega arith; held = w.1 }, λ f. r ∙ e.1 (f.place (omega arith), f.held))

-- the test of the rings of an outlet, and that a fresh one passes
pub rings_iff : (outlet : Outlet) → (rings_fit outlet ≡ true) ↔ RingsFit outlet
unfolding rings_fit queue_fits
rings_iff outlet =
    let f : (q : ℕ) → (ring_fits (queue outlet q) (capacity outlet.limits q) ≡ true) ↔ RingFits (queue outlet q) (capacity outlet.limits q) =
    λ q. fits_iff (queue outlet q) (capacity outlet.limits q) in
    let e = and_iff (and_iff (and_iff (f 0) (f 1)) (f 2)) (f 3) in (
      λ t. let w = e.0 t in
          record {
            each = λ q. elim q as (λ k. k < 4 → RingFits (queue outlet k) (capacity outlet.limits k)) [
              | zero ↦ λ h. w.0.0.0
              | suc zero ↦ λ h. w.0.0.1
              | suc (suc zero) ↦ λ h. w.0.1
              | suc (suc (suc zero)) ↦ λ h. w.1
              | suc (suc (suc (suc n))) ↦ λ h. absurd (omega arith)
            ];
          },
      λ r. e.1 (((r.each 0 (omega arith), r.each 1 (omega arith)), r.each 2 (omega arith)), r.each 3 (omega arith)),
    )

pub empty_fits : (k : ℕ) → RingFits empty k
empty_fits k = record { place = λ h. h; nowhere = λ h. refl; held = omega arith }

pub fresh_fits : (limits : Limits) → rings_fit (fresh limits) ≡ true
fresh_fits limits =
    (rings_iff (fresh limits)).1
    (record {
      each = λ q. elim q as (λ k. k < 4 → RingFits (queue (fresh limits) k) (capacity limits k)) [
        | zero ↦ λ h. empty_fits (capacity limits 0)
        | suc zero ↦ λ h. empty_fits (capacity limits 1)
        | suc (suc zero) ↦ λ h. empty_fits (capacity limits 2)
        | suc (suc (suc zero)) ↦ λ h. empty_fits (capacity limits 3)
        | suc (suc (suc (suc n))) ↦ λ h. absurd (omega arith)
      ];
    })

-- an outlet in each mode, as the code tests it
fits_within : (ring : Ring) (k : ℕ) → 0 < k → ring_fits ring k ≡ within ring k
unfolding ring_fits
fits_within ring k h = rw (ne_eqb k 0 (λ e. omega arith))

guarded : (b x y : Bool) → (b ≡ true → x ≡ y) → (b && x) ≡ (b && y)
guarded true x y h = h refl
guarded false x y h = refl

pub fits_one : (outlet : Outlet) → outlet.limits.mode ≡ One → (given outlet.limits && (within (queue outlet 0) 123 && nothing (queue outlet 1) && nothing (queue outlet 2) && nothing (queue outlet 3))) ≡ outlet_fits outlet
unfolding outlet_fits rings_fit queue_fits capacity ring_fits
fits_one outlet e = rw e

pub fits_four : (outlet : Outlet) → outlet.limits.mode ≡ Four → (given outlet.limits && (within (queue outlet 0) 2 && within (queue outlet 1) outlet.limits.cbrlength && within (queue outlet 2) (89 - outlet.limits.cbrlength) && within (queue outlet 3) 32)) ≡ outlet_fits outlet
unfolding outlet_fits rings_fit queue_fits capacity
fits_four outlet e =
    let l = outlet.limits.cbrlength in
    guarded (given outlet.limits) _ (rings_fit outlet)
    (λ t.
    let g : GivenIn Four l outlet.limits.cbrlimit outlet.limits.vbrlimit = rw e at ((given_iff outlet.limits).0 t) in
    rw e
    (sym
    (λ i. fits_within (queue outlet 0) 2 (omega arith) i && fits_within (queue outlet 1) l (omega arith) i
    && fits_within (queue outlet 2) (89 - l) (omega arith) i && fits_within (queue outlet 3) 32 (omega arith) i)))

-- a fresh outlet is the one of its mode
pub fresh_one : (limits : Limits) → limits.mode ≡ One → Given limits → one limits.vbrlimit limits.mark ≡ fresh limits
fresh_one limits m g =
    let none : GivenIn One limits.cbrlength limits.cbrlimit limits.vbrlimit = subst (λ mode. GivenIn mode limits.cbrlength limits.cbrlimit limits.vbrlimit) m g in
    λ i. fresh (record { mode = sym m i; cbrlength = sym none.0 i; cbrlimit = sym none.1 i; vbrlimit = limits.vbrlimit; mark = limits.mark })

pub fresh_four : (limits : Limits) → limits.mode ≡ Four → four limits.cbrlength limits.cbrlimit limits.vbrlimit limits.mark ≡ fresh limits
fresh_four limits m =
    λ i. fresh (record { mode = sym m i; cbrlength = limits.cbrlength; cbrlimit = limits.cbrlimit; vbrlimit = limits.vbrlimit; mark = limits.mark })
