-- Which copies are lost unheard, and what a queued one may count on. Assumes nothing.
use Prim.Native.Nat.{ℕ, ◌+◌, ◌-◌, ◌≤◌, ◌<◌}
use native.Mathlib.Omega.{arith}
use mathlib.Core.Path.{◌≡◌, refl, sym, ap, subst}
use mathlib.Core.Bool.{Bool, true, false, cond}
use mathlib.Core.List.{List}
use lib.Dec.{eqb, ltb, leb}
use lib.ListN.{length, take, length-take}
use borrow.Author.Tests.{eqb-true, leb-false}
use Rattle.outlet.specs.Outlets.{capacity, queue}
use Rattle.bus.specs.Heard as frame
use Rattle.outlet.specs.Hearing.{fate}
use Rattle.outlet.specs.declared.Fate as F
use Rattle.outlet.specs.declared.Fate.TheVariants as fates
use Rattle.outlet.proofs.Fates.{queue_lt}
use Rattle.store.specs.Rings.{back, tail}
use Rattle.store.specs.Places.{slot_at, outlet_slot, control_out_slot, loopback_out_slot}
use Rattle.store.proofs.Rounds.{back_lt}
use Rattle.store.proofs.Slots.{by_lt, start_inside, slot_inside}
use Rattle.shelf.specs.Shelves.{number_of}
use Rattle.shelf.specs.declared.Unit as U
use Rattle.answer.specs.declared.Hearing as A
use Rattle.answer.specs.declared.Hearing.TheVariants.{Other, Wide, Full, Clp}
use Rattle.soundness.specs.Admission.{Housed}
use Rattle.hearing.specs.Hearings.{Plan, Queue, ToControl, ToLoopback, Lost, addressed, plan_for, plan_to, plan_in, plan_control, plan_loopback, plan_of}

-- a copy is queued in one of the four queues
plan_for_queue : (f : F.Fate) (p q : ℕ) → plan_for f p ≡ Queue q → p ≡ q
unfolding plan_for
plan_for_queue fates.Wide p q e = let z : ◌≡◌ {A = ℕ} 0 1 = cc in absurd (omega arith)
plan_for_queue fates.Full p q e = let z : ◌≡◌ {A = ℕ} 0 1 = cc in absurd (omega arith)
plan_for_queue fates.Clp p q e = let z : ◌≡◌ {A = ℕ} 0 1 = cc in absurd (omega arith)
plan_for_queue fates.Queued p q e = cc

-- a copy that is held beside the data queues has room there
pub planned_in : (b : Bool) (most count : ℕ) (p plan : Plan) → ((fate : A.Hearing) → Lost fate ≡ plan → ⊥) → cond b (plan_in most count p) (Lost Other) ≡ plan → (p ≡ plan) × (count < most)
unfolding plan_in
planned_in false most count p plan held e = absurd (held Other e)
planned_in true most count p plan held e = pick (leb most count) refl e
  where
    pick : (b : Bool) → leb most count ≡ b → cond b (Lost Full) p ≡ plan → (p ≡ plan) × (count < most)
    pick true t e = absurd (held Full e)
    pick false t e = (e, leb-false most count t)

pub plan_queue : (u : U.Unit) (h : frame.Heard) (q : ℕ) → plan_of u h ≡ Queue q → q < 4
unfolding plan_of
plan_queue u frame.Length q e = let z : ◌≡◌ {A = ℕ} 0 1 = cc in absurd (omega arith)
plan_queue u frame.Damaged q e = let z : ◌≡◌ {A = ℕ} 0 1 = cc in absurd (omega arith)
plan_queue u (frame.Cell target class header) q e = pick (addressed u target) e
  where
    pick : (b : Bool) → cond b (plan_to u class header) (Lost Other) ≡ Queue q → q < 4
    pick true e = subst (λ n. n < 4) (plan_for_queue (fate u.outlet u.settings.link class header) _ q e) (queue_lt u.outlet.limits class)
    pick false e = let z : ◌≡◌ {A = ℕ} 0 1 = cc in absurd (omega arith)
plan_queue u (frame.Control unit) q e =
    let x = (planned_in (eqb (number_of u) unit) 4 u.side.controlout.count ToControl (Queue q) (λ f k. let z : ◌≡◌ {A = ℕ} 0 1 = cc in absurd (omega arith)) e).0 in
    let z : ◌≡◌ {A = ℕ} 0 1 = cc in
    absurd (omega arith)
plan_queue u (frame.Loopback unit) q e =
    let x = (planned_in (eqb (number_of u) unit) 1 u.side.loopbackout ToLoopback (Queue q) (λ f k. let z : ◌≡◌ {A = ℕ} 0 1 = cc in absurd (omega arith)) e).0 in
    let z : ◌≡◌ {A = ℕ} 0 1 = cc in
    absurd (omega arith)

-- only a control cell goes into the control outlet, only a loopback cell into the loopback outlet, and where there is room
plan_for_beside : (f : F.Fate) (q : ℕ) (b : Bool) (plan : Plan) → ((fate : A.Hearing) → Lost fate ≡ plan → ⊥) → ((q : ℕ) → Queue q ≡ plan → ⊥) → cond b (plan_for f q) (Lost Other) ≡ plan → ⊥
unfolding plan_for
plan_for_beside f q false plan held beside e = held Other e
plan_for_beside fates.Wide q true plan held beside e = held Wide e
plan_for_beside fates.Full q true plan held beside e = held Full e
plan_for_beside fates.Clp q true plan held beside e = held Clp e
plan_for_beside fates.Queued q true plan held beside e = beside q e

pub plan_control_lem : (u : U.Unit) (h : frame.Heard) → plan_of u h ≡ ToControl → (h ≡ frame.Control (number_of u)) × (u.side.controlout.count < 4)
unfolding plan_of
plan_control_lem u frame.Length e = let z : ◌≡◌ {A = ℕ} 0 1 = cc in absurd (omega arith)
plan_control_lem u frame.Damaged e = let z : ◌≡◌ {A = ℕ} 0 1 = cc in absurd (omega arith)
plan_control_lem u (frame.Cell target class header) e =
    absurd
    (plan_for_beside (fate u.outlet u.settings.link class header) _ (addressed u target) ToControl (λ f k. let z : ◌≡◌ {A = ℕ} 0 1 = cc in absurd (omega arith))
    (λ q k. let z : ◌≡◌ {A = ℕ} 0 1 = cc in absurd (omega arith)) e)
plan_control_lem u (frame.Control unit) e = pick (eqb (number_of u) unit) refl e
  where
    pick : (b : Bool) → eqb (number_of u) unit ≡ b → cond b (plan_control u) (Lost Other) ≡ ToControl → (frame.Control unit ≡ frame.Control (number_of u)) × (u.side.controlout.count < 4)
    pick true t e =
        (ap frame.Control (sym (eqb-true (number_of u) unit t)), (planned_in true 4 u.side.controlout.count ToControl ToControl (λ f k. let z : ◌≡◌ {A = ℕ} 0 1 = cc in absurd (omega arith)) e).1)
    pick false t e = let z : ◌≡◌ {A = ℕ} 0 1 = cc in absurd (omega arith)
plan_control_lem u (frame.Loopback unit) e =
    let x = (planned_in (eqb (number_of u) unit) 1 u.side.loopbackout ToLoopback ToControl (λ f k. let z : ◌≡◌ {A = ℕ} 0 1 = cc in absurd (omega arith)) e).0 in
    let z : ◌≡◌ {A = ℕ} 0 1 = cc in
    absurd (omega arith)

pub plan_loopback_lem : (u : U.Unit) (h : frame.Heard) → plan_of u h ≡ ToLoopback → (h ≡ frame.Loopback (number_of u)) × (u.side.loopbackout < 1)
unfolding plan_of
plan_loopback_lem u frame.Length e = let z : ◌≡◌ {A = ℕ} 0 1 = cc in absurd (omega arith)
plan_loopback_lem u frame.Damaged e = let z : ◌≡◌ {A = ℕ} 0 1 = cc in absurd (omega arith)
plan_loopback_lem u (frame.Cell target class header) e =
    absurd
    (plan_for_beside (fate u.outlet u.settings.link class header) _ (addressed u target) ToLoopback (λ f k. let z : ◌≡◌ {A = ℕ} 0 1 = cc in absurd (omega arith))
    (λ q k. let z : ◌≡◌ {A = ℕ} 0 1 = cc in absurd (omega arith)) e)
plan_loopback_lem u (frame.Control unit) e =
    let x = (planned_in (eqb (number_of u) unit) 4 u.side.controlout.count ToControl ToLoopback (λ f k. let z : ◌≡◌ {A = ℕ} 0 1 = cc in absurd (omega arith)) e).0 in
    let z : ◌≡◌ {A = ℕ} 0 1 = cc in
    absurd (omega arith)
plan_loopback_lem u (frame.Loopback unit) e = pick (eqb (number_of u) unit) refl e
  where
    pick : (b : Bool) → eqb (number_of u) unit ≡ b → cond b (plan_loopback u) (Lost Other) ≡ ToLoopback → (frame.Loopback unit ≡ frame.Loopback (number_of u)) × (u.side.loopbackout < 1)
    pick true t e =
        (ap frame.Loopback (sym (eqb-true (number_of u) unit t)), (planned_in true 1 u.side.loopbackout ToLoopback ToLoopback (λ f k. let z : ◌≡◌ {A = ℕ} 0 1 = cc in absurd (omega arith)) e).1)
    pick false t e = let z : ◌≡◌ {A = ℕ} 0 1 = cc in absurd (omega arith)

-- the next place of a queue lies in the store
back_le : (cap p : ℕ) → back cap p ≤ p
unfolding back
back_le cap p = pick (ltb p cap)
  where
    pick : (b : Bool) → cond b p (p - cap) ≤ p
    pick true = omega arith
    pick false = omega arith

pub slot_below : (place bytes : ℕ) (u : U.Unit) (q : ℕ) → Housed place u bytes → q < 4 → outlet_slot u.outlet.limits q (tail (queue u.outlet q) (capacity u.outlet.limits q)) < 146
unfolding tail
slot_below place bytes u q h few =
    let ring = queue u.outlet q in
    let cap = capacity u.outlet.limits q in
    let fits = h.queues.each q few in
    let start = start_inside u.outlet.limits q h.limits few in
    let low = back_le cap (ring.head + ring.count) in
    by_lt 0 cap
    (λ some. omega (arith, start, back_lt cap (ring.head + ring.count) (omega (arith, fits.place some, fits.held))))
    (λ none. let z : cap ≡ 0 = omega arith in omega (arith, start, low, fits.nowhere z, fits.held))

pub outlet_inside : (place bytes : ℕ) (u : U.Unit) (q : ℕ) → Housed place u bytes → q < 4 →
    slot_at place (outlet_slot u.outlet.limits q (tail (queue u.outlet q) (capacity u.outlet.limits q))) + 56 ≤ bytes
outlet_inside place bytes u q h few =
    omega (arith, (slot_inside place (outlet_slot u.outlet.limits q (tail (queue u.outlet q) (capacity u.outlet.limits q))) (slot_below place bytes u q h few)).1, h.inside)

-- so do those of the control outlet and the loopback outlet
pub control_below : (place bytes : ℕ) (u : U.Unit) → Housed place u bytes → control_out_slot (tail u.side.controlout 4) < 146
unfolding tail
control_below place bytes u h =
    let ring = u.side.controlout in
    let fits = h.side.controlout in
    omega (arith, back_lt 4 (ring.head + ring.count) (omega (arith, fits.place (omega arith), fits.held)))

pub control_inside : (place bytes : ℕ) (u : U.Unit) → Housed place u bytes → slot_at place (control_out_slot (tail u.side.controlout 4)) + 56 ≤ bytes
control_inside place bytes u h = omega (arith, (slot_inside place (control_out_slot (tail u.side.controlout 4)) (control_below place bytes u h)).1, h.inside)

pub loopback_inside : (place bytes : ℕ) (u : U.Unit) → Housed place u bytes → slot_at place loopback_out_slot + 56 ≤ bytes
loopback_inside place bytes u h = omega (arith, (slot_inside place loopback_out_slot (omega arith)).1, h.inside)

-- the 56 bytes before parity
pub before_parity : (f : List ℕ) → length f ≡ 57 → length (take 56 f) ≡ 56
before_parity f e = omega (arith, length-take 56 f, e)
