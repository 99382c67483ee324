-- A copy of a cell at a unit: what it leaves of the unit and of the store. Assumes nothing.
use Prim.Native.Nat.{ℕ, ◌+◌, ◌<◌, ◌≤◌}
use native.Mathlib.Omega.{arith}
use mathlib.Core.Path.{◌≡◌, refl, subst}
use mathlib.Core.Bool.{Bool, true, false, cond}
use mathlib.Core.List.{List}
use lib.Dec.{eqb}
use lib.ListN.{length}
use Rattle.octets.proofs.Parts.{length_splice}
use Rattle.bus.specs.Heard as sort
use Rattle.outlet.specs.Outlets.{Given, RingsFit, queue, capacity}
use Rattle.outlet.specs.Hearing.{fate, queue_of}
use Rattle.outlet.specs.declared.Fate as F
use Rattle.outlet.specs.declared.Fate.TheVariants as fates
use Rattle.outlet.proofs.Fates.{fate_iff}
use Rattle.store.specs.Places.{put_at, slot_at, outlet_slot, control_out_slot, loopback_out_slot, Cell}
use Rattle.store.specs.Rings.{tail, pushed}
use Rattle.store.proofs.Rounds.{pushed_fits}
use Rattle.store.proofs.Slots.{start_inside}
use Rattle.shelf.specs.Shelves.{waiting, number_of}
use Rattle.shelf.specs.declared.Unit as U
use Rattle.answer.specs.declared.Hearing.TheVariants.{Other}
use Rattle.soundness.specs.State.{SideFits}
use Rattle.soundness.specs.Admission.{Housed}
use Rattle.hearing.specs.Hearings as hearing
use Rattle.hearing.proofs.Plans.{planned_in, plan_queue, plan_control_lem, outlet_inside, control_inside, loopback_inside}
use Rattle.running.proofs.Changed.{remade, queue_changed}

-- a cell written into the store leaves it as long as it was
pub put_kept : (store : List ℕ) (place slot : ℕ) (c : Cell) → slot_at place slot + 56 ≤ length store → length c ≡ 56 → length (put_at store place slot c) ≡ length store
unfolding put_at
put_kept store place slot c room whole = length_splice store (slot_at place slot) c (omega arith)

-- a copy is queued where there is room
queued_fate : (f : F.Fate) (p q : ℕ) → hearing.plan_for f p ≡ hearing.Queue q → (p ≡ q) × (f ≡ fates.Queued)
unfolding hearing.plan_for
queued_fate fates.Wide p q e = let z : ◌≡◌ {A = ℕ} 0 1 = cc in absurd (omega arith)
queued_fate fates.Full p q e = let z : ◌≡◌ {A = ℕ} 0 1 = cc in absurd (omega arith)
queued_fate fates.Clp p q e = let z : ◌≡◌ {A = ℕ} 0 1 = cc in absurd (omega arith)
queued_fate fates.Queued p q e = (cc, refl)

plan_room : (u : U.Unit) (h : sort.Heard) (q : ℕ) → hearing.plan_of u h ≡ hearing.Queue q → (queue u.outlet q).count < capacity u.outlet.limits q
unfolding hearing.plan_of
plan_room u sort.Length q e = let z : ◌≡◌ {A = ℕ} 0 1 = cc in absurd (omega arith)
plan_room u sort.Damaged q e = let z : ◌≡◌ {A = ℕ} 0 1 = cc in absurd (omega arith)
plan_room u (sort.Cell target class header) q e = pick (hearing.addressed u target) e
  where
    pick : (b : Bool) → cond b (hearing.plan_for (fate u.outlet u.settings.link class header) (queue_of u.outlet.limits class)) (hearing.Lost Other) ≡ hearing.Queue q → (queue u.outlet q).count < capacity u.outlet.limits q
    pick true e =
        let f = queued_fate (fate u.outlet u.settings.link class header) (queue_of u.outlet.limits class) q e in
        subst (λ k. (queue u.outlet k).count < capacity u.outlet.limits k) f.0 ((fate_iff u.outlet u.settings.link class header fates.Queued).0 f.1).1.0
    pick false e = let z : ◌≡◌ {A = ℕ} 0 1 = cc in absurd (omega arith)
plan_room u (sort.Control unit) q e =
    let x = (planned_in (eqb (number_of u) unit) 4 u.side.controlout.count hearing.ToControl (hearing.Queue q) (λ f k. let z : ◌≡◌ {A = ℕ} 0 1 = cc in absurd (omega arith)) e).0 in
    let z : ◌≡◌ {A = ℕ} 0 1 = cc in
    absurd (omega arith)
plan_room u (sort.Loopback unit) q e =
    let x = (planned_in (eqb (number_of u) unit) 1 u.side.loopbackout hearing.ToLoopback (hearing.Queue q) (λ f k. let z : ◌≡◌ {A = ℕ} 0 1 = cc in absurd (omega arith)) e).0 in
    let z : ◌≡◌ {A = ℕ} 0 1 = cc in
    absurd (omega arith)

-- a unit that has heard a frame: another outlet, with the same limits, whose queues fit, or one cell more in an outlet beside those; what waits in its inlet is as it was
pub record Copied (u v : U.Unit) : Type 0 where
  pub copy : v ≡ remade u v.outlet u.inlet v.side
  pub limits : Given v.outlet.limits
  pub queues : RingsFit v.outlet
  pub side : SideFits v.side
  pub waits : waiting v ≡ waiting u

pub copied : (u : U.Unit) (h : sort.Heard) → Given u.outlet.limits → RingsFit u.outlet → SideFits u.side → Copied u (hearing.copy_of u h).unit
unfolding hearing.copy_by
copied u h given fits beside = go (hearing.plan_of u h) refl
  where
    go : (p : hearing.Plan) → hearing.plan_of u h ≡ p → Copied u (hearing.copy_by p u).unit
    go (hearing.Lost fate) e = record { copy = refl; limits = given; queues = fits; side = beside; waits = refl }
    go (hearing.Queue q) e =
        let few = plan_queue u h q e in
        let cap = capacity u.outlet.limits q in
        record {
          copy = refl;
          limits = given;
          queues = queue_changed u q (pushed (queue u.outlet q)) fits
              (pushed_fits cap (queue u.outlet q) (fits.each q few) (let a = start_inside u.outlet.limits q given few in omega arith) (plan_room u h q e));
          side = beside;
          waits = refl;
        }
    go hearing.ToControl e =
        record {
          copy = refl;
          limits = given;
          queues = fits;
          side = record {
            controlout = pushed_fits 4 u.side.controlout beside.controlout (omega arith) (plan_control_lem u h e).1;
            controlin = beside.controlin;
            loopbackin = beside.loopbackin;
            loopbackout = beside.loopbackout;
          };
          waits = refl;
        }
    go hearing.ToLoopback e =
        record {
          copy = refl;
          limits = given;
          queues = fits;
          side = record { controlout = beside.controlout; controlin = beside.controlin; loopbackin = beside.loopbackin; loopbackout = omega arith };
          waits = refl;
        }

pub store_kept : (u : U.Unit) (h : sort.Heard) (i : ℕ) (store : List ℕ) (cell : Cell) → Housed i u (length store) → length cell ≡ 56 → length (hearing.store_of u h i store cell) ≡ length store
unfolding hearing.store_by
store_kept u h i store cell housed whole = go (hearing.plan_of u h) refl
  where
    go : (p : hearing.Plan) → hearing.plan_of u h ≡ p → length (hearing.store_by p u i store cell) ≡ length store
    go (hearing.Lost fate) e = refl
    go (hearing.Queue q) e = put_kept store i (outlet_slot u.outlet.limits q (tail (queue u.outlet q) (capacity u.outlet.limits q))) cell (outlet_inside i (length store) u q housed (plan_queue u h q e)) whole
    go hearing.ToControl e = put_kept store i (control_out_slot (tail u.side.controlout 4)) cell (control_inside i (length store) u housed) whole
    go hearing.ToLoopback e = put_kept store i loopback_out_slot cell (loopback_inside i (length store) u housed) whole
