-- Hearing of a frame. Assumes nothing.
use Prim.Native.Nat.{ℕ, ◌+◌, ◌<◌, ◌≤◌}
use native.Mathlib.Omega.{arith}
use mathlib.Core.Path.{◌≡◌, refl, sym, ap, subst, ◌∙◌}
use mathlib.Core.Logic.{◌≢◌, ◌↔◌}
use mathlib.Core.Bool.{Bool, true, false, cond, false≢true}
use mathlib.Core.List.{List, ◌++◌}
use lib.Dec.{eqb, leb}
use lib.ListN.{length, take, drop}
use borrow.Author.Tests.{eqb-true, eqb-false, eq-eqb, ne_eqb, leb-true, leb-false, le-leb, lt-leb}
use Rattle.octets.specs.Octets as octets
use Rattle.card.specs.declared.Card.{Card}
use Rattle.bus.specs.declared.Target as T
use Rattle.bus.specs.declared.Target.TheVariants as target
use Rattle.bus.specs.Frame.{heard}
use Rattle.bus.specs.Heard as sort
use Rattle.outlet.specs.Outlets as outlet
use Rattle.outlet.specs.Hearing as queueing
use Rattle.outlet.specs.declared.Fate.{Fate}
use Rattle.outlet.specs.declared.Fate.TheVariants as fates
use Rattle.outlet.proofs.Fates.{fate_iff, queue_lt}
use Rattle.store.specs.Places as places
use Rattle.store.specs.Rings as rings
use Rattle.shelf.specs.Shelves.{number_of}
use Rattle.shelf.specs.declared.Unit as U
use Rattle.shelf.specs.Shelf.{Shelf}
use Rattle.answer.specs.declared.Hearing as H
use Rattle.answer.specs.declared.Hearing.TheVariants as fate·
use Rattle.hearing.specs.Hearings as hearing
use Rattle.hearing.specs.Hearings.{Plan, Queue, ToControl, ToLoopback, Lost}
use Rattle.hearing.proofs.Plans.{before_parity}
use Rattle.answer.specs.Answers.{hearing_rises, row}
use Rattle.answer.specs.Counting.{settled}
use Rattle.soundness.specs.Admission as admit
use Rattle.document.specs.Events.{hear}
use Rattle.running.specs.Events.{World, Outcome, happens, ended}
use Rattle.paper.specs.Outlets.{queue_at, ring_at, slot_at, behind}
use Rattle.paper.specs.Counters.{hearing_counts, RisenAt}
use Rattle.paper.specs.State.{unit_at, DeclaredAt, UnitSound}
use Rattle.paper.proofs.Outlets.{capacity_is, first_is, slot_is, longer_is}
use Rattle.paper.proofs.Counters.{agree_hearing, risen_at}
use Rattle.paper.proofs.State.{tail_is, capacity_most}
use Rattle.sentences.specs.Changes.{with_queue, with_side, with_cell, Runs, OnShelves}
use Rattle.sentences.specs.Hearing.{slot_in, with_one, slot_for, with_copy, Hears as Hears·, HearingRule}
use Rattle.sentences.proofs.Found.{many_units, unit_at_lem, itself}
use Rattle.sentences.proofs.Arrives.{let_in}
use Rattle.paper.specs.Cells.{two, four, kind, class, address, Says, Damaged}
use Rattle.paper.specs.Hearing.{Hears, Addressed, by_unit, by_session, by_broadcast, by_third, queue_of, Waits, in_queue, in_control, in_loopback, waits_in, room_in, held_in, Room, Comes, HearingIs}
use Rattle.outlet.proofs.Truth.{decide}
use Rattle.paper.proofs.Cells.{HeardAs, as_damaged, as_cell, as_control, as_loopback, heard_as}
use Rattle.paper.proofs.Hearing.{hears_iff, queue_is, queue_in, waits_queue, waits_control, waits_loopback, third_iff, third_narrow, third_kept, CopyIs, copy_to, copy_from}

-- A. whom a frame addresses
to_target : (u : U.Unit) (t : T.Target) (r : ℕ) → Says t (kind r) (address r) → (hearing.addressed u t ≡ true) ↔ Addressed u r
unfolding hearing.addressed
to_target u (target.Unit n) r s = (
  λ e. by_unit s.0 (s.1 ∙ sym (eqb-true (number_of u) n e)),
  λ a. eq-eqb (number_of u) n (named a),
)
  where
    named : Addressed u r → number_of u ≡ n
    named (by_unit k a) = sym a ∙ s.1
    named (by_session k h) = absurd (omega (arith, s.0))
    named (by_broadcast k) = absurd (omega (arith, s.0))
    named (by_third k a) = absurd (omega (arith, s.0))
to_target u (target.Session n) r s = (
  λ e. by_session s.0 (subst (Hears u.sessions) (sym s.1) ((hears_iff u.sessions n).0 e)),
  λ a. (hears_iff u.sessions n).1 (listens a),
)
  where
    listens : Addressed u r → Hears u.sessions n
    listens (by_unit k a) = absurd (omega (arith, s.0))
    listens (by_session k h) = subst (Hears u.sessions) s.1 h
    listens (by_broadcast k) = absurd (omega (arith, s.0))
    listens (by_third k a) = absurd (omega (arith, s.0))
to_target u target.All r s = (λ e. by_broadcast s.0, λ a. refl)

-- a target is of a data cell
says_data : (t : T.Target) (k n : ℕ) → Says t k n → k ≢ 3
says_data (target.Unit unit) k n s e = omega (arith, s.0)
says_data (target.Session session) k n s e = omega (arith, s.0)
says_data target.All k n s e = omega (arith, s.0)

-- B. the fate of a frame of 57 bytes
-- the four of a copy
copy_fate : Fate → H.Hearing
copy_fate fates.Wide = fate·.Wide
copy_fate fates.Full = fate·.Full
copy_fate fates.Clp = fate·.Clp
copy_fate fates.Queued = fate·.Queued

-- where a copy is held, as a plan, and in which of the unit's slots
unfoldable pub plan_as : Waits → Plan
plan_as (in_queue q) = Queue q
plan_as in_control = ToControl
plan_as in_loopback = ToLoopback

unfoldable pub code_slot : U.Unit → Waits → ℕ
code_slot u (in_queue q) = places.outlet_slot u.outlet.limits q (rings.tail (outlet.queue u.outlet q) (outlet.capacity u.outlet.limits q))
code_slot u in_control = places.control_out_slot (rings.tail u.side.controlout 4)
code_slot u in_loopback = places.loopback_out_slot

-- what is planned for it
pub data Planned (u : U.Unit) (f : List ℕ) : Type 0 where
  loses : (x : H.Hearing) → HearingIs u f x → x ≢ fate·.Queued → hearing.plan_of u (heard f) ≡ Lost x → Planned u f
  holds : HearingIs u f fate·.Queued → hearing.plan_of u (heard f) ≡ plan_as (waits_in u f) → Planned u f

module _ (u : U.Unit) (f : List ℕ) (whole : length f ≡ 57) where
  abbrev plan : sort.Heard → Plan
  plan h = hearing.plan_of u h

  abbrev its : Plan
  its = plan (heard f)

  -- a sound frame, addressed to the unit
  module _ (sound : Damaged f → ⊥) (mine : Addressed u (two f 0)) where
    copy_is : (x : Fate) → CopyIs u f x → HearingIs u f (copy_fate x)
    unfolding copy_fate
    copy_is fates.Wide c = (sound, mine, c)
    copy_is fates.Full c = (record { sound = sound; addressed = mine; narrow = c.0 }, c.1)
    copy_is fates.Clp c = (record { sound = sound; addressed = mine; narrow = c.0 }, c.1, c.2)
    copy_is fates.Queued c = (record { sound = sound; addressed = mine; narrow = c.0 }, c.1, c.2)

    planned_for : (x : Fate) → CopyIs u f x → waits_in u f ≡ in_queue (queue_of u f) → its ≡ hearing.plan_for x (queue_of u f) → Planned u f
    unfolding hearing.plan_for copy_fate plan_as
    planned_for fates.Wide c there e = loses fate·.Wide (copy_is fates.Wide c) (λ q. let z : ◌≡◌ {A = ℕ} 0 1 = cc in omega arith) e
    planned_for fates.Full c there e = loses fate·.Full (copy_is fates.Full c) (λ q. let z : ◌≡◌ {A = ℕ} 0 1 = cc in omega arith) e
    planned_for fates.Clp c there e = loses fate·.Clp (copy_is fates.Clp c) (λ q. let z : ◌≡◌ {A = ℕ} 0 1 = cc in omega arith) e
    planned_for fates.Queued c there e = holds (copy_is fates.Queued c) (e ∙ ap plan_as (sym there))

  -- a data cell
  planned_cell : (Damaged f → ⊥) → (t : T.Target) → Says t (kind (two f 0)) (address (two f 0)) → heard f ≡ sort.Cell t (class (two f 0)) (four f 4) → Planned u f
  unfolding hearing.plan_of
  planned_cell sound t s e =
      let x = queueing.fate u.outlet u.settings.link (class (two f 0)) (four f 4) in
      let is_data = says_data t (kind (two f 0)) (address (two f 0)) s in
      decide (hearing.addressed u t)
      (λ yes.
      planned_for sound ((to_target u t (two f 0) s).0 yes) x (copy_to u f is_data x ((fate_iff u.outlet u.settings.link (class (two f 0)) (four f 4) x).0 refl)) (waits_queue u f is_data)
      (ap plan e ∙ (λ i. cond (yes i) (hearing.plan_for x (queue_is u f i)) (Lost fate·.Other))))
      (λ not.
      loses fate·.Other (sound, λ a. false≢true (sym not ∙ (to_target u t (two f 0) s).1 a)) (λ q. let z : ◌≡◌ {A = ℕ} 0 1 = cc in omega arith)
      (ap plan e ∙ (λ i. cond (not i) (hearing.plan_for x (queueing.queue_of u.outlet.limits (class (two f 0)))) (Lost fate·.Other))))

  -- a control or a loopback cell: it waits in x
  abbrev third : Waits → Plan
  third x = cond (eqb (number_of u) (address (two f 0))) (hearing.plan_in (room_in u x) (held_in u x) (plan_as x)) (Lost fate·.Other)

  module _ (sound : Damaged f → ⊥) (k : kind (two f 0) ≡ 3) (x : Waits) (there : waits_in u f ≡ x) (e : its ≡ third x) where
    abbrev reaches : Addressed u (two f 0) → Comes u f
    reaches mine = record { sound = sound; addressed = mine; narrow = third_narrow u f k }

    planned_third : Planned u f
    unfolding hearing.plan_in
    planned_third =
        decide (eqb (number_of u) (address (two f 0)))
        (λ yes.
        let mine = (third_iff u f k).1 (eqb-true (number_of u) (address (two f 0)) yes) in
        decide (leb (room_in u x) (held_in u x))
        (λ full.
        loses fate·.Full (reaches mine, subst (λ w. room_in u w ≤ held_in u w) (sym there) (leb-true (room_in u x) (held_in u x) full)) (λ q. let z : ◌≡◌ {A = ℕ} 0 1 = cc in omega arith)
        (e ∙ (λ i. cond (yes i) (cond (full i) (Lost fate·.Full) (plan_as x)) (Lost fate·.Other))))
        (λ room.
        holds (reaches mine, subst (λ w. held_in u w < room_in u w) (sym there) (leb-false (room_in u x) (held_in u x) room), third_kept u f k)
        (e ∙ (λ i. cond (yes i) (cond (room i) (Lost fate·.Full) (plan_as (sym there i))) (Lost fate·.Other)))))
        (λ not.
        loses fate·.Other (sound, λ a. eqb-false (number_of u) (address (two f 0)) not ((third_iff u f k).0 a)) (λ q. let z : ◌≡◌ {A = ℕ} 0 1 = cc in omega arith)
        (e ∙ (λ i. cond (not i) (hearing.plan_in (room_in u x) (held_in u x) (plan_as x)) (Lost fate·.Other))))

    held_fate : (w : Waits) → hearing.fate_by (plan_as w) ≡ fate·.Queued
    unfolding plan_as hearing.fate_by
    held_fate (in_queue q) = refl
    held_fate in_control = refl
    held_fate in_loopback = refl

    named : Addressed u (two f 0) → eqb (number_of u) (address (two f 0)) ≡ true
    named a = eq-eqb (number_of u) (address (two f 0)) ((third_iff u f k).0 a)

    found_third : (y : H.Hearing) → HearingIs u f y → hearing.fate_by its ≡ y
    unfolding hearing.plan_in hearing.fate_by
    found_third fate·.Damaged h = absurd (sound h)
    found_third fate·.Other h =
        ap hearing.fate_by e
        ∙ (λ i. hearing.fate_by (cond (ne_eqb (number_of u) (address (two f 0)) (λ q. h.1 ((third_iff u f k).1 q)) i) (hearing.plan_in (room_in u x) (held_in u x) (plan_as x)) (Lost fate·.Other)))
    found_third fate·.Wide h = absurd (third_narrow u f k h.2)
    found_third fate·.Full h =
        let full = le-leb (room_in u x) (held_in u x) (subst (λ w. room_in u w ≤ held_in u w) there h.1) in
        ap hearing.fate_by e ∙ (λ i. hearing.fate_by (cond (named h.0.addressed i) (cond (full i) (Lost fate·.Full) (plan_as x)) (Lost fate·.Other)))
    found_third fate·.Clp h = absurd (third_kept u f k h.2)
    found_third fate·.Queued h =
        let room = lt-leb (room_in u x) (held_in u x) (subst (λ w. held_in u w < room_in u w) there h.1) in
        ap hearing.fate_by e ∙ (λ i. hearing.fate_by (cond (named h.0.addressed i) (cond (room i) (Lost fate·.Full) (plan_as x)) (Lost fate·.Other))) ∙ held_fate x

  control_plan : heard f ≡ sort.Control (address (two f 0)) → its ≡ third in_control
  unfolding hearing.plan_of plan_as
  control_plan e = ap plan e

  loopback_plan : heard f ≡ sort.Loopback (address (two f 0)) → its ≡ third in_loopback
  unfolding hearing.plan_of plan_as
  loopback_plan e = ap plan e

  pub planned : Planned u f
  unfolding hearing.plan_of
  planned = by (heard_as f whole)
    where
      by : HeardAs f → Planned u f
      by (as_damaged d e) = loses fate·.Damaged d (λ q. let z : ◌≡◌ {A = ℕ} 0 1 = cc in omega arith) (ap plan e)
      by (as_cell n t s e) = planned_cell n t s e
      by (as_control n k c e) = planned_third n k in_control (waits_control u f k c) (control_plan e)
      by (as_loopback n k c e) = planned_third n k in_loopback (waits_loopback u f k c) (loopback_plan e)

  -- C. and no other
  met : (x : Fate) → Addressed u (two f 0) → CopyIs u f x → (t : T.Target) → Says t (kind (two f 0)) (address (two f 0)) → heard f ≡ sort.Cell t (class (two f 0)) (four f 4) → hearing.fate_by (hearing.plan_of u (heard f)) ≡ copy_fate x
  unfolding hearing.plan_of hearing.fate_by hearing.plan_for copy_fate
  met x a c t s e =
      let yes = (to_target u t (two f 0) s).1 a in
      let is = (fate_iff u.outlet u.settings.link (class (two f 0)) (four f 4) x).1 (copy_from u f (says_data t (kind (two f 0)) (address (two f 0)) s) x c) in
      ap (λ h. hearing.fate_by (plan h)) e
      ∙ (λ i. hearing.fate_by (cond (yes i) (hearing.plan_for (is i) (queueing.queue_of u.outlet.limits (class (two f 0)))) (Lost fate·.Other)))
      ∙ for x
    where
      for : (y : Fate) → hearing.fate_by (hearing.plan_for y (queueing.queue_of u.outlet.limits (class (two f 0)))) ≡ copy_fate y
      for fates.Wide = refl
      for fates.Full = refl
      for fates.Clp = refl
      for fates.Queued = refl

  found : HeardAs f → (x : H.Hearing) → HearingIs u f x → hearing.fate_by (hearing.plan_of u (heard f)) ≡ x
  unfolding hearing.plan_of hearing.fate_by copy_fate
  found (as_damaged d e) fate·.Damaged h = ap (λ k. hearing.fate_by (plan k)) e
  found (as_damaged d e) fate·.Other h = absurd (h.0 d)
  found (as_damaged d e) fate·.Wide h = absurd (h.0 d)
  found (as_damaged d e) fate·.Full h = absurd (h.0.sound d)
  found (as_damaged d e) fate·.Clp h = absurd (h.0.sound d)
  found (as_damaged d e) fate·.Queued h = absurd (h.0.sound d)
  found (as_cell n t s e) fate·.Damaged h = absurd (n h)
  found (as_cell n t s e) fate·.Other h =
      decide (hearing.addressed u t)
      (λ yes. absurd (h.1 ((to_target u t (two f 0) s).0 yes)))
      (λ not.
      ap (λ k. hearing.fate_by (plan k)) e
      ∙ (λ i.
      hearing.fate_by
      (cond (not i) (hearing.plan_for (queueing.fate u.outlet u.settings.link (class (two f 0)) (four f 4)) (queueing.queue_of u.outlet.limits (class (two f 0)))) (Lost fate·.Other))))
  found (as_cell n t s e) fate·.Wide h = met fates.Wide h.1 h.2 t s e
  found (as_cell n t s e) fate·.Full h = met fates.Full h.0.addressed (h.0.narrow, h.1) t s e
  found (as_cell n t s e) fate·.Clp h = met fates.Clp h.0.addressed (h.0.narrow, h.1, h.2) t s e
  found (as_cell n t s e) fate·.Queued h = met fates.Queued h.0.addressed (h.0.narrow, h.1, h.2) t s e
  found (as_control n k c e) x h = found_third n k in_control (waits_control u f k c) (control_plan e) x h
  found (as_loopback n k c e) x h = found_third n k in_loopback (waits_loopback u f k c) (loopback_plan e) x h

  pub one_fate : (x y : H.Hearing) → HearingIs u f x → HearingIs u f y → x ≡ y
  one_fate x y p q = sym (found (heard_as f whole) x p) ∙ found (heard_as f whole) y q

-- D. where a queued copy goes
-- one of the three places
by_waits : (u : U.Unit) (f : List ℕ) (P : Waits → Type 0) → P (in_queue (queue_of u f)) → P in_control → P in_loopback → P (waits_in u f)
by_waits u f P queue control loopback = pick (eqb (kind (two f 0)) 3) (eqb (class (two f 0)) 0)
  where
    pick : (s t : Bool) → P (cond s (cond t in_control in_loopback) (in_queue (queue_of u f)))
    pick false t = queue
    pick true true = control
    pick true false = loopback

-- the unit with it, and the store
pub with_one_lem : (u : U.Unit) (x : Waits) → held_in u x < 255 → hearing.copy_by (plan_as x) u ≡ hearing.copy_with (with_one u x) fate·.Queued
unfolding plan_as hearing.copy_by
with_one_lem u (in_queue q) h = ap (λ r. hearing.copy_with (with_queue u q r) fate·.Queued) (longer_is (ring_at u.outlet q) h)
with_one_lem u in_control h =
    ap (λ r. hearing.copy_with (with_side u u.side.controlin u.side.loopbackin r u.side.loopbackout) fate·.Queued) (longer_is u.side.controlout h)
with_one_lem u in_loopback h = refl

pub store_as : (x : Waits) (u : U.Unit) (place : ℕ) (store cell : List ℕ) → hearing.store_by (plan_as x) u place store cell ≡ places.put_at store place (code_slot u x) cell
unfolding plan_as code_slot hearing.store_by
store_as (in_queue q) u place store cell = refl
store_as in_control u place store cell = refl
store_as in_loopback u place store cell = refl

module _ (card : Card) (shelf : Shelf) (u : U.Unit) (good : UnitSound card shelf u) (f : List ℕ) (room : Room u f) where
  abbrev q : ℕ
  q = queue_of u f

  most : (queue_at u.outlet q).capacity ≤ 123
  most = capacity_most u.outlet.limits q good.limits

  pub few_held : held_in u (waits_in u f) < 255
  few_held = let a : room_in u (waits_in u f) ≤ 123 = by_waits u f (λ x. room_in u x ≤ 123) most (omega arith) (omega arith) in omega (arith, room)

  few : q < 4
  few = subst (λ n. n < 4) (queue_is u f) (queue_lt u.outlet.limits (class (two f 0)))

  behind_it : 0 < (queue_at u.outlet q).capacity → rings.tail (ring_at u.outlet q) (outlet.capacity u.outlet.limits q) ≡ behind (ring_at u.outlet q) (queue_at u.outlet q).capacity
  behind_it some =
      ap (rings.tail (ring_at u.outlet q)) (capacity_is u.outlet.limits q)
      ∙ tail_is (ring_at u.outlet q) (queue_at u.outlet q).capacity (omega (arith, most)) some (good.queues q few)

  pub slot_for_lem : (place : ℕ) → places.slot_at place (code_slot u (waits_in u f)) ≡ slot_for u place f
  unfolding code_slot
  slot_for_lem place =
      by_waits u f (λ x. held_in u x < room_in u x → places.slot_at place (code_slot u x) ≡ slot_in u place x)
      (λ h.
      slot_is place (places.start u.outlet.limits q + rings.tail (ring_at u.outlet q) (outlet.capacity u.outlet.limits q))
      ∙ (λ i. slot_at place (first_is u.outlet.limits q (queue_in u f) i + behind_it (omega arith) i)))
      (λ h. slot_is place (129 + rings.tail u.side.controlout 4) ∙ ap (λ n. slot_at place (129 + n)) (tail_is u.side.controlout 4 (omega arith) (omega arith) good.controlout))
      (λ h. slot_is place 133) room

-- E. a frame handed in
-- what a hearing comes to, where it is let in
outcome : (w : World) (place : ℕ) (f : List ℕ) → Plan → Outcome
outcome w place f p =
    let u = admit.unit_at w.shelf place in
    ended w (hearing.heard_by (hearing.copy_by p u) w.shelf place) (hearing.store_by p u place w.store (take 56 f)) f

module _ (card : Card) (w : World) (runs : Runs card w) (unit place : ℕ) (d : DeclaredAt w.shelf unit place) (f : List ℕ) (whole : length f ≡ 57) where
  abbrev own : U.Unit
  own = unit_at w.shelf place

  below : place < w.shelf.count
  below = subst (λ n. place < n) (many_units w.shelf runs.whole runs.sound.count) d.inside

  same : own ≡ admit.unit_at w.shelf place
  same = unit_at_lem w.shelf place below

  comes : happens card w (hear unit f) ≡ outcome w place f (hearing.plan_of own (heard f))
  unfolding happens admit.decided outcome
  comes =
      rw (let_in card w.shelf (length w.store) (length w.rows) runs.sound unit place d (eqb (length f) 57) (eq-eqb (length f) 57 whole))
      (ap (λ x. outcome w place f (hearing.plan_of x (heard f))) (sym same))

  rows_risen : (x : H.Hearing) → RisenAt w.rows place (hearing_counts x) (settled w.rows (row place (hearing_rises x)))
  rows_risen x = risen_at w.rows place (hearing_rises x) (hearing_counts x) (omega (arith, below, runs.sound.records)) (omega (arith, below, runs.sound.count)) (agree_hearing x)

  lost : (x : H.Hearing) → HearingIs own f x → x ≢ fate·.Queued → Hears· w place f (outcome w place f (Lost x))
  unfolding outcome hearing.copy_by hearing.store_by
  lost x is not =
      record {
        fate = x;
        is = is;
        only = λ y h. one_fate own f whole y x h is;
        said = refl;
        memory = refl;
        rows = rows_risen x;
        bytes = refl;
        same_shelf = λ n. itself w.shelf place;
        same_store = λ n. refl;
        held = λ e. absurd (not e);
        stored = λ e. absurd (not e);
      }

  -- a copy that is held
  abbrev good : UnitSound card w.shelf own
  good = runs.sound.each place d.inside

  held_outcome : Outcome
  held_outcome = ended w (hearing.heard_by (hearing.copy_with (with_copy own f) fate·.Queued) w.shelf place) (with_cell w.store (slot_for own place f) (take 56 f)) f

  stored_it : Room own f → hearing.store_by (plan_as (waits_in own f)) own place w.store (take 56 f) ≡ with_cell w.store (slot_for own place f) (take 56 f)
  unfolding places.put_at
  stored_it room =
      store_as (waits_in own f) own place w.store (take 56 f)
      ∙ ap (λ k. octets.splice w.store k (take 56 f)) (slot_for_lem card w.shelf own good f room place)
      ∙ ap (λ n. take (slot_for own place f) w.store ++ take 56 f ++ drop (slot_for own place f + n) w.store) (before_parity f whole)

  held_is : Room own f → outcome w place f (plan_as (waits_in own f)) ≡ held_outcome
  unfolding outcome held_outcome
  held_is room =
      let p = plan_as (waits_in own f) in
      ap (λ u. ended w (hearing.heard_by (hearing.copy_by p u) w.shelf place) (hearing.store_by p u place w.store (take 56 f)) f) (sym same)
      ∙ (λ i. ended w (hearing.heard_by (with_one_lem own (waits_in own f) (few_held card w.shelf own good f room) i) w.shelf place) (stored_it room i) f)

  held_it : HearingIs own f fate·.Queued → Hears· w place f held_outcome
  unfolding held_outcome
  held_it is =
      record {
        fate = fate·.Queued;
        is = is;
        only = λ y h. one_fate own f whole y fate·.Queued h is;
        said = refl;
        memory = refl;
        rows = rows_risen fate·.Queued;
        bytes = refl;
        same_shelf = λ n. absurd (n refl);
        same_store = λ n. absurd (n refl);
        held = λ e. refl;
        stored = λ e. refl;
      }

  heard_by_lem : Planned own f → Hears· w place f (happens card w (hear unit f))
  heard_by_lem (loses x is not e) = subst (Hears· w place f) (sym (comes ∙ ap (outcome w place f) e)) (lost x is not)
  heard_by_lem (holds is e) = subst (Hears· w place f) (sym (comes ∙ ap (outcome w place f) e ∙ held_is is.1)) (held_it is)

pub hearing_rule : OnShelves HearingRule
hearing_rule card w runs unit place d f whole = heard_by_lem card w runs unit place d f whole (planned (unit_at w.shelf place) f whole)
