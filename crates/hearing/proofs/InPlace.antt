-- Hearing, of a state in lent bytes: what is written at the unit's place, and that it is the shelf after the hearing. Assumes nothing.
use Rattle.std.specs.Prelude.{Err, Ok, Result}
use Prim.Native.Nat.{ℕ, zero, suc, ◌+◌, ◌*◌, ◌%◌, ◌≤◌, ◌<◌}
use native.Mathlib.Omega.{arith}
use mathlib.Core.Path.{◌≡◌, refl, sym, ap, subst, ◌∙◌}
use mathlib.Core.Bool.{Bool, true, false, cond}
use mathlib.Core.List.{List}
use lib.Dec.{eqb, leb}
use lib.ListN.{length, get_or, take, length-take}
use lib.Seq.{set-get_or}
use borrow.Author.Tests.{eq-eqb, ne_eqb, le-leb, lt-leb}
use Rattle.bus.specs.Frame.{heard}
use Rattle.bus.specs.Heard as frame
use Rattle.card.specs.declared.Card.{Card}
use Rattle.header.specs.declared.Link.{Link}
use Rattle.octets.specs.Octets.{splice}
use Rattle.outlet.specs.Outlets.{capacity, queue}
use Rattle.outlet.specs.declared.Limits.{Limits}
use Rattle.outlet.specs.declared.Ring.{Ring}
use Rattle.outlet.specs.Hearing.{queue_of, limit, held, fate_in}
use Rattle.outlet.specs.declared.Fate as F
use Rattle.outlet.proofs.Fates.{queue_lt, fate_in_lem}
use Rattle.store.specs.Rings.{tail, pushed}
use Rattle.store.specs.Places.{Cell, slot_at, outlet_slot, control_out_slot, loopback_out_slot, put_at}
use Rattle.shelf.specs.Shelves.{declared, blank}
use Rattle.shelf.specs.Shelf.{Shelf}
use Rattle.shelf.specs.declared.Unit as U
use Rattle.shelf.proofs.Finding.{find_at}
use Rattle.answer.specs.declared.Hearing as A
use Rattle.answer.specs.declared.Hearing.TheVariants.{Other, Full, Queued}
use Rattle.answer.specs.Done.{Done, outcome_of}
use Rattle.answer.specs.Answers.{refused, refused_with}
use Rattle.state.specs.Bytes.{col, link_of, limits_by, ring_by, unit_by, unit_in, shelf_in, with_ring, with_byte}
use Rattle.state.proofs.Laws.{unit_at_lem, queue_put_lem, controlout_put, loopbackout_put, byte_there, ring_there}
use Rattle.state.proofs.Kept.{Column, Own, byte_long, byte_other, ring_long, ring_other}
use Rattle.soundness.specs.Soundings.{formed_all}
use Rattle.soundness.proofs.Kept.{formed_byte, formed_ring}
use Rattle.soundness.specs.Admission.{admitted, decided, unit_at, with_unit}
use Rattle.soundness.proofs.Laws.{decided_at, decided_refused}
use Rattle.soundness.proofs.InPlace.{in_place, refused_place}
use Rattle.hearing.specs.Hearings.{Plan, Queue, ToControl, ToLoopback, Lost, plan_for, plan_to, plan_in, plan_control, plan_loopback, plan_of, fate_by, copy_by, slot_of, store_by, copy_of, store_of, done_at, store_at, hear_done}
use Rattle.hearing.specs.InPlace.{state_by, state_at, outcome_at, let_in_place, hear_out, hear_state, hear_store_in}
use Rattle.hearing.proofs.Plans.{plan_queue}

-- the limits and a ring of a unit, read by themselves
limits_in_lem : (b : List ℕ) (i : ℕ) → limits_by (col b i) ≡ (unit_in b i).outlet.limits
unfolding unit_by
limits_in_lem b i = refl

ring_in : (b : List ℕ) (i q : ℕ) → q < 4 → ring_by (col b i) (16 + q) (20 + q) ≡ queue (unit_in b i).outlet q
unfolding unit_by
ring_in b i zero h = refl
ring_in b i (suc zero) h = refl
ring_in b i (suc (suc zero)) h = refl
ring_in b i (suc (suc (suc zero))) h = refl
ring_in b i (suc (suc (suc (suc q)))) h = absurd (omega arith)

-- a copy that is lost: its fate, and nothing is written
pub lost_all : (u : U.Unit) (b : List ℕ) (i : ℕ) (store : List ℕ) (cell : Cell) (p : Plan) (fate : A.Hearing) → p ≡ Lost fate →
    (fate ≡ fate_by p) × ((b ≡ state_by p b i) × (store ≡ store_by p u i store cell))
unfolding fate_by state_by store_by
lost_all u b i store cell p fate e = (sym (ap fate_by e), (sym (ap (λ x. state_by x b i) e), sym (ap (λ x. store_by x u i store cell) e)))

-- what is so by one plan is so by the same one
pub by_plan : (u : U.Unit) (b : List ℕ) (i : ℕ) (store : List ℕ) (cell : Cell) (p q : Plan) (fate : A.Hearing) (bytes cells : List ℕ) → p ≡ q →
    (fate ≡ fate_by p) × ((bytes ≡ state_by p b i) × (cells ≡ store_by p u i store cell)) → (fate ≡ fate_by q) × ((bytes ≡ state_by q b i) × (cells ≡ store_by q u i store cell))
by_plan u b i store cell p q fate bytes cells e w = (w.0 ∙ ap fate_by e, (w.1.0 ∙ ap (λ x. state_by x b i) e, w.1.1 ∙ ap (λ x. store_by x u i store cell) e))

-- a copy that is addressed to the unit, by what is read of the unit's bytes: its queue, and the ring of that
module _ (b : List ℕ) (i class : ℕ) (limits : Limits) (q : ℕ) (limits_is : limits ≡ limits_by (col b i)) (queue_is : q ≡ queue_of limits class) where
  own_queue : q ≡ queue_of (unit_in b i).outlet.limits class
  own_queue = queue_is ∙ ap (λ x. queue_of x class) (limits_is ∙ limits_in_lem b i)

  pub few : q < 4
  few = subst (λ n. n < 4) (sym queue_is) (queue_lt limits class)

  module _ (ring : Ring) (ring_is : ring ≡ ring_by (col b i) (16 + q) (20 + q)) (cap : ℕ) (capacity_is : cap ≡ capacity limits q) where
    pub own_ring : ring ≡ queue (unit_in b i).outlet q
    own_ring = ring_is ∙ ring_in b i q few

    own_capacity : cap ≡ capacity (unit_in b i).outlet.limits q
    own_capacity = capacity_is ∙ ap (λ x. capacity x q) (limits_is ∙ limits_in_lem b i)

    -- what becomes of it
    pub own_plan : (header : ℕ) (link : Link) (lim : ℕ) (f : F.Fate) → link ≡ link_of (col b i 1) → lim ≡ limit limits q → f ≡ fate_in cap lim ring.count link header →
        plan_to (unit_in b i) class header ≡ plan_for f q
    unfolding unit_by
    own_plan header link lim f link_is limit_is fate_is =
        let o = (unit_in b i).outlet in
        let l = limit_is ∙ ap (λ x. limit x q) (limits_is ∙ limits_in_lem b i) in
        let e : f ≡ fate_in (capacity o.limits q) (limit o.limits q) (held o q) (unit_in b i).settings.link header =
        fate_is ∙ (λ t. fate_in (own_capacity t) (l t) (own_ring t).count (link_is t) header) in
        ap (λ x. plan_for x (queue_of o.limits class)) (fate_in_lem o (unit_in b i).settings.link class header)
        ∙ ap (λ n. plan_for (fate_in (capacity o.limits n) (limit o.limits n) (held o n) (unit_in b i).settings.link header) n) (sym own_queue)
        ∙ ap (λ x. plan_for x q) (sym e)

    -- where a queued one goes
    pub own_slot : (p at : ℕ) → p ≡ tail ring cap → at ≡ slot_at i (outlet_slot limits q p) → at ≡ slot_of (unit_in b i).outlet i q
    own_slot p at tail_is at_is =
        let t : p ≡ tail (queue (unit_in b i).outlet q) (capacity (unit_in b i).outlet.limits q) = tail_is ∙ (λ j. tail (own_ring j) (own_capacity j)) in
        at_is ∙ (λ j. slot_at i (outlet_slot ((limits_is ∙ limits_in_lem b i) j) q (t j)))

-- a copy that is queued
module _ (u : U.Unit) (b : List ℕ) (i : ℕ) (p : Plan) (q : ℕ) (e : p ≡ Queue q) where
  pub queued_fate : Queued ≡ fate_by p
  unfolding fate_by
  queued_fate = sym (ap fate_by e)

  pub queued_state : with_ring b (16 + q) (20 + q) i (pushed (queue (unit_in b i).outlet q)) ≡ state_by p b i
  unfolding state_by
  queued_state = sym (ap (λ x. state_by x b i) e)

  pub queued_store : (store : List ℕ) (cell : Cell) → splice store (slot_of u.outlet i q) cell ≡ store_by p u i store cell
  unfolding store_by put_at
  queued_store store cell = sym (ap (λ x. store_by x u i store cell) e)

-- a control cell or a loopback cell, by what is read of the unit's bytes: its number, and how many cells stand where it would go
module _ (b : List ℕ) (i unit number : ℕ) (number_is : number ≡ col b i 0) where
  module _ (other : number ≡ unit → ⊥) where
    not_it : eqb (col b i 0) unit ≡ false
    not_it = ap (λ n. eqb n unit) (sym number_is) ∙ ne_eqb number unit other

    pub control_other : plan_of (unit_in b i) (frame.Control unit) ≡ Lost Other
    unfolding plan_of unit_by
    control_other = ap (λ t. cond t (plan_control (unit_in b i)) (Lost Other)) not_it

    pub loopback_other : plan_of (unit_in b i) (frame.Loopback unit) ≡ Lost Other
    unfolding plan_of unit_by
    loopback_other = ap (λ t. cond t (plan_loopback (unit_in b i)) (Lost Other)) not_it

  module _ (same : number ≡ unit) where
    it : eqb (col b i 0) unit ≡ true
    it = ap (λ n. eqb n unit) (sym number_is) ∙ eq-eqb number unit same

    module _ (ring : Ring) (ring_is : ring ≡ ring_by (col b i) 28 29) where
      control_by : (t : Bool) → leb 4 ring.count ≡ t → plan_of (unit_in b i) (frame.Control unit) ≡ cond t (Lost Full) ToControl
      unfolding plan_of plan_in unit_by
      control_by t e = ap (λ x. cond x (plan_control (unit_in b i)) (Lost Other)) it ∙ ap (λ x. cond x (Lost Full) ToControl) (ap (λ (r : Ring). leb 4 r.count) (sym ring_is) ∙ e)

      pub control_full : 4 ≤ ring.count → plan_of (unit_in b i) (frame.Control unit) ≡ Lost Full
      control_full h = control_by true (le-leb 4 ring.count h)

      pub control_goes : ring.count < 4 → plan_of (unit_in b i) (frame.Control unit) ≡ ToControl
      control_goes h = control_by false (lt-leb 4 ring.count h)

    module _ (count : ℕ) (count_is : count ≡ col b i 30) where
      loopback_by : (t : Bool) → leb 1 count ≡ t → plan_of (unit_in b i) (frame.Loopback unit) ≡ cond t (Lost Full) ToLoopback
      unfolding plan_of plan_in unit_by
      loopback_by t e = ap (λ x. cond x (plan_loopback (unit_in b i)) (Lost Other)) it ∙ ap (λ x. cond x (Lost Full) ToLoopback) (ap (leb 1) (sym count_is) ∙ e)

      pub loopback_full : 1 ≤ count → plan_of (unit_in b i) (frame.Loopback unit) ≡ Lost Full
      loopback_full h = loopback_by true (le-leb 1 count h)

      pub loopback_goes : count < 1 → plan_of (unit_in b i) (frame.Loopback unit) ≡ ToLoopback
      loopback_goes h = loopback_by false (lt-leb 1 count h)

pub control_ring : (b : List ℕ) (i : ℕ) → ring_by (col b i) 28 29 ≡ (unit_in b i).side.controlout
unfolding unit_by
control_ring b i = refl

-- a copy that is queued in the control outlet, or in the loopback outlet
module _ (u : U.Unit) (b : List ℕ) (i : ℕ) (store : List ℕ) (cell : Cell) (p : Plan) where
  pub control_all : p ≡ ToControl → (Queued ≡ fate_by p) × ((with_ring b 28 29 i (pushed (unit_in b i).side.controlout) ≡ state_by p b i) × (splice store (slot_at i (control_out_slot (tail u.side.controlout 4))) cell ≡ store_by p u i store cell))
  unfolding fate_by state_by store_by put_at
  control_all e = (sym (ap fate_by e), (sym (ap (λ x. state_by x b i) e), sym (ap (λ x. store_by x u i store cell) e)))

  pub loopback_all : p ≡ ToLoopback → (Queued ≡ fate_by p) × ((with_byte b 30 i 1 ≡ state_by p b i) × (splice store (slot_at i loopback_out_slot) cell ≡ store_by p u i store cell))
  unfolding fate_by state_by store_by put_at
  loopback_all e = (sym (ap fate_by e), (sym (ap (λ x. state_by x b i) e), sym (ap (λ x. store_by x u i store cell) e)))

-- the fate is that of the copy
pub fate_copy : (p : Plan) (u : U.Unit) → fate_by p ≡ (copy_by p u).fate
unfolding fate_by copy_by
fate_copy (Queue q) u = refl
fate_copy ToControl u = refl
fate_copy ToLoopback u = refl
fate_copy (Lost fate) u = refl

-- there are as many bytes as before
pub state_long : (p : Plan) (b : List ℕ) (i : ℕ) → length (state_by p b i) ≡ length b
unfolding state_by
state_long (Queue q) b i = ring_long b (16 + q) (20 + q) i (pushed (queue (unit_in b i).outlet q))
state_long ToControl b i = ring_long b 28 29 i (pushed (unit_in b i).side.controlout)
state_long ToLoopback b i = byte_long b 30 i 1
state_long (Lost fate) b i = refl

-- a shelf is itself with the same unit put back
unturned : (s : Shelf) (i : ℕ) → s ≡ with_unit s i (unit_at s i)
unturned s i t = record { bus = s.bus; count = s.count; units = sym (set-get_or s.units i blank) t; arbiter = s.arbiter; granted = s.granted; frame = s.frame }

-- one unit has heard; what is written leaves the others, all bytes but those of its rings and single places, and what says a link, a mode or a mark
module _ (p : Plan) (b : List ℕ) (i : ℕ) (few : (q : ℕ) → p ≡ Queue q → q < 4) (hi : i < 32) where
  pub state_put : length b ≡ 2048 → shelf_in (state_by p b i) ≡ with_unit (shelf_in b) i (copy_by p (unit_in b i)).unit
  unfolding state_by copy_by
  state_put long = by p refl
    where
      by : (x : Plan) → p ≡ x → shelf_in (state_by x b i) ≡ with_unit (shelf_in b) i (copy_by x (unit_in b i)).unit
      by (Queue q) e = queue_put_lem b i (pushed (queue (unit_in b i).outlet q)) hi long q (few q e)
      by ToControl e = controlout_put b i (pushed (unit_in b i).side.controlout) hi long
      by ToLoopback e = loopbackout_put b i 1 hi long
      by (Lost fate) e = unturned (shelf_in b) i ∙ ap (with_unit (shelf_in b) i) (unit_at_lem b i blank hi)

  pub state_there : length b ≡ 2048 → (j : ℕ) → j < 32 → (j ≡ i → ⊥) → unit_in (state_by p b i) j ≡ unit_in b j
  unfolding state_by
  state_there long j hj ne = by p refl
    where
      by : (x : Plan) → p ≡ x → unit_in (state_by x b i) j ≡ unit_in b j
      by (Queue q) e = let f = few q e in ring_there b (16 + q) (20 + q) i (pushed (queue (unit_in b i).outlet q)) (omega arith) (omega arith) hi long j hj ne
      by ToControl e = ring_there b 28 29 i (pushed (unit_in b i).side.controlout) (omega arith) (omega arith) hi long j hj ne
      by ToLoopback e = byte_there b 30 i 1 (omega arith) hi long j hj ne
      by (Lost fate) e = refl

  pub state_other : (k : ℕ) → ((h : ℕ) → 14 ≤ h → Column h → k ≡ h * 32 + i → ⊥) → get_or (state_by p b i) k 0 ≡ get_or b k 0
  unfolding state_by
  state_other k ne = by p refl
    where
      by : (x : Plan) → p ≡ x → get_or (state_by x b i) k 0 ≡ get_or b k 0
      by (Queue q) e =
          let f = few q e in
          ring_other b (16 + q) (20 + q) i (pushed (queue (unit_in b i).outlet q)) k (ne (16 + q) (omega arith) (omega arith)) (ne (20 + q) (omega arith) (omega arith))
      by ToControl e = ring_other b 28 29 i (pushed (unit_in b i).side.controlout) k (ne 28 (omega arith) (omega arith)) (ne 29 (omega arith) (omega arith))
      by ToLoopback e = byte_other b 30 i 1 k (ne 30 (omega arith) (omega arith))
      by (Lost fate) e = refl

  pub state_formed : formed_all (state_by p b i) ≡ formed_all b
  unfolding state_by
  state_formed = by p refl
    where
      by : (x : Plan) → p ≡ x → formed_all (state_by x b i) ≡ formed_all b
      by (Queue q) e = let f = few q e in formed_ring b (16 + q) (20 + q) i (pushed (queue (unit_in b i).outlet q)) (omega arith) (omega arith) (omega arith) (omega arith) hi
      by ToControl e = formed_ring b 28 29 i (pushed (unit_in b i).side.controlout) (omega arith) (omega arith) (omega arith) (omega arith) hi
      by ToLoopback e = formed_byte b 30 i 1 (omega arith) (omega arith) hi
      by (Lost fate) e = refl

-- the event: let in at a place, or refused
module _ (card : Card) (b : List ℕ) (rows unit : ℕ) (f : List ℕ) where
  module _ (store : ℕ) (i : ℕ) (e : let_in_place card b store rows unit f ≡ Ok i) where
    pub out_at : outcome_at i (fate_by (plan_of (unit_in b i) (heard f))) ≡ hear_out card b store rows unit f
    out_at =
        let l = in_place card b store rows unit (eqb (length f) 57) i e in
        let u = sym (unit_at_lem b i blank l.below) in
        ap (outcome_at i) (fate_copy (plan_of (unit_in b i) (heard f)) (unit_in b i) ∙ ap (λ x. (copy_of x (heard f)).fate) u)
        ∙ ap outcome_of (decided_at (λ place. done_at (shelf_in b) place f) (refused (shelf_in b)) _ i l.shelf)
        ∙ ap (λ t. cond t (outcome_of (hear_done card (shelf_in b) store rows unit f)) (refused_with 8)) (sym l.formed)

  pub store_at_lem : (store : List ℕ) (i : ℕ) → let_in_place card b (length store) rows unit f ≡ Ok i → store_of (unit_in b i) (heard f) i store (take 56 f) ≡ hear_store_in card b store rows unit f
  store_at_lem store i e =
      let l = in_place card b (length store) rows unit (eqb (length f) 57) i e in
      ap (λ x. store_of x (heard f) i store (take 56 f)) (sym (unit_at_lem b i blank l.below))
      ∙ decided_at (λ place. store_at (shelf_in b) place store f) (λ number. store) _ i l.shelf
      ∙ ap (λ t. cond t (decided (admitted card (shelf_in b) (length store) rows unit (eqb (length f) 57)) (λ place. store_at (shelf_in b) place store f) (λ number. store)) store) (sym l.formed)

  pub out_refused : (store n : ℕ) → let_in_place card b store rows unit f ≡ Err n → refused_with n ≡ hear_out card b store rows unit f
  out_refused store n e = by (formed_all b) refl
    where
      by : (t : Bool) → formed_all b ≡ t → refused_with n ≡ cond t (outcome_of (hear_done card (shelf_in b) store rows unit f)) (refused_with 8)
      by true h = ap outcome_of (decided_refused (λ place. done_at (shelf_in b) place f) (refused (shelf_in b)) _ n ((refused_place card b store rows unit (eqb (length f) 57) 0 n e).0 h))
      by false h = ap refused_with ((refused_place card b store rows unit (eqb (length f) 57) 0 n e).1 h)

  pub store_refused : (store : List ℕ) (n : ℕ) → let_in_place card b (length store) rows unit f ≡ Err n → store ≡ hear_store_in card b store rows unit f
  store_refused store n e = by (formed_all b) refl
    where
      by : (t : Bool) → formed_all b ≡ t → store ≡ cond t (decided (admitted card (shelf_in b) (length store) rows unit (eqb (length f) 57)) (λ place. store_at (shelf_in b) place store f) (λ number. store)) store
      by true h = decided_refused (λ place. store_at (shelf_in b) place store f) (λ number. store) _ n ((refused_place card b (length store) rows unit (eqb (length f) 57) 0 n e).0 h)
      by false h = refl

-- what holds of the bytes before and after a copy is heard at a place holds after the event
module _ (card : Card) (b : List ℕ) (store rows unit : ℕ) (f : List ℕ) where
  abbrev queues : (i q : ℕ) → plan_of (unit_in b i) (heard f) ≡ Queue q → q < 4
  queues i = plan_queue (unit_in b i) (heard f)

  kept : (P : List ℕ → Type 0) → P b → ((i : ℕ) → let_in_place card b store rows unit f ≡ Ok i → i < 32 → P (state_at b i f)) → P (hear_state card b store rows unit f)
  unfolding decided
  kept P was is = by (let_in_place card b store rows unit f) refl
    where
      by : (d : Result ℕ ℕ) → let_in_place card b store rows unit f ≡ d → P (decided d (λ place. state_at b place f) (λ number. b))
      by (Ok i) e = is i e (in_place card b store rows unit (eqb (length f) 57) i e).below
      by (Err n) e = was

  declared_place : (i : ℕ) → let_in_place card b store rows unit f ≡ Ok i → i < get_or b 805 0
  declared_place i e =
      let l = in_place card b store rows unit (eqb (length f) 57) i e in
      omega (arith, length-take (get_or b 805 0) (shelf_in b).units, ((find_at unit (declared (shelf_in b)) i).0 l.let_in.found).inside)

  -- all but the rings and single places of the unit that hears it
  pub hear_other : (k : ℕ) → ((i : ℕ) → let_in_place card b store rows unit f ≡ Ok i → 448 ≤ k → k < 992 → (Own k → ⊥) → k % 32 ≡ i → ⊥) → get_or (hear_state card b store rows unit f) k 0 ≡ get_or b k 0
  hear_other k ne =
      kept (λ x. get_or x k 0 ≡ get_or b k 0) refl (λ i e hi. state_other (plan_of (unit_in b i) (heard f)) b i (queues i) hi k (λ h lh hh q. ne i e (omega arith) (omega arith) (λ o. omega arith) (omega arith)))

  -- the tie to the shelf of specs
  pub hear_long : length b ≡ 2048 → formed_all b ≡ true → length (hear_state card b store rows unit f) ≡ 2048
  hear_long long formed = kept (λ x. length x ≡ 2048) long (λ i e h. state_long (plan_of (unit_in b i) (heard f)) b i ∙ long)

  pub hear_formed : length b ≡ 2048 → formed_all b ≡ true → formed_all (hear_state card b store rows unit f) ≡ true
  hear_formed long formed = kept (λ x. formed_all x ≡ true) formed (λ i e h. state_formed (plan_of (unit_in b i) (heard f)) b i (queues i) h ∙ formed)

  -- the shelf's own bytes, the free ones and the sessions; the columns before those of rings; the places past the declared units
  pub hear_own : length b ≡ 2048 → formed_all b ≡ true → (k : ℕ) → Own k → get_or (hear_state card b store rows unit f) k 0 ≡ get_or b k 0
  hear_own long formed k own = hear_other k (λ i e x y no z. no own)

  pub hear_free : length b ≡ 2048 → formed_all b ≡ true → (k : ℕ) → 992 ≤ k → get_or (hear_state card b store rows unit f) k 0 ≡ get_or b k 0
  hear_free long formed k low = hear_other k (λ i e x y no z. omega arith)

  pub hear_kept : length b ≡ 2048 → formed_all b ≡ true → (k : ℕ) → k < 448 → get_or (hear_state card b store rows unit f) k 0 ≡ get_or b k 0
  hear_kept long formed k high = hear_other k (λ i e x y no z. omega arith)

  pub hear_others : length b ≡ 2048 → formed_all b ≡ true → (k : ℕ) → get_or b 805 0 ≤ k % 32 → get_or (hear_state card b store rows unit f) k 0 ≡ get_or b k 0
  hear_others long formed k past = hear_other k (λ i e x y no z. let c = declared_place i e in omega arith)

  pub hear_decodes : length b ≡ 2048 → formed_all b ≡ true → shelf_in (hear_state card b store rows unit f) ≡ (hear_done card (shelf_in b) store rows unit f).reply.shelf
  unfolding decided
  hear_decodes long formed = by (let_in_place card b store rows unit f) refl
    where
      by : (d : Result ℕ ℕ) → let_in_place card b store rows unit f ≡ d → shelf_in (decided d (λ place. state_at b place f) (λ number. b)) ≡ (hear_done card (shelf_in b) store rows unit f).reply.shelf
      by (Ok i) e =
          let l = in_place card b store rows unit (eqb (length f) 57) i e in
          state_put (plan_of (unit_in b i) (heard f)) b i (queues i) l.below long
          ∙ ap (λ x. with_unit (shelf_in b) i (copy_of x (heard f)).unit) (sym (unit_at_lem b i blank l.below))
          ∙ ap (λ (x : Done). x.reply.shelf) (decided_at (λ place. done_at (shelf_in b) place f) (refused (shelf_in b)) _ i l.shelf)
      by (Err n) e =
          ap (λ (x : Done). x.reply.shelf) (decided_refused (λ place. done_at (shelf_in b) place f) (refused (shelf_in b)) _ n ((refused_place card b store rows unit (eqb (length f) 57) 0 n e).0 formed))
