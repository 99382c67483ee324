-- Frame. Assumes nothing.
use Rattle.std.specs.Prelude.{None, Option, Some}
use Prim.Native.Nat.{ℕ, ◌+◌, ◌-◌, ◌%◌, ◌<◌, ◌≤◌, min}
use native.Mathlib.Omega.{arith}
use mathlib.Core.Path.{◌≡◌, refl, sym, ap, ap₂, subst, ◌∙◌}
use mathlib.Core.Logic.{◌≢◌, ◌⊎◌, ◌↔◌, inl, inr, ⊎_elim}
use mathlib.Core.Bool.{Bool, true, false, cond}
use mathlib.Core.List.{List, [], ◌∷◌, ◌++◌, map}
use lib.Bits.{bit_or, or_zero_l}
use lib.Dec.{eqb, leb}
use lib.ListN.{length, get_or, take, drop, length-take, length-set, length-append, length-map, get_or-map, get_or-append}
use lib.Seq.{get_or-set_same, get_or-set_other, sets-eq, take_at, get_or-drop, get_or-append-add}
use borrow.Author.Tests.{eqb-true, eqb-false, leb-true, leb-false}
use Rattle.card.specs.declared.Card.{Card}
use Rattle.bus.specs.Frame as bus
use Rattle.bus.specs.Heard as B
use Rattle.arbiter.specs.Arbitration as arbiter
use Rattle.arbiter.proofs.Grants.{granted_length}
use Rattle.store.specs.Places as places
use Rattle.store.specs.Rings as rings
use Rattle.shelf.specs.Shelves as shelves
use Rattle.outlet.specs.declared.Ring.{Ring}
use Rattle.shelf.specs.declared.Unit as U
use Rattle.shelf.specs.Shelf.{Shelf}
use Rattle.shelf.proofs.Finding.{find_nothing, declared_at}
use Rattle.soundness.specs.State.{sound_of}
use Rattle.answer.specs.Answers.{hearing_rises}
use Rattle.answer.specs.Counting.{settled}
use Rattle.answer.specs.declared.Counters as C
use Rattle.paper.proofs.Answers.{is_framed}
use Rattle.paper.specs.Hearing.{queued_in}
use Rattle.answer.specs.declared.Answer.TheVariants.{Framed as Framed·}
use Rattle.answer.specs.declared.Hearing as H
use Rattle.answer.specs.declared.Hearing.TheVariants as fate
use Rattle.soundness.specs.Admission as admit
use Rattle.soundness.proofs.Laws.{sound_housed, cell_length}
use Rattle.hearing.specs.Hearings as hearing
use Rattle.hearing.specs.Hearings.{Plan, Queue, ToControl, ToLoopback, Lost}
use Rattle.octets.proofs.Parts.{get_d_any}
use Rattle.framing.specs.Frames as framing
use Rattle.framing.specs.Requests.{asking_now, requests}
use Rattle.framing.specs.Sending as sending
use Rattle.framing.specs.Sending.{Listened}
use Rattle.framing.specs.Moves as moving
use Rattle.framing.proofs.Bits.{taken_if, sent_low, or_three}
use Rattle.framing.proofs.Sends.{send_inside, out_housed}
use Rattle.document.specs.Events.{frame}
use Rattle.running.specs.Events.{World, Outcome, happens, ended}
use Rattle.running.proofs.Sent.{bus_kept, count_kept, many_kept, store_length, heard_units_lem, each_long, heard_each, agree_sent}
use Rattle.arbiter.proofs.Requests.{renewed_many}
use Rattle.paper.specs.Cells.{byte, parity}
use Rattle.paper.specs.Outlets.{slot_at, cell_at}
use Rattle.paper.specs.Counters.{Counter, taken, sent_counts, hearing_counts, occurs, place_of, RisenIn}
use Rattle.paper.specs.State.{units, unit_at, blank, DeclaredAt, UnitSound}
use Rattle.paper.specs.Grants.{GrantTo, NoGrant}
use Rattle.paper.specs.Hearing.{Waits, in_queue, in_control, in_loopback, waits_in, held_in, HearingIs}
use Rattle.outlet.proofs.Truth.{decide}
use Rattle.paper.proofs.Cells.{xor_is}
use Rattle.paper.proofs.Outlets.{slot_is, cell_is}
use Rattle.paper.proofs.Counters.{Agree, agree_hearing, agree_moved, occurs_both, none_taken_heard, none_taken_sent, risen_in}
use Rattle.paper.proofs.State.{sound_iff}
use Rattle.paper.proofs.Grants.{Turns, granted, none, turns}
use Rattle.sentences.specs.Changes.{with_inlet, with_side, Runs, OnShelves}
use Rattle.sentences.specs.Hearing.{slot_for, with_one, with_copy}
use Rattle.sentences.specs.Frame.{Idle, SendsFrom, data_cell, control_cell, loopback_cell, without, counted, Sends, Turned, Framed, FrameRule}
use Rattle.paper.proofs.State.{found_at}
use Rattle.sentences.proofs.Found.{many_units, unit_at_lem}
use Rattle.sentences.proofs.Asks.{requests_are, below_32}
use Rattle.sentences.proofs.Hears.{plan_as, code_slot, Planned, loses, holds, planned, one_fate, with_one_lem, few_held, slot_for_lem}
use Rattle.sentences.proofs.Listens.{sideways, plan_same, slot_same, held_same, some_addressed, fates_of, heard_copies, heard_addressed, none_addressed, store_beside, store_there}
use Rattle.sentences.proofs.Moving.{one_agrees, middle, counts_are, same_count, each_32, each_at, have_moved, runs_between}

-- A. what is counted after the moves
then_more : (v a b c x y : ℕ) → x ≡ (v + a) % 4294967296 → y ≡ (v + c) % 4294967296 → c ≡ a + b → y ≡ (x + b) % 4294967296
then_more v a b c x y p q e = omega arith

risen_then : (rows between after : List C.Counters) (n : ℕ) (once more all : ℕ → List Counter) → RisenIn rows n once between → RisenIn rows n all after → ((j k : ℕ) → occurs (all j) k ≡ occurs (once j) k + occurs (more j) k) → RisenIn between n more after
risen_then rows between after n once more all first both sum =
    record {
      many = both.many ∙ sym first.many;
      each = λ j b c. then_more _ (occurs (once j) (place_of c)) (occurs (more j) (place_of c)) (occurs (all j) (place_of c)) _ _ (first.each j b c) (both.each j b c) (sum j (place_of c));
      beyond = λ j b. both.beyond j b ∙ sym (first.beyond j b);
    }

-- a move counts `taken`, and nothing else in a frame does
abbrev taken_by : Bool → List Counter
taken_by moves = cond moves (taken ∷ []) []

agree_with : (moves : Bool) (n : ℕ) (cs : List Counter) → Agree n cs → occurs cs 12 ≡ 0 → Agree (bit_or (taken_if moves) n) (taken_by moves ++ cs)
agree_with true n cs agrees not_there = agree_moved n cs agrees not_there
agree_with false n cs agrees not_there = subst (λ k. Agree k cs) (sym (or_zero_l n)) agrees

-- B. the cell that a unit sends, and the unit without it
sends_from : (u : U.Unit) → 1 ≤ u.inlet.count + u.side.controlin + u.side.loopbackin → SendsFrom u (sending.send_slot u) (sending.unit_out u)
unfolding sending.send_slot sending.unit_out rings.popped rings.next
sends_from u some = pick (leb 1 u.inlet.count) refl (leb 1 u.side.controlin) refl
  where
    pick : (s : Bool) → leb 1 u.inlet.count ≡ s → (t : Bool) → leb 1 u.side.controlin ≡ t →
        SendsFrom u (cond s (123 + u.inlet.head) (cond t 127 128))
        (cond s (with_inlet u (rings.popped u.inlet 4))
        (cond t (with_side u 0 u.side.loopbackin u.side.controlout u.side.loopbackout) (with_side u u.side.controlin 0 u.side.controlout u.side.loopbackout)))
    pick true e t g = data_cell (leb-true 1 u.inlet.count e)
    pick false e true g = let no_data = leb-false 1 u.inlet.count e in control_cell (omega arith) (leb-true 1 u.side.controlin g)
    pick false e false g =
        let no_data = leb-false 1 u.inlet.count e in
        let no_control = leb-false 1 u.side.controlin g in
        loopback_cell (omega arith) (omega arith) (omega arith)

-- one unit is the other but for what waits in its inlet
record ButInlet (u v : U.Unit) : Type 0 where
  ring : Ring
  control : ℕ
  loopback : ℕ
  is : v ≡ sideways u ring control loopback

out_but : (u : U.Unit) → ButInlet u (sending.unit_out u)
unfolding sending.unit_out
out_but u = pick (leb 1 u.inlet.count) (leb 1 u.side.controlin)
  where
    pick : (s t : Bool) →
        ButInlet u
        (cond s (with_inlet u (rings.popped u.inlet 4))
        (cond t (with_side u 0 u.side.loopbackin u.side.controlout u.side.loopbackout) (with_side u u.side.controlin 0 u.side.controlout u.side.loopbackout)))
    pick true t = record { ring = rings.popped u.inlet 4; control = u.side.controlin; loopback = u.side.loopbackin; is = refl }
    pick false true = record { ring = u.inlet; control = 0; loopback = u.side.loopbackin; is = refl }
    pick false false = record { ring = u.inlet; control = u.side.controlin; loopback = 0; is = refl }

-- where a plan holds a copy
waits_of : Plan → Waits
waits_of (Queue q) = in_queue q
waits_of ToControl = in_control
waits_of ToLoopback = in_loopback
waits_of (Lost x) = in_control

waits_back : (x : Waits) → waits_of (plan_as x) ≡ x
unfolding waits_of plan_as
waits_back (in_queue q) = refl
waits_back in_control = refl
waits_back in_loopback = refl

not_lost : (y : H.Hearing) (x : Waits) → Lost y ≡ plan_as x → ⊥
unfolding plan_as
not_lost y (in_queue q) e = let z : ◌≡◌ {A = ℕ} 0 1 = cc in omega arith
not_lost y in_control e = let z : ◌≡◌ {A = ℕ} 0 1 = cc in omega arith
not_lost y in_loopback e = let z : ◌≡◌ {A = ℕ} 0 1 = cc in omega arith

-- C. requests, sending and grant, on a world where the moves have counted `each` in the rows that were
outcome : (w : World) (rows : List C.Counters) (each buffer : List ℕ) → Option ℕ → Outcome
outcome w rows each buffer f =
    ended (record { shelf = w.shelf; memory = w.memory; store = w.store; rows = rows }) (framing.ended w.shelf (framing.granted w.shelf) (framing.listened_by f w.shelf w.store each))
    (framing.store_by f w.shelf w.store) (framing.buffer_by f w.shelf w.store buffer)

module _ (card : Card) (w : World) (runs : Runs card w) (rows : List C.Counters) (each : List ℕ) (moves : ℕ → Bool) (each_long_32 : length each ≡ 32)
    (each_is : (i : ℕ) → i < w.shelf.count → get_or each i 0 ≡ taken_if (moves i)) (first : RisenIn rows w.shelf.count (λ i. taken_by (moves i)) w.rows) (buffer : List ℕ) where
  abbrev shelf : Shelf
  shelf = w.shelf

  abbrev comes_to : Option ℕ → Outcome
  comes_to f = outcome w rows each buffer f

  is_sound : sound_of card shelf (length w.store) (length w.rows) ≡ true
  is_sound = (sound_iff card shelf (length w.store) (length w.rows)).1 runs.sound

  enough : shelf.count ≤ length rows
  enough = omega (arith, first.many, runs.sound.records)

  -- all but the sending
  abbrev heard_of : Option ℕ → Listened
  heard_of f = framing.listened_by f shelf w.store each

  turn_to : Turns shelf.arbiter.last (requests shelf).asks (arbiter.granted shelf.arbiter.last (requests shelf).asks) →
      GrantTo shelf.arbiter.last (requests shelf).asks (framing.granted shelf).unit (framing.granted shelf).arbiter.last (framing.granted shelf).arbiter.asks
      ⊎ NoGrant shelf.arbiter.last (requests shelf).asks (framing.granted shelf).unit (framing.granted shelf).arbiter.last (framing.granted shelf).arbiter.asks
  turn_to (granted g) = inl g
  turn_to (none g) = inr g

  framed : (f : Option ℕ) → (heard_of f).shelf.bus ≡ shelf.bus → (heard_of f).shelf.count ≡ shelf.count →
      (shelf.granted ≡ 255 → Idle w buffer (heard_of f).copies (comes_to f)) → (shelf.granted ≢ 255 → (p : ℕ) × Sends w p (heard_of f).copies (comes_to f)) → Turned w buffer (comes_to f)
  unfolding outcome
  framed f bus count idle sends =
      let kept = granted_length shelf.arbiter.last (requests shelf).asks in
      record {
        asks = (requests shelf).asks;
        requests = requests_are card shelf runs.whole (length w.store) (length w.rows) runs.sound;
        grant = turn_to (turns shelf.arbiter.last (requests shelf).asks runs.whole.last_3);
        asks_32 = kept.1 ∙ renewed_many shelf.bus shelf.frame (asking_now shelf) 0 shelf.arbiter.asks ∙ runs.whole.asks_32;
        last_3 = kept.0 ∙ runs.whole.last_3;
        number = refl;
        copies = (heard_of f).copies;
        answer = Framed· shelf.frame shelf.granted (framing.granted shelf).unit (heard_of f).copies;
        said = refl;
        answers_it = is_framed shelf.frame shelf.granted (framing.granted shelf).unit (heard_of f).copies;
        bus = bus;
        count = count;
        memory = refl;
        idle = idle;
        sends = sends;
      }

  -- an idle frame
  nobody_there : shelf.granted ≡ 255 → framing.sender shelf ≡ None
  nobody_there e =
      (find_nothing shelf.granted (shelves.declared shelf)).1
      (λ j h q. let b = below_32 card shelf runs.whole (length w.store) (length w.rows) runs.sound j h in omega arith)

  idle_rows : RisenIn w.rows shelf.count (λ i. []) (comes_to None).world.rows
  unfolding outcome framing.listened_by occurs
  idle_rows =
      risen_then rows w.rows _ shelf.count (λ i. taken_by (moves i)) (λ i. []) (λ i. taken_by (moves i)) first
      (risen_in rows shelf.count each (λ i. taken_by (moves i)) enough (λ j h. subst (λ n. Agree n (taken_by (moves j))) (sym (each_is j h)) (one_agrees (moves j))))
      (λ j k. omega arith)

  idle_frame : Idle w buffer 0 (comes_to None)
  unfolding outcome framing.listened_by framing.store_by framing.buffer_by
  idle_frame = record { none = refl; units = refl; store = refl; rows = idle_rows; bytes = refl }

  -- a unit sends: the frame, and who hears it
  module _ (p : ℕ) (d : DeclaredAt shelf shelf.granted p) where
    abbrev u : U.Unit
    u = unit_at shelf p

    all_declared : length (units shelf) ≡ shelf.count
    all_declared = many_units shelf runs.whole runs.sound.count

    below : p < shelf.count
    below = subst (λ n. p < n) all_declared d.inside

    same : (i : ℕ) → i < shelf.count → unit_at shelf i ≡ admit.unit_at shelf i
    same i h = unit_at_lem shelf i h

    found : framing.sender shelf ≡ Some p
    found = found_at card shelf (length w.store) (length w.rows) runs.sound shelf.granted p d

    abbrev cell : List ℕ
    cell = cell_at w.store p (sending.send_slot u)

    housed : (i : ℕ) → i < shelf.count → admit.Housed i (admit.unit_at shelf i) (length w.store)
    housed i h = (sound_housed card shelf (length w.store) (length w.rows) is_sound i (subst (λ n. i < n) (sym all_declared) h)).0

    cell_56 : length cell ≡ 56
    cell_56 =
        let in_store = subst (λ (x : U.Unit). places.slot_at p (sending.send_slot x) + 56 ≤ length w.store) (sym (same p below)) (send_inside p (length w.store) (admit.unit_at shelf p) (housed p below)) in
        cell_length w.store (slot_at p (sending.send_slot u)) cell (subst (λ k. k + 56 ≤ length w.store) (slot_is p (sending.send_slot u)) in_store) refl

    frame_is : sending.sent_frame shelf p w.store ≡ cell ++ (parity cell ∷ [])
    unfolding sending.sent_frame bus.sealed
    frame_is =
        ap (λ x. bus.sealed (places.cell_at w.store p (sending.send_slot x))) (sym (same p below))
        ∙ ap bus.sealed (cell_is w.store p (sending.send_slot u)) ∙ ap (λ n. cell ++ (n ∷ [])) (xor_is 0 cell)

    abbrev f : List ℕ
    f = cell ++ (parity cell ∷ [])

    f_57 : length f ≡ 57
    f_57 = length-append cell (parity cell ∷ []) ∙ omega (arith, cell_56)

    before : take 56 f ≡ cell
    before = take_at cell (parity cell ∷ []) 56 cell_56

    -- the units when the cell has left
    abbrev out : Shelf
    out = sending.cell_out shelf p

    abbrev left : U.Unit
    left = sending.unit_out u

    abbrev us : List U.Unit
    us = shelves.declared out

    us_many : length us ≡ shelf.count
    unfolding sending.cell_out
    us_many = length-take shelf.count out.units ∙ ap (min shelf.count) (length-set shelf.units p (sending.unit_out (admit.unit_at shelf p))) ∙ omega (arith, runs.whole.units_32, runs.sound.count)

    us_at : (i : ℕ) → i < shelf.count → get_or us i blank ≡ without shelf p left i
    unfolding sending.cell_out
    us_at i h =
        declared_at out i blank h
        ∙ decide (eqb i p)
        (λ t.
        ap (λ n. get_or out.units n blank) (eqb-true i p t)
        ∙ get_or-set_same shelf.units p (sending.unit_out (admit.unit_at shelf p)) blank (omega (arith, below, runs.whole.units_32, runs.sound.count))
        ∙ ap sending.unit_out (sym (same p below)) ∙ sym (ap (λ b. cond b left (unit_at shelf i)) t))
        (λ n.
        get_or-set_other shelf.units p i (sending.unit_out (admit.unit_at shelf p)) blank (eqb-false i p n)
        ∙ sym (same i h) ∙ sym (ap (λ b. cond b left (unit_at shelf i)) n))

    but_inlet : (i : ℕ) → ButInlet (unit_at shelf i) (without shelf p left i)
    but_inlet i =
        decide (eqb i p)
        (λ t. subst (λ b. ButInlet (unit_at shelf i) (cond b left (unit_at shelf i))) (sym t) (subst (λ n. ButInlet (unit_at shelf n) left) (sym (eqb-true i p t)) (out_but u)))
        (λ n.
        subst (λ b. ButInlet (unit_at shelf i) (cond b left (unit_at shelf i))) (sym n)
        (record { ring = (unit_at shelf i).inlet; control = (unit_at shelf i).side.controlin; loopback = (unit_at shelf i).side.loopbackin; is = refl }))

    abbrev h : B.Heard
    h = bus.heard f

    -- what is planned for each
    plan_at : (i : ℕ) → i < shelf.count → hearing.plan_of (get_or us i blank) h ≡ hearing.plan_of (unit_at shelf i) h
    plan_at i b =
        let o = but_inlet i in
        ap (λ x. hearing.plan_of x h) (us_at i b ∙ o.is) ∙ plan_same (unit_at shelf i) o.ring o.control o.loopback h

    abbrev waits : ℕ → Waits
    waits i = waits_in (unit_at shelf i) f

    abbrev fates : List H.Hearing
    fates = fates_of h us

    fates_many : length fates ≡ shelf.count
    fates_many = length-map us (λ x. (hearing.copy_of x h).fate) ∙ us_many

    fate_at : (i : ℕ) → i < shelf.count → get_or fates i fate.Other ≡ (hearing.copy_of (get_or us i blank) h).fate
    fate_at i b = get_d_any fates i fate.Other (hearing.copy_of blank h).fate (omega (arith, fates_many)) ∙ get_or-map (λ x. (hearing.copy_of x h).fate) us i blank

    -- each unit: it keeps what it has, or holds the copy
    data Ends (i : ℕ) : Type 0 where
      keeps : HearingIs (unit_at shelf i) f (get_or fates i fate.Other) → get_or fates i fate.Other ≢ fate.Queued → (hearing.copy_of (get_or us i blank) h).unit ≡ without shelf p left i → ((x : Waits) → hearing.plan_of (get_or us i blank) h ≡ plan_as x → ⊥) → Ends i
      holds_it : HearingIs (unit_at shelf i) f fate.Queued → get_or fates i fate.Other ≡ fate.Queued → (hearing.copy_of (get_or us i blank) h).unit ≡ with_copy (without shelf p left i) f → hearing.plan_of (get_or us i blank) h ≡ plan_as (waits i) → Ends i

    good : (i : ℕ) → i < shelf.count → UnitSound card shelf (unit_at shelf i)
    good i b = runs.sound.each i (subst (λ n. i < n) (sym all_declared) b)

    -- a copy that is held: its unit with it
    held_copy : (i : ℕ) → i < shelf.count → HearingIs (unit_at shelf i) f fate.Queued → hearing.plan_of (get_or us i blank) h ≡ plan_as (waits i) → hearing.copy_of (get_or us i blank) h ≡ hearing.copy_with (with_copy (without shelf p left i) f) fate.Queued
    held_copy i b is plan =
        let o = but_inlet i in
        let there = us_at i b ∙ o.is in
        let few : held_in (get_or us i blank) (waits i) < 255 = subst (λ n. n < 255) (sym (ap (λ x. held_in x (waits i)) there ∙ held_same (unit_at shelf i) o.ring o.control o.loopback (waits i))) (few_held card shelf (unit_at shelf i) (good i b) f is.1) in
        let same_waits : waits_in (without shelf p left i) f ≡ waits i = ap (λ x. waits_in x f) o.is in
        ap (λ k. hearing.copy_by k (get_or us i blank)) plan ∙ with_one_lem (get_or us i blank) (waits i) few
        ∙ (λ t. hearing.copy_with (with_one (us_at i b t) (sym same_waits t)) fate.Queued)

    ends : (i : ℕ) → i < shelf.count → Planned (unit_at shelf i) f → Ends i
    unfolding hearing.copy_by
    ends i b (loses x is not e) =
        let plan = plan_at i b ∙ e in
        let f_is : get_or fates i fate.Other ≡ x = fate_at i b ∙ ap (λ k. (hearing.copy_by k (get_or us i blank)).fate) plan in
        keeps (subst (HearingIs (unit_at shelf i) f) (sym f_is) is) (λ q. not (sym f_is ∙ q)) (ap (λ k. (hearing.copy_by k (get_or us i blank)).unit) plan ∙ us_at i b)
        (λ y n. not_lost x y (sym plan ∙ n))
    ends i b (holds is e) =
        let plan = plan_at i b ∙ e in
        let copy = held_copy i b is plan in
        holds_it is (fate_at i b ∙ ap (λ x. x.fate) copy) (ap (λ x. x.unit) copy) plan

    ends_at : (i : ℕ) → i < shelf.count → Ends i
    ends_at i b = ends i b (planned (unit_at shelf i) f f_57)

    -- what the fate of each is
    is_fate : (i : ℕ) → Ends i → HearingIs (unit_at shelf i) f (get_or fates i fate.Other)
    is_fate i (keeps is not unit no_plan) = is
    is_fate i (holds_it is e unit plan) = subst (HearingIs (unit_at shelf i) f) (sym e) is

    -- the units afterwards
    abbrev l : Listened
    l = sending.heard_by_all out each h

    copies_of : List U.Unit
    copies_of = map (λ x. (hearing.copy_of x h).unit) us

    copies_many : length copies_of ≡ shelf.count
    unfolding copies_of
    copies_many = length-map us (λ x. (hearing.copy_of x h).unit) ∙ us_many

    out_32 : length out.units ≡ 32
    unfolding sending.cell_out
    out_32 = length-set shelf.units p (sending.unit_out (admit.unit_at shelf p)) ∙ runs.whole.units_32

    out_bus : out.bus ≡ shelf.bus
    unfolding sending.cell_out
    out_bus = refl

    out_count : out.count ≡ shelf.count
    unfolding sending.cell_out
    out_count = refl

    all_units : l.shelf.units ≡ copies_of ++ drop shelf.count out.units
    unfolding copies_of sending.cell_out
    all_units =
        heard_units_lem h 0 us (sending.silence out each) ∙ sets-eq copies_of out.units 0 (omega (arith, copies_many, out_32, runs.sound.count))
        ∙ ap (λ n. copies_of ++ drop n out.units) (let e : 0 + length copies_of ≡ shelf.count = omega (arith, copies_many) in e)

    unit_after : (i : ℕ) → i < shelf.count → get_or l.shelf.units i blank ≡ (hearing.copy_of (get_or us i blank) h).unit
    unfolding copies_of
    unit_after i b =
        ap (λ x. get_or x i blank) all_units ∙ get_or-append copies_of (drop shelf.count out.units) blank i (omega (arith, copies_many))
        ∙ get_d_any copies_of i blank (hearing.copy_of blank h).unit (omega (arith, copies_many)) ∙ get_or-map (λ x. (hearing.copy_of x h).unit) us i blank

    unit_beyond : (i : ℕ) → shelf.count ≤ i → get_or l.shelf.units i blank ≡ get_or shelf.units i blank
    unfolding sending.cell_out
    unit_beyond i b =
        let n = i - shelf.count in
        let at : i ≡ length copies_of + n = omega (arith, copies_many) in
        let back : shelf.count + n ≡ i = omega arith in
        ap (λ x. get_or x i blank) all_units ∙ ap (λ k. get_or (copies_of ++ drop shelf.count out.units) k blank) at
        ∙ get_or-append-add copies_of (drop shelf.count out.units) n blank ∙ get_or-drop shelf.count out.units n blank ∙ ap (λ k. get_or out.units k blank) back
        ∙ get_or-set_other shelf.units p i (sending.unit_out (admit.unit_at shelf p)) blank (λ e. omega (arith, below))

    -- what rises in each row
    abbrev heard : Bool
    heard = some_addressed fates

    addressed_is : l.addressed ≡ heard
    addressed_is = heard_addressed h 0 us (sending.silence out each)

    rises_at : (i : ℕ) → i < shelf.count → get_or l.each i 0 ≡ bit_or (taken_if (moves i)) (hearing_rises (get_or fates i fate.Other))
    rises_at i b =
        let z : 0 + i ≡ i = omega arith in
        ap (λ n. get_or l.each n 0) (sym z) ∙ heard_each h 0 us (sending.silence out each) i (omega (arith, us_many)) (omega (arith, each_long_32, runs.sound.count))
        ∙ ap₂ bit_or (ap (λ n. get_or each n 0) z ∙ each_is i b) (ap hearing_rises (sym (fate_at i b)))

    each_32_now : length l.each ≡ 32
    each_32_now = each_long h 0 us (sending.silence out each) ∙ each_long_32

    agrees : (i : ℕ) → i < shelf.count → Agree (get_or (sending.count_sent p l).each i 0) (taken_by (moves i) ++ counted p heard fates i)
    unfolding occurs
    agrees i b =
        let x = get_or fates i fate.Other in
        decide (eqb i p)
        (λ t.
        let e = eqb-true i p t in
        let own : get_or (sending.count_sent p l).each i 0 ≡ bit_or (taken_if (moves i)) (bit_or (hearing_rises x) (sending.sent_rises heard)) =
        ap (λ n. get_or (sending.count_sent p l).each n 0) e ∙ get_or-set_same l.each p (bit_or (get_or l.each p 0) (sending.sent_rises l.addressed)) 0 (omega (arith, each_32_now, below, runs.sound.count))
        ∙ ap₂ bit_or (ap (λ n. get_or l.each n 0) (sym e) ∙ rises_at i b) (ap sending.sent_rises addressed_is) ∙ or_three (moves i) x (sending.sent_rises heard) (sent_low heard) in
        let not_there : occurs (sent_counts heard ++ hearing_counts x) 12 ≡ 0 = occurs_both (sent_counts heard) (hearing_counts x) 12 ∙ ap₂ ◌+◌ (none_taken_sent heard) (none_taken_heard x) in
        subst (λ n. Agree n (taken_by (moves i) ++ counted p heard fates i)) (sym own)
        (subst (λ y. Agree (bit_or (taken_if (moves i)) (bit_or (hearing_rises x) (sending.sent_rises heard))) (taken_by (moves i) ++ (cond y (sent_counts heard) [] ++ hearing_counts x))) (sym t)
        (agree_with (moves i) (bit_or (hearing_rises x) (sending.sent_rises heard)) (sent_counts heard ++ hearing_counts x) (agree_sent x heard) not_there)))
        (λ n.
        let other = get_or-set_other l.each p i (bit_or (get_or l.each p 0) (sending.sent_rises l.addressed)) 0 (eqb-false i p n) ∙ rises_at i b in
        subst (λ k. Agree k (taken_by (moves i) ++ counted p heard fates i)) (sym other)
        (subst (λ y. Agree (bit_or (taken_if (moves i)) (hearing_rises x)) (taken_by (moves i) ++ (cond y (sent_counts heard) [] ++ hearing_counts x))) (sym n)
        (agree_with (moves i) (hearing_rises x) (hearing_counts x) (agree_hearing x) (none_taken_heard x))))

    sent_rows : RisenIn w.rows shelf.count (counted p heard fates) (settled rows (record { from = 0; to = shelf.count; anew = false; each = (sending.count_sent p l).each }))
    sent_rows =
        risen_then rows w.rows _ shelf.count (λ i. taken_by (moves i)) (counted p heard fates) (λ i. taken_by (moves i) ++ counted p heard fates i) first
        (risen_in rows shelf.count (sending.count_sent p l).each (λ i. taken_by (moves i) ++ counted p heard fates i) enough agrees)
        (λ j k. occurs_both (taken_by (moves j)) (counted p heard fates j) k)

    -- where its copy goes
    slot_at_lem : (i : ℕ) → i < shelf.count → HearingIs (unit_at shelf i) f fate.Queued → places.slot_at i (code_slot (get_or us i blank) (waits i)) ≡ slot_for (unit_at shelf i) i f
    slot_at_lem i b is =
        let o = but_inlet i in
        ap (λ x. places.slot_at i (code_slot x (waits i))) (us_at i b ∙ o.is) ∙ ap (places.slot_at i) (slot_same (unit_at shelf i) o.ring o.control o.loopback (waits i))
        ∙ slot_for_lem card shelf (unit_at shelf i) (good i b) f is.1 i

    -- each has its part of the store
    housed_out : (i : ℕ) → i < length us → admit.Housed (0 + i) (get_or us i blank) (length w.store)
    unfolding sending.cell_out
    housed_out i b =
        let all = out_housed shelf p (length w.store) (admit.unit_at shelf p) refl d.inside
        (λ j k. housed j (subst (λ n. j < n) all_declared k)) i b in
        let z : i ≡ 0 + i = omega arith in
        subst (λ n. admit.Housed n (get_or us i blank) (length w.store)) z (subst (λ x. admit.Housed i x (length w.store)) (sym (declared_at out i blank (omega (arith, us_many)))) all)

    abbrev store' : List ℕ
    store' = sending.heard_store out h w.store cell

    holds_at : (i : ℕ) → i < shelf.count → Ends i → get_or fates i fate.Other ≡ fate.Queued → get_or l.shelf.units i blank ≡ with_copy (without shelf p left i) f
    holds_at i b (keeps is not unit no_plan) e = absurd (not e)
    holds_at i b (holds_it is e unit plan) e' = unit_after i b ∙ unit

    keeps_at : (i : ℕ) → i < shelf.count → Ends i → get_or fates i fate.Other ≢ fate.Queued → get_or l.shelf.units i blank ≡ without shelf p left i
    keeps_at i b (keeps is not unit no_plan) n = unit_after i b ∙ unit
    keeps_at i b (holds_it is e unit plan) n = absurd (n e)

    stored_at : (i : ℕ) → i < shelf.count → Ends i → get_or fates i fate.Other ≡ fate.Queued → take 56 (drop (slot_for (unit_at shelf i) i f) store') ≡ cell
    unfolding places.cell_at
    stored_at i b (keeps is not unit no_plan) e = absurd (not e)
    stored_at i b (holds_it is e unit plan) e' =
        let z : 0 + i ≡ i = omega arith in
        ap (λ k. take 56 (drop k store')) (sym (slot_at_lem i b is) ∙ ap (λ n. places.slot_at n (code_slot (get_or us i blank) (waits i))) (sym z))
        ∙ store_there h cell cell_56 0 us w.store housed_out i (omega (arith, us_many)) (waits i) plan

    kept_at : (k : ℕ) → ((i : ℕ) → i < shelf.count → get_or fates i fate.Other ≡ fate.Queued → (k < slot_for (unit_at shelf i) i f) ⊎ (slot_for (unit_at shelf i) i f + 56 ≤ k)) → byte store' k ≡ byte w.store k
    kept_at k apart = store_beside h cell cell_56 0 us w.store housed_out k (λ i b n e. by i (omega (arith, us_many)) n e (ends_at i (omega (arith, us_many))))
      where
        by : (i : ℕ) → i < shelf.count → (n : Waits) → hearing.plan_of (get_or us i blank) h ≡ plan_as n → Ends i → (k < places.slot_at (0 + i) (code_slot (get_or us i blank) n)) ⊎ (places.slot_at (0 + i) (code_slot (get_or us i blank) n) + 56 ≤ k)
        by i b n e (keeps is not unit no_plan) = absurd (no_plan n e)
        by i b n e (holds_it is e' unit plan) =
            let z : 0 + i ≡ i = omega arith in
            let m : n ≡ waits i = sym (waits_back n) ∙ ap waits_of (sym e ∙ plan) ∙ waits_back (waits i) in
            subst (λ x. (k < x) ⊎ (x + 56 ≤ k)) (sym ((λ t. places.slot_at (z t) (code_slot (get_or us i blank) (m t))) ∙ slot_at_lem i b is)) (apart i b e')

    -- all of it
    sent_outcome : List ℕ → List ℕ → Outcome
    sent_outcome x c = ended (record { shelf = shelf; memory = w.memory; store = w.store; rows = rows }) (framing.ended shelf (framing.granted shelf) (sending.count_sent p (sending.heard_by_all out each (bus.heard x)))) (sending.heard_store out (bus.heard x) w.store c) x

    outcome_is : comes_to (Some p) ≡ sent_outcome f cell
    unfolding outcome framing.listened_by framing.store_by framing.buffer_by sending.sent_by sending.sent_store sent_outcome
    outcome_is = (λ i. sent_outcome (frame_is i) (take 56 (frame_is i))) ∙ ap (sent_outcome f) before

    copies_are : l.copies ≡ queued_in fates
    copies_are = let e = heard_copies h 0 us (sending.silence out each) in omega arith

    sends : Sends w p l.copies (sent_outcome f cell)
    unfolding sent_outcome
    sends =
        record {
          sender = d;
          slot = sending.send_slot u;
          left = left;
          from = sends_from u ((runs.sound.each p d.inside).grant d.named);
          cell = cell;
          oldest = refl;
          bytes = refl;
          fates = fates;
          many = fates_many;
          each = λ i b. is_fate i (ends_at i b);
          only = λ i b other o. one_fate (unit_at shelf i) f f_57 other (get_or fates i fate.Other) o (is_fate i (ends_at i b));
          queued = copies_are;
          holds = λ i b. holds_at i b (ends_at i b);
          keeps = λ i b. keeps_at i b (ends_at i b);
          beyond = unit_beyond;
          places = many_kept h 0 us (sending.silence out each) ∙ out_32;
          stored = λ i b. stored_at i b (ends_at i b);
          kept = kept_at;
          long = store_length h 0 us w.store cell cell_56 housed_out;
          heard = heard;
          unheard = subst (λ n. (heard ≢ true) ↔ ((i : ℕ) → i < n → (get_or fates i fate.Other ≡ fate.Damaged) ⊎ (get_or fates i fate.Other ≡ fate.Other))) fates_many (none_addressed fates);
          rows = sent_rows;
        }

    sent_frame_lem : Turned w buffer (comes_to (Some p))
    unfolding sent_outcome framing.listened_by sending.sent_by
    sent_frame_lem =
        let same_l : heard_of (Some p) ≡ sending.count_sent p l = ap (λ x. sending.count_sent p (sending.heard_by_all out each (bus.heard x))) frame_is in
        framed (Some p)
        (ap (λ (x : Listened). x.shelf.bus) same_l ∙ bus_kept h 0 us (sending.silence out each) ∙ out_bus)
        (ap (λ (x : Listened). x.shelf.count) same_l ∙ count_kept h 0 us (sending.silence out each) ∙ out_count)
        (λ e. absurd (let b = below_32 card shelf runs.whole (length w.store) (length w.rows) runs.sound p d.inside in omega (arith, d.named)))
        (λ n. (p, subst (λ o. Sends w p (heard_of (Some p)).copies o) (sym outcome_is) (subst (λ k. Sends w p k (sent_outcome f cell)) (sym (ap (λ (x : Listened). x.copies) same_l)) sends)))

  idle_framed : shelf.granted ≡ 255 → Turned w buffer (comes_to None)
  unfolding framing.listened_by
  idle_framed e = framed None refl refl (λ q. idle_frame) (λ n. absurd (n e))

  turns_over : Turned w buffer (comes_to (framing.sender shelf))
  turns_over =
      ⊎_elim
      (λ e. subst (λ x. Turned w buffer (comes_to x)) (sym (nobody_there e)) (idle_framed e))
      (λ d. subst (λ x. Turned w buffer (comes_to x)) (sym (found d.0 d.1)) (sent_frame_lem d.0 d.1))
      runs.sound.granted

-- D. the whole: the moves first
module _ (card : Card) (w : World) (runs : Runs card w) (buffer : List ℕ) (whole : length buffer ≡ 57) where
  abbrev moved : ℕ → Bool
  moved i = moving.moves (unit_at w.shelf i)

  comes : happens card w (frame buffer) ≡ outcome (middle w) w.rows (moving.moved_each w.shelf) buffer (framing.sender (moving.moved w.shelf))
  unfolding happens framing.checked outcome middle
  comes = rw ((sound_iff card w.shelf (length w.store) (length w.rows)).1 runs.sound, whole)

  same_many : (middle w).shelf.count ≡ w.shelf.count
  unfolding middle
  same_many = same_count card w runs

  first_rows : RisenIn w.rows (middle w).shelf.count (λ i. taken_by (moved i)) (middle w).rows
  first_rows =
      subst (λ n. RisenIn w.rows n (λ i. taken_by (moved i)) (middle w).rows) (sym same_many)
      (subst (λ cs. RisenIn w.rows w.shelf.count cs (middle w).rows) (λ t i. counts_are (unit_at w.shelf i) t) (have_moved card w runs).rows)

  turned_over : Turned (middle w) buffer (outcome (middle w) w.rows (moving.moved_each w.shelf) buffer (framing.sender (middle w).shelf))
  turned_over =
      turns_over card (middle w) (runs_between card w runs) w.rows (moving.moved_each w.shelf) moved (each_32 card w runs) (λ i h. each_at card w runs i (omega (arith, same_many))) first_rows buffer

  frames : Framed w buffer (happens card w (frame buffer))
  unfolding middle
  frames = record { between = middle w; moved = have_moved card w runs; turned = subst (Turned (middle w) buffer) (sym comes) turned_over }

pub frame_rule : OnShelves FrameRule
frame_rule card w runs buffer whole = frames card w runs buffer whole
