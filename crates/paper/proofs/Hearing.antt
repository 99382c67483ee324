-- What `outlet` and `shelf` say of a copy is what the paper says. Assumes nothing.
use Prim.Native.Nat.{ℕ, ◌+◌, ◌/◌, ◌%◌, ◌^◌, ◌<◌, ◌≤◌}
use native.Mathlib.Nat.{mod-lt}
use native.Mathlib.Omega.{arith}
use mathlib.Core.Path.{◌≡◌, refl, sym, ap, subst}
use mathlib.Core.Logic.{◌≢◌, ◌↔◌, inl, inr, ⊎_elim}
use mathlib.Core.Bool.{true, false, false≢true}
use mathlib.Core.List.{List, ◌∷◌}
use lib.ListN.{length, get_or}
use borrow.Author.Tests.{eqb-true, eq-eqb, ne_eqb}
use Rattle.header.specs.Fields.{fields}
use Rattle.outlet.specs.Outlets as outlet
use Rattle.outlet.specs.declared.Mode.{Mode}
use Rattle.outlet.specs.declared.Mode.TheVariants.{One, Four}
use Rattle.outlet.specs.Hearing as queueing
use Rattle.outlet.specs.declared.Fate.{Fate}
use Rattle.outlet.specs.declared.Fate.TheVariants as fate
use Rattle.shelf.specs.Sessions.{hears}
use Rattle.shelf.specs.declared.Unit as U
use Rattle.paper.specs.Cells.{two, four, kind, class, address}
use Rattle.paper.specs.Outlets.{queues_in, queues, number_for, queue_at, held, AtLimit}
use Rattle.answer.specs.Answers.{queued_one, is_addressed}
use Rattle.answer.specs.declared.Hearing as H
use Rattle.answer.specs.declared.Hearing.TheVariants as hearing
use Rattle.paper.specs.Hearing.{Hears, Addressed, by_unit, by_session, by_broadcast, by_third, queue_of, in_queue, in_control, in_loopback, waits_in, room_in, held_in, NoRoom, Room, Data, TooWide, Discards, queued_in, Quiet}
use Rattle.store.proofs.Slots.{by_lt}
use Rattle.paper.proofs.Outlets.{number_is, capacity_is, limit_iff}

-- a session
pub hears_iff : (sessions : List ℕ) (s : ℕ) → (hears sessions s ≡ true) ↔ Hears sessions s
unfolding hears
hears_iff sessions s = (eqb-true (get_or sessions (s / 8) 0 / 2 ^ (s % 8) % 2) 1, eq-eqb (get_or sessions (s / 8) 0 / 2 ^ (s % 8) % 2) 1)

-- the queue of a class is one of this mode
number_in : (mode : Mode) (l c v class : ℕ) → class < 4 → number_for mode class < length (queues_in mode l c v)
number_in One l c v class h = omega arith
number_in Four l c v class h = h

module _ (u : U.Unit) (f : List ℕ) where
  abbrev q : ℕ
  q = queue_of u f

  small : class (two f 0) < 4
  small = mod-lt (two f 0 / 4096) (omega arith)

  pub queue_is : queueing.queue_of u.outlet.limits (class (two f 0)) ≡ q
  queue_is = number_is u.outlet.limits (class (two f 0)) small

  pub queue_in : q < length (queues u.outlet.limits)
  queue_in = number_in u.outlet.limits.mode u.outlet.limits.cbrlength u.outlet.limits.cbrlimit u.outlet.limits.vbrlimit (class (two f 0)) small

  -- where a frame's cell waits
  pub waits_queue : Data f → waits_in u f ≡ in_queue q
  waits_queue d = rw (ne_eqb (kind (two f 0)) 3 d)

  pub waits_control : kind (two f 0) ≡ 3 → class (two f 0) ≡ 0 → waits_in u f ≡ in_control
  waits_control k c = rw (eq-eqb (kind (two f 0)) 3 k, eq-eqb (class (two f 0)) 0 c)

  pub waits_loopback : kind (two f 0) ≡ 3 → class (two f 0) ≡ 1 → waits_in u f ≡ in_loopback
  waits_loopback k c = rw (eq-eqb (kind (two f 0)) 3 k, ne_eqb (class (two f 0)) 0 (λ e. omega arith))

  -- whether there is room for a control or a loopback cell
  pub control_full : kind (two f 0) ≡ 3 → class (two f 0) ≡ 0 → NoRoom u f ↔ (4 ≤ u.side.controlout.count)
  control_full k c = (subst (λ w. room_in u w ≤ held_in u w) (waits_control k c), subst (λ w. room_in u w ≤ held_in u w) (sym (waits_control k c)))

  pub control_room : kind (two f 0) ≡ 3 → class (two f 0) ≡ 0 → Room u f ↔ (u.side.controlout.count < 4)
  control_room k c = (subst (λ w. held_in u w < room_in u w) (waits_control k c), subst (λ w. held_in u w < room_in u w) (sym (waits_control k c)))

  pub loopback_full : kind (two f 0) ≡ 3 → class (two f 0) ≡ 1 → NoRoom u f ↔ (1 ≤ u.side.loopbackout)
  loopback_full k c = (subst (λ w. room_in u w ≤ held_in u w) (waits_loopback k c), subst (λ w. room_in u w ≤ held_in u w) (sym (waits_loopback k c)))

  pub loopback_room : kind (two f 0) ≡ 3 → class (two f 0) ≡ 1 → Room u f ↔ (u.side.loopbackout < 1)
  loopback_room k c = (subst (λ w. held_in u w < room_in u w) (waits_loopback k c), subst (λ w. held_in u w < room_in u w) (sym (waits_loopback k c)))

  -- a control or a loopback cell is for one unit, and meets neither `wide` nor `clp`
  pub third_iff : kind (two f 0) ≡ 3 → Addressed u (two f 0) ↔ (u.settings.number ≡ address (two f 0))
  third_iff k = (named, λ e. by_third k (sym e))
    where
      named : Addressed u (two f 0) → u.settings.number ≡ address (two f 0)
      named (by_unit e n) = absurd (omega arith)
      named (by_session e n) = absurd (omega arith)
      named (by_broadcast e) = absurd (omega arith)
      named (by_third e n) = sym n

  pub third_narrow : kind (two f 0) ≡ 3 → TooWide u f → ⊥
  third_narrow k w = w.0 k

  pub third_kept : kind (two f 0) ≡ 3 → Discards u f → ⊥
  third_kept k d = d.0 k

  abbrev room : ℕ
  room = (queue_at u.outlet q).capacity

  abbrev Limited : Type 0
  Limited = AtLimit (queue_at u.outlet q).limit (held u.outlet q)

  -- what the paper says of each of the four fates of a copy that is addressed to the unit
  abbrev pub CopyIs : Fate → Type 0
  CopyIs fate.Wide = TooWide u f
  CopyIs fate.Full = (TooWide u f → ⊥) × NoRoom u f
  CopyIs fate.Clp = (TooWide u f → ⊥) × Room u f × Discards u f
  CopyIs fate.Queued = (TooWide u f → ⊥) × Room u f × (Discards u f → ⊥)

  -- the same as the code's room has it, with its capacity and its limit
  abbrev Code : ℕ → Fate → Type 0
  Code p x = queueing.FateIn u.outlet p (four f 4) x

  room_is : outlet.capacity u.outlet.limits q ≡ room
  room_is = capacity_is u.outlet.limits q

  limited : held u.outlet q < room → (queueing.limit u.outlet.limits q ≤ held u.outlet q) ↔ Limited
  limited h = limit_iff u.outlet.limits q (held u.outlet q) queue_in (subst (λ n. held u.outlet q < n) (sym room_is) h)

  abbrev Was : Fate → Type 0
  Was x = queueing.FateOf u.outlet u.settings.link (class (two f 0)) (four f 4) x

  moved : (x : Fate) → Code (queueing.queue_of u.outlet.limits (class (two f 0))) x → Code q x
  moved x c = subst (λ p. Code p x) queue_is c

  moved_back : (x : Fate) → Code q x → Code (queueing.queue_of u.outlet.limits (class (two f 0))) x
  moved_back x c = subst (λ p. Code p x) (sym queue_is) c

  -- of a data cell
  module _ (data_cell : Data f) where
    there : waits_in u f ≡ in_queue q
    there = waits_queue data_cell

    full_to : outlet.capacity u.outlet.limits q ≤ held u.outlet q → NoRoom u f
    full_to h = subst (λ w. room_in u w ≤ held_in u w) (sym there) (subst (λ k. k ≤ held u.outlet q) room_is h)

    full_from : NoRoom u f → outlet.capacity u.outlet.limits q ≤ held u.outlet q
    full_from h = subst (λ k. k ≤ held u.outlet q) (sym room_is) (subst (λ w. room_in u w ≤ held_in u w) there h)

    room_to : held u.outlet q < outlet.capacity u.outlet.limits q → Room u f
    room_to h = subst (λ w. held_in u w < room_in u w) (sym there) (subst (λ k. held u.outlet q < k) room_is h)

    -- there is room in its queue
    pub room_from : Room u f → held u.outlet q < room
    room_from h = subst (λ w. held_in u w < room_in u w) there h

    narrow_to : (queueing.TooWide u.settings.link (four f 4) → ⊥) → TooWide u f → ⊥
    unfolding fields
    narrow_to n w = n (w.1, w.2)

    narrow_from : (TooWide u f → ⊥) → queueing.TooWide u.settings.link (four f 4) → ⊥
    unfolding fields
    narrow_from n w = n (data_cell, w.0, w.1)

    at_to : (x : Fate) → (TooWide u f → ⊥) → Code q x → CopyIs x
    unfolding fields
    at_to fate.Wide n c = absurd c
    at_to fate.Full n c = (n, full_to c)
    at_to fate.Clp n c = (n, room_to c.0, (data_cell, c.1, (limited (room_from (room_to c.0))).0 c.2))
    at_to fate.Queued n c = (n, room_to c.0, λ d. let less = c.1 d.1 in let more = (limited (room_from (room_to c.0))).1 d.2 in omega arith)

    pub copy_to : (x : Fate) → Was x → CopyIs x
    unfolding fields
    copy_to fate.Wide c = (data_cell, c.0, c.1)
    copy_to fate.Full c = at_to fate.Full (narrow_to c.0) (moved fate.Full c.1)
    copy_to fate.Clp c = at_to fate.Clp (narrow_to c.0) (moved fate.Clp c.1)
    copy_to fate.Queued c = at_to fate.Queued (narrow_to c.0) (moved fate.Queued c.1)

    code_room : Room u f → held u.outlet q < outlet.capacity u.outlet.limits q
    code_room h = subst (λ k. held u.outlet q < k) (sym room_is) (room_from h)

    pub copy_from : (x : Fate) → CopyIs x → Was x
    unfolding fields
    copy_from fate.Wide c = (c.1, c.2)
    copy_from fate.Full c = (narrow_from c.0, moved_back fate.Full (full_from c.1))
    copy_from fate.Clp c = (narrow_from c.0, moved_back fate.Clp (code_room c.1, c.2.1, (limited (room_from c.1)).1 c.2.2))
    copy_from fate.Queued c = (
      narrow_from c.0,
      moved_back fate.Queued
          (code_room c.1, λ one. by_lt (held u.outlet q) (queueing.limit u.outlet.limits q) (λ h. h) (λ h. absurd (c.2 (data_cell, one, (limited (room_from c.1)).0 h)))),
    )

-- the copies queued, and whether a unit is addressed, of each fate
pub queued_more : (x : H.Hearing) (fates : List H.Hearing) → queued_in (x ∷ fates) ≡ queued_one x + queued_in fates
unfolding queued_in queued_one
queued_more hearing.Damaged fates = omega arith
queued_more hearing.Other fates = omega arith
queued_more hearing.Wide fates = omega arith
queued_more hearing.Full fates = omega arith
queued_more hearing.Clp fates = omega arith
queued_more hearing.Queued fates = omega arith

pub quiet_to : (x : H.Hearing) → is_addressed x ≡ false → Quiet x
unfolding is_addressed
quiet_to hearing.Damaged e = inl refl
quiet_to hearing.Other e = inr refl
quiet_to hearing.Wide e = absurd (false≢true (sym e))
quiet_to hearing.Full e = absurd (false≢true (sym e))
quiet_to hearing.Clp e = absurd (false≢true (sym e))
quiet_to hearing.Queued e = absurd (false≢true (sym e))

pub quiet_from : (x : H.Hearing) → Quiet x → is_addressed x ≡ false
unfolding is_addressed
quiet_from x q = ⊎_elim (λ e. ap is_addressed e) (λ e. ap is_addressed e) q
