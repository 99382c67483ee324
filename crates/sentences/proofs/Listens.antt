-- Units hear a frame one after the other: the units, the counters, the copies and the store, place by place. Assumes nothing.
use Prim.Native.Nat.{ℕ, zero, suc, ◌+◌, ◌<◌, ◌≤◌}
use native.Mathlib.Omega.{arith}
use mathlib.Core.Path.{◌≡◌, refl, sym, ap, subst, ◌∙◌}
use mathlib.Core.Logic.{◌≢◌, ◌⊎◌, ◌↔◌, inl, ⊎_elim}
use mathlib.Core.Bool.{Bool, true, false, ◌||◌, false≢true}
use mathlib.Core.List.{List, [], ◌∷◌, map}
use lib.ListN.{length, get_or, drop}
use lib.Seq.{get_or-take, get_or-drop}
use Rattle.octets.specs.Octets.{splice, part}
use Rattle.octets.proofs.Parts.{part_before, part_after}
use Rattle.bus.specs.Heard as sort
use Rattle.bus.specs.declared.Target.TheVariants as target
use Rattle.outlet.specs.declared.Ring.{Ring}
use Rattle.store.specs.Places.{slot_at, cell_at, put_at}
use Rattle.store.proofs.Slots.{slot_inside, put_here, put_other}
use Rattle.shelf.specs.declared.Unit as U
use Rattle.answer.specs.Answers.{is_addressed}
use Rattle.answer.specs.declared.Hearing as H
use Rattle.answer.specs.declared.Hearing.TheVariants as fate
use Rattle.soundness.specs.Admission.{Housed}
use Rattle.hearing.specs.Hearings.{Plan, Queue, ToControl, ToLoopback, Lost, addressed, plan_of, copy_of, store_of, store_by}
use Rattle.hearing.proofs.Plans.{plan_queue, slot_below, control_below}
use Rattle.framing.specs.Sending.{Listened, after, heard_from, store_from}
use Rattle.running.proofs.Copies.{store_kept}
use Rattle.paper.specs.State.{blank}
use Rattle.paper.specs.Hearing.{Waits, in_queue, in_control, in_loopback, held_in, queued_in, Quiet}
use Rattle.paper.proofs.Hearing.{queued_more, quiet_to, quiet_from}
use Rattle.sentences.specs.Changes.{with_inlet, with_side}
use Rattle.sentences.proofs.Hears.{plan_as, code_slot, store_as}

-- a unit with other cells in its inlet: what is planned for it, and where that goes, is as it was
abbrev pub sideways : U.Unit → Ring → ℕ → ℕ → U.Unit
sideways u ring controlin loopbackin = with_side (with_inlet u ring) controlin loopbackin u.side.controlout u.side.loopbackout

module _ (u : U.Unit) (r : Ring) (controlin loopbackin : ℕ) where
  pub plan_same : (h : sort.Heard) → plan_of (sideways u r controlin loopbackin) h ≡ plan_of u h
  unfolding plan_of addressed
  plan_same sort.Length = refl
  plan_same sort.Damaged = refl
  plan_same (sort.Cell (target.Unit n) class header) = refl
  plan_same (sort.Cell (target.Session n) class header) = refl
  plan_same (sort.Cell target.All class header) = refl
  plan_same (sort.Control n) = refl
  plan_same (sort.Loopback n) = refl

  pub slot_same : (x : Waits) → code_slot (sideways u r controlin loopbackin) x ≡ code_slot u x
  unfolding code_slot
  slot_same (in_queue q) = refl
  slot_same in_control = refl
  slot_same in_loopback = refl

  pub held_same : (x : Waits) → held_in (sideways u r controlin loopbackin) x ≡ held_in u x
  held_same (in_queue q) = refl
  held_same in_control = refl
  held_same in_loopback = refl

-- whether one of these fates is that of a unit that is addressed
unfoldable pub some_addressed : List H.Hearing → Bool
some_addressed [] = false
some_addressed (x ∷ fates) = is_addressed x || some_addressed fates

module _ (h : sort.Heard) where
  abbrev pub fates_of : List U.Unit → List H.Hearing
  fates_of us = map (λ u. (copy_of u h).fate) us

  pub heard_copies : (place : ℕ) (us : List U.Unit) (l : Listened) → (heard_from h place us l).copies ≡ l.copies + queued_in (fates_of us)
  unfolding heard_from queued_in
  heard_copies place [] l = omega arith
  heard_copies place (u ∷ us) l =
      let e = heard_copies (suc place) us (after place (copy_of u h) l) in
      let f = queued_more (copy_of u h).fate (fates_of us) in
      omega arith

  or_false : (b : Bool) → b ≡ (b || false)
  or_false true = refl
  or_false false = refl

  or_assoc : (a b c : Bool) → ((a || b) || c) ≡ (a || (b || c))
  or_assoc true b c = refl
  or_assoc false b c = refl

  pub heard_addressed : (place : ℕ) (us : List U.Unit) (l : Listened) → (heard_from h place us l).addressed ≡ (l.addressed || some_addressed (fates_of us))
  unfolding heard_from some_addressed
  heard_addressed place [] l = or_false l.addressed
  heard_addressed place (u ∷ us) l =
      heard_addressed (suc place) us (after place (copy_of u h) l) ∙ or_assoc l.addressed (is_addressed (copy_of u h).fate) (some_addressed (fates_of us))

-- nobody is addressed exactly if every fate is `damaged` or `other`
neither : (a b : Bool) → (a || b) ≡ false → (a ≡ false) × (b ≡ false)
neither true b e = absurd (false≢true (sym e))
neither false b e = (refl, e)

all_quiet : (fates : List H.Hearing) → some_addressed fates ≡ false → (i : ℕ) → i < length fates → Quiet (get_or fates i fate.Other)
unfolding some_addressed
all_quiet [] e i h = absurd (omega arith)
all_quiet (x ∷ fates) e zero h = quiet_to x (neither (is_addressed x) (some_addressed fates) e).0
all_quiet (x ∷ fates) e (suc i) h = all_quiet fates (neither (is_addressed x) (some_addressed fates) e).1 i (omega arith)

quiet_all : (fates : List H.Hearing) → ((i : ℕ) → i < length fates → Quiet (get_or fates i fate.Other)) → some_addressed fates ≡ false
unfolding some_addressed
quiet_all [] f = refl
quiet_all (x ∷ fates) f = λ i. quiet_from x (f 0 (omega arith)) i || quiet_all fates (λ j h. f (suc j) (omega arith)) i

not_true : (b : Bool) → b ≢ true → b ≡ false
not_true true n = absurd (n refl)
not_true false n = refl

pub none_addressed : (fates : List H.Hearing) → (some_addressed fates ≢ true) ↔ ((i : ℕ) → i < length fates → (get_or fates i fate.Other ≡ fate.Damaged) ⊎ (get_or fates i fate.Other ≡ fate.Other))
none_addressed fates = (λ n. all_quiet fates (not_true (some_addressed fates) n), λ f e. false≢true (sym (quiet_all fates f) ∙ e))

-- The store. A byte of a list, seen as a part of it
byte_of : (b : List ℕ) (k : ℕ) → get_or (part b k 1) 0 0 ≡ get_or b k 0
byte_of b k = get_or-take 1 (drop k b) 0 0 (omega arith) ∙ get_or-drop k b 0 0 ∙ ap (λ n. get_or b n 0) (let e : k + 0 ≡ k = omega arith in e)

-- a byte beside what is written
pub beside : (store : List ℕ) (at : ℕ) (cell : List ℕ) → at + length cell ≤ length store → (k : ℕ) → (k < at) ⊎ (at + length cell ≤ k) → get_or (splice store at cell) k 0 ≡ get_or store k 0
beside store at cell fits k out =
    sym (byte_of (splice store at cell) k)
    ∙ ap (λ (l : List ℕ). get_or l 0 0) (⊎_elim (λ h. part_before store at cell fits k 1 (omega arith)) (λ h. part_after store at cell fits k 1 (omega arith)) out)
    ∙ byte_of store k

-- a copy is lost, or it is held somewhere
pub data Ending (p : Plan) : Type 0 where
  lost : (x : H.Hearing) → p ≡ Lost x → Ending p
  held : (x : Waits) → p ≡ plan_as x → Ending p

pub ending : (p : Plan) → Ending p
unfolding plan_as
ending (Lost x) = lost x refl
ending (Queue q) = held (in_queue q) refl
ending ToControl = held in_control refl
ending ToLoopback = held in_loopback refl

-- where a held copy goes is one of the unit's slots
slot_in : (u : U.Unit) (h : sort.Heard) (place bytes : ℕ) → Housed place u bytes → (x : Waits) → plan_of u h ≡ plan_as x → code_slot u x < 146
unfolding plan_as code_slot
slot_in u h place bytes housed (in_queue q) e = slot_below place bytes u q housed (plan_queue u h q e)
slot_in u h place bytes housed in_control e = control_below place bytes u housed
slot_in u h place bytes housed in_loopback e = omega arith

module _ (h : sort.Heard) (cell : List ℕ) (whole : length cell ≡ 56) where
  -- one unit: the store is as it was, or has the cell in the slot
  held_store : (u : U.Unit) (place : ℕ) (store : List ℕ) (x : Waits) → plan_of u h ≡ plan_as x → store_of u h place store cell ≡ put_at store place (code_slot u x) cell
  held_store u place store x e = ap (λ p. store_by p u place store cell) e ∙ store_as x u place store cell

  lost_store : (u : U.Unit) (place : ℕ) (store : List ℕ) (x : H.Hearing) → plan_of u h ≡ Lost x → store_of u h place store cell ≡ store
  unfolding store_by
  lost_store u place store x e = ap (λ p. store_by p u place store cell) e

  one_kept : (u : U.Unit) (place : ℕ) (store : List ℕ) → Housed place u (length store) → (k : ℕ) → ((x : Waits) → plan_of u h ≡ plan_as x → (k < slot_at place (code_slot u x)) ⊎ (slot_at place (code_slot u x) + 56 ≤ k)) →
      get_or (store_of u h place store cell) k 0 ≡ get_or store k 0
  unfolding put_at
  one_kept u place store housed k out = by (ending (plan_of u h))
    where
      by : Ending (plan_of u h) → get_or (store_of u h place store cell) k 0 ≡ get_or store k 0
      by (lost x e) = ap (λ (s : List ℕ). get_or s k 0) (lost_store u place store x e)
      by (held x e) =
          let room = (slot_inside place (code_slot u x) (slot_in u h place (length store) housed x e)).1 in
          ap (λ (s : List ℕ). get_or s k 0) (held_store u place store x e)
          ∙ beside store (slot_at place (code_slot u x)) cell (omega (arith, room, housed.inside)) k (subst (λ n. (k < slot_at place (code_slot u x)) ⊎ (slot_at place (code_slot u x) + n ≤ k)) (sym whole) (out x e))

  -- the parts and the units that are still to come
  rest_housed : (place : ℕ) (u : U.Unit) (us : List U.Unit) (store : List ℕ) → ((i : ℕ) → i < length (u ∷ us) → Housed (place + i) (get_or (u ∷ us) i blank) (length store)) → (i : ℕ) → i < length us → Housed (suc place + i) (get_or us i blank) (length (store_of u h place store cell))
  rest_housed place u us store housed i few =
      let on : place + 0 ≡ place = omega arith in
      let next : place + suc i ≡ suc place + i = omega arith in
      let one = store_kept u h place store cell (subst (λ p. Housed p u (length store)) on (housed 0 (omega arith))) whole in
      subst (λ n. Housed (suc place + i) (get_or us i blank) n) (sym one) (subst (λ p. Housed p (get_or us i blank) (length store)) next (housed (suc i) (omega arith)))

  -- all of them
  pub store_beside : (place : ℕ) (us : List U.Unit) (store : List ℕ) → ((i : ℕ) → i < length us → Housed (place + i) (get_or us i blank) (length store)) → (k : ℕ) →
      ((i : ℕ) → i < length us → (x : Waits) → plan_of (get_or us i blank) h ≡ plan_as x → (k < slot_at (place + i) (code_slot (get_or us i blank) x)) ⊎ (slot_at (place + i) (code_slot (get_or us i blank) x) + 56 ≤ k)) →
      get_or (store_from h place us store cell) k 0 ≡ get_or store k 0
  unfolding store_from
  store_beside place [] store housed k out = refl
  store_beside place (u ∷ us) store housed k out =
      let on : place + 0 ≡ place = omega arith in
      let here = subst (λ p. Housed p u (length store)) on (housed 0 (omega arith)) in
      store_beside (suc place) us (store_of u h place store cell) (rest_housed place u us store housed) k
      (λ i few x e. let next : place + suc i ≡ suc place + i = omega arith in subst (λ p. (k < slot_at p (code_slot (get_or us i blank) x)) ⊎ (slot_at p (code_slot (get_or us i blank) x) + 56 ≤ k)) next (out (suc i) (omega arith) x e))
      ∙ one_kept u place store here k (λ x e. subst (λ p. (k < slot_at p (code_slot u x)) ⊎ (slot_at p (code_slot u x) + 56 ≤ k)) on (out 0 (omega arith) x e))

  -- the slots of a unit before them
  one_other : (u : U.Unit) (place : ℕ) (store : List ℕ) → Housed place u (length store) → (j s : ℕ) → s < 146 → place ≢ j → cell_at (store_of u h place store cell) j s ≡ cell_at store j s
  one_other u place store housed j s few apart = by (ending (plan_of u h))
    where
      by : Ending (plan_of u h) → cell_at (store_of u h place store cell) j s ≡ cell_at store j s
      by (lost x e) = ap (λ t. cell_at t j s) (lost_store u place store x e)
      by (held x e) =
          ap (λ t. cell_at t j s) (held_store u place store x e) ∙ put_other store place (code_slot u x) (slot_in u h place (length store) housed x e) housed.inside cell whole j s few (inl apart)

  before : (place : ℕ) (us : List U.Unit) (store : List ℕ) → ((i : ℕ) → i < length us → Housed (place + i) (get_or us i blank) (length store)) → (j s : ℕ) → s < 146 → j < place → cell_at (store_from h place us store cell) j s ≡ cell_at store j s
  unfolding store_from
  before place [] store housed j s few less = refl
  before place (u ∷ us) store housed j s few less =
      let on : place + 0 ≡ place = omega arith in
      before (suc place) us (store_of u h place store cell) (rest_housed place u us store housed) j s few (omega arith)
      ∙ one_other u place store (subst (λ p. Housed p u (length store)) on (housed 0 (omega arith))) j s few (λ e. omega arith)

  -- a queued copy stands in its slot
  one_there : (u : U.Unit) (place : ℕ) (store : List ℕ) → Housed place u (length store) → (x : Waits) → plan_of u h ≡ plan_as x → cell_at (store_of u h place store cell) place (code_slot u x) ≡ cell
  one_there u place store housed x e =
      ap (λ t. cell_at t place (code_slot u x)) (held_store u place store x e) ∙ put_here store place (code_slot u x) (slot_in u h place (length store) housed x e) housed.inside cell whole

  pub store_there : (place : ℕ) (us : List U.Unit) (store : List ℕ) → ((i : ℕ) → i < length us → Housed (place + i) (get_or us i blank) (length store)) → (i : ℕ) → i < length us → (x : Waits) → plan_of (get_or us i blank) h ≡ plan_as x →
      cell_at (store_from h place us store cell) (place + i) (code_slot (get_or us i blank) x) ≡ cell
  unfolding store_from
  store_there place [] store housed i few x e = absurd (omega arith)
  store_there place (u ∷ us) store housed zero few x e =
      let on : place + 0 ≡ place = omega arith in
      let here = subst (λ p. Housed p u (length store)) on (housed 0 (omega arith)) in
      ap (λ p. cell_at (store_from h (suc place) us (store_of u h place store cell) cell) p (code_slot u x)) on
      ∙ before (suc place) us (store_of u h place store cell) (rest_housed place u us store housed) place (code_slot u x) (slot_in u h place (length store) here x e) (omega arith)
      ∙ one_there u place store here x e
  store_there place (u ∷ us) store housed (suc i) few x e =
      let next : place + suc i ≡ suc place + i = omega arith in
      ap (λ p. cell_at (store_from h (suc place) us (store_of u h place store cell) cell) p (code_slot (get_or us i blank) x)) next
      ∙ store_there (suc place) us (store_of u h place store cell) (rest_housed place u us store housed) i (omega arith) x e
