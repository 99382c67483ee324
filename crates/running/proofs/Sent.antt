-- A frame has been sent and heard: what is left of the units and of the store. Assumes nothing.
use Prim.Native.Nat.{ℕ, zero, suc, ◌+◌, ◌-◌, ◌<◌, ◌≤◌}
use native.Mathlib.Omega.{arith}
use mathlib.Core.Path.{◌≡◌, refl, sym, ap, subst, ◌∙◌}
use mathlib.Core.Logic.{◌⊎◌, inl, inr, ⊎_elim}
use mathlib.Core.Bool.{Bool, true, false, cond}
use mathlib.Core.List.{List, [], ◌∷◌, ◌++◌, map}
use lib.Bits.{bit_or}
use lib.Dec.{eqb, leb}
use lib.ListN.{length, length-set, length-take, get_or, drop, get_or-append}
use lib.Seq.{sets, sets-eq, get_or-set_same, get_or-set_other}
use borrow.Author.Tests.{eq-eqb, leb-true}
use Rattle.arbiter.specs.Arbitration.{besides}
use Rattle.bus.specs.Heard as H
use Rattle.store.specs.Places.{Cell}
use Rattle.store.specs.Rings.{popped}
use Rattle.store.proofs.Rounds.{popped_fits}
use Rattle.shelf.specs.Shelves.{declared, blank, waiting, number_of}
use Rattle.shelf.specs.declared.Unit as U
use Rattle.shelf.specs.Shelf.{Shelf}
use Rattle.shelf.proofs.Finding.{declared_at}
use Rattle.answer.specs.Answers.{hearing_rises}
use Rattle.answer.specs.declared.Hearing as A
use Rattle.answer.specs.declared.Hearing.TheVariants as fate·
use Rattle.paper.specs.Counters.{sent, unheard, damaged, queued, full, clp, wide, hearing_counts, sent_counts, occurs}
use Rattle.paper.proofs.Counters.{tallies, Agree, agree}
use Rattle.soundness.specs.Admission.{unit_at, with_unit, with_inlet, with_side, Housed}
use Rattle.hearing.specs.Hearings.{copy_of, store_of}
use Rattle.framing.specs.Sending.{Listened, silence, after, heard_from, store_from, heard_by_all, sent_rises, unit_out}
use Rattle.running.proofs.Changed.{set_or}
use Rattle.running.proofs.Copies.{copied, store_kept}
use Rattle.running.proofs.Went.{Went, went_copy, went_nowhere}

-- a place of a run of stores
pub sets_at : {X : Type 0} (vs l : List X) (k : ℕ) (x : X) → length vs ≤ length l → k < length vs → get_or (sets l 0 vs) k x ≡ get_or vs k x
sets_at vs l k x fits few = ap (λ m. get_or m k x) (sets-eq vs l 0 (omega arith)) ∙ get_or-append vs (drop (0 + length vs) l) x k few

-- these units hear a frame
module _ (h : H.Heard) where
  -- every unit becomes its copy
  pub heard_units_lem : (place : ℕ) (us : List U.Unit) (l : Listened) → (heard_from h place us l).shelf.units ≡ sets l.shelf.units place (map (λ u. (copy_of u h).unit) us)
  unfolding heard_from
  heard_units_lem place [] l = refl
  heard_units_lem place (u ∷ us) l = heard_units_lem (suc place) us (after place (copy_of u h) l)

  -- every row has its fate's counters besides those that stood there
  pub each_long : (place : ℕ) (us : List U.Unit) (l : Listened) → length (heard_from h place us l).each ≡ length l.each
  unfolding heard_from
  each_long place [] l = refl
  each_long place (u ∷ us) l = each_long (suc place) us (after place (copy_of u h) l) ∙ length-set l.each place (bit_or (get_or l.each place 0) (hearing_rises (copy_of u h).fate))

  each_before : (place : ℕ) (us : List U.Unit) (l : Listened) (j : ℕ) → j < place → get_or (heard_from h place us l).each j 0 ≡ get_or l.each j 0
  unfolding heard_from
  each_before place [] l j low = refl
  each_before place (u ∷ us) l j low =
      each_before (suc place) us (after place (copy_of u h) l) j (omega arith)
      ∙ get_or-set_other l.each place j (bit_or (get_or l.each place 0) (hearing_rises (copy_of u h).fate)) 0 (λ e. omega arith)

  pub heard_each : (place : ℕ) (us : List U.Unit) (l : Listened) (k : ℕ) → k < length us → place + k < length l.each →
      get_or (heard_from h place us l).each (place + k) 0 ≡ bit_or (get_or l.each (place + k) 0) (hearing_rises (copy_of (get_or us k blank) h).fate)
  unfolding heard_from
  heard_each place [] l k few room = absurd (omega arith)
  heard_each place (u ∷ us) l zero few room =
      let on : place + 0 ≡ place = omega arith in
      let rises = hearing_rises (copy_of u h).fate in
      ap (λ n. get_or (heard_from h (suc place) us (after place (copy_of u h) l)).each n 0) on
      ∙ each_before (suc place) us (after place (copy_of u h) l) place (omega arith)
      ∙ get_or-set_same l.each place (bit_or (get_or l.each place 0) rises) 0 (omega arith)
      ∙ ap (λ n. bit_or (get_or l.each n 0) rises) (sym on)
  heard_each place (u ∷ us) l (suc k) few room =
      let on : place + suc k ≡ suc place + k = omega arith in
      let rises = hearing_rises (copy_of (get_or us k blank) h).fate in
      let here = bit_or (get_or l.each place 0) (hearing_rises (copy_of u h).fate) in
      ap (λ n. get_or (heard_from h (suc place) us (after place (copy_of u h) l)).each n 0) on
      ∙ heard_each (suc place) us (after place (copy_of u h) l) k (omega arith) (omega (arith, length-set l.each place here))
      ∙ ap (λ n. bit_or n rises) (get_or-set_other l.each place (suc place + k) here 0 (λ e. omega arith))
      ∙ ap (λ n. bit_or (get_or l.each n 0) rises) (sym on)

  pub bus_kept : (place : ℕ) (us : List U.Unit) (l : Listened) → (heard_from h place us l).shelf.bus ≡ l.shelf.bus
  unfolding heard_from
  bus_kept place [] l = refl
  bus_kept place (u ∷ us) l = bus_kept (suc place) us (after place (copy_of u h) l)

  pub count_kept : (place : ℕ) (us : List U.Unit) (l : Listened) → (heard_from h place us l).shelf.count ≡ l.shelf.count
  unfolding heard_from
  count_kept place [] l = refl
  count_kept place (u ∷ us) l = count_kept (suc place) us (after place (copy_of u h) l)

  pub many_kept : (place : ℕ) (us : List U.Unit) (l : Listened) → length (heard_from h place us l).shelf.units ≡ length l.shelf.units
  unfolding heard_from
  many_kept place [] l = refl
  many_kept place (u ∷ us) l = many_kept (suc place) us (after place (copy_of u h) l) ∙ length-set l.shelf.units place (copy_of u h).unit

  -- each place has its unit, or that unit with its copy
  unit_or : (place : ℕ) (us : List U.Unit) (l : Listened) (j : ℕ) →
      (unit_at (heard_from h place us l).shelf j ≡ unit_at l.shelf j)
      ⊎ ((k : ℕ) × (k < length us) × (place + k ≡ j) × (unit_at (heard_from h place us l).shelf j ≡ (copy_of (get_or us k blank) h).unit))
  unfolding heard_from
  unit_or place [] l j = inl refl
  unit_or place (u ∷ us) l j =
      ⊎_elim
      (λ e. ⊎_elim (λ o. inr (0, omega arith, (let x = o.0 in omega arith), e ∙ o.1)) (λ o. inl (e ∙ o)) (set_or l.shelf.units place (copy_of u h).unit blank j))
      (λ r. inr (suc r.0, omega (arith, r.1), omega (arith, r.2), r.3))
      (unit_or (suc place) us (after place (copy_of u h) l) j)

  pub store_length : (place : ℕ) (us : List U.Unit) (store : List ℕ) (cell : Cell) → length cell ≡ 56 →
      ((k : ℕ) → k < length us → Housed (place + k) (get_or us k blank) (length store)) → length (store_from h place us store cell) ≡ length store
  unfolding store_from
  store_length place [] store cell whole housed = refl
  store_length place (u ∷ us) store cell whole housed =
      let zero_on : place + 0 ≡ place = omega arith in
      let here = subst (λ p. Housed p u (length store)) zero_on (housed 0 (omega arith)) in
      let one = store_kept u h place store cell here whole in
      store_length (suc place) us (store_of u h place store cell) cell whole
      (λ k few. let on : place + suc k ≡ suc place + k = omega arith in
      subst (λ n. Housed (suc place + k) (get_or us k blank) n) (sym one) (subst (λ p. Housed p (get_or us k blank) (length store)) on (housed (suc k) (omega arith))))
      ∙ one

-- a unit with other cells in the single places of its inlet
abbrev beside : U.Unit → ℕ → ℕ → U.Unit
beside u control loopback = with_side u (record { controlin = control; loopbackin = loopback; controlout = u.side.controlout; loopbackout = u.side.loopbackout })

-- the sender without the cell that it sends
went_out : (place bytes : ℕ) (u : U.Unit) → Housed place u bytes → Went (number_of u) u (unit_out u)
unfolding unit_out popped
went_out place bytes u h = pick (leb 1 u.inlet.count) refl
  where
    one : besides (waiting u) (eqb (number_of u) (number_of u)) ≡ waiting u - 1
    one = ap (λ b. besides (waiting u) b) (eq-eqb (number_of u) (number_of u) refl)

    -- one of the two single places is empty afterwards
    out : (control loopback : ℕ) → control ≤ 1 → loopback ≤ 1 → waiting u - 1 ≤ waiting (beside u control loopback) → Went (number_of u) u (beside u control loopback)
    out control loopback c l enough =
        record {
          settings = refl;
          limits = h.limits;
          queues = h.queues;
          inlet = h.inlet;
          side = record { controlout = h.side.controlout; controlin = c; loopbackin = l; loopbackout = h.side.loopbackout };
          enough = omega (arith, one, enough);
        }

    single : (b : Bool) → leb 1 u.side.controlin ≡ b → Went (number_of u) u (cond b (beside u 0 u.side.loopbackin) (beside u u.side.controlin 0))
    single true t = out 0 u.side.loopbackin (omega arith) h.side.loopbackin (let a = h.side.controlin in omega arith)
    single false t = out u.side.controlin 0 h.side.controlin (omega arith) (let a = h.side.loopbackin in omega arith)

    pick : (b : Bool) → leb 1 u.inlet.count ≡ b →
        Went (number_of u) u (cond b (with_inlet u (popped u.inlet 4)) (cond (leb 1 u.side.controlin) (beside u 0 u.side.loopbackin) (beside u u.side.controlin 0)))
    pick true t =
        let some = leb-true 1 u.inlet.count t in
        record { settings = refl; limits = h.limits; queues = h.queues; inlet = popped_fits 4 u.inlet h.inlet; side = h.side; enough = omega (arith, one) }
    pick false t = single (leb 1 u.side.controlin) refl

module _ (shelf : Shelf) (place bytes : ℕ) (all : (j : ℕ) → j < length (declared shelf) → Housed j (unit_at shelf j) bytes) (here : place < length (declared shelf)) where
  abbrev out : Shelf
  out = with_unit shelf place (unit_out (unit_at shelf place))

  abbrev g : ℕ
  g = number_of (unit_at shelf place)

  pub went_sender : (j : ℕ) → j < length (declared shelf) → Went g (unit_at shelf j) (unit_at out j)
  went_sender j k =
      ⊎_elim
      (λ o.
      subst (λ v. Went g (unit_at shelf j) v) (sym o.1) (subst (λ n. Went g (unit_at shelf n) (unit_out (unit_at shelf place))) (sym o.0) (went_out place bytes (unit_at shelf place) (all place here))))
      (λ o. subst (λ v. Went g (unit_at shelf j) v) (sym o) (went_nowhere g j bytes (unit_at shelf j) (all j k)))
      (set_or shelf.units place (unit_out (unit_at shelf place)) blank j)

  out_length : length (declared out) ≡ length (declared shelf)
  out_length =
      length-take shelf.count out.units ∙ ap (Prim.Native.Nat.min shelf.count) (length-set shelf.units place (unit_out (unit_at shelf place))) ∙ sym (length-take shelf.count shelf.units)

  pub went_heard : (each : List ℕ) (h : H.Heard) (j : ℕ) → j < length (declared shelf) → Went g (unit_at shelf j) (unit_at (heard_by_all out each h).shelf j)
  went_heard each h j k =
      let a = went_sender j k in
      ⊎_elim
      (λ e. subst (λ v. Went g (unit_at shelf j) v) (sym e) a)
      (λ r.
      let same : r.0 ≡ j = omega (arith, r.2) in
      let few : r.0 < shelf.count = omega (arith, length-take shelf.count out.units, r.1) in
      let it : get_or (declared out) r.0 blank ≡ unit_at out j = declared_at out r.0 blank few ∙ ap (λ n. unit_at out n) same in
      subst (λ v. Went g (unit_at shelf j) v) (sym (r.3 ∙ ap (λ x. (copy_of x h).unit) it)) (went_copy g (unit_at shelf j) (unit_at out j) (copy_of (unit_at out j) h).unit a (copied (unit_at out j) h a.limits a.queues a.side)))
      (unit_or h 0 (declared out) (silence out each) j)

-- a sender hears its own cell
pub agree_sent : (fate : A.Hearing) (b : Bool) → Agree (bit_or (hearing_rises fate) (sent_rises b)) (sent_counts b ++ hearing_counts fate)
unfolding hearing_rises hearing_counts sent_rises sent_counts occurs tallies
agree_sent fate·.Damaged true = agree (128 + 32) (sent ∷ damaged ∷ []) refl
agree_sent fate·.Damaged false = agree (128 + 96) (sent ∷ unheard ∷ damaged ∷ []) refl
agree_sent fate·.Other true = agree 32 (sent ∷ []) refl
agree_sent fate·.Other false = agree 96 (sent ∷ unheard ∷ []) refl
agree_sent fate·.Wide true = agree (2048 + 32) (sent ∷ wide ∷ []) refl
agree_sent fate·.Wide false = agree (2048 + 96) (sent ∷ unheard ∷ wide ∷ []) refl
agree_sent fate·.Full true = agree (512 + 32) (sent ∷ full ∷ []) refl
agree_sent fate·.Full false = agree (512 + 96) (sent ∷ unheard ∷ full ∷ []) refl
agree_sent fate·.Clp true = agree (1024 + 32) (sent ∷ clp ∷ []) refl
agree_sent fate·.Clp false = agree (1024 + 96) (sent ∷ unheard ∷ clp ∷ []) refl
agree_sent fate·.Queued true = agree (256 + 32) (sent ∷ queued ∷ []) refl
agree_sent fate·.Queued false = agree (256 + 96) (sent ∷ unheard ∷ queued ∷ []) refl
