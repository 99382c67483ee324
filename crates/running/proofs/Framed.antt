-- A frame leaves a sound shelf sound. Assumes nothing.
use Rattle.std.specs.Prelude.{None, Option, Some}
use Prim.Native.Nat.{ℕ, zero, suc, ◌+◌, ◌-◌, ◌*◌, ◌<◌, ◌≤◌, min}
use native.Mathlib.Omega.{arith}
use mathlib.Core.Path.{◌≡◌, refl, sym, ap, subst, ◌∙◌}
use mathlib.Core.Logic.{◌⊎◌, inl, inr, ⊎_elim}
use mathlib.Core.Bool.{Bool, true, false, cond}
use mathlib.Core.List.{List, [], ◌∷◌}
use lib.Dec.{eqb}
use lib.ListN.{length, length-take, length-set, get_or, set, take}
use lib.Seq.{get_or-set_same, get_or-set_other}
use borrow.Author.Tests.{eqb-false, ne_eqb}
use Rattle.header.specs.Fields.{highest as highest_of}
use Rattle.header.specs.declared.Link.TheVariants.{Nni}
use Rattle.card.specs.declared.Card.{Card}
use Rattle.card.specs.declared.Card.TheVariants.{Wide}
use Rattle.arbiter.specs.Arbitration.{nobody, besides, highest, turn, no_grant, grant_to, granted, arbiter_of}
use Rattle.arbiter.specs.declared.Grant.{Grant}
use Rattle.arbiter.proofs.Grants.{turn_first, turn_unit}
use Rattle.arbiter.proofs.Requests.{same_or}
use Rattle.bus.specs.Frame.{heard}
use Rattle.store.specs.Places.{cell_at}
use Rattle.store.proofs.Slots.{by_lt, cell_length}
use Rattle.shelf.specs.Shelves.{declared, blank, waiting, number_of, find_in}
use Rattle.shelf.specs.declared.Unit as U
use Rattle.shelf.specs.Shelf.{Shelf}
use Rattle.shelf.proofs.Finding.{declared_at, find_at, find_nothing}
use Rattle.soundness.specs.State.{sound_of, UnitSound, DeclaredIn, Sound}
use Rattle.soundness.proofs.Facts.{sound_iff}
use Rattle.soundness.specs.Admission.{unit_at, with_unit, Housed}
use Rattle.soundness.proofs.Laws.{sound_housed}
use Rattle.framing.specs.Requests.{requests}
use Rattle.framing.specs.Moves.{moved, moved_each, moved_stores}
use Rattle.framing.specs.Sending.{silence, heard_by_all, send_slot, unit_out, sent_frame, cell_out, sent_by, sent_store, AllHoused}
use Rattle.framing.specs.Frames.{sender, listened_by, store_by, ended, granted as granted_of, done_at, store_at}
use Rattle.framing.proofs.Sends.{sealed_length, send_below, out_housed}
use Rattle.running.proofs.Changed.{set_or}
use Rattle.running.proofs.Asking.{AsksFor, declared_asks, stranger_asks}
use Rattle.running.proofs.Sent.{bus_kept, count_kept, many_kept, store_length, went_heard}
use Rattle.running.proofs.Went.{Went, went_nowhere}
use Rattle.running.proofs.Moved.{stores_moved, moves_sound}

-- a number is declared or not
declared_or : {P : Type 0} (us : List U.Unit) (n : ℕ) → (DeclaredIn us n → P) → ((DeclaredIn us n → ⊥) → P) → P
declared_or {P} us n known unknown = go (find_in us n) refl
  where
    go : (f : Option ℕ) → find_in us n ≡ f → P
    go (Some i) e = let f = (find_at n us i).0 e in known (i, f.inside, f.named)
    go None e = unknown (λ d. (find_nothing n us).0 e d.0 d.1 d.2)

past_zero : (l : List ℕ) (n : ℕ) → length l ≤ n → get_or l n 0 ≡ 0
past_zero [] n h = refl
past_zero (x ∷ xs) zero h = absurd (omega arith)
past_zero (x ∷ xs) (suc n) h = past_zero xs n (omega arith)

-- what a grant is: none, or one to a unit that asks at the priority
pub data Granting (last asks : List ℕ) (g : Grant) : Type 0 where
  nothing : g ≡ no_grant last asks → Granting last asks g
  someone : (priority : ℕ) → 1 ≤ priority → get_or asks g.unit 0 ≡ priority → g.unit < 32 → g ≡ grant_to last asks priority g.unit → Granting last asks g

granting : (last asks : List ℕ) → Granting last asks (granted last asks)
unfolding granted
granting last asks = pick (eqb (highest asks) 0) refl
  where
    pick : (b : Bool) → eqb (highest asks) 0 ≡ b → Granting last asks (cond b (no_grant last asks) (grant_to last asks (highest asks) (turn last asks (highest asks))))
    pick true t = nothing refl
    pick false t =
        let some = eqb-false (highest asks) 0 t in
        someone (highest asks) (omega arith) (turn_first last asks (highest asks) refl some).asks (turn_unit last asks (highest asks) refl some) refl

module _ (card : Card) (shelf after : Shelf) (bytes records frame : ℕ) (s : Sound card shelf bytes records)
    (same_bus : after.bus ≡ shelf.bus) (same_count : after.count ≡ shelf.count) (as_many : length after.units ≡ length shelf.units)
    (went : (j : ℕ) → j < length (declared shelf) → Went shelf.granted (unit_at shelf j) (unit_at after j)) where
  abbrev last : List ℕ
  last = shelf.arbiter.last

  abbrev asks : List ℕ
  asks = (requests shelf).asks

  abbrev next : Grant → Shelf
  next g = record { bus = after.bus; count = after.count; units = after.units; arbiter = arbiter_of g; granted = g.unit; frame = frame }

  same_length : length (declared after) ≡ length (declared shelf)
  same_length = length-take after.count after.units ∙ (λ t. min (same_count t) (as_many t)) ∙ sym (length-take shelf.count shelf.units)

  below : (j : ℕ) → j < length (declared shelf) → j < shelf.count
  below j h = omega (arith, length-take shelf.count shelf.units, h)

  old_is : (j : ℕ) → j < length (declared shelf) → get_or (declared shelf) j blank ≡ unit_at shelf j
  old_is j h = declared_at shelf j blank (below j h)

  new_is : (j : ℕ) → j < length (declared shelf) → get_or (declared after) j blank ≡ unit_at after j
  new_is j h = declared_at after j blank (let b = below j h in omega (arith, same_count))

  same_number : (j : ℕ) → j < length (declared shelf) → number_of (get_or (declared after) j blank) ≡ number_of (get_or (declared shelf) j blank)
  same_number j h = ap number_of (new_is j h) ∙ ap (λ x. x.number) (went j h).settings ∙ ap number_of (sym (old_is j h))

  still : (n : ℕ) → DeclaredIn (declared shelf) n → DeclaredIn (declared after) n
  still n d = (d.0, subst (λ m. d.0 < m) (sym same_length) d.1, same_number d.0 d.1 ∙ d.2)

  -- of a unit: what it asks, if anything, is there after the frame
  asks_after : (j : ℕ) → j < length (declared shelf) → (get_or asks (number_of (unit_at shelf j)) 0 ≡ 0) ⊎ ((get_or asks (number_of (unit_at shelf j)) 0 ≡ (unit_at shelf j).settings.priority) × (1 ≤ waiting (unit_at after j)))
  asks_after j h =
      ⊎_elim (λ e. inl e) (λ e. inr (e.0, let a = e.1 in let b = (went j h).enough in omega arith))
      (subst (λ u. AsksFor (get_or asks (number_of u) 0) shelf.granted u) (old_is j h) (declared_asks card shelf bytes records s j h))

  number_small : (j : ℕ) → j < length (declared shelf) → number_of (unit_at shelf j) < 32
  number_small j h =
      let b = subst (λ u. number_of u < shelf.bus) (old_is j h) (s.units j h).below in
      ⊎_elim (λ e. omega (arith, e, b)) (λ e. omega (arith, e, b)) s.bus

  -- the unit that is granted has the cell that it asked for
  granted_cell : (g : Grant) → Granting last asks g → (j : ℕ) → j < length (declared shelf) → number_of (unit_at shelf j) ≡ g.unit → 1 ≤ waiting (unit_at after j)
  granted_cell g (nothing q) j h e = let small = number_small j h in let z : g.unit ≡ 255 = ap (λ x. x.unit) q in absurd (omega arith)
  granted_cell g (someone p least a small q) j h e =
      ⊎_elim
      (λ z. let b : get_or asks (number_of (unit_at shelf j)) 0 ≡ p = ap (λ n. get_or asks n 0) e ∙ a in absurd (omega arith))
      (λ r. r.1)
      (asks_after j h)

  -- a request that still stands has its cell besides the granted one
  request_cell : (g : Grant) → Granting last asks g → (j : ℕ) → j < length (declared shelf) → let n = number_of (unit_at shelf j) in
      (get_or g.asks n 0 ≡ 0) ⊎ ((get_or g.asks n 0 ≡ (unit_at shelf j).settings.priority) × (1 ≤ besides (waiting (unit_at after j)) (eqb n g.unit)))
  request_cell g is j h = same_or n g.unit (λ e. inl (cleared is e)) (λ e. stands is e)
    where
      n : ℕ
      n = number_of (unit_at shelf j)

      cleared : Granting last asks g → n ≡ g.unit → get_or g.asks n 0 ≡ 0
      cleared (nothing q) e = let small = number_small j h in let z : g.unit ≡ 255 = ap (λ x. x.unit) q in absurd (omega arith)
      cleared (someone p least a small q) e =
          ap (λ (x : Grant). get_or x.asks n 0) q ∙ ap (λ m. get_or (set asks g.unit 0) m 0) e
          ∙ by_lt g.unit (length asks) (λ k. get_or-set_same asks g.unit 0 0 k) (λ k. absurd (let z = past_zero asks g.unit k in omega arith))

      kept : Granting last asks g → (n ≡ g.unit → ⊥) → get_or g.asks n 0 ≡ get_or asks n 0
      kept (nothing q) e = ap (λ (x : Grant). get_or x.asks n 0) q
      kept (someone p least a small q) e = ap (λ (x : Grant). get_or x.asks n 0) q ∙ get_or-set_other asks g.unit n 0 0 e

      stands : Granting last asks g → (n ≡ g.unit → ⊥) → (get_or g.asks n 0 ≡ 0) ⊎ ((get_or g.asks n 0 ≡ (unit_at shelf j).settings.priority) × (1 ≤ besides (waiting (unit_at after j)) (eqb n g.unit)))
      stands is e =
          ⊎_elim
          (λ z. inl (kept is e ∙ z))
          (λ r. inr (kept is e ∙ r.0, subst (λ b. 1 ≤ besides (waiting (unit_at after j)) b) (sym (ne_eqb n g.unit e)) (let k = r.1 in omega arith)))
          (asks_after j h)

  unit_after : (g : Grant) → Granting last asks g → (j : ℕ) → j < length (declared shelf) → UnitSound card after.bus g.unit g.asks (unit_at after j)
  unit_after g is j h =
      let w = went j h in
      let o = subst (λ x. UnitSound card shelf.bus shelf.granted shelf.arbiter.asks x) (old_is j h) (s.units j h) in
      let e : (unit_at after j).settings ≡ (unit_at shelf j).settings = w.settings in
      record {
        below = subst (λ b. number_of (unit_at after j) < b) (sym same_bus) (subst (λ x. x.number < shelf.bus) (sym e) o.below);
        link = subst (λ x. x.link ≡ Nni → card ≡ Wide) (sym e) o.link;
        top = subst (λ x. x.top ≤ highest_of x.link) (sym e) o.top;
        least = subst (λ x. 1 ≤ x.priority) (sym e) o.least;
        most = subst (λ x. x.priority ≤ 3) (sym e) o.most;
        limits = w.limits;
        inlet = w.inlet;
        queues = w.queues;
        side = w.side;
        grant = subst (λ x. x.number ≡ g.unit → 1 ≤ waiting (unit_at after j)) (sym e) (granted_cell g is j h);
        ask = subst (λ x. (get_or g.asks x.number 0 ≡ 0) ⊎ ((get_or g.asks x.number 0 ≡ x.priority) × (1 ≤ besides (waiting (unit_at after j)) (eqb x.number g.unit)))) (sym e) (request_cell g is j h);
      }

  -- who is granted is declared
  known : (g : Grant) → Granting last asks g → (g.unit ≡ nobody) ⊎ DeclaredIn (declared after) g.unit
  known g (nothing q) = inl (ap (λ x. x.unit) q)
  known g (someone p least a small q) =
      declared_or (declared shelf) g.unit (λ d. inr (still g.unit d)) (λ f. absurd (let z = stranger_asks card shelf bytes records s g.unit f in omega arith))

  last_known : (g : Grant) → Granting last asks g → (p : ℕ) → p < 3 → (get_or g.last p 0 ≡ nobody) ⊎ DeclaredIn (declared after) (get_or g.last p 0)
  last_known g is p h = go is
    where
      before : (get_or last p 0 ≡ nobody) ⊎ DeclaredIn (declared after) (get_or last p 0)
      before = ⊎_elim (λ e. inl e) (λ d. inr (still (get_or last p 0) d)) (s.last p h)

      go : Granting last asks g → (get_or g.last p 0 ≡ nobody) ⊎ DeclaredIn (declared after) (get_or g.last p 0)
      go (nothing q) = subst (λ n. (n ≡ nobody) ⊎ DeclaredIn (declared after) n) (sym (ap (λ (x : Grant). get_or x.last p 0) q)) before
      go (someone r least a small q) =
          subst (λ n. (n ≡ nobody) ⊎ DeclaredIn (declared after) n) (sym (ap (λ (x : Grant). get_or x.last p 0) q))
          (⊎_elim
          (λ o. subst (λ n. (n ≡ nobody) ⊎ DeclaredIn (declared after) n) (sym o.1) (known g is))
          (λ o. subst (λ n. (n ≡ nobody) ⊎ DeclaredIn (declared after) n) (sym o) before)
          (set_or last (r - 1) g.unit 0 p))

  strangers : (g : Grant) → Granting last asks g → (n : ℕ) → (DeclaredIn (declared after) n → ⊥) → get_or g.asks n 0 ≡ 0
  strangers g is n f = go is
    where
      before : get_or asks n 0 ≡ 0
      before = stranger_asks card shelf bytes records s n (λ d. f (still n d))

      go : Granting last asks g → get_or g.asks n 0 ≡ 0
      go (nothing q) = ap (λ (x : Grant). get_or x.asks n 0) q ∙ before
      go (someone r least a small q) = ap (λ (x : Grant). get_or x.asks n 0) q ∙ ⊎_elim (λ o. o.1) (λ o. o ∙ before) (set_or asks g.unit 0 0 n)

  sound_next : (g : Grant) → Granting last asks g → Sound card (next g) bytes records
  sound_next g is =
      record {
        bus = subst (λ b. (b ≡ 16) ⊎ (b ≡ 32)) (sym same_bus) s.bus;
        count = subst (λ c. c ≤ 32) (sym same_count) s.count;
        store = subst (λ c. 8192 * c ≤ bytes) (sym same_count) s.store;
        rows = subst (λ c. c ≤ records) (sym same_count) s.rows;
        once = λ a b l k e.
            let kb = subst (λ m. b < m) same_length k in
            let ka : a < length (declared shelf) = omega (arith, kb) in
            s.once a b l kb (sym (same_number a ka) ∙ e ∙ same_number b kb);
        units = λ j k.
            let h = subst (λ m. j < m) same_length k in
            subst (λ u. UnitSound card after.bus g.unit g.asks u) (sym (new_is j h)) (unit_after g is j h);
        granted = known g is;
        last = last_known g is;
        asks = strangers g is;
      }

  pub sound_after : Sound card (next (granted last asks)) bytes records
  sound_after = sound_next (granted last asks) (granting last asks)

-- requests, sending and grant, with a sender or idle; `each` is what the moves counted
module _ (card : Card) (shelf : Shelf) (store : List ℕ) (records : ℕ) (each : List ℕ) (sound : sound_of card shelf (length store) records ≡ true) where
  all_housed : AllHoused shelf (length store)
  all_housed i h = (sound_housed card shelf (length store) records sound i h).0

  facts : Sound card shelf (length store) records
  facts = (sound_iff card shelf (length store) records).0 sound

  -- what is sent has 57 bytes
  sent_length : (place : ℕ) → place < length (declared shelf) → length (sent_frame shelf place store) ≡ 57
  unfolding sent_frame
  sent_length place h =
      let u = unit_at shelf place in
      let a = all_housed place h in
      sealed_length (cell_at store place (send_slot u)) (cell_length store place (send_slot u) (send_below place (length store) u a) a.inside)

  abbrev out : ℕ → Shelf
  out place = with_unit shelf place (unit_out (unit_at shelf place))

  out_all : (place : ℕ) → place < length (declared shelf) → (k : ℕ) → k < length (declared (out place)) → Housed (0 + k) (get_or (declared (out place)) k blank) (length store)
  out_all place h k few =
      let zero_on : k ≡ 0 + k = omega arith in
      let less : k < shelf.count = omega (arith, length-take shelf.count (out place).units, few) in
      subst (λ n. Housed n (get_or (declared (out place)) k blank) (length store)) zero_on
      (subst (λ u. Housed k u (length store)) (sym (declared_at (out place) k blank less)) (out_housed shelf place (length store) (unit_at shelf place) refl h all_housed k few))

  turn_shelf : (f : Option ℕ) → sender shelf ≡ f → Sound card (ended shelf (granted_of shelf) (listened_by f shelf store each)).reply.shelf (length store) records
  unfolding listened_by sent_by cell_out
  turn_shelf None e =
      sound_after card shelf shelf (length store) records _ facts refl refl refl (λ j h. went_nowhere shelf.granted j (length store) (unit_at shelf j) (all_housed j h))
  turn_shelf (Some place) e =
      let at = (find_at shelf.granted (declared shelf) place).0 e in
      let named : number_of (unit_at shelf place) ≡ shelf.granted = ap number_of (sym (declared_at shelf place blank (let i = at.inside in omega (arith, length-take shelf.count shelf.units)))) ∙ at.named in
      let h = heard (sent_frame shelf place store) in
      sound_after card shelf (heard_by_all (out place) each h).shelf (length store) records _ facts
      (bus_kept h 0 (declared (out place)) (silence (out place) each))
      (count_kept h 0 (declared (out place)) (silence (out place) each))
      (many_kept h 0 (declared (out place)) (silence (out place) each) ∙ length-set shelf.units place (unit_out (unit_at shelf place)))
      (λ j k. subst (λ n. Went n (unit_at shelf j) (unit_at (heard_by_all (out place) each h).shelf j)) named (went_heard shelf place (length store) all_housed at.inside each h j k))

  turn_store : (f : Option ℕ) → sender shelf ≡ f → length (store_by f shelf store) ≡ length store
  unfolding store_by sent_store cell_out
  turn_store None e = refl
  turn_store (Some place) e =
      let at = (find_at shelf.granted (declared shelf) place).0 e in
      let l = sent_length place at.inside in
      store_length (heard (sent_frame shelf place store)) 0 (declared (out place)) store (take 56 (sent_frame shelf place store)) (let a = length-take 56 (sent_frame shelf place store) in omega arith) (out_all place at.inside)

-- the frame as it is: the moves first
module _ (card : Card) (shelf : Shelf) (store : List ℕ) (records : ℕ) (sound : sound_of card shelf (length store) records ≡ true) where
  abbrev stored : List ℕ
  stored = moved_stores shelf store

  stays_long : length stored ≡ length store
  stays_long = stores_moved card shelf store records sound

  stays_sound : sound_of card (moved shelf) (length stored) records ≡ true
  stays_sound = moves_sound card shelf store records sound

  pub frame_shelf : Sound card (done_at shelf store).reply.shelf (length store) records
  frame_shelf =
      subst (λ n. Sound card (done_at shelf store).reply.shelf n records) stays_long (turn_shelf card (moved shelf) stored records (moved_each shelf) stays_sound (sender (moved shelf)) refl)

  pub frame_store : length (store_at shelf store) ≡ length store
  frame_store = turn_store card (moved shelf) stored records (moved_each shelf) stays_sound (sender (moved shelf)) refl ∙ stays_long
