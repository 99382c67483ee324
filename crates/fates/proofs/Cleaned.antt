-- A sent frame is heard as the cell that was sent; no cell that arrived is damaged, and `unheard` counts the sent cells that address no declared unit. Assumes nothing.
use Prim.Native.Nat.{ℕ, zero, suc, ◌+◌, ◌<◌}
use native.Mathlib.Omega.{arith}
use mathlib.Core.Path.{◌≡◌, refl, sym, ap, subst, ◌∙◌}
use mathlib.Core.Logic.{◌↔◌, ⊎_elim}
use mathlib.Core.Bool.{Bool, true, false, ◌||◌}
use mathlib.Core.List.{List, [], ◌∷◌, ◌++◌, map, Memᴰ as In}
use lib.Dec.{eqb}
use lib.ListN.{length, get_or, set}
use lib.Seq.{take_at}
use borrow.Author.Tests.{eqb-true, eqb-false, eq-eqb}
use Rattle.bus.specs.Routing.{routing}
use Rattle.bus.specs.Frame.{cell, parity, sealed, heard, payload}
use Rattle.bus.specs.Heard as sort
use Rattle.bus.proofs.Wire.{heard_sealed}
use Rattle.arbiter.specs.Arbitration.{nobody}
use Rattle.line.specs.declared.Line.{Line}
use Rattle.meaning.proofs.Grown.{decide}
use Rattle.answer.specs.declared.Hearing as Q
use Rattle.answer.specs.declared.Hearing.TheVariants as hearing
use Rattle.answer.specs.Answers.{is_addressed}
use Rattle.paper.specs.Counters.{Counter, unheard, damaged, taken, place_of, hearing_counts, sent_counts, occurs}
use Rattle.document.specs.Counters.{Entry, entries, times}
use Rattle.document.specs.Shelf.{Routed, Unit as D-as-Unit, Shelf, number_of, blank, unit_at}
use Rattle.document.specs.Hearing.{OnBus, hearing_of}
use Rattle.document.specs.Frame.{moving, moved_by, moved_unit, moved_counts, moved_entries, moved, frame_of, some_addressed, heard_entries, sends_one}
use Rattle.flow.specs.Parts.{From, from_inlet, from_control, from_loopback, cell_of, without, is_for}
use Rattle.flow.specs.Order.{InTurn}
use Rattle.flow.proofs.Times.{times_append, times_here, times_other, moved_unit_lem}
use Rattle.flow.proofs.Turns.{addressed_for, number_moved, numbers_moved, number_without, some_same}
use Rattle.flow.proofs.Moves.{moved_by_lem}
use Rattle.flow.proofs.Senders.{not_both}
use Rattle.fates.specs.Fates.{Addressed, SoundWith}
use Rattle.fates.specs.Frames.{after_frame, Waits, SendsOldest}
use Rattle.fates.specs.Clean.{SomeAddressed, risen, heard_in, CleanData, CleanFrame, CleanTableCleanBus}
use Rattle.fates.proofs.Fated.{either_true, right_true, untrue, addressed_iff, fate_iff}
use Rattle.fates.proofs.Standing.{Stands}
use Rattle.fates.proofs.Loads.{from_load}
use Rattle.fates.proofs.Going.{let_in, waits_in, open_grant, has_cell, sent_is, sent_at}

-- the payload of a sealed cell
sealed_payload : (routing header : ℕ) (bytes : List ℕ) → length bytes ≡ 48 → payload (sealed (cell routing 0 header bytes)) ≡ bytes
unfolding sealed cell
sealed_payload routing header bytes whole = take_at bytes (parity (cell routing 0 header bytes) ∷ []) 48 whole

-- 1. what a hearing counts: entries without a counter
entries_none : (v : ℕ) (cs : List Counter) (u : ℕ) (c : Counter) → occurs cs (place_of c) ≡ 0 → times (entries v cs) u c ≡ 0
entries_none v cs u c e =
    decide (eqb v u)
    (λ t. let same = eqb-true v u t in subst (λ n. times (entries v cs) n c ≡ 0) same (times_here v cs c ∙ e))
    (λ t. times_other v cs u c (eqb-false v u t))

-- no hearing counts `unheard`
no_unheard : (fate : Q.Hearing) → occurs (hearing_counts fate) (place_of unheard) ≡ 0
unfolding occurs hearing_counts
no_unheard hearing.Damaged = refl
no_unheard hearing.Other = refl
no_unheard hearing.Wide = refl
no_unheard hearing.Full = refl
no_unheard hearing.Clp = refl
no_unheard hearing.Queued = refl

-- only a damaged one counts `damaged`
no_damaged : (fate : Q.Hearing) → (fate ≡ hearing.Damaged → ⊥) → occurs (hearing_counts fate) (place_of damaged) ≡ 0
unfolding occurs hearing_counts
no_damaged hearing.Damaged n = absurd (n refl)
no_damaged hearing.Other n = refl
no_damaged hearing.Wide n = refl
no_damaged hearing.Full n = refl
no_damaged hearing.Clp n = refl
no_damaged hearing.Queued n = refl

-- nor does sending
no_sent_damaged : (b : Bool) → occurs (sent_counts b) (place_of damaged) ≡ 0
unfolding occurs sent_counts
no_sent_damaged true = refl
no_sent_damaged false = refl

-- nor does a move count either
no_moved : (u : D-as-Unit) (c : Counter) → (occurs (moved_counts u) (place_of c) ≡ 0) → (n : ℕ) → times (entries (number_of u) (moved_counts u)) n c ≡ 0
no_moved u c e n = entries_none (number_of u) (moved_counts u) n c e

none_moved : (cells : List (List ℕ)) → (occurs (map (λ c. taken) cells) (place_of unheard) ≡ 0) × (occurs (map (λ c. taken) cells) (place_of damaged) ≡ 0)
unfolding occurs
none_moved [] = (refl, refl)
none_moved (c ∷ cells) = none_moved cells

moved_none : (us : List D-as-Unit) (n : ℕ) (c : Counter) → ((u : D-as-Unit) → occurs (moved_counts u) (place_of c) ≡ 0) → times (moved_entries us) n c ≡ 0
unfolding moved_entries times
moved_none [] n c none = refl
moved_none (u ∷ us) n c none =
    let a = times_append (entries (number_of u) (moved_counts u)) (moved_entries us) n c in
    let b = no_moved u c (none u) n in
    let e = moved_none us n c none in
    omega arith

module _ (lines : List Line) (x : OnBus) where
  -- units that hear it: none counts these
  heard_none : (us : List D-as-Unit) (n : ℕ) (c : Counter) → ((u : D-as-Unit) → occurs (hearing_counts (hearing_of lines u x.heard)) (place_of c) ≡ 0) → times (heard_entries lines us x) n c ≡ 0
  unfolding heard_entries times
  heard_none [] n c none = refl
  heard_none (u ∷ us) n c none =
      let a = times_append (entries (number_of u) (hearing_counts (hearing_of lines u x.heard))) (heard_entries lines us x) n c in
      let b = entries_none (number_of u) (hearing_counts (hearing_of lines u x.heard)) n c (none u) in
      let e = heard_none us n c none in
      omega arith

-- 2. whether a unit is addressed, as a fact
abbrev IsFor : List Line → D-as-Unit → sort.Heard → Type 0
IsFor lines u h = SoundWith u h (λ target class header. Addressed lines u target) (λ unit cells most. number_of u ≡ unit)

for_iff : (lines : List Line) (u : D-as-Unit) (h : sort.Heard) → (is_for lines u h ≡ true) ↔ IsFor lines u h
unfolding is_for
for_iff lines u sort.Length = (λ e. let z : ◌≡◌ {A = ℕ} 0 1 = cc in absurd (omega arith), λ e. absurd e)
for_iff lines u sort.Damaged = (λ e. let z : ◌≡◌ {A = ℕ} 0 1 = cc in absurd (omega arith), λ e. absurd e)
for_iff lines u (sort.Cell t class header) = addressed_iff lines u t
for_iff lines u (sort.Control unit) = (eqb-true (number_of u) unit, eq-eqb (number_of u) unit)
for_iff lines u (sort.Loopback unit) = (eqb-true (number_of u) unit, eq-eqb (number_of u) unit)

-- so of all the units
some_iff : (lines : List Line) (x : OnBus) (us : List D-as-Unit) → (some_addressed lines us x ≡ true) ↔ ((j : ℕ) × (j < length us) × IsFor lines (get_or us j blank) x.heard)
unfolding some_addressed
some_iff lines x [] = (λ e. let z : ◌≡◌ {A = ℕ} 0 1 = cc in absurd (omega arith), λ s. absurd (omega (arith, s.1)))
some_iff lines x (u ∷ us) = (
  λ e.
      ⊎_elim
      (λ t. (0, omega arith, (for_iff lines u x.heard).0 (sym (addressed_for lines u x.heard) ∙ t)))
      (λ t. let s = (some_iff lines x us).0 t in (suc s.0, omega (arith, s.1), s.2))
      (either_true (is_addressed (hearing_of lines u x.heard)) (some_addressed lines us x) e),
  λ s. from (some_iff lines x us).1 s.0 s.1 s.2,
)
  where
    from : (((j : ℕ) × (j < length us) × IsFor lines (get_or us j blank) x.heard) → some_addressed lines us x ≡ true) →
        (j : ℕ) → j < suc (length us) → IsFor lines (get_or (u ∷ us) j blank) x.heard → (is_addressed (hearing_of lines u x.heard) || some_addressed lines us x) ≡ true
    from others zero h a = rw (addressed_for lines u x.heard ∙ (for_iff lines u x.heard).1 a)
    from others (suc j) h a = right_true (is_addressed (hearing_of lines u x.heard)) (some_addressed lines us x) (others (j, omega arith, a))

-- the numbers of the units stay when one of them is without the cell that it sends
same_numbers : (us : List D-as-Unit) (i : ℕ) (f : From) → map number_of (set us i (without f (get_or us i blank))) ≡ map number_of us
same_numbers [] i f = refl
same_numbers (u ∷ us) zero f = λ t. number_without f u t ∷ map number_of us
same_numbers (u ∷ us) (suc i) f = λ t. number_of u ∷ same_numbers us i f t

-- 3. a frame after a grant
module _ (d : Shelf) (s : Stands d) (some : d.granted ≡ nobody → ⊥) (buffer : List ℕ) (whole : length buffer ≡ 57) where
  abbrev w : Waits d d.granted
  w = waits_in d s.backed some

  abbrev u : D-as-Unit
  u = unit_at d (waits_in d s.backed some).place

  abbrev f : From
  f = (has_cell d s some).0

  abbrev sent : SendsOldest d buffer
  sent = sent_at d s buffer whole (waits_in d s.backed some) (open_grant d s some) (has_cell d s some).0 (has_cell d s some).1

  -- a loopback cell that is sent has not just moved
  not_moved : (c : List ℕ) (rest : List (List ℕ)) → InTurn (moved_unit u) (from_loopback c rest) → moved_unit u ≡ u
  unfolding moved_by
  not_moved c rest turn = ap (λ cells. moved_by cells u) (not_both d s.backed s.once w.place w.declared w.named some c rest turn)

  -- a sent cell has its 56 bytes, so it is heard as what it carries
  sent_heard : (g : From) → InTurn (moved_unit u) g → heard (frame_of (cell_of g)) ≡ (cell_of g).heard
  unfolding cell_of
  sent_heard (from_inlet r rest) turn = ((s.units w.place w.declared).clean r rest (sym (moved_by_lem (λ v. v.inlet) u (λ back out. refl)) ∙ turn)).sound
  sent_heard (from_control c rest) turn =
      heard_sealed c ((s.units w.place w.declared).control c (subst (In c) (sym (sym (moved_by_lem (λ v. v.side.controlin) u (λ back out. refl)) ∙ turn.1)) (In.head refl)))
  sent_heard (from_loopback c rest) turn =
      heard_sealed c
      ((s.units w.place w.declared).loopback c (subst (In c) (sym (ap (λ v. v.side.loopbackin) (sym (not_moved c rest turn)) ∙ turn.2)) (In.head refl)))

  heard_as : heard_in d buffer ≡ (cell_of f).heard
  heard_as = ap heard sent.bytes ∙ sent_heard f (has_cell d s some).1

  -- the units once the cell has left; whether one of them is addressed
  abbrev left : List D-as-Unit
  left = set (moved d).units w.place (without f (unit_at (moved d) w.place))

  abbrev some_hears : Bool
  some_hears = some_addressed d.lines left (cell_of f)

  hears_iff : (some_hears ≡ true) ↔ SomeAddressed d (heard_in d buffer)
  hears_iff =
      let same = some_same d.lines (cell_of f) left d.units (same_numbers (moved d).units w.place f ∙ numbers_moved d.units) in
      let iff = some_iff d.lines (cell_of f) d.units in
      (λ t. subst (SomeAddressed d) (sym heard_as) (iff.0 (sym same ∙ t)), λ a. same ∙ iff.1 (subst (SomeAddressed d) heard_as a))

  -- what is new in the history
  abbrev own : List Entry
  own = entries d.granted (sent_counts some_hears)

  new_is : (after_frame d buffer).history ≡ (own ++ heard_entries d.lines left (cell_of f)) ++ (moved_entries d.units ++ d.history)
  unfolding sends_one
  new_is =
      ap (λ s. s.shelf.history) (let_in d buffer whole)
      ∙ ap (λ s. s.happened ++ (moved d).history) (sent_is d s buffer whole (waits_in d s.backed some) (open_grant d s some) f (has_cell d s some).1)
      ∙ ap (λ n. (entries n (sent_counts some_hears) ++ heard_entries d.lines left (cell_of f)) ++ (moved_entries d.units ++ d.history))
      (ap number_of (moved_unit_lem d.units w.place) ∙ number_moved u ∙ w.named)

  -- so a counter that no move and no hearing unit counts rises as the sender's entries say
  rises : (n : ℕ) (c : Counter) → ((v : D-as-Unit) → occurs (moved_counts v) (place_of c) ≡ 0) → ((v : D-as-Unit) → occurs (hearing_counts (hearing_of d.lines v (cell_of f).heard)) (place_of c) ≡ 0) →
      risen (after_frame d buffer) n c ≡ times own n c + risen d n c
  rises n c still none =
      let x = ap (λ h. times h n c) new_is in
      let y = times_append (own ++ heard_entries d.lines left (cell_of f)) (moved_entries d.units ++ d.history) n c in
      let z = times_append own (heard_entries d.lines left (cell_of f)) n c in
      let m = times_append (moved_entries d.units) d.history n c in
      let o = heard_none d.lines (cell_of f) left n c none in
      let k = moved_none d.units n c still in
      omega (arith, x, y, z, m, o, k)

  unheard_rises : (n : ℕ) → risen (after_frame d buffer) n unheard ≡ times own n unheard + risen d n unheard
  unheard_rises n = rises n unheard (λ v. (none_moved (moving v)).0) (λ v. no_unheard (hearing_of d.lines v (cell_of f).heard))

  -- `unheard` at the sender
  unheard_is : (b : Bool) → some_hears ≡ b → risen (after_frame d buffer) d.granted unheard ≡ occurs (sent_counts b) (place_of unheard) + risen d d.granted unheard
  unheard_is b t =
      unheard_rises d.granted
      ∙ ap (λ k. k + risen d d.granted unheard) (times_here d.granted (sent_counts some_hears) unheard ∙ ap (λ x. occurs (sent_counts x) (place_of unheard)) t)

  -- a data cell, which a line of the table made
  clean_data : (r : Routed) (rest : List Routed) → f ≡ from_inlet r rest → CleanData d buffer r
  unfolding cell_of
  clean_data r rest e =
      let as_cell : (cell_of f).heard ≡ sort.Cell r.target r.class r.cell.header = ap (λ g. (cell_of g).heard) e in
      let turn : InTurn (moved_unit u) (from_inlet r rest) = subst (InTurn (moved_unit u)) e (has_cell d s some).1 in
      let clean = (s.units w.place w.declared).clean r rest (sym (moved_by_lem (λ v. v.inlet) u (λ back out. refl)) ∙ turn) in
      record {
        sound = heard_as ∙ as_cell;
        carried = ap payload sent.bytes ∙ ap (λ g. payload (frame_of (cell_of g))) e ∙ sealed_payload (routing r.target r.class) r.cell.header r.cell.payload clean.whole;
        undamaged = λ n.
            rises n damaged (λ v. (none_moved (moving v)).1)
            (λ v.
            no_damaged (hearing_of d.lines v (cell_of f).heard)
            (λ q. (fate_iff.1 d.lines v (sort.Cell r.target r.class r.cell.header) hearing.Damaged).0 (ap (hearing_of d.lines v) (sym as_cell) ∙ q) tt))
            ∙ ap (λ k. k + risen d n damaged) (entries_none d.granted (sent_counts some_hears) n damaged (no_sent_damaged some_hears)) ∙ omega arith;
      }

  -- all of it, of the frame that is sent
  clean_frame : CleanFrame d buffer
  unfolding occurs sent_counts
  clean_frame =
      record {
        sent = sent;
        heard_as = heard_as;
        arrived = clean_data;
        unheard_once = λ none. unheard_is false (untrue some_hears (λ t. none (hears_iff.0 t))) ∙ omega arith;
        heard_by_some = λ a. unheard_is true (hears_iff.1 a) ∙ omega arith;
        elsewhere = λ n apart.
            unheard_rises n
            ∙ ap (λ k. k + risen d n unheard) (times_other d.granted (sent_counts some_hears) n unheard (λ q. apart (sym q))) ∙ omega arith;
      }

-- from a good load on there is a sender, and it has a cell
pub clean_table_clean_bus : CleanTableCleanBus
clean_table_clean_bus =
    from_load (λ d. (d.granted ≡ nobody → ⊥) → (buffer : List ℕ) → length buffer ≡ 57 → CleanFrame d buffer) (λ d s some buffer whole. clean_frame d s some buffer whole)
