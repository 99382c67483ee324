-- The rows of counters are the history, counted. Assumes nothing.
use Prim.Native.Nat.{ℕ, zero as none, suc, ◌+◌, ◌/◌, ◌%◌, ◌^◌, ◌<◌, ◌≤◌}
use native.Mathlib.Nat.{mod-add-mod, add_comm, zero-add}
use native.Mathlib.Omega.{arith}
use mathlib.Core.Path.{◌≡◌, refl, sym, ap, ap₂, ◌∙◌}
use mathlib.Core.Bool.{Bool, true, false, cond}
use mathlib.Core.List.{List, [], ◌∷◌, ◌++◌, map, append_assoc}
use lib.Bits.{bit_or}
use lib.Dec.{eqb, ltb}
use lib.ListN.{length, get_or, set, replicate, length-set, length-map, length-replicate, get_or-map}
use lib.Seq.{get_or-set_same, map-set_same}
use borrow.Author.Tests.{eqb-true, eqb-false, eq-eqb, ne_eqb, ltb-true, ltb-false}
use Rattle.answer.specs.Answers.{hearing_rises, row}
use Rattle.answer.specs.declared.Rises.{Rises}
use Rattle.answer.specs.declared.Hearing as H
use Rattle.line.specs.declared.Line.{Line}
use Rattle.answer.specs.Counting.{value, zeros, raised, row_after, settled}
use Rattle.answer.specs.declared.Counters as C
use Rattle.answer.proofs.Settling.{raised_value, settled_row, settled_ahead, settled_behind}
use Rattle.framing.specs.Sending.{sent_rises}
use Rattle.framing.proofs.Bits.{taken_if, bit_joined, moved_heard, sent_low, bit_three}
use Rattle.meaning.proofs.Grown.{decide}
use Rattle.paper.proofs.Counters.{placed, tallies, Agree, agree, agree_hearing}
use Rattle.paper.specs.Counters.{Counter, sent, unheard, place_of, hearing_counts, sent_counts, occurs}
use Rattle.document.specs.Counters.{Entry, entries, matches, times, counter_of}
use Rattle.document.specs.Shelf as D
use Rattle.document.specs.Hearing.{OnBus, hearing_of, hearing_unit}
use Rattle.document.specs.Frame.{moved_unit, moved_counts, moved_entries, moved, Sending, all_hear, some_addressed, heard_entries}
use Rattle.document.proofs.Fixed.{heard_kept, unit_moved}
use Rattle.refining.proofs.Alike.{RowAlike}

-- A. how often something stands in a history
-- one more or not, before a sum and in its first part
plus : (b : Bool) (m n : ℕ) → cond b (suc (m + n)) (m + n) ≡ cond b (suc m) m + n
plus true m n = omega arith
plus false m n = refl

-- two histories, one before the other
pub times_append : (es fs : List Entry) (u : ℕ) (c : Counter) → times (es ++ fs) u c ≡ times es u c + times fs u c
unfolding times
times_append [] fs u c = omega arith
times_append (e ∷ es) fs u c = rw (times_append es fs u c) (plus (matches u c e) (times es u c) (times fs u c))

-- what happened at a unit counts there
pub times_here : (u : ℕ) (cs : List Counter) (c : Counter) → times (entries u cs) u c ≡ occurs cs (place_of c)
unfolding times occurs
times_here u [] c = refl
times_here u (k ∷ cs) c = rw (eq-eqb u u refl, times_here u cs c)

-- and nowhere else
pub times_other : (v : ℕ) (cs : List Counter) (u : ℕ) (c : Counter) → (v ≡ u → ⊥) → times (entries v cs) u c ≡ 0
unfolding times
times_other v [] u c d = refl
times_other v (k ∷ cs) u c d = rw (ne_eqb v u d) (times_other v cs u c d)

-- B. a row
-- the set n has, of each counter, as many as there happened at a unit
abbrev pub Raises : ℕ → List Entry → ℕ → Type 0
Raises n es u = (c : Counter) → n / 2 ^ place_of c % 2 ≡ times es u c

-- a row that is a unit's history is its longer history when what happened is counted
pub raised_times : (x : C.Counters) (n u : ℕ) (es history : List Entry) → Raises n es u → ((c : Counter) → value x (place_of c) ≡ counter_of history u c) → (c : Counter) → value (raised x n) (place_of c) ≡ counter_of (es ++ history) u c
raised_times x n u es history r a c =
    raised_value x n (place_of c) (placed c) ∙ ap₂ (λ k m. (k + m) % 2 ^ 32) (a c) (r c)
    ∙ mod-add-mod (times history u c) (2 ^ 32) (times es u c)
    ∙ ap (λ k. k % 2 ^ 32) (add_comm (times history u c) (times es u c) ∙ sym (times_append es history u c))

-- C. the rows of all units
-- no number is there twice
abbrev pub Different : List D.Unit → Type 0
Different us = (i j : ℕ) → i < j → j < length us → D.number_of (get_or us i D.blank) ≡ D.number_of (get_or us j D.blank) → ⊥

-- in two places two numbers
different_apart : (us : List D.Unit) → Different us → (i j : ℕ) → i < length us → j < length us → (i ≡ j → ⊥) → D.number_of (get_or us i D.blank) ≡ D.number_of (get_or us j D.blank) → ⊥
different_apart us once i j h k d e =
    decide (ltb i j) (λ t. once i j (ltb-true i j t) k e) (λ f. once j i (let g = ltb-false i j f in omega (arith, d)) h (sym e))

-- a unit in a place with the number of the one before it: all numbers are as they were
pub same_numbers : (us : List D.Unit) (place : ℕ) (u : D.Unit) → D.number_of u ≡ D.number_of (get_or us place D.blank) → (i : ℕ) → D.number_of (get_or (set us place u) i D.blank) ≡ D.number_of (get_or us i D.blank)
same_numbers us place u e i =
    sym (get_or-map D.number_of (set us place u) i D.blank) ∙ ap (λ l. get_or l i 0) (map-set_same D.number_of us place u D.blank e) ∙ get_or-map D.number_of us i D.blank

-- a row that rose by what happened at its unit, and a row that is as it was where nothing happened
module _ (rows rows' : List C.Counters) (d d' : D.Shelf) (i : ℕ) (es : List Entry) (told : d'.history ≡ es ++ d.history) (number : D.number_of (D.unit_at d' i) ≡ D.number_of (D.unit_at d i)) (alike : RowAlike rows d i) where
  pub row_rose : (n : ℕ) → get_or rows' i zeros ≡ raised (get_or rows i zeros) n → Raises n es (D.number_of (D.unit_at d i)) → RowAlike rows' d' i
  row_rose n e r c =
      ap (λ x. value x (place_of c)) e ∙ raised_times (get_or rows i zeros) n (D.number_of (D.unit_at d i)) es d.history r alike c
      ∙ ap₂ (λ h u. counter_of h u c) (sym told) (sym number)

  pub row_stayed : get_or rows' i zeros ≡ get_or rows i zeros → ((c : Counter) → times es (D.number_of (D.unit_at d i)) c ≡ 0) → RowAlike rows' d' i
  row_stayed e r c =
      let u = D.number_of (D.unit_at d i) in
      let same : times d.history u c ≡ times (es ++ d.history) u c = omega (arith, r c, times_append es d.history u c) in
      ap (λ x. value x (place_of c)) e ∙ alike c ∙ ap (λ k. k % 2 ^ 32) same ∙ ap₂ (λ h v. counter_of h v c) (sym told) (sym number)

module _ (rows : List C.Counters) (d : D.Shelf) (once : Different d.units) (enough : length d.units ≤ length rows) (alike : (i : ℕ) → i < length d.units → RowAlike rows d i) where
  -- something happened at one unit
  pub row_alike : (place n : ℕ) (u : D.Unit) (cs : List Counter) → place < length d.units → place < 32 → D.number_of u ≡ D.number_of (D.unit_at d place) → Agree n cs → (i : ℕ) → i < length d.units → RowAlike (settled rows (row place n)) (D.after d place u (entries (D.number_of (D.unit_at d place)) cs)) i
  unfolding row_after
  row_alike place n u cs h few e a i k =
      let at = D.number_of (D.unit_at d place) in
      let r = row place n in
      decide (eqb i place)
      (λ t.
      let p = eqb-true i place t in
      row_rose rows (settled rows r) d (D.after d place u (entries at cs)) i (entries at cs) refl (same_numbers d.units place u e i) (alike i k) n
      (settled_row rows r (place + 1) i (omega arith) (omega arith) (omega arith)
      ∙ ap (raised (get_or rows i zeros)) (ap (λ j. get_or r.each j 0) p ∙ get_or-set_same (replicate 32 0) place n 0 (let l = length-replicate {A = ℕ} 32 0 in omega arith)))
      (λ c. a c ∙ sym (times_here at cs c) ∙ ap (λ j. times (entries at cs) (D.number_of (D.unit_at d j)) c) (sym p)))
      (λ f.
      let p = eqb-false i place f in
      row_stayed rows (settled rows r) d (D.after d place u (entries at cs)) i (entries at cs) refl (same_numbers d.units place u e i) (alike i k)
      (decide (ltb i place) (λ t. settled_behind rows r (place + 1) i (ltb-true i place t)) (λ g. settled_ahead rows r (place + 1) i (let q = ltb-false i place g in omega (arith, p))))
      (λ c. times_other at cs (D.number_of (D.unit_at d i)) c (λ q. different_apart d.units once i place k h p (sym q))))

-- D. a frame
-- what happened at each of these units, in their order
unfoldable entries_by : (D.Unit → List Counter) → List D.Unit → List Entry
entries_by counts [] = []
entries_by counts (u ∷ us) = entries (D.number_of u) (counts u) ++ entries_by counts us

module _ (counts : D.Unit → List Counter) where
  -- it counts at none but them
  by_elsewhere : (us : List D.Unit) (v : ℕ) (c : Counter) → ((j : ℕ) → j < length us → D.number_of (get_or us j D.blank) ≡ v → ⊥) → times (entries_by counts us) v c ≡ 0
  unfolding entries_by times
  by_elsewhere [] v c d = refl
  by_elsewhere (u ∷ us) v c d =
      let a = times_append (entries (D.number_of u) (counts u)) (entries_by counts us) v c in
      let b = times_other (D.number_of u) (counts u) v c (d 0 (omega arith)) in
      let e = by_elsewhere us v c (λ j h. d (suc j) (omega arith)) in
      omega arith

  -- and at each of them what happened there
  by_times : (us : List D.Unit) → Different us → (k : ℕ) → k < length us → (c : Counter) → times (entries_by counts us) (D.number_of (get_or us k D.blank)) c ≡ occurs (counts (get_or us k D.blank)) (place_of c)
  unfolding entries_by
  by_times [] once k h c = absurd (omega arith)
  by_times (u ∷ us) once none h c =
      let a = times_append (entries (D.number_of u) (counts u)) (entries_by counts us) (D.number_of u) c in
      let b = times_here (D.number_of u) (counts u) c in
      let e = by_elsewhere us (D.number_of u) c (λ j h q. once 0 (suc j) (omega arith) (omega arith) (sym q)) in
      omega arith
  by_times (u ∷ us) once (suc k) h c =
      let v = D.number_of (get_or us k D.blank) in
      let a = times_append (entries (D.number_of u) (counts u)) (entries_by counts us) v c in
      let b = times_other (D.number_of u) (counts u) v c (once 0 (suc k) (omega arith) h) in
      let e = by_times us (λ i j l m. once (suc i) (suc j) (omega arith) (omega arith)) k (omega arith) c in
      omega (arith, a, b, e)

-- what they heard, and what their moves counted
heard_by_lem : (lines : List Line) (x : OnBus) (us : List D.Unit) → heard_entries lines us x ≡ entries_by (λ u. hearing_counts (hearing_of lines u x.heard)) us
unfolding heard_entries entries_by
heard_by_lem lines x [] = refl
heard_by_lem lines x (u ∷ us) = ap (λ es. entries (D.number_of u) (hearing_counts (hearing_of lines u x.heard)) ++ es) (heard_by_lem lines x us)

moved_by : (us : List D.Unit) → moved_entries us ≡ entries_by moved_counts us
unfolding moved_entries entries_by
moved_by [] = refl
moved_by (u ∷ us) = ap (λ es. entries (D.number_of u) (moved_counts u) ++ es) (moved_by us)

-- hearing and moving keep a unit's number
pub heard_number : (lines : List Line) (x : OnBus) (u : D.Unit) → D.number_of (hearing_unit lines u x) ≡ D.number_of u
heard_number lines x u = ap (λ g. g.settings.number) (heard_kept lines u x)

same_each : (f : D.Unit → D.Unit) → ((u : D.Unit) → D.number_of (f u) ≡ D.number_of u) → (us : List D.Unit) (k : ℕ) → D.number_of (get_or (map f us) k D.blank) ≡ D.number_of (get_or us k D.blank)
same_each f e [] k = refl
same_each f e (u ∷ us) none = e u
same_each f e (u ∷ us) (suc k) = same_each f e us k

pub moved_numbers : (us : List D.Unit) (k : ℕ) → D.number_of (get_or (map moved_unit us) k D.blank) ≡ D.number_of (get_or us k D.blank)
moved_numbers = same_each moved_unit (λ u. ap (λ g. g.settings.number) (unit_moved u))

pub moved_names : (us : List D.Unit) → map D.number_of (map moved_unit us) ≡ map D.number_of us
moved_names [] = refl
moved_names (u ∷ us) = λ t. (unit_moved u t).settings.number ∷ moved_names us t

-- sending
agree_sending : (b : Bool) → Agree (sent_rises b) (sent_counts b)
unfolding sent_rises sent_counts tallies occurs
agree_sending true = agree 32 (sent ∷ []) refl
agree_sending false = agree 96 (sent ∷ unheard ∷ []) refl

-- the rises of a frame: every declared unit's
abbrev pub frame_rises : ℕ → List ℕ → Rises
frame_rises count each = record { from = 0; to = count; anew = false; each = each }

-- in a frame of this shelf, in which the units in these places move a cell
module _ (rows : List C.Counters) (d : D.Shelf) (count : ℕ) (many : count ≡ length d.units) (enough : count ≤ length rows) (alike : (i : ℕ) → i < length d.units → RowAlike rows d i)
    (once : Different d.units) (moves : ℕ → Bool) (agrees : (k : ℕ) → k < length d.units → Agree (taken_if (moves k)) (moved_counts (D.unit_at d k))) where
  -- each declared row rises by its own set
  rose : (each : List ℕ) (i : ℕ) → i < count → get_or (settled rows (frame_rises count each)) i zeros ≡ raised (get_or rows i zeros) (get_or each i 0)
  unfolding row_after
  rose each i h = settled_row rows (frame_rises count each) count i (omega arith) h (omega arith)

  -- what is counted of the moves at a unit
  moved_at : (k : ℕ) → k < length d.units → (c : Counter) → times (moved_entries d.units) (D.number_of (D.unit_at d k)) c ≡ taken_if (moves k) / 2 ^ place_of c % 2
  moved_at k h c = ap (λ es. times es (D.number_of (D.unit_at d k)) c) (moved_by d.units) ∙ by_times moved_counts d.units once k h c ∙ sym (agrees k h c)

  -- the rows, where this happened after the moves
  module _ (each : List ℕ) (happened : List Entry) (d' : D.Shelf) (told : d'.history ≡ happened ++ (moved d).history) (numbers : (k : ℕ) → D.number_of (D.unit_at d' k) ≡ D.number_of (D.unit_at d k)) where
    turned_rows : ((k : ℕ) → k < length d.units → (c : Counter) → get_or each k 0 / 2 ^ place_of c % 2 ≡ times happened (D.number_of (D.unit_at d k)) c + taken_if (moves k) / 2 ^ place_of c % 2) →
        (i : ℕ) → i < length d.units → RowAlike (settled rows (frame_rises count each)) d' i
    turned_rows r i h =
        row_rose rows (settled rows (frame_rises count each)) d d' i (happened ++ moved_entries d.units) (told ∙ sym (append_assoc happened (moved_entries d.units) d.history)) (numbers i) (alike i h) (get_or each i 0)
        (rose each i (omega arith))
        (λ c.
        r i h c ∙ ap (λ n. times happened (D.number_of (D.unit_at d i)) c + n) (sym (moved_at i h c))
        ∙ sym (times_append happened (moved_entries d.units) (D.number_of (D.unit_at d i)) c))

  -- nobody sends
  pub idle_rows : (each : List ℕ) → ((k : ℕ) → k < length d.units → get_or each k 0 ≡ taken_if (moves k)) → (d' : D.Shelf) → d'.history ≡ (moved d).history → d'.units ≡ (moved d).units →
      (i : ℕ) → i < length d.units → RowAlike (settled rows (frame_rises count each)) d' i
  unfolding times
  idle_rows each quiet d' told same =
      turned_rows each [] d' told (λ k. ap (λ us. D.number_of (get_or us k D.blank)) same ∙ moved_numbers d.units k) (λ k h c. ap (λ n. n / 2 ^ place_of c % 2) (quiet k h) ∙ sym (zero-add (taken_if (moves k) / 2 ^ place_of c % 2)))

  -- a unit sends, all hear
  module _ (place : ℕ) (inside : place < length d.units) (s : Sending) (number : D.number_of s.left ≡ D.number_of (D.unit_at (moved d) place)) where
    -- the units once the cell is out, whether one is addressed, what each hears, what is counted at the sender and by hearing
    abbrev without : List D.Unit
    without = set (moved d).units place s.left

    abbrev someone : Bool
    someone = some_addressed d.lines without s.cell

    abbrev fate : ℕ → H.Hearing
    fate k = hearing_of d.lines (get_or without k D.blank) s.cell.heard

    abbrev sent_entries : List Entry
    sent_entries = entries (D.number_of (D.unit_at (moved d) place)) (sent_counts someone)

    abbrev heard_there : List Entry
    heard_there = heard_entries d.lines without s.cell

    -- the numbers are as they were, so none is there twice
    number_without : (k : ℕ) → D.number_of (get_or without k D.blank) ≡ D.number_of (D.unit_at d k)
    number_without k = same_numbers (moved d).units place s.left number k ∙ moved_numbers d.units k

    many_without : length without ≡ length d.units
    many_without = length-set (moved d).units place s.left ∙ length-map d.units moved_unit

    different_without : Different without
    different_without i j h k e = once i j h (omega (arith, k, many_without)) (sym (number_without i) ∙ e ∙ number_without j)

    -- what is counted of hearing at a unit
    heard_at : (k : ℕ) → k < length d.units → (c : Counter) → times heard_there (D.number_of (D.unit_at d k)) c ≡ hearing_rises (fate k) / 2 ^ place_of c % 2
    heard_at k h c =
        (λ z. times (heard_by_lem d.lines s.cell without z) (sym (number_without k) z) c)
        ∙ by_times (λ u. hearing_counts (hearing_of d.lines u s.cell.heard)) without different_without k (omega (arith, h, many_without)) c
        ∙ sym (agree_hearing (fate k) c)

    -- at the sender and at another
    sent_here : (c : Counter) → times sent_entries (D.number_of (D.unit_at d place)) c ≡ sent_rises someone / 2 ^ place_of c % 2
    sent_here c =
        ap (λ n. times sent_entries n c) (sym (moved_numbers d.units place)) ∙ times_here (D.number_of (D.unit_at (moved d) place)) (sent_counts someone) c ∙ sym (agree_sending someone c)

    sent_other : (k : ℕ) → k < length d.units → (k ≡ place → ⊥) → (c : Counter) → times sent_entries (D.number_of (D.unit_at d k)) c ≡ 0
    sent_other k h p c =
        times_other (D.number_of (D.unit_at (moved d) place)) (sent_counts someone) (D.number_of (D.unit_at d k)) c
        (λ q. different_apart d.units once k place h inside p (sym q ∙ moved_numbers d.units place))

    -- the rows of all
    pub sent_rows : (each : List ℕ) → ((k : ℕ) → k < length d.units → (k ≡ place → ⊥) → get_or each k 0 ≡ bit_or (taken_if (moves k)) (hearing_rises (fate k))) →
        get_or each place 0 ≡ bit_or (bit_or (taken_if (moves place)) (hearing_rises (fate place))) (sent_rises someone) →
        (d' : D.Shelf) → d'.history ≡ (sent_entries ++ heard_there) ++ (moved d).history → d'.units ≡ all_hear d.lines without s.cell →
        (i : ℕ) → i < length d.units → RowAlike (settled rows (frame_rises count each)) d' i
    sent_rows each others here d' told same =
        turned_rows each (sent_entries ++ heard_there) d' told
        (λ k. ap (λ us. D.number_of (get_or us k D.blank)) same ∙ same_each (λ u. hearing_unit d.lines u s.cell) (heard_number d.lines s.cell) without k ∙ number_without k)
        (λ k h c.
        let both = times_append sent_entries heard_there (D.number_of (D.unit_at d k)) c in
        let heard = heard_at k h c in
        decide (eqb k place)
        (λ t.
        let p = eqb-true k place t in
        let sent = ap (λ j. times sent_entries (D.number_of (D.unit_at d j)) c) p ∙ sent_here c in
        let three = ap (λ n. n / 2 ^ place_of c % 2) (ap (λ j. get_or each j 0) p ∙ here) ∙ bit_three (moves place) (fate place) (sent_rises someone) (sent_low someone) (place_of c) in
        let moves_at = ap (λ j. taken_if (moves j) / 2 ^ place_of c % 2) p in
        let heard_p = ap (λ j. hearing_rises (fate j) / 2 ^ place_of c % 2) p in
        omega (arith, both, heard, sent, three, moves_at, heard_p))
        (λ f.
        let p = eqb-false k place f in
        let two = ap (λ n. n / 2 ^ place_of c % 2) (others k h p) ∙ bit_joined (taken_if (moves k)) (hearing_rises (fate k)) (place_of c) (moved_heard (moves k) (fate k)) in
        omega (arith, both, heard, sent_other k h p c, two)))

-- rows beyond the declared units are as they were
pub frame_beyond : (rows : List C.Counters) (count : ℕ) (each : List ℕ) (i : ℕ) → count ≤ i → get_or (settled rows (frame_rises count each)) i zeros ≡ get_or rows i zeros
frame_beyond rows count each i h = settled_ahead rows (frame_rises count each) count i h
