-- How often something stands in a history, and which unit a number finds. Assumes nothing.
use Rattle.std.specs.Prelude.{Some}
use Prim.Native.Nat.{ℕ, zero, suc, ◌+◌, ◌<◌}
use native.Mathlib.Omega.{arith}
use mathlib.Core.Path.{◌≡◌, refl, sym, ap, ◌∙◌}
use mathlib.Core.Bool.{Bool, true, false, cond}
use mathlib.Core.List.{List, [], ◌∷◌, ◌++◌, map}
use lib.Dec.{eqb, ltb}
use lib.ListN.{length, get_or, set, length-set, get_or-map}
use lib.Seq.{map-set_same}
use borrow.Author.Tests.{eqb-true, eq-eqb, ne_eqb, ltb-true, ltb-false}
use Rattle.shelf.specs.Shelves.{place_from}
use Rattle.line.specs.declared.Line.{Line}
use Rattle.meaning.proofs.Grown.{decide}
use Rattle.paper.specs.Counters.{Counter, place_of, hearing_counts, occurs}
use Rattle.document.specs.Counters.{Entry, entries, matches, times}
use Rattle.document.specs.Shelf.{Unit, number_of, blank, find_in}
use Rattle.document.specs.Hearing.{OnBus, hearing_of, hearing_unit}
use Rattle.document.specs.Frame.{moving_from, moved_by, moved_unit, moved_counts, moved_entries, all_hear, heard_entries}
use Rattle.flow.specs.Lost.{Different}

-- one more or not, before a sum and in its first part
plus : (b : Bool) (m n : ℕ) → cond b (suc (m + n)) (m + n) ≡ cond b (suc m) m + n
plus true m n = omega arith
plus false m n = refl

-- two lists of counters, one behind the other
pub occurs_append : (cs ks : List Counter) (k : ℕ) → occurs (cs ++ ks) k ≡ occurs cs k + occurs ks k
unfolding occurs
occurs_append [] ks k = omega arith
occurs_append (c ∷ cs) ks k = rw (occurs_append cs ks k) (plus (eqb (place_of c) k) (occurs cs k) (occurs ks k))

-- two histories, one before the other
pub times_append : (es fs : List Entry) (u : ℕ) (c : Counter) → times (es ++ fs) u c ≡ times es u c + times fs u c
unfolding times
times_append [] fs u c = omega arith
times_append (e ∷ es) fs u c = rw (times_append es fs u c) (plus (matches u c e) (times es u c) (times fs u c))

-- what happened at a unit counts there
pub times_here : (u : ℕ) (cs : List Counter) (c : Counter) → times (entries u cs) u c ≡ occurs cs (place_of c)
unfolding times occurs
times_here u [] c = refl
times_here u (k ∷ cs) c = rw (eq-eqb u u refl, times_here u cs c)

-- and nowhere else
pub times_other : (v : ℕ) (cs : List Counter) (u : ℕ) (c : Counter) → (v ≡ u → ⊥) → times (entries v cs) u c ≡ 0
unfolding times
times_other v [] u c d = refl
times_other v (k ∷ cs) u c d = rw (ne_eqb v u d) (times_other v cs u c d)

-- in two places two numbers
pub different_apart : (us : List Unit) → Different us → (i j : ℕ) → i < length us → j < length us → (i ≡ j → ⊥) → number_of (get_or us i blank) ≡ number_of (get_or us j blank) → ⊥
different_apart us once i j h k d e =
    decide (ltb i j) (λ t. once i j (let g = ltb-true i j t in omega arith) k e) (λ f. once j i (let g = ltb-false i j f in omega (arith, d)) h (sym e))

-- a unit in a place with the number of the one before it: all numbers are as they were
pub same_numbers : (us : List Unit) (place : ℕ) (u : Unit) → number_of u ≡ number_of (get_or us place blank) → (i : ℕ) → number_of (get_or (set us place u) i blank) ≡ number_of (get_or us i blank)
same_numbers us place u e i =
    sym (get_or-map number_of (set us place u) i blank) ∙ ap (λ l. get_or l i 0) (map-set_same number_of us place u blank e) ∙ get_or-map number_of us i blank

-- so none is there twice
pub same_different : (us : List Unit) (place : ℕ) (u : Unit) → number_of u ≡ number_of (get_or us place blank) → Different us → Different (set us place u)
same_different us place u e once i j h k same =
    let l = length-set us place u in
    once i j h (omega arith) (sym (same_numbers us place u e i) ∙ same ∙ same_numbers us place u e j)

module _ (lines : List Line) (x : OnBus) where
  -- all units hear: what becomes of the one in a place
  pub heard_unit : (us : List Unit) (k : ℕ) → k < length us → get_or (all_hear lines us x) k blank ≡ hearing_unit lines (get_or us k blank) x
  heard_unit [] k h = absurd (omega arith)
  heard_unit (u ∷ us) zero h = refl
  heard_unit (u ∷ us) (suc k) h = heard_unit us k (omega arith)

  -- what they heard counts at none but them
  heard_elsewhere : (us : List Unit) (v : ℕ) (c : Counter) → ((j : ℕ) → j < length us → number_of (get_or us j blank) ≡ v → ⊥) → times (heard_entries lines us x) v c ≡ 0
  unfolding heard_entries times
  heard_elsewhere [] v c d = refl
  heard_elsewhere (u ∷ us) v c d =
      let cs = hearing_counts (hearing_of lines u x.heard) in
      let a = times_append (entries (number_of u) cs) (heard_entries lines us x) v c in
      let b = times_other (number_of u) cs v c (d 0 (omega arith)) in
      let e = heard_elsewhere us v c (λ j h. d (suc j) (omega arith)) in
      omega arith

  -- and at each of them what it heard
  pub heard_times : (us : List Unit) → Different us → (k : ℕ) → k < length us → (c : Counter) → times (heard_entries lines us x) (number_of (get_or us k blank)) c ≡ occurs (hearing_counts (hearing_of lines (get_or us k blank) x.heard)) (place_of c)
  unfolding heard_entries
  heard_times [] once k h c = absurd (omega arith)
  heard_times (u ∷ us) once zero h c =
      let cs = hearing_counts (hearing_of lines u x.heard) in
      let a = times_append (entries (number_of u) cs) (heard_entries lines us x) (number_of u) c in
      let b = times_here (number_of u) cs c in
      let e = heard_elsewhere us (number_of u) c (λ j h q. once 0 (suc j) (omega arith) (omega arith) (sym q)) in
      omega arith
  heard_times (u ∷ us) once (suc k) h c =
      let cs = hearing_counts (hearing_of lines u x.heard) in
      let v = number_of (get_or us k blank) in
      let a = times_append (entries (number_of u) cs) (heard_entries lines us x) v c in
      let b = times_other (number_of u) cs v c (once 0 (suc k) (omega arith) h) in
      let e = heard_times us (λ i j l m. once (suc i) (suc j) (omega arith) (omega arith)) k (omega arith) c in
      omega (arith, a, b, e)

-- the cells that move: what becomes of the unit in a place
pub moved_unit_lem : (us : List Unit) (k : ℕ) → get_or (map moved_unit us) k blank ≡ moved_unit (get_or us k blank)
unfolding moving_from moved_by
moved_unit_lem us k = get_or-map moved_unit us k blank

-- they count at none but their units
moved_elsewhere : (us : List Unit) (v : ℕ) (c : Counter) → ((j : ℕ) → j < length us → number_of (get_or us j blank) ≡ v → ⊥) → times (moved_entries us) v c ≡ 0
unfolding moved_entries times
moved_elsewhere [] v c d = refl
moved_elsewhere (u ∷ us) v c d =
    let a = times_append (entries (number_of u) (moved_counts u)) (moved_entries us) v c in
    let b = times_other (number_of u) (moved_counts u) v c (d 0 (omega arith)) in
    let e = moved_elsewhere us v c (λ j h. d (suc j) (omega arith)) in
    omega arith

-- and at each of them its own
pub moved_times : (us : List Unit) → Different us → (k : ℕ) → k < length us → (c : Counter) → times (moved_entries us) (number_of (get_or us k blank)) c ≡ occurs (moved_counts (get_or us k blank)) (place_of c)
unfolding moved_entries
moved_times [] once k h c = absurd (omega arith)
moved_times (u ∷ us) once zero h c =
    let a = times_append (entries (number_of u) (moved_counts u)) (moved_entries us) (number_of u) c in
    let b = times_here (number_of u) (moved_counts u) c in
    let e = moved_elsewhere us (number_of u) c (λ j h q. once 0 (suc j) (omega arith) (omega arith) (sym q)) in
    omega arith
moved_times (u ∷ us) once (suc k) h c =
    let v = number_of (get_or us k blank) in
    let a = times_append (entries (number_of u) (moved_counts u)) (moved_entries us) v c in
    let b = times_other (number_of u) (moved_counts u) v c (once 0 (suc k) (omega arith) h) in
    let e = moved_times us (λ i j l m. once (suc i) (suc j) (omega arith) (omega arith)) k (omega arith) c in
    omega (arith, a, b, e)

-- a number that is found is found in a place that there is, and stands there
found_from : (us : List Unit) (k number p : ℕ) → place_from k (map number_of us) number ≡ Some p → (i : ℕ) × (p ≡ k + i) × (i < length us) × (number_of (get_or us i blank) ≡ number)
unfolding place_from
found_from [] k number p e = let z : ◌≡◌ {A = ℕ} 0 1 = cc in absurd (omega arith)
found_from (u ∷ us) k number p e = pick (eqb (number_of u) number) refl (found_from us (suc k) number p) e
  where
    pick : (b : Bool) → eqb (number_of u) number ≡ b → (place_from (suc k) (map number_of us) number ≡ Some p → (i : ℕ) × (p ≡ suc k + i) × (i < length us) × (number_of (get_or us i blank) ≡ number)) → cond b (Some k) (place_from (suc k) (map number_of us) number) ≡ Some p → (i : ℕ) × (p ≡ k + i) × (i < length (u ∷ us)) × (number_of (get_or (u ∷ us) i blank) ≡ number)
    pick true t later e = let q : k ≡ p = cc in (0, omega arith, omega arith, eqb-true (number_of u) number t)
    pick false t later e = let w = later e in (suc w.0, omega (arith, w.1), omega (arith, w.2), w.3)

-- from the first place on
pub found : (us : List Unit) (number p : ℕ) → find_in us number ≡ Some p → (p < length us) × (number_of (get_or us p blank) ≡ number)
found us number p e =
    let w = found_from us 0 number p e in
    let q : w.0 ≡ p = omega (arith, w.1) in
    (omega (arith, w.2), ap (λ k. number_of (get_or us k blank)) (sym q) ∙ w.3)
