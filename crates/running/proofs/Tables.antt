-- When a table is refused and when it is good, and what each leaves. Assumes nothing.
use Rattle.std.specs.Prelude.{Ok, Err}
use Prim.Native.Nat.{ℕ, zero, suc, ◌+◌, ◌-◌, ◌<◌, ◌≤◌, min}
use native.Mathlib.Numerals.{add-one}
use native.Mathlib.Omega.{arith}
use mathlib.Core.Path.{◌≡◌, refl, sym, ap, subst, ◌∙◌}
use mathlib.Core.Bool.{true}
use mathlib.Core.List.{List, [], ◌∷◌, ◌++◌, append_assoc}
use lib.ListN.{length, get_or, set, drop, replicate, length-append, length-drop, length-replicate, get_or-replicate, replicate-append-replicate, get_or-append}
use lib.Seq.{drop-cons, get_or-append-add, get_or-drop, set_at}
use Rattle.card.specs.declared.Card.{Card}
use Rattle.lookup.specs.Record.{usable, cleared}
use Rattle.line.specs.declared.Line.{Line}
use Rattle.shelf.specs.Shelves.{fresh}
use Rattle.soundness.specs.State.{sound_of}
use Rattle.meaning.specs.Told.{shelf_of}
use Rattle.meaning.proofs.Shelved.{shelved}
use Rattle.answer.specs.Counting as C·
use Rattle.answer.specs.declared.Counters as C
use Rattle.answer.proofs.Settling.{settled_next}
use Rattle.answer.specs.Answers.{number_of, values_of}
use Rattle.answer.specs.declared.Rises.{Rises}
use Rattle.table.specs.Load.{load}
use Rattle.table.specs.Loads.{answer_of, done_of}
use Rattle.promise.specs.Says.{unit_lines}
use Rattle.promise.specs.Refusals.{Accepts, Refuses}
use Rattle.promise.proofs.Refusals as promise
use Rattle.promise.proofs.Loads.{loaded_sound}
use Rattle.running.specs.Opened.{Opened}
use Rattle.running.specs.Laid.{Laid}
use Rattle.paper.specs.Answers.{IsOk, IsRefused}
use Rattle.paper.proofs.Answers.{is_ok, is_refused}
use Rattle.paper.specs.Counters.{zero_row}
use Rattle.running.specs.Tables.{TableRefusedIff, TableLoadedIff, Zeroed, RefusedTableZeroes, Fresh, GoodLoad}
use Rattle.running.specs.Keeping.{loaded}
use Rattle.running.proofs.Laid.{laid}
use Rattle.running.proofs.Opened.{opened}
use Rattle.running.proofs.InPlace.{loaded_seen}
use Rattle.table.specs.Loading.{LoadOutcome, refusal_of}

-- A. the number and the values of the answer are those of the outcome
one_is : {a b : ℕ} → a ∷ [] ≡ b ∷ [] → a ≡ b
one_is e = cc

pub table_refused : (number line : ℕ) → 0 < number → IsRefused (answer_of (refusal_of number line)) number line
unfolding answer_of
table_refused number line h = is_refused number line h

pub table_ok : (used : ℕ) → IsOk (answer_of (Ok used)) used
unfolding answer_of
table_ok used = is_ok used

pub refused_is : (o : LoadOutcome) (number line : ℕ) → IsRefused (answer_of o) number line → o ≡ refusal_of number line
unfolding answer_of number_of values_of
refused_is (Ok used) number line h = absurd (let e = h.1 in let k = h.0 in omega arith)
refused_is (Err r) number line h = λ i. refusal_of (h.1 i) (one_is h.2 i)

-- a good answer: no refusal has number 0
ok_is : (o : LoadOutcome) (used : ℕ) → ((number line : ℕ) → o ≡ refusal_of number line → 0 < number) → IsOk (answer_of o) used → o ≡ Ok used
unfolding answer_of number_of values_of
ok_is (Ok n) used some h = ap Ok (one_is h.1)
ok_is (Err r) used some h = absurd (let z = some r.number r.line refl in let e = h.0 in omega arith)

pub table_refused_iff : TableRefusedIff
table_refused_iff card text memory store rows number line =
    let iff = promise.refused_iff card text memory store rows number line in (
      λ h. iff.0 (refused_is (load card text memory store rows).outcome number line h),
      λ r. subst (λ o. IsRefused (answer_of o) number line) (sym (iff.1 r)) (table_refused number line (promise.refuses_some card text memory store rows number line r)),
    )

pub table_loaded_iff : TableLoadedIff
table_loaded_iff card text memory store rows used =
    let iff = promise.loaded_iff card text memory store rows used in
    let some : (number line : ℕ) → (load card text memory store rows).outcome ≡ refusal_of number line → 0 < number
    = λ number line e. promise.refuses_some card text memory store rows number line ((promise.refused_iff card text memory store rows number line).0 e) in (
      λ h. iff.0 (ok_is (load card text memory store rows).outcome used some h),
      λ a. subst (λ o. IsOk (answer_of o) used) (sym (iff.1 a)) (table_ok used),
    )

-- B. a refused table: the load is `refusal`, whose shelf has no units, so that no row is settled
pub refused_leaves : (card : Card) (text memory store : List ℕ) (rows : List C.Counters) (number line : ℕ) → Refuses card text memory (length store) (length rows) number line →
    loaded card text memory store rows ≡ record { shelf = fresh 16; memory = cleared memory; store = store; rows = rows }
unfolding C·.settled_to
refused_leaves card text memory store rows number line r =
    let k = promise.refused card text memory (length store) (length rows) number line r in
    λ t. record { shelf = (k.0 t).shelf; memory = k.1 t; store = store; rows = C·.settled rows (done_of (k.0 t)).rises }

pub zeroed : (memory : List ℕ) → Zeroed memory (cleared memory)
unfolding cleared
zeroed memory =
    let n = usable memory in
    let zeros : List ℕ = replicate n 0 in
    let rest = drop n memory in
    let long = length-replicate {A = ℕ} n 0 in
    record {
      zeros = λ at h k. get_or-append zeros rest 0 at (omega arith) ∙ get_or-replicate n at 0 0 (omega arith);
      later = λ at h.
          let e : at ≡ length zeros + (at - n) = omega arith in
          let m : n + (at - n) ≡ at = omega arith in
          ap (λ x. get_or (zeros ++ rest) x 0) e ∙ get_or-append-add zeros rest (at - n) 0 ∙ get_or-drop n memory (at - n) 0 ∙ ap (λ x. get_or memory x 0) m;
      long = length-append zeros rest ∙ omega (arith, length-drop n memory);
    }

pub refused_table_zeroes : RefusedTableZeroes
refused_table_zeroes card text memory store rows number line r =
    let e = loaded_seen card text memory store rows ∙ refused_leaves card text memory store rows number line r in
    record {
      shelf_empty = ap (λ w. w.shelf) e;
      memory_zeroed = subst (Zeroed memory) (sym (ap (λ w. w.memory) e)) (zeroed memory);
      store_kept = refl;
      rows_kept = ap (λ w. w.rows) e;
    }

-- C. the rows of a good one
module _ (rows : List C.Counters) (to : ℕ) (each : List ℕ) where
  abbrev anew : Rises
  anew = record { from = 0; to = to; anew = true; each = each }

  rows_anew : (n : ℕ) → n ≤ length rows → C·.settled_to rows anew n ≡ replicate n zero_row ++ drop n rows
  unfolding C·.settled_to C·.row_after
  rows_anew zero h = refl
  rows_anew (suc n) h =
      ap (C·.settled_to rows anew) (sym (add-one n))
      ∙ settled_next rows anew n (omega arith)
      ∙ ap (λ x. set x n zero_row) (rows_anew n (omega arith) ∙ ap (λ x. replicate n zero_row ++ x) (drop-cons rows n zero_row h))
      ∙ set_at (replicate n zero_row) (get_or rows n zero_row) (drop (suc n) rows) zero_row n (length-replicate n zero_row)
      ∙ sym (append_assoc (replicate n zero_row) (zero_row ∷ []) (drop (suc n) rows))
      ∙ ap (λ x. x ++ drop (suc n) rows) (replicate-append-replicate n 1 zero_row ∙ ap (λ m. replicate m zero_row) (add-one n))

-- D. a good load
loads_well : (card : Card) (text memory store : List ℕ) (rows : List C.Counters) (told : List Line) → Accepts card text memory (length store) (length rows) told →
    Fresh card memory store rows told (loaded card text memory store rows)
loads_well card text memory store rows told a =
    let k = promise.accepted card text memory (length store) (length rows) told a in
    let good = promise.accepts_good card text memory (length store) (length rows) told a in
    let ranged = promise.accepts_ranged card text memory (length store) (length rows) told a in
    let same = ap (λ x. x.shelf) k.0 in
    let sound = ap (λ x. sound_of card x (length store) (length rows)) (sym same) ∙ loaded_sound card text memory (length store) (length rows) told a in
    let n = promise.accepts_units card text memory (length store) (length rows) told a in
    let c = (shelved card (usable memory) told good ranged).counted in
    let few : min (shelf_of told).count 32 ≡ unit_lines told = omega arith in
    record {
      shelf_opened = subst (Opened told) (sym same) (opened card (usable memory) (length store) (length rows) told good ranged sound);
      memory_laid = subst (Laid card memory told) (sym k.1) (laid card memory told good a.fine.ranged a.fine.faultless);
      store_kept = refl;
      rows_zeroed = ap (λ x. C·.settled rows (done_of x).rises) k.0 ∙ rows_anew rows (min (shelf_of told).count 32) (replicate 32 0) (min (shelf_of told).count 32) (omega (arith, a.rows_enough))
          ∙ ap (λ n. replicate n zero_row ++ drop n rows) few;
    }

pub good_load : GoodLoad
good_load card text memory store rows told a =
    subst (Fresh card memory store rows told) (sym (loaded_seen card text memory store rows)) (loads_well card text memory store rows told a)
