-- When a table is refused, and with what; when it is accepted, and with what. Assumes nothing.
use Rattle.std.specs.Prelude.{Err, Ok}
use mathlib.Core.Path.{◌≡◌, refl, sym, ap, ap₂, subst, ◌∙◌}
use mathlib.Core.Bool.{Bool, true, false, ◌||◌, false≢true}
use mathlib.Core.List.{List}
use mathlib.Core.Logic.{◌⊎◌, inl, inr, ⊎_elim}
use Prim.Native.Nat.{ℕ, ◌*◌, ◌<◌, ◌≤◌}
use native.Mathlib.Omega.{arith}
use lib.Dec.{ltb}
use lib.ListN.{length}
use borrow.Author.Tests.{ltb-true, ltb-false, lt-ltb, le-ltb}
use Rattle.card.specs.declared.Card.{Card}
use Rattle.lookup.specs.Record.{size, usable, cleared}
use Rattle.line.specs.Lines.{Reading, reading_of}
use Rattle.line.specs.declared.Line.{Line}
use Rattle.shelf.specs.Shelf.{Shelf}
use Rattle.judge.specs.declared.Fault.TheVariants.{Form, Order, Twice, Wide, Room}
use Rattle.judge.specs.Verdicts.{fine, Verdict, number_of}
use Rattle.meaning.specs.Told.{total, shelf_of, memory_of}
use Rattle.meaning.specs.Lines.{Good, Ran, done, stopped, verdict_on}
use Rattle.meaning.proofs.Memory.{AllRanged}
use Rattle.meaning.proofs.Grown.{decide}
use Rattle.table.specs.Loading.{Loading, refusal_of, LoadOutcome}
use Rattle.table.specs.Load.{ran_of, refusal, too_little, loading_of, memory_ran, load, loaded}
use Rattle.table.proofs.Cleared.{load_long, load_short}
use Rattle.promise.specs.Says.{records_of, unit_lines}
use Rattle.promise.specs.Readings.{lines_of}
use Rattle.promise.specs.Refusals.{AllGood, Long, AtLine, Store, Accepts, Refuses}
use Rattle.promise.proofs.Texts.{all_read_iff, line_read_iff}
use Rattle.promise.proofs.Said.{records_total, units_count}
use Rattle.promise.proofs.Runs.{AllFine, FirstFault, AllInRange, line_ranges, all_ranged, done_iff_good, fault_first, first_stops, ran_lines}
use Rattle.promise.proofs.Faults.{condition_least, condition_iff, good_iff}

pub loaded_refused : {used number line : ℕ} → Ok used ≡ refusal_of number line → ⊥
loaded_refused e = let z : ◌≡◌ {A = ℕ} 0 1 = cc in omega arith

-- the number and the line of a refusal
number_in : LoadOutcome → ℕ
number_in (Ok used) = 0
number_in (Err r) = r.number

line_of : LoadOutcome → ℕ
line_of (Ok used) = 0
line_of (Err r) = r.line

pub refused_number : {k n k' n' : ℕ} → refusal_of k n ≡ refusal_of k' n' → k ≡ k'
unfolding number_in
refused_number e = ap number_in e

pub refused_line : {k n k' n' : ℕ} → refusal_of k n ≡ refusal_of k' n' → n ≡ n'
unfolding line_of
refused_line e = ap line_of e

loaded_used : {used used' : ℕ} → ◌≡◌ {A = LoadOutcome} (Ok used) (Ok used') → used ≡ used'
loaded_used e = cc

-- "cell store below 8,192 bytes a declared unit, or fewer counter rows than units"
module _ (shelf : Shelf) (store rows : ℕ) where
  either_little : (a b : Bool) → (a || b) ≡ true → (a ≡ true) ⊎ (b ≡ true)
  either_little true b e = inl refl
  either_little false b e = inr e

  little_is : too_little shelf store rows ≡ true → (store < 8192 * shelf.count) ⊎ (rows < shelf.count)
  little_is e =
      ⊎_elim (λ t. inl (ltb-true store (8192 * shelf.count) t)) (λ t. inr (ltb-true rows shelf.count t))
      (either_little (ltb store (8192 * shelf.count)) (ltb rows shelf.count) e)

  is_little : (store < 8192 * shelf.count) ⊎ (rows < shelf.count) → too_little shelf store rows ≡ true
  is_little (inl h) = rw (lt-ltb store (8192 * shelf.count) h)
  is_little (inr h) = decide (ltb store (8192 * shelf.count)) (λ t. rw t) (λ t. rw (t, lt-ltb rows shelf.count h))

  is_enough : 8192 * shelf.count ≤ store → shelf.count ≤ rows → too_little shelf store rows ≡ false
  is_enough h k = rw (le-ltb store (8192 * shelf.count) h, le-ltb rows shelf.count k)

  enough_is : too_little shelf store rows ≡ false → (8192 * shelf.count ≤ store) × (shelf.count ≤ rows)
  enough_is e =
      decide (ltb store (8192 * shelf.count)) (λ t. absurd (true_false (sym (is_little (inl (ltb-true store (8192 * shelf.count) t))) ∙ e)))
      (λ t.
      decide (ltb rows shelf.count) (λ q. absurd (true_false (sym (is_little (inr (ltb-true rows shelf.count q))) ∙ e)))
      (λ q. (ltb-false store (8192 * shelf.count) t, ltb-false rows shelf.count q)))
    where
      true_false : true ≡ false → ⊥
      true_false x = false≢true (sym x)

-- the line at which reading stops
number_some : (v : Verdict) → (v ≡ fine → ⊥) → number_of v ≡ 0 → ⊥
number_some (Ok x) h e = h refl
number_some (Err (Form wrong)) h e = omega arith
number_some (Err (Order field)) h e = omega arith
number_some (Err (Twice field)) h e = omega arith
number_some (Err Wide) h e = omega arith
number_some (Err Room) h e = omega arith

module _ (card : Card) (text memory : List ℕ) (line : ℕ) where
  pub at_line : length text ≤ 65536 → (v : Verdict) → FirstFault card (usable memory) (lines_of text) line v → AtLine card text memory (number_of v) line
  at_line h v f =
      let fine = (good_iff card memory f.before).0 f.good in
      let r = (line_read_iff text f.before f.it).0 (f.after, f.all) in
      let k = (condition_iff card memory f.before r.bytes r.ended fine (number_of v) (number_some v f.faulty)).0 (ap (λ x. number_of (verdict_on card (usable memory) f.before x)) r.read ∙ ap number_of f.judged) in
      record {
        short = h;
        before = f.before;
        bytes = r.bytes;
        ended = r.ended;
        it = r.here;
        ranged = r.ranged;
        faultless = fine;
        counted = f.counted;
        faulty = k.0;
        first = k.1;
      }

  reading_at : (number : ℕ) → AtLine card text memory number line → Reading
  reading_at number a = reading_of a.bytes a.ended

  verdict_at : (number : ℕ) → AtLine card text memory number line → Verdict
  verdict_at number a = verdict_on card (usable memory) a.before (reading_at number a)

  some_number : (number : ℕ) (a : AtLine card text memory number line) → number ≡ 0 → ⊥
  some_number number a e = let k = condition_least card memory a.before a.bytes a.ended number a.faulty in omega arith

  number_at : (number : ℕ) (a : AtLine card text memory number line) → number_of (verdict_at number a) ≡ number
  unfolding verdict_at reading_at
  number_at number a = (condition_iff card memory a.before a.bytes a.ended a.faultless number (some_number number a)).1 (a.faulty, a.first)

  line_at : (number : ℕ) (a : AtLine card text memory number line) → FirstFault card (usable memory) (lines_of text) line (verdict_at number a)
  unfolding verdict_at reading_at
  line_at number a =
      let r = (line_read_iff text a.before (reading_at number a)).1 (record { ranged = a.ranged; bytes = a.bytes; ended = a.ended; here = a.it; read = refl }) in
      record {
        before = a.before;
        it = reading_at number a;
        after = r.0;
        all = r.1;
        good = (good_iff card memory a.before).1 a.faultless;
        counted = a.counted;
        judged = refl;
        faulty = λ e. some_number number a (sym (number_at number a) ∙ ap number_of e);
      }

-- a text whose every line is good is read as those lines, each fine
module _ (card : Card) (text memory : List ℕ) (told : List Line) where
  pub all_fine : AllGood card text memory told → AllFine card (usable memory) (lines_of text) told
  all_fine a = record { all = (all_read_iff text told).1 (a.some, a.ranged, a.all); good = (good_iff card memory told).1 a.faultless }

  fine_all : AllFine card (usable memory) (lines_of text) told → AllGood card text memory told
  fine_all f =
      let r = (all_read_iff text told).0 f.all in
      record { some = r.0; all = r.2; ranged = r.1; faultless = (good_iff card memory told).0 f.good }

-- what those rooms ask that speak of the lines as they are read and judged
module _ (card : Card) (text memory : List ℕ) (store rows : ℕ) (told : List Line) (a : Accepts card text memory store rows told) where
  pub accepts_good : Good card (usable memory) told
  accepts_good = (good_iff card memory told).1 a.fine.faultless

  pub accepts_in_range : AllInRange told
  accepts_in_range = line_ranges told a.fine.ranged

  pub accepts_ranged : AllRanged told
  accepts_ranged = all_ranged told accepts_in_range

  pub accepts_units : (shelf_of told).count ≡ unit_lines told
  accepts_units = units_count card (usable memory) told accepts_good

module _ (card : Card) (text memory : List ℕ) (store rows : ℕ) where
  abbrev answer : Loading
  answer = load card text memory store rows

  abbrev room : ℕ
  room = usable memory

  -- by what reading comes to
  pub by_ran : length text ≤ 65536 → (ran : Ran) → ran_of card room text ≡ ran → (answer ≡ loading_of ran store rows) × (loaded card text memory store rows ≡ memory_ran card memory ran store rows)
  by_ran h ran e =
      let s = load_short card text memory store rows h in
      (s.0 ∙ ap (λ x. loading_of x store rows) e, s.1 ∙ ap (λ x. memory_ran card memory x store rows) e)

  -- a good load: its bytes, its shelf, its memory
  pub accepted : (told : List Line) → Accepts card text memory store rows told → (answer ≡ record { outcome = Ok (size * total told); shelf = shelf_of told }) × (loaded card text memory store rows ≡ memory_of card memory told)
  unfolding loading_of memory_ran
  accepted told a =
      let r = by_ran a.short (done told) (ran_lines card room text ∙ (done_iff_good card room (lines_of text) told).1 (all_fine card text memory told a.fine)) in
      let n = accepts_units card text memory store rows told a in
      let t = is_enough (shelf_of told) store rows (omega (arith, a.store_enough)) (omega (arith, a.rows_enough)) in
      (r.0 ∙ rw t, r.1 ∙ rw t)

  -- a refusal: 01's number and line, a fresh 16 bus, the memory zero
  refused_long : (number line : ℕ) → Long text number line → (answer ≡ refusal (refusal_of number line)) × (loaded card text memory store rows ≡ cleared memory)
  refused_long number line r =
      let s = load_long card text memory store rows r.long in
      (s.0 ∙ ap₂ (λ k n. refusal (refusal_of k n)) (sym r.number_is) (sym r.line_is), s.1)

  refused_at : (number line : ℕ) → AtLine card text memory number line → (answer ≡ refusal (refusal_of number line)) × (loaded card text memory store rows ≡ cleared memory)
  unfolding loading_of memory_ran
  refused_at number line r =
      let f = line_at card text memory line number r in
      let s = by_ran r.short (stopped f.before line (verdict_at card text memory line number r)) (ran_lines card room text ∙ first_stops card room (lines_of text) line (verdict_at card text memory line number r) f) in
      (s.0 ∙ ap (λ k. refusal (refusal_of k line)) (number_at card text memory line number r), s.1)

  refused_store : (number line : ℕ) → Store card text memory store rows number line → (answer ≡ refusal (refusal_of number line)) × (loaded card text memory store rows ≡ cleared memory)
  unfolding loading_of memory_ran
  refused_store number line r =
      let f = all_fine card text memory r.told r.fine in
      let s = by_ran r.short (done r.told) (ran_lines card room text ∙ (done_iff_good card room (lines_of text) r.told).1 f) in
      let n = units_count card room r.told f.good in
      let t = is_little (shelf_of r.told) store rows (subst (λ m. (store < 8192 * m) ⊎ (rows < m)) (sym n) r.little) in
      (s.0 ∙ rw t (ap₂ (λ k n. refusal (refusal_of k n)) (sym r.number_is) (sym r.line_is)), s.1 ∙ rw t)

  pub refused : (number line : ℕ) → Refuses card text memory store rows number line → (answer ≡ refusal (refusal_of number line)) × (loaded card text memory store rows ≡ cleared memory)
  refused number line r = ⊎_elim (refused_long number line) (⊎_elim (refused_at number line) (refused_store number line)) r

  -- and every answer is one of these
  all_read : length text ≤ 65536 → (told : List Line) → ran_of card room text ≡ done told → Accepts card text memory store rows told ⊎ Store card text memory store rows 7 0
  all_read h told e =
      let f = (done_iff_good card room (lines_of text) told).0 (sym (ran_lines card room text) ∙ e) in
      let g = fine_all card text memory told f in
      let m = units_count card room told f.good in
      decide (too_little (shelf_of told) store rows)
      (λ t. inr (record { short = h; told = told; fine = g; little = subst (λ k. (store < 8192 * k) ⊎ (rows < k)) m (little_is (shelf_of told) store rows t); number_is = refl; line_is = refl }))
      (λ t. let n = enough_is (shelf_of told) store rows t in inl (record { short = h; fine = g; store_enough = omega (arith, n.0); rows_enough = omega (arith, n.1) }))

  stopped_at : length text ≤ 65536 → (told : List Line) (line : ℕ) (v : Verdict) → ran_of card room text ≡ stopped told line v → AtLine card text memory (number_of v) line
  stopped_at h told line v e = at_line card text memory line h v (fault_first card room (lines_of text) told line v (sym (ran_lines card room text) ∙ e))

  pub either_way : ((told : List Line) × Accepts card text memory store rows told) ⊎ ((number : ℕ) × (line : ℕ) × Refuses card text memory store rows number line)
  either_way =
      decide (ltb 65536 (length text))
      (λ t. inr (1, 0, inl (record { long = ltb-true 65536 (length text) t; number_is = refl; line_is = refl })))
      (λ t. go (ltb-false 65536 (length text) t) (ran_of card room text) refl)
    where
      go : length text ≤ 65536 → (ran : Ran) → ran_of card room text ≡ ran → ((told : List Line) × Accepts card text memory store rows told) ⊎ ((number : ℕ) × (line : ℕ) × Refuses card text memory store rows number line)
      go h (done told) e = ⊎_elim (λ a. inl (told, a)) (λ r. inr (7, 0, inr (inr r))) (all_read h told e)
      go h (stopped told line v) e = inr (number_of v, line, inr (inl (stopped_at h told line v e)))

  -- no refusal has number 0
  pub refuses_some : (number line : ℕ) → Refuses card text memory store rows number line → 0 < number
  refuses_some number line r =
      ⊎_elim (λ h. omega (arith, h.number_is))
      (⊎_elim (λ h. let k = some_number card text memory line number h in omega (arith, k)) (λ h. omega (arith, h.number_is))) r

  pub refused_iff : (number line : ℕ) → (answer.outcome ≡ refusal_of number line → Refuses card text memory store rows number line) × (Refuses card text memory store rows number line → answer.outcome ≡ refusal_of number line)
  refused_iff number line = (forth, λ r. ap (λ x. x.outcome) (refused number line r).0)
    where
      same : (k n : ℕ) → Refuses card text memory store rows k n → refusal_of k n ≡ refusal_of number line → Refuses card text memory store rows number line
      same k n r e = subst (λ x. Refuses card text memory store rows x line) (refused_number e) (subst (Refuses card text memory store rows k) (refused_line e) r)

      forth : answer.outcome ≡ refusal_of number line → Refuses card text memory store rows number line
      forth e =
          ⊎_elim (λ a. absurd (loaded_refused (sym (ap (λ x. x.outcome) (accepted a.0 a.1).0) ∙ e)))
          (λ r. same r.0 r.1 r.2 (sym (ap (λ x. x.outcome) (refused r.0 r.1 r.2).0) ∙ e)) either_way

  pub loaded_iff : (used : ℕ) → (answer.outcome ≡ Ok used → (told : List Line) × Accepts card text memory store rows told × (used ≡ 8 * records_of told)) × ((told : List Line) × Accepts card text memory store rows told × (used ≡ 8 * records_of told) → answer.outcome ≡ Ok used)
  loaded_iff used = (forth, λ a. ap (λ x. x.outcome) (accepted a.0 a.1).0 ∙ ap Ok (ap (λ n. 8 * n) (records_total a.0) ∙ sym a.2))
    where
      forth : answer.outcome ≡ Ok used → (told : List Line) × Accepts card text memory store rows told × (used ≡ 8 * records_of told)
      forth e =
          ⊎_elim (λ a. (a.0, a.1, loaded_used (sym e ∙ ap (λ x. x.outcome) (accepted a.0 a.1).0) ∙ ap (λ n. 8 * n) (records_total a.0)))
          (λ r. absurd (loaded_refused (sym e ∙ ap (λ x. x.outcome) (refused r.0 r.1 r.2).0))) either_way
