-- A memory that is cleared before, or after, a table was read into it; and what reading a text comes to. Assumes nothing.
use Rattle.line.specs.Lines.{Reading}
use Rattle.std.specs.Prelude.{Err, Ok}
use mathlib.Core.Path.{◌≡◌, refl, sym, ap, ◌∙◌}
use mathlib.Core.Bool.{true, false, false≢true}
use mathlib.Core.List.{List, [], ◌∷◌, ◌++◌, append_assoc}
use Prim.Native.Nat.{ℕ, ◌+◌, ◌-◌, ◌*◌, ◌<◌, ◌≤◌, min}
use native.Mathlib.Omega.{arith}
use lib.Dec.{eqb}
use lib.ListN.{length, drop, replicate, length-append, length-replicate, length-drop}
use lib.Seq.{drop_at}
use borrow.Author.Tests.{lt-ltb, le-ltb}
use Rattle.card.specs.declared.Card.{Card}
use Rattle.lookup.specs.Record.{size, most, usable, cleared, image}
use Rattle.lookup.proofs.RecordLaws.{image_length}
use Rattle.line.specs.declared.Line.{Line}
use Rattle.line.specs.declared.Wrong.TheVariants.{Newline}
use Rattle.line.proofs.Ranges.{read_in_range}
use Rattle.state.specs.Bytes.{shelf_in}
use Rattle.state.specs.Placing.{fresh_bytes}
use Rattle.text.specs.Text.{split}
use Rattle.judge.specs.declared.Fault.TheVariants.{Form}
use Rattle.judge.specs.Verdicts.{Verdict, number_of, is_fine}
use Rattle.meaning.specs.Told.{total, record_of, records, shelf_of, memory_of}
use Rattle.meaning.specs.Lines.{judge, verdict_on, with, Ran, done, stopped, run, Good}
use Rattle.meaning.proofs.Regions.{regions_length}
use Rattle.meaning.proofs.Grown.{decide}
use Rattle.meaning.proofs.Memory.{Ranged, AllRanged, fits_room}
use Rattle.table.specs.Load.{readings_of, ran_of, progress_of, told_in, too_little, refusal, loading_of, memory_ran, load, loaded}
use Rattle.table.specs.InPlace.{state_of, state_ran, state_loaded}
use Rattle.table.specs.declared.Progress.{Progress}
use Rattle.table.proofs.Leaves.{fine_is}
use Rattle.table.proofs.Standing.{stands}
use Rattle.table.proofs.Turns.{ranged}
use Rattle.table.specs.Loading.{LoadOutcome, refusal_of}

-- a cleared memory is as long, and keeps what a table may not use
pub cleared_length : (m : List ℕ) → length (cleared m) ≡ length m
unfolding cleared
cleared_length m = simp (length-append, length-replicate, length-drop) (omega arith)

pub cleared_usable : (m : List ℕ) → usable (cleared m) ≡ usable m
cleared_usable m = ap (λ n. min n most) (cleared_length m)

cleared_rest : (m : List ℕ) → drop (usable m) (cleared m) ≡ drop (usable m) m
unfolding cleared
cleared_rest m = drop_at (replicate (usable m) 0) (drop (usable m) m) (usable m) (length-replicate (usable m) 0)

cleared_by : (m n : List ℕ) → length m ≡ length n → drop (usable n) m ≡ drop (usable n) n → cleared m ≡ cleared n
unfolding cleared
cleared_by m n l d =
    let u : usable m ≡ usable n = ap (λ k. min k most) l in
    ap (λ k. replicate k 0 ++ drop k m) u ∙ ap (λ x. replicate (usable n) 0 ++ x) d

pub cleared_twice : (m : List ℕ) → cleared (cleared m) ≡ cleared m
cleared_twice m = cleared_by (cleared m) m (cleared_length m) (cleared_rest m)

-- reading into it is reading into what it was
pub memory_cleared : (card : Card) (m : List ℕ) (told : List Line) → memory_of card (cleared m) told ≡ memory_of card m told
unfolding memory_of
memory_cleared card m told =
    ap (λ k. image card (records told) ++ (replicate (k - size * total told) 0 ++ drop k (cleared m))) (cleared_usable m)
    ∙ ap (λ x. image card (records told) ++ (replicate (usable m - size * total told) 0 ++ x)) (cleared_rest m)

-- and clearing what was read is clearing what it was
pub cleared_memory : (card : Card) (m : List ℕ) (told : List Line) → size * total told ≤ usable m → cleared (memory_of card m told) ≡ cleared m
unfolding memory_of records
cleared_memory card m told h =
    let front = image card (records told) ++ replicate (usable m - size * total told) 0 in
    let tail = drop (usable m) m in
    let n = regions_length (record_of told) told in
    let f : length front ≡ usable m = simp (length-append, length-replicate) (omega (arith, image_length card (records told), n)) in
    let e = sym (append_assoc (image card (records told)) (replicate (usable m - size * total told) 0) tail) in
    ap cleared e
    ∙ cleared_by (front ++ tail) m (length-append front tail ∙ omega (arith, f, length-drop (usable m) m)) (drop_at front tail (usable m) f)

-- every line that was read is in its ranges
abbrev AllRead : List Reading → Type 0
AllRead [] = Unit {0}
AllRead (r ∷ rs) = ((l : Line) → r ≡ Ok l → Ranged l) × AllRead rs

all_read : (ps : List (List ℕ)) → AllRead (readings_of ps)
unfolding readings_of
all_read [] = tt
all_read (p ∷ []) = decide (eqb (length p) 0) (λ t. rw t tt) (λ t. rw t (λ l e. ranged l (read_in_range p false e), tt))
all_read (p ∷ q ∷ ps) = (λ l e. ranged l (read_in_range p true e), all_read (q ∷ ps))

-- reading gives good lines, and ends with a line that is not fine unless all are
pub record Sound (card : Card) (room : ℕ) (ran : Ran) : Type 0 where
  pub good : Good card room (told_in ran)
  pub ranges : AllRanged (told_in ran)
  pub all : is_fine (progress_of ran).verdict ≡ true → ran ≡ done (told_in ran)

stop_sound : (card : Card) (room : ℕ) (told : List Line) (n : ℕ) (v : Verdict) → Good card room told → AllRanged told → is_fine v ≡ false → Sound card room (stopped told n v)
stop_sound card room told n v g a f = record { good = g; ranges = a; all = λ t. absurd (false≢true (sym f ∙ t)) }

with_good : (card : Card) (room : ℕ) (told : List Line) (r : Reading) → Good card room told → is_fine (verdict_on card room told r) ≡ true → Good card room (with r told)
with_good card room told (Ok l) g f = (fine_is (judge card room told l) f, g)
with_good card room told (Err wrong) g f = absurd (false≢true f)

with_ranged : (told : List Line) (r : Reading) → AllRanged told → ((l : Line) → r ≡ Ok l → Ranged l) → AllRanged (with r told)
with_ranged told (Ok l) a h = (h l refl, a)
with_ranged told (Err wrong) a h = a

run_sound : (card : Card) (room : ℕ) (rs : List Reading) (told : List Line) (n : ℕ) → Good card room told → AllRanged told → AllRead rs → Sound card room (run card room told n rs)
unfolding run
run_sound card room [] told n g a h = record { good = g; ranges = a; all = λ t. refl }
run_sound card room (r ∷ rs) told n g a h =
    decide (is_fine (verdict_on card room told r))
    (λ t. rw t (run_sound card room rs (with r told) (n + 1) (with_good card room told r g t) (with_ranged told r a h.0) h.1))
    (λ t. rw t (stop_sound card room told (n + 1) (verdict_on card room told r) g a t))

pub ran_sound : (card : Card) (room : ℕ) (text : List ℕ) → Sound card room (ran_of card room text)
unfolding ran_of
ran_sound card room text =
    decide (eqb (length text) 0) (λ t. rw t (stop_sound card room [] 1 (Err (Form Newline)) tt tt refl))
    (λ t. rw t (run_sound card room (readings_of (split 10 text)) [] 0 tt tt (all_read (split 10 text))))

-- what loading comes to
module _ (card : Card) (text m : List ℕ) (store rows : ℕ) where
  pub load_long : 65536 < length text → (load card text m store rows ≡ refusal (refusal_of 1 0)) × (loaded card text m store rows ≡ cleared m)
  unfolding load loaded
  load_long h = (rw (lt-ltb 65536 (length text) h), rw (lt-ltb 65536 (length text) h))

  pub load_short : length text ≤ 65536 → (load card text m store rows ≡ loading_of (ran_of card (usable m) text) store rows) × (loaded card text m store rows ≡ memory_ran card m (ran_of card (usable m) text) store rows)
  unfolding load loaded
  load_short h = (rw (le-ltb 65536 (length text) h), rw (le-ltb 65536 (length text) h))

  pub state_long : 65536 < length text → state_loaded card text m store rows ≡ fresh_bytes 16
  unfolding state_loaded
  state_long h = rw (lt-ltb 65536 (length text) h)

  state_short : length text ≤ 65536 → state_loaded card text m store rows ≡ state_ran (ran_of card (usable m) text) store rows
  unfolding state_loaded
  state_short h = rw (le-ltb 65536 (length text) h)

  -- the answer, the memory and the state that a reading comes to
  abbrev ComesTo : Ran → LoadOutcome → List ℕ → List ℕ → Type 0
  ComesTo ran outcome memory s = ((loading_of ran store rows).outcome ≡ outcome) × (memory_ran card m ran store rows ≡ memory) × (state_ran ran store rows ≡ s)

  ran_stopped : (ran : Ran) → is_fine (progress_of ran).verdict ≡ false → ComesTo ran (refusal_of (number_of (progress_of ran).verdict) (progress_of ran).lines) (cleared m) (fresh_bytes 16)
  unfolding loading_of memory_ran state_ran
  ran_stopped (done told) f = absurd (false≢true (sym f))
  ran_stopped (stopped told n v) f = (refl, refl, refl)

  done_little : (told : List Line) → too_little (shelf_of told) store rows ≡ true → ComesTo (done told) (refusal_of 7 0) (cleared m) (fresh_bytes 16)
  unfolding loading_of memory_ran state_ran
  done_little told t = (rw t, rw t, rw t)

  done_enough : (told : List Line) → too_little (shelf_of told) store rows ≡ false → ComesTo (done told) (Ok (size * total told)) (memory_of card m told) (state_of told)
  unfolding loading_of memory_ran state_ran
  done_enough told t = (rw t, rw t, rw t)

  -- what a load gave back and left is what it should
  abbrev Right : LoadOutcome → List ℕ → List ℕ → Type 0
  Right outcome memory s = (outcome ≡ (load card text m store rows).outcome) × (memory ≡ loaded card text m store rows) × (s ≡ state_loaded card text m store rows)

  right : length text ≤ 65536 → (ran : Ran) → ran_of card (usable m) text ≡ ran → (outcome : LoadOutcome) (memory s : List ℕ) → ComesTo ran outcome memory s → Right outcome memory s
  right short ran e outcome memory s c =
      let w = load_short short in (
        sym (ap (λ l. l.outcome) (w.0 ∙ ap (λ x. loading_of x store rows) e) ∙ c.0),
        sym (w.1 ∙ ap (λ x. memory_ran card m x store rows) e ∙ c.1),
        sym (state_short short ∙ ap (λ x. state_ran x store rows) e ∙ c.2),
      )

  pub after_long : 65536 < length text → Right (refusal_of 1 0) (cleared m) (fresh_bytes 16)
  after_long h = let w = load_long h in (sym (ap (λ l. l.outcome) w.0), sym w.1, sym (state_long h))

  -- after reading the lines of a short text
  module _ (short : length text ≤ 65536) (p : Progress) (come : p ≡ progress_of (ran_of card (usable m) text)) (memory s : List ℕ) (holding : memory ≡ memory_of card m (told_in (ran_of card (usable m) text))) (standing : s ≡ state_of (told_in (ran_of card (usable m) text))) where
    abbrev ran : Ran
    ran = ran_of card (usable m) text

    abbrev sound : Sound card (usable m) ran
    sound = ran_sound card (usable m) text

    emptied : cleared memory ≡ cleared m
    emptied = ap cleared holding ∙ cleared_memory card m (told_in ran) (fits_room card (usable m) (told_in ran) sound.good)

    pub after_stopped : is_fine p.verdict ≡ false → Right (refusal_of (number_of p.verdict) p.lines) (cleared memory) (fresh_bytes 16)
    after_stopped f =
        let w = right short ran refl (refusal_of (number_of (progress_of ran).verdict) (progress_of ran).lines) (cleared m) (fresh_bytes 16) (ran_stopped ran (sym (ap (λ q. is_fine q.verdict) come) ∙ f)) in
        (ap (λ q. refusal_of (number_of q.verdict) q.lines) come ∙ w.0, emptied ∙ w.1, w.2)

    all_told : is_fine p.verdict ≡ true → ran ≡ done (told_in ran)
    all_told f = sound.all (sym (ap (λ q. is_fine q.verdict) come) ∙ f)

    shelf_is : shelf_in s ≡ shelf_of (told_in ran)
    shelf_is = ap shelf_in standing ∙ (stands card (usable m) (told_in ran) sound.good sound.ranges).1

    pub after_little : is_fine p.verdict ≡ true → too_little (shelf_in s) store rows ≡ true → Right (refusal_of 7 0) (cleared memory) (fresh_bytes 16)
    after_little f t =
        let w = right short (done (told_in ran)) (all_told f) (refusal_of 7 0) (cleared m) (fresh_bytes 16) (done_little (told_in ran) (sym (ap (λ h. too_little h store rows) shelf_is) ∙ t)) in
        (w.0, emptied ∙ w.1, w.2)

    pub after_done : is_fine p.verdict ≡ true → too_little (shelf_in s) store rows ≡ false → Right (Ok p.used) memory s
    after_done f t =
        let told = told_in ran in
        let w = right short (done told) (all_told f) (Ok (size * total told)) (memory_of card m told) (state_of told) (done_enough told (sym (ap (λ h. too_little h store rows) shelf_is) ∙ t)) in
        (ap (λ q. Ok q.used) (come ∙ ap progress_of (all_told f)) ∙ w.0, holding ∙ w.1, standing ∙ w.2)
