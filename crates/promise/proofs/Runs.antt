-- Reading lines: all are good, or one is the first that is not; and the numbers of the good ones are in range. Assumes nothing.
use Rattle.line.specs.Lines.{Reading}
use Rattle.std.specs.Prelude.{Ok, Err}
use mathlib.Core.Path.{◌≡◌, refl, sym, ap, subst, ◌∙◌}
use mathlib.Core.Bool.{false, false≢true}
use mathlib.Core.List.{List, [], ◌∷◌}
use Prim.Native.Nat.{ℕ, ◌+◌}
use native.Mathlib.Numerals.{add-one}
use native.Mathlib.Omega.{arith}
use lib.Dec.{eqb}
use lib.ListN.{length}
use Rattle.card.specs.declared.Card.{Card}
use Rattle.line.specs.declared.Line.{Line}
use Rattle.line.specs.Ranges.{InRange}
use Rattle.judge.specs.Verdicts.{fine, Verdict, is_fine}
use Rattle.meaning.specs.Lines.{judge, Good, Ran, done, stopped, verdict_on, run}
use Rattle.meaning.proofs.Grown.{decide}
use Rattle.meaning.proofs.Memory.{AllRanged}
use Rattle.table.specs.Load.{ran_of}
use Rattle.table.proofs.Leaves.{fine_is}
use Rattle.table.proofs.Turns.{ranged}
use Rattle.paper.specs.Words as wording
use Rattle.paper.proofs.Ranges.{range_iff}
use Rattle.promise.specs.Readings.{lines_of, read_then}

-- every line is good after those before it
pub record AllFine (card : Card) (room : ℕ) (lines : List Reading) (told : List Line) : Type 0 where
  pub all : lines ≡ read_then told []
  pub good : Good card room told

-- the first faulty line, counted from 1: those before it are good, and it is not
pub record FirstFault (card : Card) (room : ℕ) (lines : List Reading) (line : ℕ) (verdict : Verdict) : Type 0 where
  pub before : List Line
  pub it : Reading
  pub after : List Reading
  pub all : lines ≡ read_then before (it ∷ after)
  pub good : Good card room before
  pub counted : line ≡ length before + 1
  pub judged : verdict_on card room before it ≡ verdict
  pub faulty : verdict ≡ fine → ⊥

-- what reading comes to is told apart
done_stopped : {told told' : List Line} {n : ℕ} {v : Verdict} → done told ≡ stopped told' n v → ⊥
done_stopped e = let z : ◌≡◌ {A = ℕ} 0 1 = cc in omega arith

done_is : {told told' : List Line} → done told ≡ done told' → told ≡ told'
done_is e = cc

stopped_told : {told told' : List Line} {n n' : ℕ} {v v' : Verdict} → stopped told n v ≡ stopped told' n' v' → told ≡ told'
stopped_told e = cc

stopped_line : {told told' : List Line} {n n' : ℕ} {v v' : Verdict} → stopped told n v ≡ stopped told' n' v' → n ≡ n'
stopped_line e = cc

stopped_verdict : {told told' : List Line} {n n' : ℕ} {v v' : Verdict} → stopped told n v ≡ stopped told' n' v' → v ≡ v'
stopped_verdict e = cc

pub not_fine : (v : Verdict) → is_fine v ≡ false → v ≡ fine → ⊥
not_fine v f e = false≢true (sym f ∙ ap is_fine e)

is_not_fine : (v : Verdict) → (v ≡ fine → ⊥) → is_fine v ≡ false
is_not_fine v h = decide (is_fine v) (λ t. absurd (h (fine_is v t))) (λ f. f)

module _ (card : Card) (room : ℕ) where
  -- a line more
  run_good : (told : List Line) (n : ℕ) (l : Line) (rs : List Reading) → judge card room told l ≡ fine → run card room told n (Ok l ∷ rs) ≡ run card room (l ∷ told) (n + 1) rs
  unfolding run
  run_good told n l rs e = rw e

  run_bad : (told : List Line) (n : ℕ) (r : Reading) (rs : List Reading) → is_fine (verdict_on card room told r) ≡ false → run card room told n (r ∷ rs) ≡ stopped told (n + 1) (verdict_on card room told r)
  unfolding run
  run_bad told n r rs e = rw e

  -- all good, or the first fault, from what reading came to
  module _ (P : Ran → Type 0) (told : List Line) (n : ℕ) (r : Reading) (rs : List Reading) where
    by_verdict : ((l : Line) → r ≡ Ok l → judge card room told l ≡ fine → P (run card room (l ∷ told) (n + 1) rs)) → (is_fine (verdict_on card room told r) ≡ false → P (stopped told (n + 1) (verdict_on card room told r))) → P (run card room told n (r ∷ rs))
    by_verdict good bad = go r refl
      where
        go : (x : Reading) → r ≡ x → P (run card room told n (r ∷ rs))
        go (Err wrong) k = subst P (sym (run_bad told n r rs (ap (λ x. is_fine (verdict_on card room told x)) k))) (bad (ap (λ x. is_fine (verdict_on card room told x)) k))
        go (Ok l) k =
            decide (is_fine (judge card room told l))
            (λ t.
            let f = fine_is (judge card room told l) t in
            subst P (sym (ap (λ x. run card room told n (x ∷ rs)) k ∙ run_good told n l rs f)) (good l k f))
            (λ t. let f = ap (λ x. is_fine (verdict_on card room told x)) k ∙ t in subst P (sym (run_bad told n r rs f)) (bad f))

  all_good : (told : List Line) (n : ℕ) (rs : List Reading) (all : List Line) → Good card room told → run card room told n rs ≡ done all → AllFine card room (read_then told rs) all
  unfolding run read_then
  all_good told n [] all g = λ e. subst (AllFine card room (read_then told [])) (done_is e) (record { all = refl; good = g })
  all_good told n (r ∷ rs) all g =
      by_verdict (λ x. x ≡ done all → AllFine card room (read_then told (r ∷ rs)) all) told n r rs
      (λ l k f e. subst (λ x. AllFine card room (read_then told (x ∷ rs)) all) (sym k) (all_good (l ∷ told) (n + 1) rs all (f, g) e))
      (λ f e. absurd (done_stopped (sym e)))

  first_fault : (told : List Line) (rs : List Reading) (before : List Line) (line : ℕ) (v : Verdict) → Good card room told → run card room told (length told) rs ≡ stopped before line v → FirstFault card room (read_then told rs) line v
  unfolding run read_then
  first_fault told [] before line v g = λ e. absurd (done_stopped e)
  first_fault told (r ∷ rs) before line v g =
      by_verdict (λ x. x ≡ stopped before line v → FirstFault card room (read_then told (r ∷ rs)) line v) told (length told) r rs
      (λ l k f e.
      subst (λ x. FirstFault card room (read_then told (x ∷ rs)) line v) (sym k)
      (first_fault (l ∷ told) rs before line v (f, g) (ap (λ n. run card room (l ∷ told) n rs) (sym (add-one (length told))) ∙ e)))
      (λ f e.
      record {
        before = told;
        it = r;
        after = rs;
        all = refl;
        good = g;
        counted = sym (stopped_line e);
        judged = stopped_verdict e;
        faulty = λ z. not_fine (verdict_on card room told r) f (stopped_verdict e ∙ z);
      })

  -- and back
  run_then : (told : List Line) (rest : List Reading) → Good card room told → run card room [] 0 (read_then told rest) ≡ run card room told (length told) rest
  unfolding read_then
  run_then [] rest g = refl
  run_then (l ∷ told) rest g =
      run_then told (Ok l ∷ rest) g.1 ∙ run_good told (length told) l rest g.0 ∙ ap (λ n. run card room (l ∷ told) n rest) (add-one (length told))

  pub done_iff_good : (lines : List Reading) (told : List Line) → (run card room [] 0 lines ≡ done told → AllFine card room lines told) × (AllFine card room lines told → run card room [] 0 lines ≡ done told)
  unfolding run read_then
  done_iff_good lines told = (all_good [] 0 lines told tt, λ g. ap (run card room [] 0) g.all ∙ run_then told [] g.good)

  pub fault_first : (lines : List Reading) (before : List Line) (line : ℕ) (v : Verdict) → run card room [] 0 lines ≡ stopped before line v → FirstFault card room lines line v
  unfolding read_then
  fault_first lines before line v = first_fault [] lines before line v tt

  pub first_stops : (lines : List Reading) (line : ℕ) (v : Verdict) (f : FirstFault card room lines line v) → run card room [] 0 lines ≡ stopped f.before line v
  first_stops lines line v f =
      ap (run card room [] 0) f.all ∙ run_then f.before (f.it ∷ f.after) f.good
      ∙ run_bad f.before (length f.before) f.it f.after (is_not_fine _ (λ e. f.faulty (sym f.judged ∙ e)))
      ∙ ap (λ n. stopped f.before n (verdict_on card room f.before f.it)) (sym f.counted)
      ∙ ap (stopped f.before line) f.judged

  pub ran_lines : (text : List ℕ) → ran_of card room text ≡ run card room [] 0 (lines_of text)
  unfolding ran_of lines_of run
  ran_lines text = decide (eqb (length text) 0) (λ t. rw t) (λ t. rw t)

-- what was read is in range
abbrev pub AllInRange : List Line → Type 0
AllInRange [] = Unit {0}
AllInRange (l ∷ told) = InRange l × AllInRange told

pub line_ranges : (told : List Line) → wording.AllInRange told → AllInRange told
line_ranges [] r = tt
line_ranges (l ∷ told) r = ((range_iff l).1 r.0, line_ranges told r.1)

pub all_ranged : (told : List Line) → AllInRange told → AllRanged told
all_ranged [] r = tt
all_ranged (l ∷ told) r = (ranged l r.0, all_ranged told r.1)
