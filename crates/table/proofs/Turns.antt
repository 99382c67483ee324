-- The loop over the lines: what is known between two turns, and each kind of turn. Assumes nothing.
use Rattle.std.specs.Prelude.{Ok, Err}
use mathlib.Core.Path.{◌≡◌, refl, sym, ap, ap₂, subst, ◌∙◌}
use mathlib.Core.Bool.{true, false, false≢true}
use mathlib.Core.List.{List, [], ◌∷◌}
use Prim.Native.Nat.{ℕ, suc, ◌+◌, ◌-◌, ◌*◌, ◌<◌, ◌≤◌}
use native.Mathlib.Numerals.{add-one}
use native.Mathlib.Omega.{arith}
use lib.Dec.{eqb, ltb}
use lib.ListN.{length, take, drop, length-take, length-drop}
use borrow.Author.Tests.{ltb-true, ltb-false, lt-ltb, ne_eqb}
use Rattle.card.specs.declared.Card.{Card}
use Rattle.lookup.specs.Record.{size, most, usable, record_at, cleared, Holds}
use Rattle.shelf.specs.Shelf.{Shelf}
use Rattle.state.specs.Bytes.{shelf_in}
use Rattle.state.specs.Placing.{fresh_bytes}
use Rattle.text.specs.Text.{split, at}
use Rattle.line.specs.Lines.{Reading, reading_of}
use Rattle.line.specs.declared.Line.{Line}
use Rattle.line.specs.declared.Line.TheVariants.{Bus, Unit as L-as-Unit, Vp, Drop, Page, Vc, Mc}
use Rattle.line.specs.declared.Wrong.TheVariants.{Newline}
use Rattle.line.specs.Ranges.{InRange}
use Rattle.text.proofs.Split.{split_some, split_end, split_more, split_last}
use Rattle.line.proofs.Ranges.{read_in_range}
use Rattle.judge.specs.Verdicts.{fine, Verdict, is_fine}
use Rattle.meaning.specs.Told.{Whose, total, opens, takes, shelf_of, record_of, memory_of}
use Rattle.meaning.specs.Lines.{is_first, judge, verdict_on, run, done, stopped, Good}
use Rattle.judge.specs.Owners.{unit_of, owner_of}
use Rattle.meaning.specs.Enact.{verdict_at, memory_by, Places}
use Rattle.table.specs.GivenInPlace.{state_by}
use Rattle.meaning.proofs.Grown.{decide, grown}
use Rattle.meaning.proofs.Memory.{Ranged, AllRanged, fits_room, records_hold, memory_none}
use Rattle.meaning.proofs.Shelved.{shelved, place_left}
use Rattle.meaning.proofs.Agree.{judge_agree, memory_agree}
use Rattle.table.specs.Load.{readings_of, ran_of, progress_by, memory_after, verdict_in, progress_of, told_in}
use Rattle.table.specs.InPlace.{state_after, state_of}
use Rattle.table.specs.declared.Progress.{Progress}
use Rattle.table.proofs.Leaves.{progress, fine_is, step_stopped, memory_kept, state_kept, step_fine, memory_enacted, state_enacted}
use Rattle.table.proofs.Standing.{stands}

-- a line and those after it
more : (p : List ℕ) (rest : List (List ℕ)) → 0 < length rest → readings_of (p ∷ rest) ≡ reading_of p true ∷ readings_of rest
unfolding readings_of
more p [] h = absurd (omega arith)
more p (q ∷ ps) h = refl

last : (p : List ℕ) → (length p ≡ 0 → ⊥) → readings_of (p ∷ []) ≡ reading_of p false ∷ []
unfolding readings_of
last p h = rw (ne_eqb (length p) 0 h)

none : readings_of ([] ∷ []) ≡ []
unfolding readings_of
none = refl

module _ (text : List ℕ) (from e : ℕ) (q : e ≡ from + length (at (split 10 (drop from text)) 0)) (h : from < length text) where
  pub line_ended : e < length text → readings_of (split 10 (drop from text)) ≡ reading_of (take (e - from) (drop from text)) true ∷ readings_of (split 10 (drop (e + 1) text))
  line_ended g = ap readings_of (split_more 10 text from e q g) ∙ more _ _ (split_some 10 (drop (e + 1) text))

  pub line_open : length text ≤ e → readings_of (split 10 (drop from text)) ≡ reading_of (take (e - from) (drop from text)) false ∷ []
  line_open g =
      ap readings_of (split_last 10 text from e q g)
      ∙ last (take (e - from) (drop from text)) (λ z. absurd (omega (arith, length-take (e - from) (drop from text), length-drop from text)))

pub no_line : (text : List ℕ) (from : ℕ) → length text ≤ from → readings_of (split 10 (drop from text)) ≡ []
no_line text from h = ap readings_of (split_end 10 text from h) ∙ none

-- what the reader keeps in range
pub ranged : (l : Line) → InRange l → Ranged l
ranged (Bus bus) r = tt
ranged (L-as-Unit settings limits) r = let k = r.settings_in.number_most in omega arith
ranged (Vp u v target class outvpi) r = (r.way.sayable, r.way.outvpi_most)
ranged (Drop u v) r = tt
ranged (Page u v top) r = let k = r.top_most in omega arith
ranged (Vc u v w target class outvpi outvci) r = (r.way.sayable, r.way.outvpi_most, let k = r.outvci_most in omega arith)
ranged (Mc u session) r = let k = r.session_most in omega arith

first_is : (told : List Line) → eqb (length told) 0 ≡ is_first told
first_is [] = refl
first_is (l ∷ told) = ne_eqb (suc (length told)) 0 (λ e. absurd (omega arith))

-- between two turns: the lines so far were good, the memory, the state and the progress are theirs, and what is left is read from here on
pub record Between (card : Card) (memory₀ text : List ℕ) (told : List Line) (from : ℕ) (p : Progress) (memory s : List ℕ) : Type 0 where
  pub good : Good card (usable memory₀) told
  pub ranges : AllRanged told
  pub holding : memory ≡ memory_of card memory₀ told
  pub standing : s ≡ state_of told
  pub come : p ≡ progress_of (done told)
  pub inside : from ≤ length text
  pub short : length told ≤ from
  pub left : ran_of card (usable memory₀) text ≡ run card (usable memory₀) told (length told) (readings_of (split 10 (drop from text)))

pub at_start : (card : Card) (memory text : List ℕ) → memory ≡ cleared memory → (length text ≡ 0 → ⊥) → Between card memory text [] 0 (progress_of (done [])) memory (fresh_bytes 16)
unfolding ran_of state_of
at_start card memory text z n =
    record {
      good = tt;
      ranges = tt;
      holding = z ∙ sym (memory_none card memory);
      standing = refl;
      come = refl;
      inside = omega arith;
      short = omega arith;
      left = rw (ne_eqb (length text) 0 n);
    }

-- all is read
pub at_end : (card : Card) (memory₀ text : List ℕ) (told : List Line) (from : ℕ) (p : Progress) (memory s : List ℕ) → Between card memory₀ text told from p memory s → length text ≤ from → ran_of card (usable memory₀) text ≡ done told
unfolding run
at_end card memory₀ text told from p memory s b h = b.left ∙ ap (run card (usable memory₀) told (length told)) (no_line text from h)

module _ (card : Card) (memory₀ text : List ℕ) (told : List Line) (from : ℕ) (p : Progress) (memory s : List ℕ) (b : Between card memory₀ text told from p memory s) where
  abbrev room : ℕ
  room = usable memory₀

  room_most : room ≤ most
  room_most = omega arith

  hold : (k : Whose) (i : ℕ) → Holds card (record_of told k i)
  hold = records_hold card room told room_most b.good b.ranges

  pub used_most : p.used ≤ 262144
  used_most = let e = ap (λ q. q.used) b.come in let f = fits_room card room told b.good in omega (arith, e, f, room_most)

  pub lines_most : length text ≤ 65536 → p.lines ≤ 65536
  lines_most h = let e = ap (λ q. q.lines) b.come in let n = b.short in let i = b.inside in omega (arith, e)

  -- the bytes are the shelf that the lines make
  pub shelf_is : shelf_in s ≡ shelf_of told
  shelf_is = ap shelf_in b.standing ∙ (stands card room told b.good b.ranges).1

  -- the verdict by what stands is the verdict by the lines
  verdict_line : (l : Line) → Ranged l → verdict_in card room memory (shelf_in s) p (Ok l) ≡ judge card room told l
  verdict_line l r =
      (λ i. verdict_in card room (b.holding i) (shelf_is i) (b.come i) (Ok l))
      ∙ ap (λ f. verdict_at card room f (record_at card (memory_of card memory₀ told)) (shelf_of told) (size * total told) (Ok l)) (first_is told)
      ∙ judge_agree card memory₀ told (grown card room told b.good) (shelved card room told b.good b.ranges) hold room l r

  pub verdict_is : (r : Reading) → ((l : Line) → r ≡ Ok l → Ranged l) → verdict_in card room memory (shelf_in s) p r ≡ verdict_on card room told r
  verdict_is (Ok l) h = verdict_line l (h l refl)
  verdict_is (Err wrong) h = refl

  -- there is a place for a unit that it declares, and its limits are in their ranges
  pub placed : (r : Reading) → ((l : Line) → r ≡ Ok l → InRange l) → verdict_in card room memory (shelf_in s) p r ≡ fine → Places (shelf_in s) r
  placed (Ok (Bus bus)) h e = tt
  placed (Ok (L-as-Unit settings limits)) h e =
      let given = h (L-as-Unit settings limits) refl in
      let within = ranged (L-as-Unit settings limits) given in
      let k = place_left card room told settings limits (sym (verdict_line (L-as-Unit settings limits) within) ∙ e) within (shelved card room told b.good b.ranges) in
      (subst (λ (h : Shelf). h.count < 32) (sym shelf_is) k, given.limits_in_lem)
  placed (Ok (Vp u v target class outvpi)) h e = tt
  placed (Ok (Drop u v)) h e = tt
  placed (Ok (Page u v top)) h e = tt
  placed (Ok (Vc u v w target class outvpi outvci)) h e = tt
  placed (Ok (Mc u session)) h e = tt
  placed (Err wrong) h e = tt

  -- a line that is not fine ends it
  pub stops : (r : Reading) (rs : List Reading) → readings_of (split 10 (drop from text)) ≡ r ∷ rs → is_fine (verdict_on card room told r) ≡ false → ran_of card room text ≡ stopped told (length told + 1) (verdict_on card room told r)
  unfolding run
  stops r rs e f = b.left ∙ ap (run card room told (length told)) e ∙ rw f

  pub stopped_progress : (r : Reading) (v : Verdict) → verdict_in card room memory (shelf_in s) p r ≡ v → is_fine v ≡ false → progress_by (verdict_in card room memory (shelf_in s) p r) p r ≡ progress_of (stopped told (length told + 1) v)
  stopped_progress r v e f =
      sym (step_stopped card memory s (shelf_in s) p r v (verdict_in card room memory (shelf_in s) p r) (sym e) f) ∙ ap (λ q. progress q.used (q.lines + 1) v) b.come

  -- one that is fine is one more
  pub goes : (l : Line) (rs : List Reading) → readings_of (split 10 (drop from text)) ≡ Ok l ∷ rs → judge card room told l ≡ fine → ran_of card room text ≡ run card room (l ∷ told) (length told + 1) rs
  unfolding run
  goes l rs e f = b.left ∙ ap (run card room told (length told)) e ∙ rw f

  -- the progress and the memory of one line more
  more_progress : (l : Line) → judge card room told l ≡ fine → Ranged l → progress_by (verdict_in card room memory (shelf_in s) p (Ok l)) p (Ok l) ≡ progress_of (done (l ∷ told))
  unfolding total
  more_progress l f r =
      let v = verdict_line l r ∙ f in
      let u : size * total told + size * takes (opens l) ≡ size * (total told + takes (opens l)) = omega arith in
      sym (step_fine card memory s (shelf_in s) p (Ok l) fine (verdict_in card room memory (shelf_in s) p (Ok l)) (sym v) (p.used + size * takes (opens l)) refl refl)
      ∙ ap (λ q. progress (q.used + size * takes (opens l)) (q.lines + 1) fine) b.come ∙ ap₂ (λ n k. progress n k fine) u (add-one (length told))

  more_memory : (l : Line) → judge card room told l ≡ fine → Ranged l → memory_after card memory (shelf_in s) (verdict_in card room memory (shelf_in s) p (Ok l)) p (Ok l) ≡ memory_of card memory₀ (l ∷ told)
  more_memory l f r =
      let v = verdict_line l r ∙ f in
      sym (memory_enacted card memory s (shelf_in s) p (Ok l) fine (verdict_in card room memory (shelf_in s) p (Ok l)) (sym v) (memory_by card memory p.used (owner_of (shelf_in s) (unit_of l)) l) refl refl)
      ∙ (λ i. memory_by card (b.holding i) (b.come i).used (owner_of (shelf_is i) (unit_of l)) l)
      ∙ memory_agree card memory₀ told (grown card room told b.good) (shelved card room told b.good b.ranges) hold l f

  more_state : (l : Line) → judge card room told l ≡ fine → Ranged l → state_after s (verdict_in card room memory (shelf_in s) p (Ok l)) p (Ok l) ≡ state_of (l ∷ told)
  unfolding state_of
  more_state l f r =
      let v = verdict_line l r ∙ f in
      sym (state_enacted card memory s (shelf_in s) p (Ok l) fine (verdict_in card room memory (shelf_in s) p (Ok l)) (sym v) (state_by l p.used s) refl refl)
      ∙ (λ i. state_by l (b.come i).used (b.standing i))

  pub turn : (e : ℕ) (l : Line) → from ≤ e → e < length text → readings_of (split 10 (drop from text)) ≡ Ok l ∷ readings_of (split 10 (drop (e + 1) text)) → judge card room told l ≡ fine → Ranged l → Between card memory₀ text (l ∷ told) (e + 1) (progress_by (verdict_in card room memory (shelf_in s) p (Ok l)) p (Ok l)) (memory_after card memory (shelf_in s) (verdict_in card room memory (shelf_in s) p (Ok l)) p (Ok l)) (state_after s (verdict_in card room memory (shelf_in s) p (Ok l)) p (Ok l))
  turn e l h g q f r =
      let short = b.short in
      record {
        good = (f, b.good);
        ranges = (r, b.ranges);
        holding = more_memory l f r;
        standing = more_state l f r;
        come = more_progress l f r;
        inside = omega arith;
        short = omega arith;
        left = goes l (readings_of (split 10 (drop (e + 1) text))) q f ∙ ap (λ n. run card room (l ∷ told) n (readings_of (split 10 (drop (e + 1) text)))) (add-one (length told));
      }

-- by what was read of the text
module _ (card : Card) (memory₀ text : List ℕ) (told : List Line) (from : ℕ) (p : Progress) (memory s : List ℕ) (b : Between card memory₀ text told from p memory s) (e : ℕ) (q : e ≡ from + length (at (split 10 (drop from text)) 0)) (h : from < length text) (r : Reading) (is : r ≡ reading_of (take (e - from) (drop from text)) (ltb e (length text))) where
  abbrev verdict : Verdict
  verdict = verdict_in card (usable memory₀) memory (shelf_in s) p r

  in_range : (l : Line) → r ≡ Ok l → InRange l
  in_range l k = read_in_range (take (e - from) (drop from text)) (ltb e (length text)) (sym is ∙ k)

  by_lines : verdict ≡ verdict_on card (usable memory₀) told r
  by_lines = verdict_is card memory₀ text told from p memory s b r (λ l k. ranged l (in_range l k))

  pub step_places : verdict ≡ fine → Places (shelf_in s) r
  step_places = placed card memory₀ text told from p memory s b r in_range

  readings : (rs : List Reading) × (readings_of (split 10 (drop from text)) ≡ r ∷ rs)
  readings =
      decide (ltb e (length text))
      (λ t. (readings_of (split 10 (drop (e + 1) text)), line_ended text from e q h (ltb-true e (length text) t) ∙ ap (λ x. x ∷ readings_of (split 10 (drop (e + 1) text))) (sym (is ∙ ap (reading_of (take (e - from) (drop from text))) t))))
      (λ t. ([], line_open text from e q h (ltb-false e (length text) t) ∙ ap (λ x. x ∷ []) (sym (is ∙ ap (reading_of (take (e - from) (drop from text))) t))))

  -- it was not fine
  module _ (bad : is_fine verdict ≡ false) where
    ended : ran_of card (usable memory₀) text ≡ stopped told (length told + 1) (verdict_on card (usable memory₀) told r)
    ended = stops card memory₀ text told from p memory s b r readings.0 readings.1 (sym (ap is_fine by_lines) ∙ bad)

    pub stop_progress : progress_by verdict p r ≡ progress_of (ran_of card (usable memory₀) text)
    stop_progress =
        stopped_progress card memory₀ text told from p memory s b r (verdict_on card (usable memory₀) told r) by_lines (sym (ap is_fine by_lines) ∙ bad)
        ∙ ap progress_of (sym ended)

    pub stop_memory : memory_after card memory (shelf_in s) verdict p r ≡ memory_of card memory₀ (told_in (ran_of card (usable memory₀) text))
    stop_memory =
        sym (memory_kept card memory s (shelf_in s) p r verdict verdict refl bad) ∙ b.holding ∙ ap (λ x. memory_of card memory₀ (told_in x)) (sym ended)

    pub stop_state : state_after s verdict p r ≡ state_of (told_in (ran_of card (usable memory₀) text))
    stop_state = sym (state_kept card memory s (shelf_in s) p r verdict verdict refl bad) ∙ b.standing ∙ ap (λ x. state_of (told_in x)) (sym ended)

  -- it was fine: it could be read, a newline ended it, and it is one line more
  unended : ltb e (length text) ≡ false → r ≡ Err Newline
  unfolding reading_of
  unended t = is ∙ ap (reading_of (take (e - from) (drop from text))) t

  module _ (fine : is_fine verdict ≡ true) where
    pub was_ended : e < length text
    was_ended = decide (ltb e (length text)) (λ t. ltb-true e (length text) t) (λ t. absurd (false≢true (sym (ap (λ x. is_fine (verdict_in card (usable memory₀) memory (shelf_in s) p x)) (unended t)) ∙ fine)))

    line_is : readings_of (split 10 (drop from text)) ≡ r ∷ readings_of (split 10 (drop (e + 1) text))
    line_is =
        line_ended text from e q h was_ended
        ∙ ap (λ x. x ∷ readings_of (split 10 (drop (e + 1) text))) (sym (is ∙ ap (reading_of (take (e - from) (drop from text))) (lt-ltb e (length text) was_ended)))

    on_by : (x : Reading) → r ≡ x → (told' : List Line) × Between card memory₀ text told' (e + 1) (progress_by (verdict_in card (usable memory₀) memory (shelf_in s) p x) p x) (memory_after card memory (shelf_in s) (verdict_in card (usable memory₀) memory (shelf_in s) p x) p x) (state_after s (verdict_in card (usable memory₀) memory (shelf_in s) p x) p x)
    on_by (Ok l) k = (
      l ∷ told,
      turn card memory₀ text told from p memory s b e l (omega arith) was_ended (line_is ∙ ap (λ x. x ∷ readings_of (split 10 (drop (e + 1) text))) k)
          (sym (ap (verdict_on card (usable memory₀) told) k) ∙ sym by_lines ∙ fine_is verdict fine) (ranged l (in_range l k)),
    )
    on_by (Err wrong) k = absurd (false≢true (sym (ap (λ x. is_fine (verdict_in card (usable memory₀) memory (shelf_in s) p x)) k) ∙ fine))

    pub on : (told' : List Line) × Between card memory₀ text told' (e + 1) (progress_by verdict p r) (memory_after card memory (shelf_in s) verdict p r) (state_after s verdict p r)
    on = on_by r refl
