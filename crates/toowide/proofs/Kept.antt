-- What is listed is what `Listed` says. Assumes nothing.
use Rattle.std.specs.Prelude.{Ok, Option, Some, None}
use mathlib.Core.Path.{◌≡◌, refl, sym, ap, subst, ◌∙◌}
use mathlib.Core.Bool.{Bool, true, false, cond, not, false≢true}
use mathlib.Core.List.{List, [], ◌∷◌, ◌++◌, append_assoc, append-nil, map}
use mathlib.Core.Logic.{⊎_elim, ◌↔◌}
use Prim.Native.Nat.{ℕ, zero, suc, ◌+◌, ◌-◌, ◌<◌, ◌≤◌}
use native.Mathlib.Omega.{arith}
use lib.Dec.{ltb}
use lib.ListN.{length, take, drop}
use borrow.Author.Tests.{ne_eqb, ltb-true, ltb-false}
use Rattle.card.specs.Cards.{narrow_holds}
use Rattle.card.specs.declared.Ask.{Ask}
use Rattle.card.specs.declared.Ask.TheVariants.{Bus as A-as-Bus, On, Out}
use Rattle.card.specs.declared.Card.TheVariants.{Narrow, Wide as W}
use Rattle.text.specs.Text.{split, at}
use Rattle.line.specs.Lines.{Reading, reading_of}
use Rattle.line.specs.declared.Line.{Line}
use Rattle.line.specs.declared.Line.TheVariants.{Bus, Unit as L-as-Unit, Vp, Drop, Page, Vc, Mc}
use Rattle.paper.proofs.Readings.{reads_iff}
use Rattle.meaning.proofs.Grown.{decide}
use Rattle.table.specs.Load.{readings_of, load}
use Rattle.table.proofs.Turns.{line_ended, line_open, no_line as no_reading}
use Rattle.promise.specs.Says.{IsWide}
use Rattle.promise.specs.Narrow.{NoneWide, FirstWide}
use Rattle.promise.specs.Readings.{lines_of, read_then}
use Rattle.promise.specs.Faults.{Fault, order, twice, wide, room, Condition, not_ended, no_line as words_of_none, fault, Faultless}
use Rattle.promise.specs.Refusals.{Accepts, AtLine}
use Rattle.promise.proofs.Faults.{too_wide, wide_iff}
use Rattle.promise.proofs.Cards.{wide_or_not, narrow_accepts, narrow_refuses_iff}
use Rattle.promise.proofs.Refusals.{all_fine, accepted, loaded_refused, refused_iff}
use Rattle.promise.proofs.Texts.{line_read_iff}
use Rattle.toowide.specs.Asks.{asked, ask_of, beyond}
use Rattle.toowide.specs.Listing.{Wide, ended, found_at, next_in, list_at, list_in, wide_lines, onward, following}
use Rattle.toowide.specs.Listed.{Asks, asks_at, asked_at, wide_of, NextByNext, WideIff, AsksIff, EveryLine, FirstNamed, NoneIfTaken, NamedFirst}
use Rattle.toowide.specs.declared.Next.{Next}
use Rattle.toowide.proofs.Walk.{open_nothing, no_line, step, found_skip}
use Rattle.table.specs.Loading.{refusal_of}

-- A. asking for the next one until there is none
list_skip : (n start end : ℕ) (rest : List Wide) → list_at None n start end rest ≡ rest
unfolding list_at
list_skip n start end rest = refl

onward_none : (lines : ℕ) (rec : ℕ → ℕ → List Wide) → onward None lines rec ≡ []
unfolding onward
onward_none lines rec = refl

-- one line more: it is the next one, or the next one stands behind it
turn : (a : Option Ask) (before start e lines : ℕ) (rec : ℕ → ℕ → List Wide) (further : Option Next) (rest : List Wide) → rec (e + 1) (lines + before + 1) ≡ rest → onward further lines rec ≡ rest → onward (found_at a before start e further) lines rec ≡ list_at a (lines + before + 1) start e rest
unfolding onward found_at list_at
turn (Some ask) before start e lines rec further rest h k = ap (λ x. record { number = lines + before + 1; start = start; end = e; ask = ask } ∷ x) h
turn None before start e lines rec further rest h k = k

module _ (text : List ℕ) where
  abbrev from·on : ℕ → List (List ℕ)
  from·on start = split 10 (drop start text)

  no_more : (rec : ℕ → ℕ → List Wide) (lines before start : ℕ) → length text ≤ start → onward (next_in before start (from·on start)) lines rec ≡ list_in (lines + before + 1) start (from·on start)
  no_more rec lines before start h =
      ap (λ x. onward x lines rec) (no_line found_at None found_skip text before start h) ∙ onward_none lines rec
      ∙ sym (no_line list_at [] list_skip text (lines + before + 1) start h)

  by_lines : (rec : ℕ → ℕ → List Wide) (lines m before start : ℕ) → length text ≤ start + m → ((e n : ℕ) → start < e → rec e n ≡ list_in (n + 1) e (from·on e)) → onward (next_in before start (from·on start)) lines rec ≡ list_in (lines + before + 1) start (from·on start)
  by_lines rec lines zero before start h k = no_more rec lines before start (omega arith)
  by_lines rec lines (suc m) before start h k =
      let e = start + length (at (from·on start) 0) in
      let sums : lines + (before + 1) + 1 ≡ lines + before + 1 + 1 = omega arith in
      let further = by_lines rec lines m (before + 1) (e + 1) (omega arith) (λ f n g. k f n (omega arith)) ∙ ap (λ n. list_in n (e + 1) (from·on (e + 1))) sums in
      ap (λ x. onward x lines rec) (step found_at None found_skip text start e refl before)
      ∙ turn _ before start e lines rec _ _ (k (e + 1) (lines + before + 1) (omega arith)) further
      ∙ sym (step list_at [] list_skip text start e refl (lines + before + 1))

  follows : (k from lines : ℕ) → length text < k + from → following k text from lines ≡ list_in (lines + 1) from (from·on from)
  unfolding following
  follows zero from lines h = sym (no_line list_at [] list_skip text (lines + 1) from (omega arith))
  follows (suc k) from lines h =
      let sums : lines + 0 + 1 ≡ lines + 1 = omega arith in
      by_lines (following k text) lines (length text) 0 from (omega arith) (λ e n g. follows k e n (omega arith)) ∙ ap (λ n. list_in n from (from·on from)) sums

pub next_by_next : NextByNext
next_by_next text k h = follows text k 0 0 (omega arith)

-- B. the list as the lines that were read have it
unfoldable asks_in : ℕ → List Reading → List Asks
asks_in n [] = []
asks_in n (r ∷ rs) = asked_at n r (asked r) ++ asks_in (n + 1) rs

map_list : (text : List ℕ) (a : Option Ask) (n start e : ℕ) (rest : List Wide) → map (asks_at text) (list_at a n start e rest) ≡ asked_at n (reading_of (take (e - start) (drop start text)) true) a ++ map (asks_at text) rest
unfolding list_at asked_at
map_list text (Some ask) n start e rest = refl
map_list text None n start e rest = refl

-- one line more: a newline ended it, or the text did
module _ (text : List ℕ) (n start e : ℕ) (q : e ≡ start + length (at (from·on text start) 0)) (g : start < length text) where
  abbrev line : List ℕ
  line = take (e - start) (drop start text)

  abbrev behind : List Asks
  behind = asks_in (n + 1) (readings_of (from·on text (e + 1)))

  ended_asks : e < length text → asked_at n (reading_of line true) (asked (reading_of line true)) ++ behind ≡ asks_in n (readings_of (from·on text start))
  unfolding asks_in
  ended_asks h = sym (ap (asks_in n) (line_ended text start e q g h))

  open_asks : length text ≤ e → asked_at n (reading_of line true) (asked (reading_of line false)) ++ behind ≡ asks_in n (readings_of (from·on text start))
  unfolding asks_in asked_at
  open_asks h =
      let past : length text ≤ e + 1 = omega arith in
      rw (open_nothing line) (ap (asks_in (n + 1)) (no_reading text (e + 1) past) ∙ sym (ap (asks_in n) (line_open text start e q g h) ∙ rw (open_nothing line)))

  line_asks : asked_at n (reading_of line true) (asked (reading_of line (ltb e (length text)))) ++ behind ≡ asks_in n (readings_of (from·on text start))
  line_asks =
      decide (ltb e (length text))
      (λ t. ap (λ b. asked_at n (reading_of line true) (asked (reading_of line b)) ++ behind) t ∙ ended_asks (ltb-true e (length text) t))
      (λ t. ap (λ b. asked_at n (reading_of line true) (asked (reading_of line b)) ++ behind) t ∙ open_asks (ltb-false e (length text) t))

module _ (text : List ℕ) where
  past_asks : (n start : ℕ) → length text ≤ start → map (asks_at text) (list_in n start (from·on text start)) ≡ asks_in n (readings_of (from·on text start))
  unfolding asks_in
  past_asks n start h = ap (map (asks_at text)) (no_line list_at [] list_skip text n start h) ∙ sym (ap (asks_in n) (no_reading text start h))

  list_asks : (m n start : ℕ) → length text ≤ start + m → map (asks_at text) (list_in n start (from·on text start)) ≡ asks_in n (readings_of (from·on text start))
  list_asks zero n start h = past_asks n start (omega arith)
  list_asks (suc m) n start h =
      let e = start + length (at (from·on text start) 0) in
      decide (ltb start (length text))
      (λ t.
      ap (map (asks_at text)) (step list_at [] list_skip text start e refl n) ∙ map_list text _ n start e _
      ∙ ap (λ x. asked_at n (reading_of (take (e - start) (drop start text)) true) (asked (reading_of (take (e - start) (drop start text)) (ltb e (length text)))) ++ x) (list_asks m (n + 1) (e + 1) (omega arith))
      ∙ line_asks text n start e refl (ltb-true start (length text) t))
      (λ t. past_asks n start (ltb-false start (length text) t))

no_text : asks_in 1 (readings_of (split 10 [])) ≡ asks_in 1 (lines_of [])
unfolding lines_of asks_in readings_of split asked asked_at
no_text = refl

text_asks : (text : List ℕ) → map (asks_at text) (wide_lines text) ≡ asks_in 1 (lines_of text)
unfolding lines_of
text_asks [] = list_asks [] 0 1 0 (omega arith) ∙ no_text
text_asks (b ∷ t) = list_asks (b ∷ t) (length (b ∷ t)) 1 0 (omega arith) ∙ rw (ne_eqb (length (b ∷ t)) 0 (λ z. absurd (omega arith)))

told_more : (l : Line) (told : List Line) (rest : List Reading) → wide_of told ++ asks_in (length told + 1) (Ok l ∷ rest) ≡ (wide_of told ++ asked_at (length told + 1) (Ok l) (beyond (ask_of l))) ++ asks_in (length (l ∷ told) + 1) rest
unfolding asks_in asked
told_more l told rest =
    let sums : length told + 1 + 1 ≡ length (l ∷ told) + 1 = omega arith in
    sym (append_assoc (wide_of told) (asked_at (length told + 1) (Ok l) (beyond (ask_of l))) (asks_in (length told + 1 + 1) rest))
    ∙ ap (λ n. (wide_of told ++ asked_at (length told + 1) (Ok l) (beyond (ask_of l))) ++ asks_in n rest) sums

told_asks : (told : List Line) (rest : List Reading) → asks_in 1 (read_then told rest) ≡ wide_of told ++ asks_in (length told + 1) rest
unfolding read_then wide_of
told_asks [] rest = refl
told_asks (l ∷ told) rest = told_asks told (Ok l ∷ rest) ∙ told_more l told rest

-- C. a line asks for too much exactly if it is one of 01's Wide
beyond_iff : (ask : Ask) → ((a : Ask) × (beyond (Some ask) ≡ Some a)) ↔ (not (narrow_holds ask) ≡ true)
unfolding beyond
beyond_iff ask = go (narrow_holds ask)
  where
    go : (b : Bool) → ((a : Ask) × (cond b None (Some ask) ≡ Some a)) ↔ (not b ≡ true)
    go true = (λ x. let e = x.1 in let z : ◌≡◌ {A = ℕ} 0 1 = cc in absurd (omega arith), λ e. absurd (false≢true e))
    go false = (λ x. refl, λ e. (ask, refl))

nothing_asked : (a : Ask) → ◌≡◌ {A = Option Ask} None (Some a) → ⊥
nothing_asked a e = let z : ◌≡◌ {A = ℕ} 0 1 = cc in omega arith

test_iff : (l : Line) → ((a : Ask) × (beyond (ask_of l) ≡ Some a)) ↔ (too_wide l ≡ true)
unfolding beyond ask_of too_wide
test_iff (Bus n) = beyond_iff (A-as-Bus n)
test_iff (L-as-Unit settings limits) = beyond_iff (On settings.link)
test_iff (Vp u v target class outvpi) = beyond_iff (Out outvpi)
test_iff (Drop u v) = (λ x. absurd (nothing_asked x.0 x.1), λ e. absurd (false≢true e))
test_iff (Page u v topvci) = (λ x. absurd (nothing_asked x.0 x.1), λ e. absurd (false≢true e))
test_iff (Vc u v w target class outvpi outvci) = beyond_iff (Out outvpi)
test_iff (Mc u session) = (λ x. absurd (nothing_asked x.0 x.1), λ e. absurd (false≢true e))

pub wide_asks : WideIff
wide_asks l = (λ x. (wide_iff l).0 ((test_iff l).0 x), λ w. (test_iff l).1 ((wide_iff l).1 w))

-- and asks for what 01's Wide names
beyond_is : (a ask : Ask) → (beyond (Some a) ≡ Some ask) ↔ ((not (narrow_holds a) ≡ true) × (ask ≡ a))
unfolding beyond
beyond_is a ask = go (narrow_holds a)
  where
    go : (b : Bool) → (cond b None (Some a) ≡ Some ask) ↔ ((not b ≡ true) × (ask ≡ a))
    go true = (λ e. absurd (nothing_asked ask e), λ x. absurd (false≢true x.0))
    go false = (λ e. (refl, cc), λ x. ap Some (sym x.1))

pub asks_iff : AsksIff
unfolding beyond ask_of too_wide
asks_iff (Bus n) ask =
    (λ e. let x = (beyond_is (A-as-Bus n) ask).0 e in let w = (wide_iff (Bus n)).0 x.0 in (w, x.1 ∙ ap A-as-Bus w), λ y. (beyond_is (A-as-Bus n) ask).1 ((wide_iff (Bus n)).1 y.0, y.1 ∙ ap A-as-Bus (sym y.0)))
asks_iff (L-as-Unit settings limits) ask =
    (λ e. let x = (beyond_is (On settings.link) ask).0 e in let w = (wide_iff (L-as-Unit settings limits)).0 x.0 in (w, x.1 ∙ ap On w), λ y. (beyond_is (On settings.link) ask).1 ((wide_iff (L-as-Unit settings limits)).1 y.0, y.1 ∙ ap On (sym y.0)))
asks_iff (Vp u v target class outvpi) ask =
    (λ e. let x = (beyond_is (Out outvpi) ask).0 e in ((wide_iff (Vp u v target class outvpi)).0 x.0, x.1), λ y. (beyond_is (Out outvpi) ask).1 ((wide_iff (Vp u v target class outvpi)).1 y.0, y.1))
asks_iff (Drop u v) ask = (λ e. absurd (nothing_asked ask e), λ z. absurd z)
asks_iff (Page u v topvci) ask = (λ e. absurd (nothing_asked ask e), λ z. absurd z)
asks_iff (Vc u v w target class outvpi outvci) ask =
    (λ e. let x = (beyond_is (Out outvpi) ask).0 e in ((wide_iff (Vc u v w target class outvpi outvci)).0 x.0, x.1), λ y. (beyond_is (Out outvpi) ask).1 ((wide_iff (Vc u v w target class outvpi outvci)).1 y.0, y.1))
asks_iff (Mc u session) ask = (λ e. absurd (nothing_asked ask e), λ z. absurd z)

asks_not : (l : Line) → (IsWide l → ⊥) → beyond (ask_of l) ≡ None
asks_not l n = go (beyond (ask_of l)) refl
  where
    go : (a : Option Ask) → beyond (ask_of l) ≡ a → a ≡ None
    go (Some ask) e = absurd (n ((wide_asks l).0 (ask, e)))
    go None e = refl

-- D. none of the lines, and the first of them
no_wide : (told : List Line) → NoneWide told → wide_of told ≡ []
unfolding wide_of asked_at
no_wide [] n = refl
no_wide (l ∷ told) n = rw (no_wide told n.1, asks_not l n.0)

-- what comes first among some lines comes first among more
more_wide : (after told : List Line) → (ys : List Asks) × (wide_of (after ++ told) ≡ wide_of told ++ ys)
unfolding wide_of
more_wide [] told = ([], sym (append-nil (wide_of told)))
more_wide (l ∷ after) told =
    let ys = more_wide after told in
    let a = asked_at (length (after ++ told) + 1) (Ok l) (beyond (ask_of l)) in
    (ys.0 ++ a, ap (λ x. x ++ a) ys.1 ∙ append_assoc (wide_of told) ys.0 a)

alone : (before : List Line) (l : Line) (ask : Ask) → NoneWide before → beyond (ask_of l) ≡ Some ask → wide_of (l ∷ before) ≡ record { number = length before + 1; reading = Ok l; ask = ask } ∷ []
unfolding wide_of asked_at
alone before l ask n e = rw (no_wide before n, e)

first_wide : (told : List Line) (line : ℕ) → FirstWide told line → (a : Asks) × (ys : List Asks) × (wide_of told ≡ a ∷ ys) × (a.number ≡ line)
first_wide told line f =
    let asks = (wide_asks f.it).1 f.wide in
    let ys = more_wide f.after (f.it ∷ f.before) in (
      record { number = length f.before + 1; reading = Ok f.it; ask = asks.0 },
      ys.0,
      ap wide_of f.all ∙ ys.1 ∙ ap (λ x. x ++ ys.0) (alone f.before f.it asks.0 f.none_before asks.1),
      sym f.counted,
    )

-- E. of a text that the wide card takes
map_none : (text : List ℕ) (ws : List Wide) → map (asks_at text) ws ≡ [] → ws ≡ []
map_none text [] e = refl
map_none text (w ∷ ws) e = let z : ◌≡◌ {A = ℕ} 0 1 = cc in absurd (omega arith)

map_first : (text : List ℕ) (ws : List Wide) (a : Asks) (ys : List Asks) → map (asks_at text) ws ≡ a ∷ ys → (w : Wide) × (rest : List Wide) × (ws ≡ w ∷ rest) × (w.number ≡ a.number)
map_first text [] a ys e = let z : ◌≡◌ {A = ℕ} 0 1 = cc in absurd (omega arith)
map_first text (w ∷ ws) a ys e = (w, ws, refl, let h : asks_at text w ≡ a = cc in ap (λ x. x.number) h)

module _ (text memory : List ℕ) (store rows : ℕ) (told : List Line) where
  pub every_line : EveryLine text memory store rows told
  unfolding asks_in
  every_line a = text_asks text ∙ ap (asks_in 1) (all_fine W text memory told a.fine).all ∙ told_asks told [] ∙ append-nil (wide_of told)

  named : Accepts W text memory store rows told → (n : ℕ) → FirstWide told n → (w : Wide) × (rest : List Wide) × (wide_lines text ≡ w ∷ rest) × (w.number ≡ n)
  named a n f =
      let x = first_wide told n f in
      let y = map_first text (wide_lines text) x.0 x.1 (every_line a ∙ x.2) in
      (y.0, y.1, y.2, y.3 ∙ x.3)

  none_listed : Accepts W text memory store rows told → NoneWide told → wide_lines text ≡ []
  none_listed a n = map_none text (wide_lines text) (every_line a ∙ no_wide told n)

  some_listed : (w : Wide) (rest : List Wide) → wide_lines text ≡ w ∷ rest → wide_lines text ≡ [] → ⊥
  some_listed w rest e k = let z : ◌≡◌ {A = ℕ} 0 1 = cc in omega arith

  pub first_named : FirstNamed text memory store rows told
  first_named a line = (λ e. named a line ((narrow_refuses_iff text memory store rows told a line).1 e), λ x. ⊎_elim (λ n. absurd (some_listed x.0 x.1 x.2 (none_listed a n))) (λ f. back x.0 x.1 x.2 x.3 f.0 f.1) (wide_or_not told))
    where
      back : (w : Wide) (rest : List Wide) → wide_lines text ≡ w ∷ rest → w.number ≡ line → (n : ℕ) → FirstWide told n → (load Narrow text memory store rows).outcome ≡ refusal_of 5 line
      back w rest e k n f =
          let y = named a n f in
          let same : y.0 ≡ w = cc in
          (narrow_refuses_iff text memory store rows told a line).0 (subst (FirstWide told) (sym y.3 ∙ ap (λ v. v.number) same ∙ k) f)

  pub none_if_taken : NoneIfTaken text memory store rows told
  none_if_taken a = (
    λ e. ⊎_elim (λ n. (_, ap (λ x. x.outcome) (accepted Narrow text memory store rows told (narrow_accepts text memory store rows told a n)).0)) (λ f. let y = named a f.0 f.1 in absurd (some_listed y.0 y.1 y.2 e)) (wide_or_not told),
    λ x. ⊎_elim (none_listed a) (λ f. absurd (loaded_refused (sym x.1 ∙ (narrow_refuses_iff text memory store rows told a f.0).0 f.1))) (wide_or_not told),
  )

-- F. of any text: the line that the narrow card names for 5
none_wide : (memory : List ℕ) (told : List Line) → Faultless Narrow memory told → NoneWide told
none_wide memory [] f = tt
none_wide memory (l ∷ told) f = (λ w. f.0 5 (wide refl w refl), none_wide memory told f.1)

wide_fault : (memory : List ℕ) (told : List Line) (l : Line) → Fault Narrow memory told l 5 → IsWide l
wide_fault memory told l (order o n) = absurd (omega arith)
wide_fault memory told l (twice a n) = absurd (omega arith)
wide_fault memory told l (wide c w n) = w
wide_fault memory told l (room x n) = absurd (omega arith)

wide_line : (memory : List ℕ) (told : List Line) (bytes : List ℕ) (ended : Bool) → Condition Narrow memory told bytes ended 5 → (l : Line) × (reading_of bytes ended ≡ Ok l) × IsWide l
wide_line memory told bytes ended (not_ended e n) = absurd (omega arith)
wide_line memory told bytes ended (words_of_none h n) = absurd (omega arith)
wide_line memory told bytes ended (fault l e r w f) =
    (l, ap (reading_of bytes) e ∙ (reads_iff bytes l).1 (r, w), wide_fault memory told l f)

first_asks : (told : List Line) (l : Line) (ask : Ask) (after : List Reading) → NoneWide told → beyond (ask_of l) ≡ Some ask → asks_in 1 (read_then told (Ok l ∷ after)) ≡ record { number = length told + 1; reading = Ok l; ask = ask } ∷ asks_in (length told + 1 + 1) after
unfolding asks_in asked asked_at
first_asks told l ask after n e = told_asks told (Ok l ∷ after) ∙ rw (no_wide told n, e)

named_at : (text memory : List ℕ) (line : ℕ) → AtLine Narrow text memory 5 line → (w : Wide) × (rest : List Wide) × (wide_lines text ≡ w ∷ rest) × (w.number ≡ line)
named_at text memory line a =
    let x = wide_line memory a.before a.bytes a.ended a.faulty in
    let asks = (wide_asks x.0).1 x.2 in
    let r = (line_read_iff text a.before (Ok x.0)).1 (record { ranged = a.ranged; bytes = a.bytes; ended = a.ended; here = a.it; read = x.1 }) in
    let all = text_asks text ∙ ap (asks_in 1) r.1 ∙ first_asks a.before x.0 asks.0 r.0 (none_wide memory a.before a.faultless) asks.1 in
    let y = map_first text (wide_lines text) _ _ all in
    (y.0, y.1, y.2, y.3 ∙ sym a.counted)

pub named_first : NamedFirst
named_first text memory store rows line e =
    ⊎_elim (λ long. let n = long.number_is in absurd (omega arith))
    (⊎_elim (named_at text memory line) (λ store. let n = store.number_is in absurd (omega arith)))
    ((refused_iff Narrow text memory store rows 5 line).0 e)
