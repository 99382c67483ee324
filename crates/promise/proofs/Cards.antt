-- Demand 3, first half: a table that the wide card accepts is refused by the narrow card as Wide at its first line that is too wide, exactly when
-- there is one; else it is accepted, with the same shelf, and every lookup agrees. Assumes nothing.
use Rattle.line.specs.Lines.{Reading}
use Rattle.std.specs.Prelude.{None, Some, Err, Ok, Option}
use mathlib.Core.Path.{◌≡◌, refl, sym, ap, ap₂, subst, ◌∙◌}
use mathlib.Core.Bool.{Bool, true, false, cond, not, false≢true}
use mathlib.Core.List.{List, [], ◌∷◌, ◌++◌}
use mathlib.Core.Logic.{◌⊎◌, inl, inr, ⊎_elim}
use Prim.Native.Nat.{ℕ, ◌+◌, ◌*◌}
use native.Mathlib.Omega.{arith}
use lib.Dec.{leb, ltb}
use lib.ListN.{length, get_or}
use Rattle.card.specs.Cards.{holds, narrow_holds}
use Rattle.card.specs.declared.Card.{Card}
use Rattle.card.specs.declared.Card.TheVariants.{Narrow, Wide as W}
use Rattle.card.specs.declared.Ask.{Ask}
use Rattle.card.specs.declared.Ask.TheVariants.{Bus as A-as-Bus, On, Out}
use Rattle.lookup.specs.Record.{size, usable, record_at}
use Rattle.lookup.specs.declared.Record as R
use Rattle.lookup.specs.declared.Record.TheVariants.{Empty, Drop as R-as-Drop, Route, Page as R-as-Page}
use Rattle.lookup.specs.Lookup.{translated}
use Rattle.shelf.specs.Shelves.{blank, declared, find_in}
use Rattle.line.specs.declared.Line.{Line}
use Rattle.line.specs.declared.Line.TheVariants.{Bus, Unit as L-as-Unit, Vp, Drop, Page, Vc, Mc}
use Rattle.judge.specs.declared.Fault.TheVariants.{Order, Twice, Wide}
use Rattle.judge.specs.Verdicts.{fine, Verdict, asked, room_for, off_bus, taken, page_in}
use Rattle.judge.specs.Judge.{in_page, judge_bus, judge_unit, judge_vp, judge_vc}
use Rattle.meaning.specs.Told.{of_unit, of_page, top_of, total, record_of, shelf_of, memory_of}
use Rattle.meaning.specs.Lines.{started, is_first, owned, is_declared, judge, Good}
use Rattle.meaning.proofs.Fits.{order_fine, twice_fine, wide_fine}
use Rattle.meaning.proofs.Grown.{decide}
use Rattle.meaning.proofs.Memory.{AllRanged}
use Rattle.meaning.proofs.Shelved.{shelved}
use Rattle.table.specs.Load.{load, loaded}
use Rattle.promise.specs.Served.{looked_up, lookup_at, said_by}
use Rattle.promise.specs.Readings.{lines_of, read_then}
use Rattle.promise.specs.Refusals.{Accepts, Refuses}
use Rattle.promise.specs.Says.{IsWide}
use Rattle.promise.specs.Narrow.{NoneWide, FirstWide}
use Rattle.promise.proofs.Runs.{AllFine, FirstFault}
use Rattle.promise.proofs.Faults.{too_wide, wide_iff, good_iff}
use Rattle.promise.proofs.ByLines.{lookup_lines}
use Rattle.promise.proofs.Refusals.{all_fine, accepts_good, accepts_ranged, at_line, refused, accepted, refused_line, loaded_refused}
use Rattle.table.specs.Loading.{refusal_of}

-- A. one line: what is fine on the wide card is Wide on the narrow one, or fine there too
abbrev judged : Bool → Verdict
judged wide = cond wide (Err Wide) fine

-- past a test that would have ended otherwise
past : (b : Bool) (x y z w : Verdict) → (x ≡ fine → ⊥) → (y ≡ fine → z ≡ w) → cond b x y ≡ fine → cond b x z ≡ w
past true x y z w bad h e = absurd (bad e)
past false x y z w bad h e = h e

narrow_asked : (ask : Ask) (rest : Verdict) → asked W ask rest ≡ fine → asked Narrow ask rest ≡ judged (not (narrow_holds ask))
unfolding holds
narrow_asked ask rest e = decide (narrow_holds ask) (λ t. rw t e) (λ t. rw t)

begun : (told : List Line) (y z w : Verdict) → (y ≡ fine → z ≡ w) → started told y ≡ fine → started told z ≡ w
begun [] y z w h e = absurd (order_fine e)
begun (l ∷ told) y z w h e = h e

by_owner : (o : Option ℕ) (f g : ℕ → Verdict) (w : Verdict) → ((top : ℕ) → f top ≡ fine → g top ≡ w) → owned o f ≡ fine → owned o g ≡ w
by_owner None f g w h e = absurd (order_fine e)
by_owner (Some top) f g w h e = h top e

by_page : (r : R.Record) (vci : ℕ) (y z w : Verdict) → (y ≡ fine → z ≡ w) → in_page (page_in (Some r)) vci y ≡ fine → in_page (page_in (Some r)) vci z ≡ w
by_page Empty vci y z w h e = absurd (order_fine e)
by_page R-as-Drop vci y z w h e = absurd (order_fine e)
by_page (Route a b c) vci y z w h e = absurd (order_fine e)
by_page (R-as-Page top place) vci y z w h e = past (ltb top vci) (Err (Order 4)) y z w order_fine h e

narrow_bus : (first : Bool) (bus : ℕ) → judge_bus W first bus ≡ fine → judge_bus Narrow first bus ≡ judged (not (narrow_holds (A-as-Bus bus)))
unfolding judge_bus
narrow_bus true bus e = narrow_asked (A-as-Bus bus) fine e
narrow_bus false bus e = absurd (order_fine e)

pub narrow_judge : (room : ℕ) (told : List Line) (l : Line) → judge W room told l ≡ fine → judge Narrow room told l ≡ judged (too_wide l)
unfolding judge too_wide judge_bus judge_unit judge_vp judge_vc
narrow_judge room told (Bus bus) e = narrow_bus (is_first told) bus e
narrow_judge room told (L-as-Unit settings limits) e =
    begun told _ _ _
    (past (leb (shelf_of told).bus settings.number) (Err (Order 2)) _ _ _ order_fine
    (past (is_declared (top_of told (of_unit settings.number))) (Err (Twice 2)) _ _ _ twice_fine
    (narrow_asked (On settings.link) (room_for room (size * total told) (settings.top + 1)))))
    e
narrow_judge room told (Vp u v target class outvpi) e =
    begun told _ _ _
    (by_owner (top_of told (of_unit u)) _ _ _
    (λ top.
    past (ltb top v) (Err (Order 3)) _ _ _ order_fine
    (past (off_bus (shelf_of told).bus target) (Err (Order 4)) _ _ _ order_fine
    (past (taken (Some (record_of told (of_unit u) v))) (Err (Twice 3)) _ _ _ twice_fine (narrow_asked (Out outvpi) fine)))))
    e
narrow_judge room told (Drop u v) e = e
narrow_judge room told (Page u v topvci) e = e
narrow_judge room told (Vc u v w target class outvpi outvci) e =
    begun told _ _ _
    (by_owner (top_of told (of_unit u)) _ _ _
    (λ top.
    past (ltb top v) (Err (Order 3)) _ _ _ order_fine
    (by_page (record_of told (of_unit u) v) w _ _ _
    (past (off_bus (shelf_of told).bus target) (Err (Order 5)) _ _ _ order_fine
    (past (taken (Some (record_of told (of_page u v) w))) (Err (Twice 4)) _ _ _ twice_fine (narrow_asked (Out outvpi) fine))))))
    e
narrow_judge room told (Mc u session) e = e

-- B. the lines of a table
wide_true : (l : Line) → IsWide l → too_wide l ≡ true
wide_true l w = (wide_iff l).1 w

wide_false : (l : Line) → (IsWide l → ⊥) → too_wide l ≡ false
wide_false l n = decide (too_wide l) (λ t. absurd (n ((wide_iff l).0 t))) (λ t. t)

pub good_narrow : (room : ℕ) (told : List Line) → Good W room told → NoneWide told → Good Narrow room told
good_narrow room [] g n = tt
good_narrow room (l ∷ told) g n = (narrow_judge room told l g.0 ∙ ap judged (wide_false l n.0), good_narrow room told g.1 n.1)

pub wide_or_not : (told : List Line) → NoneWide told ⊎ ((line : ℕ) × FirstWide told line)
wide_or_not [] = inl tt
wide_or_not (l ∷ told) = ⊎_elim here (λ w. inr (w.0, later w.0 w.1)) (wide_or_not told)
  where
    here : NoneWide told → NoneWide (l ∷ told) ⊎ ((line : ℕ) × FirstWide (l ∷ told) line)
    here n =
        decide (too_wide l)
        (λ t. inr (length told + 1, record { before = told; it = l; after = []; all = refl; none_before = n; wide = (wide_iff l).0 t; counted = refl }))
        (λ t. inl (λ w. false≢true (sym t ∙ wide_true l w), n))

    later : (line : ℕ) → FirstWide told line → FirstWide (l ∷ told) line
    later line w =
        record {
          before = w.before;
          it = w.it;
          after = l ∷ w.after;
          all = ap (λ x. l ∷ x) w.all;
          none_before = w.none_before;
          wide = w.wide;
          counted = w.counted;
        }

good_before : (card : Card) (room : ℕ) (after told : List Line) → Good card room (after ++ told) → Good card room told
good_before card room [] told g = g
good_before card room (l ∷ after) told g = good_before card room after told g.1

then_append : (after told : List Line) (rest : List Reading) → read_then (after ++ told) rest ≡ read_then told (read_then after rest)
unfolding read_then
then_append [] told rest = refl
then_append (l ∷ after) told rest = then_append after told (Ok l ∷ rest)

first_wide_faults : (room : ℕ) (lines : List Reading) (told : List Line) (line : ℕ) → AllFine W room lines told → FirstWide told line → FirstFault Narrow room lines line (Err Wide)
unfolding read_then
first_wide_faults room lines told line g w =
    let good = good_before W room w.after (w.it ∷ w.before) (subst (Good W room) w.all g.good) in
    record {
      before = w.before;
      it = Ok w.it;
      after = read_then w.after [];
      all = g.all ∙ ap (λ x. read_then x []) w.all ∙ then_append w.after (w.it ∷ w.before) [];
      good = good_narrow room w.before good.1 w.none_before;
      counted = w.counted;
      judged = narrow_judge room w.before w.it good.0 ∙ ap judged (wide_true w.it w.wide);
      faulty = wide_fine;
    }

-- C. a table that the wide card accepts
module _ (text memory : List ℕ) (store rows : ℕ) (told : List Line) (a : Accepts W text memory store rows told) where
  narrow_refuses : (line : ℕ) → FirstWide told line → Refuses Narrow text memory store rows 5 line
  narrow_refuses line w =
      inr (inl (at_line Narrow text memory line a.short (Err Wide) (first_wide_faults (usable memory) (lines_of text) told line (all_fine W text memory told a.fine) w)))

  pub narrow_accepts : NoneWide told → Accepts Narrow text memory store rows told
  narrow_accepts n =
      record {
        short = a.short;
        fine = record {
          some = a.fine.some;
          all = a.fine.all;
          ranged = a.fine.ranged;
          faultless = (good_iff Narrow memory told).0 (good_narrow (usable memory) told (accepts_good W text memory store rows told a) n);
        };
        store_enough = a.store_enough;
        rows_enough = a.rows_enough;
      }

  -- "The eight-bit card refuses it as too wide, naming the first line .. exactly when there is such a line."
  pub narrow_refuses_iff : (line : ℕ) → (FirstWide told line → (load Narrow text memory store rows).outcome ≡ refusal_of 5 line) × ((load Narrow text memory store rows).outcome ≡ refusal_of 5 line → FirstWide told line)
  narrow_refuses_iff line = (back line, forth)
    where
      back : (n : ℕ) → FirstWide told n → (load Narrow text memory store rows).outcome ≡ refusal_of 5 n
      back n w = ap (λ x. x.outcome) (refused Narrow text memory store rows 5 n (narrow_refuses n w)).0

      forth : (load Narrow text memory store rows).outcome ≡ refusal_of 5 line → FirstWide told line
      forth e =
          ⊎_elim (λ n. absurd (loaded_refused (sym (ap (λ x. x.outcome) (accepted Narrow text memory store rows told (narrow_accepts n)).0) ∙ e)))
          (λ w. subst (FirstWide told) (refused_line (sym (back w.0 w.1) ∙ e)) w.1) (wide_or_not told)

  -- "Otherwise .. it gives the same answers": that of loading, with the same shelf
  pub same_loading : NoneWide told → load Narrow text memory store rows ≡ load W text memory store rows
  same_loading n = (accepted Narrow text memory store rows told (narrow_accepts n)).0 ∙ sym (accepted W text memory store rows told a).0

-- D. on the memory that it loaded to, a declared unit's lookup is what the lines say, on either card
at_is : {i j : ℕ} → Some i ≡ Some j → i ≡ j
at_is e = cc

nothing_at : {i : ℕ} → None ≡ Some i → ⊥
nothing_at e = let z : ◌≡◌ {A = ℕ} 0 1 = cc in omega arith

module _ (card : Card) (text memory : List ℕ) (store rows : ℕ) (told : List Line) (a : Accepts card text memory store rows told) where
  abbrev good : Good card (usable memory) told
  good = accepts_good card text memory store rows told a

  ranges : AllRanged told
  ranges = accepts_ranged card text memory store rows told a

  -- a unit that is found was declared
  was_declared : (u i : ℕ) → find_in (declared (shelf_of told)) u ≡ Some i → (top : ℕ) × (top_of told (of_unit u) ≡ Some top)
  was_declared u i f = go (top_of told (of_unit u)) refl
    where
      go : (o : Option ℕ) → top_of told (of_unit u) ≡ o → (top : ℕ) × (top_of told (of_unit u) ≡ Some top)
      go None e = absurd (nothing_at (sym ((shelved card (usable memory) told good ranges).gone u e) ∙ f))
      go (Some top) e = (top, e)

  unit_by_lines : (u i : ℕ) → find_in (declared (shelf_of told)) u ≡ Some i → (header : ℕ) → lookup_at card (memory_of card memory told) (get_or (shelf_of told).units i blank) header ≡ said_by told u (get_or (shelf_of told).units i blank) header
  unit_by_lines u i f header =
      let d = was_declared u i f in
      let s = (shelved card (usable memory) told good ranges).here u d.0 d.1 in
      subst (λ j. lookup_at card (memory_of card memory told) (get_or (shelf_of told).units j blank) header ≡ said_by told u (get_or (shelf_of told).units j blank) header) (at_is (sym s.found ∙ f))
      (ap₂ (λ t p. translated (record_at card (memory_of card memory told)) (get_or (shelf_of told).units s.i blank).settings.link t p header) s.tops s.starts
      ∙ lookup_lines card memory told good ranges (get_or (shelf_of told).units s.i blank).settings.link u d.0 header d.1
      ∙ ap (λ t. looked_up told (get_or (shelf_of told).units s.i blank).settings.link u t header) (sym s.tops))

  pub lookup_by_lines : (u i : ℕ) → find_in (declared (load card text memory store rows).shelf) u ≡ Some i → (header : ℕ) → lookup_at card (loaded card text memory store rows) (get_or (load card text memory store rows).shelf.units i blank) header ≡ said_by told u (get_or (load card text memory store rows).shelf.units i blank) header
  lookup_by_lines u i f header =
      let k = accepted card text memory store rows told a in
      ap₂ (λ m x. lookup_at card m (get_or x.shelf.units i blank) header) k.1 k.0
      ∙ unit_by_lines u i (sym (ap (λ x. find_in (declared x.shelf) u) k.0) ∙ f) header
      ∙ ap (λ x. said_by told u (get_or x.shelf.units i blank) header) (sym k.0)

-- and every lookup agrees, for every declared unit and every header
pub same_lookups : (text memory : List ℕ) (store rows : ℕ) (told : List Line) → Accepts W text memory store rows told → NoneWide told → (u i : ℕ) → find_in (declared (load W text memory store rows).shelf) u ≡ Some i → (header : ℕ) → lookup_at Narrow (loaded Narrow text memory store rows) (get_or (load W text memory store rows).shelf.units i blank) header ≡ lookup_at W (loaded W text memory store rows) (get_or (load W text memory store rows).shelf.units i blank) header
same_lookups text memory store rows told a n u i f header =
    let s = same_loading text memory store rows told a n in
    let w = lookup_by_lines W text memory store rows told a u i f header in
    let r = lookup_by_lines Narrow text memory store rows told (narrow_accepts text memory store rows told a n) u i (ap (λ x. find_in (declared x.shelf) u) s ∙ f) header in
    ap (λ x. lookup_at Narrow (loaded Narrow text memory store rows) (get_or x.shelf.units i blank) header) (sym s)
    ∙ r ∙ ap (λ x. said_by told u (get_or x.shelf.units i blank) header) s ∙ sym w
