-- The shelf of good lines: each declared unit is found, with its top VPI, the place of its records and the sessions that it hears; no other is
-- found; and there is a place for one more. Assumes nothing.
use Rattle.std.specs.Prelude.{None, Some, Ok, Option}
use mathlib.Core.Path.{◌≡◌, refl, sym, ap, ap₂, ◌∙◌}
use mathlib.Core.Bool.{Bool, true, false, cond, ◌||◌, false≢true}
use mathlib.Core.List.{List, [], ◌∷◌, ◌++◌}
use Prim.Native.Nat.{ℕ, zero, suc, ◌+◌, ◌*◌, ◌<◌, ◌≤◌}
use native.Mathlib.Nat.{not-suc-le-zero}
use native.Mathlib.Numerals.{add-one}
use native.Mathlib.Omega.{arith}
use lib.Dec.{eqb}
use lib.ListN.{length, get_or, set, take, length-set}
use lib.Seq.{take-suc-set, get_or-set_same, get_or-set_other, take-set-lt, length-take-le, get_or-take}
use borrow.Author.Tests.{eqb-true, eqb-false, eq-eqb, ne_eqb}
use Rattle.outlet.specs.declared.Limits.{Limits}
use Rattle.card.specs.declared.Card.{Card}
use Rattle.lookup.specs.Record.{size}
use Rattle.shelf.specs.Shelves.{unit, blank, declared, number_of, find_in, place_from}
use Rattle.shelf.specs.Sessions.{hears, with_session}
use Rattle.shelf.specs.declared.Settings.{Settings}
use Rattle.shelf.specs.declared.Unit as U
use Rattle.shelf.specs.Shelf.{Shelf}
use Rattle.shelf.proofs.Finding.{or_else, find_declared, find_kept}
use Rattle.shelf.proofs.Hearing.{hears_with, hears_none}
use Rattle.line.specs.declared.Line.{Line}
use Rattle.line.specs.declared.Line.TheVariants.{Bus, Unit as L-as-Unit, Vp, Drop, Page, Vc, Mc}
use Rattle.meaning.specs.Told.{of_unit, same, opens, top_of, total, hears_by, hears_in, declare, hearing, join_at, shelf_by, shelf_of}
use Rattle.meaning.specs.Lines.{is_first, judge, Good}
use Rattle.meaning.proofs.Tabulate.{some_inj, none_some}
use Rattle.meaning.proofs.Regions.{start}
use Rattle.meaning.proofs.Fits.{fine_bus, fine_unit, fine_mc}
use Rattle.meaning.proofs.Grown.{decide}
use Rattle.meaning.proofs.Memory.{Ranged, AllRanged}
use Rattle.judge.specs.Verdicts.{fine}

-- how many of the numbers below n are not declared
vacancy : Option ℕ → ℕ
vacancy None = 1
vacancy (Some top) = 0

pub vacancies : (ℕ → Option ℕ) → ℕ → ℕ
vacancies f zero = 0
vacancies f (suc n) = vacancies f n + vacancy (f n)

module _ (f g : ℕ → Option ℕ) (u top : ℕ) (new : f u ≡ None) (now : g u ≡ Some top) (others : (n : ℕ) → (n ≡ u → ⊥) → g n ≡ f n) where
  vacant_below : (n : ℕ) → n ≤ u → vacancies g n ≡ vacancies f n
  unfolding vacancies
  vacant_below zero h = refl
  vacant_below (suc n) h = ap₂ ◌+◌ (vacant_below n (omega arith)) (ap vacancy (others n (λ e. absurd (omega arith))))

  pub one_less : (n : ℕ) → u < n → vacancies f n ≡ vacancies g n + 1
  unfolding vacancies vacancy
  one_less zero h = absurd (not-suc-le-zero h)
  one_less (suc n) h =
      decide (eqb n u)
      (λ t.
      let e = eqb-true n u t in
      let k = vacant_below n (omega arith) in
      let x : vacancy (f n) ≡ 1 = ap (λ m. vacancy (f m)) e ∙ ap vacancy new in
      let y : vacancy (g n) ≡ 0 = ap (λ m. vacancy (g m)) e ∙ ap vacancy now in
      omega (arith, x, y, k))
      (λ t.
      let d = eqb-false n u t in
      let k = one_less n (omega (arith, d)) in
      let x : vacancy (g n) ≡ vacancy (f n) = ap vacancy (others n d) in
      omega (arith, x, k))

-- a unit as the lines have it: where it is found, its top VPI, its first record, its sessions
pub record Stands (shelf : Shelf) (u top first : ℕ) (heard : ℕ → Bool) : Type 0 where
  pub i : ℕ
  pub found : find_in (declared shelf) u ≡ Some i
  pub inside : i < shelf.count
  pub named : number_of (get_or shelf.units i blank) ≡ u
  pub tops : (get_or shelf.units i blank).settings.top ≡ top
  pub starts : (get_or shelf.units i blank).place ≡ size * first
  pub all : length (get_or shelf.units i blank).sessions ≡ 32
  pub hearing : (s : ℕ) → s < 256 → hears (get_or shelf.units i blank).sessions s ≡ heard s

pub record Shelved (told : List Line) : Type 0 where
  pub long : length (shelf_of told).units ≡ 32
  pub counted : (shelf_of told).count + vacancies (λ u. top_of told (of_unit u)) 32 ≡ 32
  pub here : (u top : ℕ) → top_of told (of_unit u) ≡ Some top → Stands (shelf_of told) u top (start told (of_unit u)) (hears_in told u)
  pub gone : (u : ℕ) → top_of told (of_unit u) ≡ None → find_in (declared (shelf_of told)) u ≡ None
  pub deaf : (u s : ℕ) → top_of told (of_unit u) ≡ None → hears_in told u s ≡ false

-- a unit more
module _ (shelf : Shelf) (n : U.Unit) (room : shelf.count < length shelf.units) where
  pub declared_more : declared (declare shelf n) ≡ declared shelf ++ (n ∷ [])
  unfolding declare
  declared_more = ap (λ k. take k (set shelf.units shelf.count n)) (add-one shelf.count) ∙ take-suc-set shelf.units shelf.count n room

  declared_count : length (declared shelf) ≡ shelf.count
  declared_count = length-take-le shelf.count shelf.units (omega arith)

  find_more : (u : ℕ) → find_in (declared (declare shelf n)) u ≡ or_else (find_in (declared shelf) u) (cond (eqb (number_of n) u) (Some shelf.count) None)
  find_more u =
      ap (λ us. find_in us u) declared_more ∙ find_declared (declared shelf) n u
      ∙ ap (λ k. or_else (find_in (declared shelf) u) (cond (eqb (number_of n) u) (Some k) None)) declared_count

  old : (i : ℕ) → i < shelf.count → get_or (declare shelf n).units i blank ≡ get_or shelf.units i blank
  unfolding declare
  old i h = get_or-set_other shelf.units shelf.count i n blank (λ e. absurd (omega arith))

  new : get_or (declare shelf n).units shelf.count blank ≡ n
  unfolding declare
  new = get_or-set_same shelf.units shelf.count n blank room

  more : shelf.count + 1 ≡ (declare shelf n).count
  unfolding declare
  more = refl

  -- the others stand as they stood
  stood : (u top first : ℕ) (heard : ℕ → Bool) → Stands shelf u top first heard → Stands (declare shelf n) u top first heard
  stood u top first heard s =
      let o = old s.i s.inside in
      let m = more in
      record {
        i = s.i;
        found = find_more u ∙ ap (λ f. or_else f (cond (eqb (number_of n) u) (Some shelf.count) None)) s.found;
        inside = omega (arith, s.inside);
        named = ap number_of o ∙ s.named;
        tops = ap (λ x. x.settings.top) o ∙ s.tops;
        starts = ap (λ x. x.place) o ∙ s.starts;
        all = ap (λ x. length x.sessions) o ∙ s.all;
        hearing = λ t h. ap (λ x. hears x.sessions t) o ∙ s.hearing t h;
      }

  -- and the new one stands
  stands : (first : ℕ) (heard : ℕ → Bool) → find_in (declared shelf) (number_of n) ≡ None → n.place ≡ size * first → length n.sessions ≡ 32 → ((s : ℕ) → s < 256 → hears n.sessions s ≡ heard s) → Stands (declare shelf n) (number_of n) n.settings.top first heard
  stands first heard lost place four deaf =
      let m = more in
      record {
        i = shelf.count;
        found =
            find_more (number_of n) ∙ ap (λ f. or_else f (cond (eqb (number_of n) (number_of n)) (Some shelf.count) None)) lost
            ∙ rw (eq-eqb (number_of n) (number_of n) refl);
        inside = omega arith;
        named = ap number_of new;
        tops = ap (λ x. x.settings.top) new;
        starts = ap (λ x. x.place) new ∙ place;
        all = ap (λ x. length x.sessions) new ∙ four;
        hearing = λ t h. ap (λ x. hears x.sessions t) new ∙ deaf t h;
      }

  lost_still : (u : ℕ) → (u ≡ number_of n → ⊥) → find_in (declared shelf) u ≡ None → find_in (declared (declare shelf n)) u ≡ None
  lost_still u d e =
      find_more u ∙ ap (λ f. or_else f (cond (eqb (number_of n) u) (Some shelf.count) None)) e ∙ rw (ne_eqb (number_of n) u (λ x. d (sym x)))

-- a session more
module _ (shelf : Shelf) (i session : ℕ) (inside : i < shelf.count) (long : length shelf.units ≡ 32) (fits : shelf.count ≤ 32) where
  abbrev grew : U.Unit
  grew = hearing (get_or shelf.units i blank) session

  joined : Shelf
  joined = join_at shelf (Some i) session

  find_joined : (u : ℕ) → find_in (declared joined) u ≡ find_in (declared shelf) u
  unfolding joined join_at
  find_joined u =
      ap (λ us. find_in us u) (take-set-lt shelf.count shelf.units i grew inside)
      ∙ find_kept (declared shelf) i grew blank u (sym (ap number_of (get_or-take shelf.count shelf.units i blank inside)))

  joined_other : (j : ℕ) → (j ≡ i → ⊥) → get_or joined.units j blank ≡ get_or shelf.units j blank
  unfolding joined join_at
  joined_other j d = get_or-set_other shelf.units i j grew blank d

  joined_here : get_or joined.units i blank ≡ grew
  unfolding joined join_at
  joined_here = get_or-set_same shelf.units i grew blank (omega arith)

  joined_count : joined.count ≡ shelf.count
  unfolding joined join_at
  joined_count = refl

-- what the sessions of a unit are after one more: only the unit that joined hears more
at_inj : {i j : ℕ} → Some i ≡ Some j → i ≡ j
at_inj e = cc

with_session_length : (sessions : List ℕ) (session : ℕ) → length (with_session sessions session) ≡ length sessions
unfolding with_session
with_session_length sessions session = simp length-set

module _ (told : List Line) (a session top : ℕ) (hs : session < 256) (w : Shelved told) (known : top_of told (of_unit a) ≡ Some top) where
  at_a : Stands (shelf_of told) a top (start told (of_unit a)) (hears_in told a)
  at_a = w.here a top known

  fits : (shelf_of told).count ≤ 32
  fits = let c = w.counted in omega arith

  abbrev after : Shelf
  after = joined (shelf_of told) at_a.i session at_a.inside w.long fits

  mc_here : (u first top' : ℕ) → Stands (shelf_of told) u top' first (hears_in told u) → Stands after u top' first (hears_in (Mc a session ∷ told) u)
  unfolding hears_in hears_by
  mc_here u first top' s =
      let i = at_a.i in
      let c = joined_count (shelf_of told) i session at_a.inside w.long fits in
      let f = find_joined (shelf_of told) i session at_a.inside w.long fits u ∙ s.found in
      decide (eqb s.i i)
      (λ t.
      let e = eqb-true s.i i t in
      let same : a ≡ u = sym at_a.named ∙ ap (λ j. number_of (get_or (shelf_of told).units j blank)) (sym e) ∙ s.named in
      let g : get_or after.units s.i blank ≡ hearing (get_or (shelf_of told).units s.i blank) session =
      ap (λ j. get_or after.units j blank) e ∙ joined_here (shelf_of told) i session at_a.inside w.long fits
      ∙ ap (λ j. hearing (get_or (shelf_of told).units j blank) session) (sym e) in
      record {
        i = s.i;
        found = f;
        inside = omega (arith, s.inside);
        named = ap number_of g ∙ s.named;
        tops = ap (λ x. x.settings.top) g ∙ s.tops;
        starts = ap (λ x. x.place) g ∙ s.starts;
        all = ap (λ x. length x.sessions) g ∙ with_session_length (get_or (shelf_of told).units s.i blank).sessions session ∙ s.all;
        hearing = λ n h.
            ap (λ x. hears x.sessions n) g ∙ hears_with (get_or (shelf_of told).units s.i blank).sessions s.all session n hs h
            ∙ ap (λ b. eqb session n || b) (s.hearing n h) ∙ rw (eq-eqb a u same);
      })
      (λ t.
      let d = eqb-false s.i i t in
      let differ : a ≡ u → ⊥ = λ e. d (at_inj (sym s.found ∙ ap (find_in (declared (shelf_of told))) (sym e) ∙ at_a.found)) in
      let g = joined_other (shelf_of told) i session at_a.inside w.long fits s.i d in
      record {
        i = s.i;
        found = f;
        inside = omega (arith, s.inside);
        named = ap number_of g ∙ s.named;
        tops = ap (λ x. x.settings.top) g ∙ s.tops;
        starts = ap (λ x. x.place) g ∙ s.starts;
        all = ap (λ x. length x.sessions) g ∙ s.all;
        hearing = λ n h. ap (λ x. hears x.sessions n) g ∙ s.hearing n h ∙ rw (ne_eqb a u differ);
      })

  mc_after : shelf_of (Mc a session ∷ told) ≡ after
  unfolding shelf_of shelf_by joined
  mc_after = ap (λ f. join_at (shelf_of told) f session) at_a.found

  joined_long : length after.units ≡ 32
  unfolding joined join_at
  joined_long = length-set (shelf_of told).units at_a.i (grew (shelf_of told) at_a.i session at_a.inside w.long fits) ∙ w.long

  mc_deaf : (u s : ℕ) → top_of (Mc a session ∷ told) (of_unit u) ≡ None → hears_in (Mc a session ∷ told) u s ≡ false
  unfolding top_of opens hears_in hears_by
  mc_deaf u s e = rw (ne_eqb a u (λ x. none_some (sym e ∙ ap (λ z. top_of told (of_unit z)) (sym x) ∙ known))) (w.deaf u s e)

  shelved_mc : Shelved (Mc a session ∷ told)
  unfolding top_of opens start
  shelved_mc =
      let e = mc_after in
      let n = joined_count (shelf_of told) at_a.i session at_a.inside w.long fits in
      record {
        long = ap (λ x. length x.units) e ∙ joined_long;
        counted = ap (λ x. x.count + vacancies (λ u. top_of told (of_unit u)) 32) e ∙ ap (λ c. c + vacancies (λ u. top_of told (of_unit u)) 32) n ∙ w.counted;
        here = λ u t k. rw e (mc_here u (start told (of_unit u)) t (w.here u t k));
        gone = λ u k. ap (λ x. find_in (declared x) u) e ∙ find_joined (shelf_of told) at_a.i session at_a.inside w.long fits u ∙ w.gone u k;
        deaf = mc_deaf;
      }

-- a unit more
module _ (told : List Line) (settings : Settings) (limits : Limits) (small : settings.number < 32) (lost : top_of told (of_unit settings.number) ≡ None) (w : Shelved told) where
  abbrev n : U.Unit
  n = unit settings limits (size * total told)

  abbrev f : ℕ → Option ℕ
  f u = top_of told (of_unit u)

  abbrev g : ℕ → Option ℕ
  g u = top_of (L-as-Unit settings limits ∷ told) (of_unit u)

  now : g settings.number ≡ Some settings.top
  unfolding top_of opens same
  now = rw (eq-eqb settings.number settings.number refl)

  others : (u : ℕ) → (u ≡ settings.number → ⊥) → g u ≡ f u
  unfolding top_of opens same
  others u d = rw (ne_eqb settings.number u (λ e. d (sym e)))

  fewer : vacancies f 32 ≡ vacancies g 32 + 1
  fewer = one_less f g settings.number settings.top lost now others 32 small

  pub room_for_one : (shelf_of told).count < length (shelf_of told).units
  room_for_one = let c = w.counted in omega (arith, c, fewer, w.long)

  abbrev next : Shelf
  next = declare (shelf_of told) n

  unit_here : (u top : ℕ) → g u ≡ Some top → Stands next u top (start (L-as-Unit settings limits ∷ told) (of_unit u)) (hears_in (L-as-Unit settings limits ∷ told) u)
  unfolding start top_of opens same hears_in hears_by
  unit_here u top e =
      decide (eqb settings.number u)
      (λ t.
      let x = rw t at e in
      let y = eqb-true settings.number u t in
      rw (← y, eq-eqb settings.number settings.number refl, ← some_inj x)
      (stands (shelf_of told) n room_for_one (total told) (hears_in told settings.number) (w.gone settings.number lost) refl refl
      (λ s h. hears_none s ∙ sym (w.deaf settings.number s lost))))
      (λ t. rw t (stood (shelf_of told) n room_for_one u top (start told (of_unit u)) (hears_in told u) (w.here u top (rw t at e))))

  unit_gone : (u : ℕ) → g u ≡ None → find_in (declared next) u ≡ None
  unfolding top_of opens same
  unit_gone u e =
      lost_still (shelf_of told) n room_for_one u (λ x. none_some (sym e ∙ ap g x ∙ now)) (w.gone u (sym (others u (λ x. none_some (sym e ∙ ap g x ∙ now))) ∙ e))

  unit_deaf : (u s : ℕ) → g u ≡ None → hears_in (L-as-Unit settings limits ∷ told) u s ≡ false
  unfolding hears_in hears_by
  unit_deaf u s e = w.deaf u s (sym (others u (λ x. none_some (sym e ∙ ap g x ∙ now))) ∙ e)

  next_long : length next.units ≡ 32
  unfolding declare
  next_long = length-set (shelf_of told).units (shelf_of told).count n ∙ w.long

  next_count : next.count + vacancies g 32 ≡ 32
  unfolding declare
  next_count = let c = w.counted in omega (arith, c, fewer)

  shelved_unit : Shelved (L-as-Unit settings limits ∷ told)
  unfolding shelf_of shelf_by
  shelved_unit = record { long = next_long; counted = next_count; here = unit_here; gone = unit_gone; deaf = unit_deaf }

bus_first : (told : List Line) (bus : ℕ) → is_first told ≡ true → Shelved (Bus bus ∷ told)
unfolding shelf_of shelf_by top_of opens hears_in hears_by vacancies vacancy find_in place_from
bus_first [] bus e = record { long = refl; counted = refl; here = λ u top k. absurd (none_some k); gone = λ u k. refl; deaf = λ u s k. refl }
bus_first (l ∷ told) bus e = absurd (false≢true e)

pub shelved_from : (card : Card) (room : ℕ) (told : List Line) (l : Line) → judge card room told l ≡ fine → Ranged l → Shelved told → Shelved (l ∷ told)
unfolding shelf_of shelf_by top_of opens same start hears_in hears_by
shelved_from card room told (Bus bus) e r w = bus_first told bus (fine_bus card room told bus e).0
shelved_from card room told (L-as-Unit settings limits) e r w = shelved_unit told settings limits r (fine_unit card room told settings limits e).new w
shelved_from card room told (Vp u v target class outvpi) e r w = record { long = w.long; counted = w.counted; here = w.here; gone = w.gone; deaf = w.deaf }
shelved_from card room told (Drop u v) e r w = record { long = w.long; counted = w.counted; here = w.here; gone = w.gone; deaf = w.deaf }
shelved_from card room told (Page u v top) e r w = record { long = w.long; counted = w.counted; here = w.here; gone = w.gone; deaf = w.deaf }
shelved_from card room told (Vc u v c target class outvpi outvci) e r w = record { long = w.long; counted = w.counted; here = w.here; gone = w.gone; deaf = w.deaf }
shelved_from card room told (Mc u session) e r w = let k = fine_mc card room told u session e in shelved_mc told u session k.0 r w k.1

-- all good lines are shelved, and there is a place for a unit that is fine
pub shelved : (card : Card) (room : ℕ) (told : List Line) → Good card room told → AllRanged told → Shelved told
unfolding shelf_of top_of hears_in vacancies vacancy find_in place_from
shelved card room [] g r = record { long = refl; counted = refl; here = λ u top k. absurd (none_some k); gone = λ u k. refl; deaf = λ u s k. refl }
shelved card room (l ∷ told) g r = shelved_from card room told l g.0 r.0 (shelved card room told g.1 r.1)

pub place_left : (card : Card) (room : ℕ) (told : List Line) (settings : Settings) (limits : Limits) → judge card room told (L-as-Unit settings limits) ≡ fine → settings.number < 32 → Shelved told → (shelf_of told).count < 32
place_left card room told settings limits e small w =
    let h = room_for_one told settings limits small (fine_unit card room told settings limits e).new w in
    omega (arith, h, w.long)
