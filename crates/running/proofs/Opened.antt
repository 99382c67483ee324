-- The shelf of a good table, number by number. Assumes nothing.
use Rattle.std.specs.Prelude.{None, Some, Option}
use Prim.Native.Nat.{ℕ, zero, suc, ◌*◌, ◌/◌, ◌%◌, ◌^◌, ◌<◌, ◌≤◌}
use native.Mathlib.Omega.{arith}
use mathlib.Core.Path.{◌≡◌, refl, sym, ap, subst, ◌∙◌}
use mathlib.Core.Logic.{◌↔◌}
use mathlib.Core.Bool.{true, false, false≢true}
use mathlib.Core.List.{List, [], ◌∷◌, ◌++◌}
use lib.ListN.{length, get_or, set, replicate, length-take}
use lib.Seq.{get_or-set_same, get_or-set_other}
use borrow.Author.Tests.{eqb-true, eq-eqb}
use Rattle.outlet.specs.declared.Limits.{Limits}
use Rattle.card.specs.declared.Card.{Card}
use Rattle.lookup.specs.Record.{size}
use Rattle.shelf.specs.Shelves.{unit, blank, declared, find_in, number_of}
use Rattle.shelf.specs.Sessions.{hears}
use Rattle.shelf.specs.declared.Settings.{Settings}
use Rattle.shelf.specs.declared.Unit as U
use Rattle.shelf.specs.Shelf.{Shelf}
use Rattle.shelf.proofs.Finding.{find_at, declared_at}
use Rattle.soundness.specs.State.{sound_of}
use Rattle.soundness.proofs.Facts.{sound_find}
use Rattle.line.specs.declared.Line.{Line}
use Rattle.line.specs.declared.Line.TheVariants.{Bus, Unit as L-as-Unit, Vp, Drop, Page, Vc, Mc}
use Rattle.meaning.specs.Told.{of_unit, top_of, total, hears_in, hearing, declare, join_at, shelf_by, shelf_of}
use Rattle.meaning.specs.Lines.{is_first, Good}
use Rattle.meaning.proofs.Fits.{fine_bus}
use Rattle.meaning.proofs.Memory.{AllRanged}
use Rattle.meaning.proofs.Members.{in_bus, heard_in, in_heard}
use Rattle.meaning.proofs.Shelved.{Shelved, shelved, place_left}
use Rattle.promise.specs.Says.{records_of, unit_lines}
use Rattle.promise.proofs.Said.{records_total, units_count}
use Rattle.running.specs.Opened.{no_unit, empty_bus, Declared, Opened}

-- A. nothing is granted, asked or sent: no line but `bus` changes that
abbrev pub idle : Shelf → Shelf
idle shelf = record { bus = 0; count = 0; units = []; arbiter = shelf.arbiter; granted = shelf.granted; frame = shelf.frame }

joined_idle : (shelf : Shelf) (f : Option ℕ) (session : ℕ) → idle (join_at shelf f session) ≡ idle shelf
unfolding join_at
joined_idle shelf (Some i) session = refl
joined_idle shelf None session = refl

pub told_idle : (told : List Line) → idle (shelf_of told) ≡ idle (empty_bus 16)
unfolding shelf_of shelf_by declare
told_idle [] = refl
told_idle (Bus bus ∷ told) = refl
told_idle (L-as-Unit settings limits ∷ told) = told_idle told
told_idle (Vp u v target class outvpi ∷ told) = told_idle told
told_idle (Drop u v ∷ told) = told_idle told
told_idle (Page u v top ∷ told) = told_idle told
told_idle (Vc u v w target class outvpi outvci ∷ told) = told_idle told
told_idle (Mc u session ∷ told) = joined_idle (shelf_of told) (find_in (declared (shelf_of told)) u) session ∙ told_idle told

-- B. the units, but for the sessions that they hear
abbrev plain : U.Unit → U.Unit
plain u = record { settings = u.settings; outlet = u.outlet; inlet = u.inlet; side = u.side; place = u.place; sessions = replicate 32 0 }

plain_set : (us : List U.Unit) (i j : ℕ) (u : U.Unit) → plain u ≡ plain (get_or us i blank) → plain (get_or (set us i u) j blank) ≡ plain (get_or us j blank)
plain_set [] i j u e = refl
plain_set (x ∷ us) zero zero u e = e
plain_set (x ∷ us) zero (suc j) u e = refl
plain_set (x ∷ us) (suc i) zero u e = refl
plain_set (x ∷ us) (suc i) (suc j) u e = plain_set us i j u e

joined_plain : (shelf : Shelf) (f : Option ℕ) (session j : ℕ) → plain (get_or (join_at shelf f session).units j blank) ≡ plain (get_or shelf.units j blank)
unfolding join_at
joined_plain shelf (Some i) session j = plain_set shelf.units i j (hearing (get_or shelf.units i blank) session) refl
joined_plain shelf None session j = refl

-- a line behind others is not the first
not_first : (after : List Line) (l : Line) (before : List Line) → is_first (after ++ (l ∷ before)) ≡ false
not_first [] l before = refl
not_first (x ∷ after) l before = refl

-- so many units come before it
fewer : (after : List Line) (settings : Settings) (limits : Limits) (before : List Line) → unit_lines before < unit_lines (after ++ (L-as-Unit settings limits ∷ before))
unfolding unit_lines
fewer [] settings limits before = omega arith
fewer (x ∷ after) settings limits before = let h = fewer after settings limits before in omega arith

module _ (card : Card) (room : ℕ) where
  -- the unit of a `unit` line stands in the place of that line among the `unit` lines
  unit_at_lem : (after : List Line) (settings : Settings) (limits : Limits) (before : List Line) → let told : List Line = after ++ (L-as-Unit settings limits ∷ before) in Good card room told → AllRanged told →
      plain (get_or (shelf_of told).units (unit_lines before) blank) ≡ unit settings limits (size * total before)
  unfolding shelf_of shelf_by declare
  unit_at_lem [] settings limits before g r =
      let w = shelved card room before g.1 r.1 in
      let n = unit settings limits (size * total before) in
      let left = place_left card room before settings limits g.0 r.0 w in
      ap (λ k. plain (get_or (set (shelf_of before).units (shelf_of before).count n) k blank)) (sym (units_count card room before g.1))
      ∙ ap plain (get_or-set_same (shelf_of before).units (shelf_of before).count n blank (omega (arith, w.long)))
  unit_at_lem (Bus bus ∷ after) settings limits before g r = absurd (false≢true (sym (not_first after (L-as-Unit settings limits) before) ∙ (fine_bus card room (after ++ (L-as-Unit settings limits ∷ before)) bus g.0).0))
  unit_at_lem (L-as-Unit s l ∷ after) settings limits before g r =
      let told = after ++ (L-as-Unit settings limits ∷ before) in
      let c = units_count card room told g.1 in
      let f = fewer after settings limits before in
      ap plain (get_or-set_other (shelf_of told).units (shelf_of told).count (unit_lines before) (unit s l (size * total told)) blank (λ e. absurd (omega arith)))
      ∙ unit_at_lem after settings limits before g.1 r.1
  unit_at_lem (Vp u v target class outvpi ∷ after) settings limits before g r = unit_at_lem after settings limits before g.1 r.1
  unit_at_lem (Drop u v ∷ after) settings limits before g r = unit_at_lem after settings limits before g.1 r.1
  unit_at_lem (Page u v top ∷ after) settings limits before g r = unit_at_lem after settings limits before g.1 r.1
  unit_at_lem (Vc u v w target class outvpi outvci ∷ after) settings limits before g r = unit_at_lem after settings limits before g.1 r.1
  unit_at_lem (Mc u session ∷ after) settings limits before g r =
      let shelf = shelf_of (after ++ (L-as-Unit settings limits ∷ before)) in
      joined_plain shelf (find_in (declared shelf) u) session (unit_lines before) ∙ unit_at_lem after settings limits before g.1 r.1

  -- and no other place has one
  joined_else : (shelf : Shelf) (u : ℕ) (f : Option ℕ) (session i : ℕ) → find_in (declared shelf) u ≡ f → shelf.count ≤ i → get_or (join_at shelf f session).units i blank ≡ get_or shelf.units i blank
  unfolding join_at
  joined_else shelf u (Some j) session i e h =
      let inside = ((find_at u (declared shelf) j).0 e).inside in
      let n = length-take shelf.count shelf.units in
      get_or-set_other shelf.units j i (hearing (get_or shelf.units j blank) session) blank (λ z. absurd (omega arith))
  joined_else shelf u None session i e h = refl

  blank_at : (n i : ℕ) → get_or (replicate n blank) i blank ≡ blank
  blank_at zero i = refl
  blank_at (suc n) zero = refl
  blank_at (suc n) (suc i) = blank_at n i

  no_unit_lem : (told : List Line) → Good card room told → (i : ℕ) → unit_lines told ≤ i → get_or (shelf_of told).units i blank ≡ blank
  unfolding shelf_of shelf_by declare unit_lines
  no_unit_lem [] g i h = blank_at 32 i
  no_unit_lem (Bus bus ∷ told) g i h = blank_at 32 i
  no_unit_lem (L-as-Unit settings limits ∷ told) g i h =
      let c = units_count card room told g.1 in
      get_or-set_other (shelf_of told).units (shelf_of told).count i (unit settings limits (size * total told)) blank (λ z. absurd (omega arith)) ∙ no_unit_lem told g.1 i (omega arith)
  no_unit_lem (Vp u v target class outvpi ∷ told) g i h = no_unit_lem told g.1 i (omega arith)
  no_unit_lem (Drop u v ∷ told) g i h = no_unit_lem told g.1 i (omega arith)
  no_unit_lem (Page u v top ∷ told) g i h = no_unit_lem told g.1 i (omega arith)
  no_unit_lem (Vc u v w target class outvpi outvci ∷ told) g i h = no_unit_lem told g.1 i (omega arith)
  no_unit_lem (Mc u session ∷ told) g i h =
      let c = units_count card room told g.1 in
      joined_else (shelf_of told) u (find_in (declared (shelf_of told)) u) session i refl (omega arith) ∙ no_unit_lem told g.1 i (omega arith)

-- C. the sessions
at_is : {i j : ℕ} → Some i ≡ Some j → i ≡ j
at_is e = cc

nothing_at : {i : ℕ} → None ≡ Some i → ⊥
nothing_at e = let z : ◌≡◌ {A = ℕ} 0 1 = cc in omega arith

-- "the unit hears that session": its bit is 1
hears_iff : (sessions : List ℕ) (s : ℕ) → (get_or sessions (s / 8) 0 / 2 ^ (s % 8) % 2 ≡ 1) ↔ (hears sessions s ≡ true)
unfolding hears
hears_iff sessions s = (eq-eqb (get_or sessions (s / 8) 0 / 2 ^ (s % 8) % 2) 1, eqb-true (get_or sessions (s / 8) 0 / 2 ^ (s % 8) % 2) 1)

module _ (card : Card) (room store rows : ℕ) (told : List Line) (good : Good card room told) (ranged : AllRanged told) (sound : sound_of card (shelf_of told) store rows ≡ true) where
  w : Shelved told
  w = shelved card room told good ranged

  abbrev shelf : Shelf
  shelf = shelf_of told

  -- a declared unit is found in its own place, and stands there as the lines have it
  hears_as : (i n : ℕ) → i < shelf.count → number_of (get_or shelf.units i blank) ≡ n →
      (length (get_or shelf.units i blank).sessions ≡ 32) × ((s : ℕ) → s < 256 → hears (get_or shelf.units i blank).sessions s ≡ hears_in told n s)
  hears_as i n h e = go (top_of told (of_unit n)) refl
    where
      Heard : ℕ → Type 0
      Heard j = (length (get_or shelf.units j blank).sessions ≡ 32) × ((s : ℕ) → s < 256 → hears (get_or shelf.units j blank).sessions s ≡ hears_in told n s)

      inside : i < length (declared shelf)
      inside = let c = w.counted in omega (arith, h, length-take shelf.count shelf.units, w.long)

      found : find_in (declared shelf) n ≡ Some i
      found =
          ap (find_in (declared shelf)) (sym (ap number_of (declared_at shelf i blank h) ∙ e))
          ∙ sound_find card shelf store rows sound i inside

      go : (o : Option ℕ) → top_of told (of_unit n) ≡ o → Heard i
      go None k = absurd (nothing_at (sym (w.gone n k) ∙ found))
      go (Some top) k = let s = w.here n top k in subst Heard (at_is (sym s.found ∙ found)) (s.all, s.hearing)

  declared_as : (after : List Line) (settings : Settings) (limits : Limits) (before : List Line) → told ≡ after ++ (L-as-Unit settings limits ∷ before) →
      Declared told settings limits (8 * records_of before) (get_or shelf.units (unit_lines before) no_unit)
  declared_as after settings limits before all =
      let i = unit_lines before in
      let u = get_or shelf.units i blank in
      let e : plain u ≡ unit settings limits (size * total before)
      = ap (λ x. plain (get_or (shelf_of x).units i blank)) all ∙ unit_at_lem card room after settings limits before (subst (Good card room) all good) (subst AllRanged all ranged) in
      let many : i < shelf.count = subst (λ n. i < n) (sym (units_count card room told good)) (subst (λ x. i < unit_lines x) (sym all) (fewer after settings limits before)) in
      let h = hears_as i settings.number many (ap (λ x. x.settings.number) e) in
      record {
        settings_are = ap (λ x. x.settings) e;
        limits_are = ap (λ x. x.outlet.limits) e;
        place_is = ap (λ x. x.place) e ∙ ap (λ n. 8 * n) (records_total before);
        sessions = h.0;
        hears = λ s k. (
          λ b. heard_in told settings.number s (sym (h.1 s (omega arith)) ∙ (hears_iff u.sessions s).0 b),
          λ m. (hears_iff u.sessions s).1 (h.1 s (omega arith) ∙ in_heard told settings.number s m),
        );
        inlet = ap (λ x. x.inlet) e;
        queues = ap (λ x. x.outlet.queues) e;
        side = ap (λ x. x.side) e;
      }

  pub opened : Opened told shelf
  opened =
      let e = told_idle told in
      record {
        bus = in_bus card room told good;
        count = units_count card room told good;
        units = declared_as;
        others = no_unit_lem card room told good;
        places = w.long;
        granted = ap (λ x. x.granted) e;
        last = ap (λ x. x.arbiter.last) e;
        asks = ap (λ x. x.arbiter.asks) e;
        frame = ap (λ x. x.frame) e;
      }
