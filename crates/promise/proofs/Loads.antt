-- A loaded shelf is sound: a `bus` line gives a fresh one, and every good line after it keeps it sound. Assumes nothing.
use Rattle.std.specs.Prelude.{None, Option, Some, Ok}
use mathlib.Core.Path.{◌≡◌, refl, sym, ap, subst, ◌∙◌}
use mathlib.Core.Bool.{true}
use mathlib.Core.List.{List, [], ◌∷◌, ◌++◌}
use mathlib.Core.Logic.{◌⊎◌, inl, inr, ⊎_elim}
use Prim.Native.Nat.{ℕ, zero, suc, ◌+◌, ◌*◌, ◌<◌, ◌≤◌}
use native.Mathlib.Omega.{arith}
use lib.ListN.{length, get_or, set, length-append, length-set, length-take, get_or-append}
use lib.Seq.{get_or_at, get_or-set_same, get_or-set_other, get_or-take, take-set-lt}
use lib.Dec.{eqb, ltb}
use borrow.Author.Tests.{eqb-true, eqb-false, ltb-true, ltb-false}
use Rattle.card.specs.declared.Card.{Card}
use Rattle.card.specs.declared.Ask.TheVariants.{On}
use Rattle.card.specs.Cards.{holds}
use Rattle.lookup.specs.Record.{size, usable}
use Rattle.outlet.specs.declared.Limits.{Limits}
use Rattle.outlet.proofs.Laws.{rings_iff, empty_fits, fresh_fits}
use Rattle.arbiter.specs.Arbitration.{nobody}
use Rattle.shelf.specs.Shelves.{unit, blank, fresh, declared, number_of, find_in, FoundNowhere}
use Rattle.shelf.specs.declared.Settings.{Settings}
use Rattle.shelf.specs.declared.Unit as U
use Rattle.shelf.specs.Shelf.{Shelf}
use Rattle.shelf.proofs.Finding.{find_at, find_nothing}
use Rattle.soundness.specs.State.{sound_of, UnitSound, DeclaredIn, Sound}
use Rattle.soundness.proofs.Facts.{link_iff, sound_iff, fresh_sound}
use Rattle.line.specs.Ranges.{Given as LineGiven, InRange as LineIn}
use Rattle.line.specs.declared.Line.{Line}
use Rattle.line.specs.declared.Line.TheVariants.{Bus, Unit as L-as-Unit, Vp, Drop, Page, Vc, Mc}
use Rattle.meaning.specs.Told.{total, declare, hearing, join_at, shelf_by, shelf_of}
use Rattle.meaning.specs.Lines.{judge, Good}
use Rattle.meaning.proofs.Fits.{fine_unit}
use Rattle.meaning.proofs.Grown.{decide}
use Rattle.meaning.proofs.Shelved.{Shelved, shelved, declared_more, place_left}
use Rattle.table.specs.Load.{load}
use Rattle.promise.specs.Refusals.{Accepts, Refuses}
use Rattle.promise.specs.Loads.{LoadSound}
use Rattle.promise.proofs.Runs.{AllInRange, all_ranged}
use Rattle.promise.proofs.Refusals.{accepts_good, accepts_in_range, accepts_units, accepted, refused, either_way}
use Rattle.judge.specs.Verdicts.{fine}

-- A. what a `unit` line gives is what State asks for: a freshly declared unit, where nobody is granted and nobody asks
fresh_unit : (card : Card) (bus place : ℕ) (settings : Settings) (limits : Limits) → bus ≤ 32 → settings.number < bus → holds card (On settings.link) ≡ true → LineGiven settings limits → UnitSound card bus nobody [] (unit settings limits place)
fresh_unit card bus place settings limits most below held given =
    record {
      below = below;
      link = (link_iff card settings.link).0 held;
      top = given.settings_in.top_most;
      least = given.settings_in.priority_least;
      most = given.settings_in.priority_most;
      limits = given.limits_in_lem;
      inlet = empty_fits 4;
      queues = (rings_iff (unit settings limits place).outlet).0 (fresh_fits limits);
      side = record { controlout = empty_fits 4; controlin = omega arith; loopbackin = omega arith; loopbackout = omega arith };
      grant = λ e. absurd (omega arith);
      ask = inl refl;
    }

-- B. a unit more
abbrev Once : List U.Unit → Type 0
Once us = (i j : ℕ) → i < j → j < length us → number_of (get_or us i blank) ≡ number_of (get_or us j blank) → ⊥

each_more : (P : U.Unit → Type 0) (us : List U.Unit) (n : U.Unit) → ((i : ℕ) → i < length us → P (get_or us i blank)) → P n → (i : ℕ) → i < length (us ++ (n ∷ [])) → P (get_or (us ++ (n ∷ [])) i blank)
each_more P [] n f p zero h = p
each_more P [] n f p (suc i) h = absurd (omega arith)
each_more P (u ∷ us) n f p zero h = f 0 (omega arith)
each_more P (u ∷ us) n f p (suc i) h = each_more P us n (λ j k. f (suc j) (omega arith)) p i (omega arith)

module _ (us : List U.Unit) (n : U.Unit) where
  more_length : length (us ++ (n ∷ [])) ≡ length us + 1
  more_length = simp length-append

  more_declared : (number : ℕ) → DeclaredIn us number → DeclaredIn (us ++ (n ∷ [])) number
  more_declared number w =
      let l = more_length in
      let h = w.1 in
      (w.0, omega arith, ap number_of (get_or-append us (n ∷ []) blank w.0 w.1) ∙ w.2)

  more_once : Once us → FoundNowhere us (number_of n) → Once (us ++ (n ∷ []))
  more_once once new i j h k e =
      let l = more_length in
      decide (ltb j (length us))
      (λ t.
      let m = ltb-true j (length us) t in
      once i j h m
      (sym (ap number_of (get_or-append us (n ∷ []) blank i (omega arith))) ∙ e ∙ ap number_of (get_or-append us (n ∷ []) blank j m)))
      (λ t.
      let m = ltb-false j (length us) t in
      new i (omega arith)
      (sym (ap number_of (get_or-append us (n ∷ []) blank i (omega arith))) ∙ e ∙ ap number_of (get_or_at us n [] blank j (omega arith))))

-- a shelf sound with a store and rows for all 32 units: what is left to ask at the end are the store and the rows that there are
abbrev Ready : Card → Shelf → Type 0
Ready card shelf = Sound card shelf 262144 32

ready_fresh : (card : Card) (bus : ℕ) → (bus ≡ 16) ⊎ (bus ≡ 32) → Ready card (fresh bus)
ready_fresh card bus e = (sound_iff card (fresh bus) 262144 32).0 (fresh_sound card bus 262144 32 e)

ready_most : (card : Card) (shelf : Shelf) → Ready card shelf → shelf.bus ≤ 32
ready_most card shelf s = ⊎_elim (λ e. omega arith) (λ e. omega arith) s.bus

module _ (card : Card) (shelf : Shelf) (s : Ready card shelf) (n : U.Unit) (long : length shelf.units ≡ 32) (room : shelf.count < 32) (new : FoundNowhere (declared shelf) (number_of n)) (fits : UnitSound card shelf.bus nobody [] n) where
  -- it is not granted and does not ask: only who is declared can be, and can
  unit_ready : UnitSound card shelf.bus shelf.granted shelf.arbiter.asks n
  unit_ready =
      record {
        below = fits.below;
        link = fits.link;
        top = fits.top;
        least = fits.least;
        most = fits.most;
        limits = fits.limits;
        inlet = fits.inlet;
        queues = fits.queues;
        side = fits.side;
        grant = λ e. ⊎_elim (λ g. fits.grant (e ∙ g)) (λ w. absurd (new w.0 w.1 (w.2 ∙ sym e))) s.granted;
        ask = inl (s.asks (number_of n) (λ w. new w.0 w.1 w.2));
      }

  more_units : declared (declare shelf n) ≡ declared shelf ++ (n ∷ [])
  more_units = declared_more shelf n (omega arith)

  now_declared : (number : ℕ) → DeclaredIn (declared shelf) number → DeclaredIn (declared (declare shelf n)) number
  now_declared number w = subst (λ us. DeclaredIn us number) (sym more_units) (more_declared (declared shelf) n number w)

  pub ready_declare : Ready card (declare shelf n)
  unfolding declare
  ready_declare =
      record {
        bus = s.bus;
        count = omega arith;
        store = omega arith;
        rows = omega arith;
        once = subst Once (sym more_units) (more_once (declared shelf) n s.once new);
        units = subst (λ us. (i : ℕ) → i < length us → UnitSound card shelf.bus shelf.granted shelf.arbiter.asks (get_or us i blank)) (sym more_units)
            (each_more (UnitSound card shelf.bus shelf.granted shelf.arbiter.asks) (declared shelf) n s.units unit_ready);
        granted = ⊎_elim inl (λ w. inr (now_declared shelf.granted w)) s.granted;
        last = λ p h. ⊎_elim inl (λ w. inr (now_declared (get_or shelf.arbiter.last p 0) w)) (s.last p h);
        asks = λ k h. s.asks k (λ w. h (now_declared k w));
      }

-- C. a session more: State does not ask which a unit hears
hearing_sound : (card : Card) (bus granted : ℕ) (asks : List ℕ) (u : U.Unit) (session : ℕ) → UnitSound card bus granted asks u → UnitSound card bus granted asks (hearing u session)
hearing_sound card bus granted asks u session s =
    record {
      below = s.below;
      link = s.link;
      top = s.top;
      least = s.least;
      most = s.most;
      limits = s.limits;
      inlet = s.inlet;
      queues = record { each = s.queues.each };
      side = s.side;
      grant = s.grant;
      ask = s.ask;
    }

module _ (us : List U.Unit) (i session : ℕ) (inside : i < length us) where
  abbrev heard : List U.Unit
  heard = set us i (hearing (get_or us i blank) session)

  heard_at : (P : U.Unit → Type 0) → ((u : U.Unit) → P u → P (hearing u session)) → (j : ℕ) → P (get_or us j blank) → P (get_or heard j blank)
  heard_at P f j p =
      decide (eqb j i)
      (λ t.
      let e = eqb-true j i t in
      subst P (sym (ap (λ k. get_or heard k blank) e ∙ get_or-set_same us i (hearing (get_or us i blank) session) blank inside)) (f (get_or us i blank) (subst (λ k. P (get_or us k blank)) e p)))
      (λ t. subst P (sym (get_or-set_other us i j (hearing (get_or us i blank) session) blank (eqb-false j i t))) p)

  heard_length : length heard ≡ length us
  heard_length = length-set us i (hearing (get_or us i blank) session)

  heard_number : (j : ℕ) → number_of (get_or heard j blank) ≡ number_of (get_or us j blank)
  heard_number j = heard_at (λ u. number_of u ≡ number_of (get_or us j blank)) (λ u e. e) j refl

  heard_declared : (number : ℕ) → DeclaredIn us number → DeclaredIn heard number
  heard_declared number w =
      let l = heard_length in
      let h = w.1 in
      (w.0, omega arith, heard_number w.0 ∙ w.2)

module _ (card : Card) (shelf : Shelf) (s : Ready card shelf) (i session : ℕ) (inside : i < length (declared shelf)) where
  below_count : i < shelf.count
  below_count = let l = length-take shelf.count shelf.units in omega arith

  heard_units_lem : declared (join_at shelf (Some i) session) ≡ heard (declared shelf) i session inside
  unfolding join_at
  heard_units_lem =
      take-set-lt shelf.count shelf.units i (hearing (get_or shelf.units i blank) session) below_count
      ∙ ap (λ u. set (declared shelf) i (hearing u session)) (sym (get_or-take shelf.count shelf.units i blank below_count))

  still_declared : (number : ℕ) → DeclaredIn (declared shelf) number → DeclaredIn (declared (join_at shelf (Some i) session)) number
  still_declared number w = subst (λ us. DeclaredIn us number) (sym heard_units_lem) (heard_declared (declared shelf) i session inside number w)

  abbrev test : U.Unit → Type 0
  test u = UnitSound card shelf.bus shelf.granted shelf.arbiter.asks u

  each_heard : (j : ℕ) → j < length (heard (declared shelf) i session inside) → test (get_or (heard (declared shelf) i session inside) j blank)
  each_heard j h =
      let l = heard_length (declared shelf) i session inside in
      heard_at (declared shelf) i session inside test (λ u. hearing_sound card shelf.bus shelf.granted shelf.arbiter.asks u session) j
      (s.units j (omega arith))

  once_heard : Once (heard (declared shelf) i session inside)
  once_heard j k h m e =
      let l = heard_length (declared shelf) i session inside in
      s.once j k h (omega arith) (sym (heard_number (declared shelf) i session inside j) ∙ e ∙ heard_number (declared shelf) i session inside k)

  ready_heard : Ready card (join_at shelf (Some i) session)
  unfolding join_at
  ready_heard =
      record {
        bus = s.bus;
        count = s.count;
        store = s.store;
        rows = s.rows;
        once = subst Once (sym heard_units_lem) once_heard;
        units = subst (λ us. (j : ℕ) → j < length us → test (get_or us j blank)) (sym heard_units_lem) each_heard;
        granted = ⊎_elim inl (λ w. inr (still_declared shelf.granted w)) s.granted;
        last = λ p h. ⊎_elim inl (λ w. inr (still_declared (get_or shelf.arbiter.last p 0) w)) (s.last p h);
        asks = λ k h. s.asks k (λ w. h (still_declared k w));
      }

ready_join : (card : Card) (shelf : Shelf) (a session : ℕ) (f : Option ℕ) → find_in (declared shelf) a ≡ f → Ready card shelf → Ready card (join_at shelf f session)
unfolding join_at
ready_join card shelf a session (Some i) e s = ready_heard card shelf s i session ((find_at a (declared shelf) i).0 e).inside
ready_join card shelf a session None e s = s

-- D. the lines, one after the other
ready_line : (card : Card) (room : ℕ) (told : List Line) (l : Line) → judge card room told l ≡ fine → LineIn l → Shelved told → Ready card (shelf_of told) → Ready card (shelf_of (l ∷ told))
unfolding shelf_of shelf_by
ready_line card room told (Bus bus) e r w s = ready_fresh card bus r
ready_line card room told (L-as-Unit settings limits) e r w s =
    let f = fine_unit card room told settings limits e in
    let h = r.settings_in.number_most in
    ready_declare card (shelf_of told) s (unit settings limits (size * total told)) w.long (place_left card room told settings limits e (omega arith) w)
    ((find_nothing settings.number (declared (shelf_of told))).0 (w.gone settings.number f.new))
    (fresh_unit card (shelf_of told).bus (size * total told) settings limits (ready_most card (shelf_of told) s) f.below f.held r)
ready_line card room told (Vp u v target class outvpi) e r w s = s
ready_line card room told (Drop u v) e r w s = s
ready_line card room told (Page u v top) e r w s = s
ready_line card room told (Vc u v c target class outvpi outvci) e r w s = s
ready_line card room told (Mc u session) e r w s = ready_join card (shelf_of told) u session (find_in (declared (shelf_of told)) u) refl s

ready : (card : Card) (room : ℕ) (told : List Line) → Good card room told → AllInRange told → Ready card (shelf_of told)
unfolding shelf_of
ready card room [] g r = ready_fresh card 16 (inl refl)
ready card room (l ∷ told) g r =
    ready_line card room told l g.0 r.0 (shelved card room told g.1 (all_ranged told r.1)) (ready card room told g.1 r.1)

-- E. with the store and the rows that there are
with_store : (card : Card) (shelf : Shelf) (store rows : ℕ) → 8192 * shelf.count ≤ store → shelf.count ≤ rows → Ready card shelf → Sound card shelf store rows
with_store card shelf store rows h k s =
    record { bus = s.bus; count = s.count; store = h; rows = k; once = s.once; units = s.units; granted = s.granted; last = s.last; asks = s.asks }

module _ (card : Card) (text memory : List ℕ) (store rows : ℕ) where
  -- a good load gives a sound shelf
  pub loaded_sound : (told : List Line) → Accepts card text memory store rows told → sound_of card (load card text memory store rows).shelf store rows ≡ true
  loaded_sound told a =
      let n = accepts_units card text memory store rows told a in
      ap (λ x. sound_of card x.shelf store rows) (accepted card text memory store rows told a).0
      ∙ (sound_iff card (shelf_of told) store rows).1
      (with_store card (shelf_of told) store rows (omega (arith, a.store_enough)) (omega (arith, a.rows_enough))
      (ready card (usable memory) told (accepts_good card text memory store rows told a) (accepts_in_range card text memory store rows told a)))

  -- and a refusal a fresh one, which is sound too
  pub refused_sound : (number line : ℕ) → Refuses card text memory store rows number line → sound_of card (load card text memory store rows).shelf store rows ≡ true
  refused_sound number line r =
      ap (λ x. sound_of card x.shelf store rows) (refused card text memory store rows number line r).0 ∙ fresh_sound card 16 store rows (inl refl)

pub load_sound : LoadSound
load_sound card text memory store rows =
    ⊎_elim (λ a. loaded_sound card text memory store rows a.0 a.1) (λ r. refused_sound card text memory store rows r.0 r.1 r.2)
    (either_way card text memory store rows)
