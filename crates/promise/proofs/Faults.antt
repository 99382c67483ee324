-- A line gets a number exactly when 01's condition for it holds and none before it does. Assumes nothing.
use Rattle.std.specs.Prelude.{Some, Err, Ok, None, Option}
use mathlib.Core.Path.{◌≡◌, refl, sym, ap, ap₂, subst, ◌∙◌}
use mathlib.Core.Bool.{Bool, true, false, cond, not, false≢true}
use mathlib.Core.List.Memᴰ
use mathlib.Core.List.{List, [], ◌∷◌, Memᴰ as In}
use mathlib.Core.Logic.{◌⊎◌, ◌↔◌, inl, inr, ⊎_elim}
use Prim.Native.Nat.{ℕ, ◌+◌, ◌*◌, ◌<◌, ◌≤◌}
use native.Mathlib.Omega.{arith}
use lib.Dec.{eqb, leb, ltb}
use lib.ListN.{length}
use borrow.Author.Tests.{eqb-true, eq-eqb, leb-true, leb-false, ltb-true, ltb-false}
use Rattle.header.specs.declared.Link.TheVariants.{Uni, Nni}
use Rattle.bus.specs.declared.Target.{Target}
use Rattle.bus.specs.declared.Target.TheVariants.{Unit as T-as-Unit, Session, All}
use Rattle.card.specs.Cards.{holds, narrow_holds}
use Rattle.card.specs.declared.Card.{Card}
use Rattle.card.specs.declared.Card.TheVariants.{Narrow, Wide as W·}
use Rattle.card.specs.declared.Ask.{Ask}
use Rattle.card.specs.declared.Ask.TheVariants.{Bus as A-as-Bus, On, Out}
use Rattle.lookup.specs.Record.{size, usable}
use Rattle.lookup.specs.declared.Record as R
use Rattle.lookup.specs.declared.Record.TheVariants.{Empty, Drop as R-as-Drop, Route, Page as R-as-Page}
use Rattle.outlet.specs.declared.Limits.{Limits}
use Rattle.shelf.specs.declared.Settings.{Settings}
use Rattle.line.specs.declared.Line.{Line}
use Rattle.line.specs.declared.Line.TheVariants.{Bus, Unit as L-as-Unit, Vp, Drop, Page, Vc, Mc}
use Rattle.line.specs.declared.Wrong.{Wrong}
use Rattle.line.specs.Lines.{Reading, reading_of}
use Rattle.judge.specs.declared.Fault.TheVariants.{Form, Order, Twice, Wide, Room}
use Rattle.judge.specs.Verdicts.{fine, Verdict, number_of, asked, room_for, off_bus, taken, page_in}
use Rattle.judge.specs.Judge.{in_page, judge_bus, judge_unit, judge_vp, judge_drop, judge_page, judge_vc, judge_mc}
use Rattle.meaning.specs.Told.{of_unit, of_page, top_of, total, record_of, hears_in, shelf_of}
use Rattle.meaning.specs.Lines.{started, is_first, owned, is_declared, judge, Good, verdict_on}
use Rattle.meaning.proofs.Tabulate.{some_inj, none_some}
use Rattle.meaning.proofs.Regions.{start}
use Rattle.meaning.proofs.Grown.{Grown, decide, grown}
use Rattle.meaning.proofs.Memory.{fits_room}
use Rattle.meaning.proofs.Members.{heard_in, in_heard, first_is, bus_in, in_bus, below_bus}
use Rattle.promise.specs.Says.{Declares, Uses, HasUnit, IsUnit, HasTarget, HasVpi, Gives, IsVc, IsWide, records_by, records_of}
use Rattle.paper.specs.Words.{words_of, InRange}
use Rattle.paper.proofs.Readings.{reads_iff, words_only, form_iff}
use Rattle.promise.specs.Faults.{OutOfOrder, first_not_bus, bus_again, unit_off, target_off, not_declared, vpi_above, no_page, vci_above, Again, unit_again, vpi_again, vc_again, mc_again, Exceeds, Fault, order, twice, wide, room, Condition, not_ended, no_line, fault, Faultless}
use Rattle.promise.proofs.Said.{records_total, declared, page_in_lem, given_before, before_given, vc_before, before_vc, top_is, top_of_page, page_stands}

-- A. what a verdict means, where Order, Twice, Wide and Room are these facts
abbrev Means : (O A W M : Type 0) → Verdict → Type 0
Means O A W M (Ok x) = (O → ⊥) × (A → ⊥) × (W → ⊥) × (M → ⊥)
Means O A W M (Err (Form wrong)) = ⊥
Means O A W M (Err (Order field)) = O
Means O A W M (Err (Twice field)) = (O → ⊥) × A
Means O A W M (Err Wide) = (O → ⊥) × (A → ⊥) × W
Means O A W M (Err Room) = (O → ⊥) × (A → ⊥) × (W → ⊥) × M

module _ (O A W M : Type 0) where
  order_test : (b : Bool) (field : ℕ) (v : Verdict) → (b ≡ true → O) → (b ≡ false → Means O A W M v) → Means O A W M (cond b (Err (Order field)) v)
  order_test true field v y n = y refl
  order_test false field v y n = n refl

  twice_test : (b : Bool) (field : ℕ) (v : Verdict) → (O → ⊥) → (b ≡ true → A) → (b ≡ false → Means O A W M v) → Means O A W M (cond b (Err (Twice field)) v)
  twice_test true field v o y n = (o, y refl)
  twice_test false field v o y n = n refl

  wide_test : (b : Bool) (v : Verdict) → (O → ⊥) → (A → ⊥) → (b ≡ false → W) → (b ≡ true → Means O A W M v) → Means O A W M (cond b v (Err Wide))
  wide_test true v o a n y = y refl
  wide_test false v o a n y = (o, a, n refl)

  room_test : (b : Bool) → (O → ⊥) → (A → ⊥) → (W → ⊥) → (b ≡ false → M) → (b ≡ true → M → ⊥) → Means O A W M (cond b fine (Err Room))
  room_test true o a w n y = (o, a, w, y refl)
  room_test false o a w n y = (o, a, w, n refl)

  started_test : (told : List Line) (v : Verdict) → (told ≡ [] → O) → (is_first told ≡ false → Means O A W M v) → Means O A W M (started told v)
  started_test [] v y n = y refl
  started_test (l ∷ told) v y n = n refl

  owned_test : (o : Option ℕ) (f : ℕ → Verdict) → (o ≡ None → O) → ((top : ℕ) → o ≡ Some top → Means O A W M (f top)) → Means O A W M (owned o f)
  owned_test None f n y = n refl
  owned_test (Some top) f n y = y top refl

  declared_test : (o : Option ℕ) (v : Verdict) → (O → ⊥) → ((top : ℕ) → o ≡ Some top → A) → (o ≡ None → Means O A W M v) → Means O A W M (cond (is_declared o) (Err (Twice 2)) v)
  declared_test None v o y n = n refl
  declared_test (Some top) v o y n = (o, y top refl)

  page_test : (r : R.Record) (vci : ℕ) (v : Verdict) → (((t p : ℕ) → r ≡ R-as-Page t p → ⊥) → O) → ((t p : ℕ) → r ≡ R-as-Page t p → t < vci → O) → ((t p : ℕ) → r ≡ R-as-Page t p → vci ≤ t → Means O A W M v) → Means O A W M (in_page (page_in (Some r)) vci v)
  page_test Empty vci v n h y = n (λ t p e. let z : ◌≡◌ {A = ℕ} 0 1 = cc in omega arith)
  page_test R-as-Drop vci v n h y = n (λ t p e. let z : ◌≡◌ {A = ℕ} 0 1 = cc in omega arith)
  page_test (Route a b c) vci v n h y = n (λ t p e. let z : ◌≡◌ {A = ℕ} 0 1 = cc in omega arith)
  page_test (R-as-Page top place) vci v n h y =
      order_test (ltb top vci) 4 v (λ t. h top place refl (ltb-true top vci t)) (λ t. y top place refl (ltb-false top vci t))

-- B. the tests as facts
-- "target unit not below the bus number"
off_bus_lem : (bus : ℕ) (target : Target) → off_bus bus target ≡ true → (u : ℕ) × IsUnit u target × (bus ≤ u)
off_bus_lem bus (T-as-Unit unit) e = (unit, refl, leb-true bus unit e)
off_bus_lem bus (Session session) e = absurd (false≢true e)
off_bus_lem bus All e = absurd (false≢true e)

on_bus : (bus : ℕ) (target : Target) → off_bus bus target ≡ false → (u : ℕ) → IsUnit u target → u < bus
on_bus bus (T-as-Unit unit) e u h = let k = leb-false bus unit e in omega arith
on_bus bus (Session session) e u h = absurd h
on_bus bus All e u h = absurd h

-- "narrow card only: `bus` 32, `nni`, or outgoing VPI above 255"
abbrev Asks : Ask → Type 0
Asks (A-as-Bus bus) = bus ≡ 32
Asks (On link) = link ≡ Nni
Asks (Out outvpi) = 255 < outvpi

narrow_asks : (ask : Ask) → (narrow_holds ask ≡ false → Asks ask) × (narrow_holds ask ≡ true → Asks ask → ⊥)
unfolding narrow_holds
narrow_asks (A-as-Bus bus) =
    decide (eqb bus 32) (λ t. rw t (λ e. eqb-true bus 32 t, λ e. absurd (false≢true e)))
    (λ t. rw t (λ e. absurd (false≢true (sym e)), λ e h. false≢true (sym t ∙ eq-eqb bus 32 h)))
narrow_asks (On Uni) = (λ e. absurd (false≢true (sym e)), λ e h. let z : ◌≡◌ {A = ℕ} 0 1 = cc in omega arith)
narrow_asks (On Nni) = (λ e. refl, λ e. absurd (false≢true e))
narrow_asks (Out outvpi) = (λ e. leb-false outvpi 255 e, λ e h. let k = leb-true outvpi 255 e in omega arith)

asks_iff : (ask : Ask) → (not (narrow_holds ask) ≡ true) ↔ Asks ask
asks_iff ask =
    decide (narrow_holds ask) (λ t. rw t (λ e. absurd (false≢true e), λ h. absurd ((narrow_asks ask).1 t h))) (λ t. rw t (λ e. (narrow_asks ask).0 t, λ h. refl))

-- the same of a line, as a test
unfoldable pub too_wide : Line → Bool
too_wide (Bus n) = not (narrow_holds (A-as-Bus n))
too_wide (L-as-Unit settings limits) = not (narrow_holds (On settings.link))
too_wide (Vp u v target class outvpi) = not (narrow_holds (Out outvpi))
too_wide (Drop u v) = false
too_wide (Page u v topvci) = false
too_wide (Vc u v w target class outvpi outvci) = not (narrow_holds (Out outvpi))
too_wide (Mc u session) = false

pub wide_iff : (l : Line) → (too_wide l ≡ true) ↔ IsWide l
unfolding too_wide
wide_iff (Bus n) = asks_iff (A-as-Bus n)
wide_iff (L-as-Unit settings limits) = asks_iff (On settings.link)
wide_iff (Vp u v target class outvpi) = asks_iff (Out outvpi)
wide_iff (Drop u v) = (λ e. absurd (false≢true e), λ h. absurd h)
wide_iff (Page u v topvci) = (λ e. absurd (false≢true e), λ h. absurd h)
wide_iff (Vc u v w target class outvpi outvci) = asks_iff (Out outvpi)
wide_iff (Mc u session) = (λ e. absurd (false≢true e), λ h. absurd h)

-- a card that does not hold it is narrow, and it is too wide
too_wide_lem : (card : Card) (ask : Ask) → holds card ask ≡ false → (card ≡ Narrow) × Asks ask
unfolding holds
too_wide_lem Narrow ask e = (refl, (narrow_asks ask).0 e)
too_wide_lem W· ask e = absurd (false≢true (sym e))

not_wide : (card : Card) (ask : Ask) → holds card ask ≡ true → (card ≡ Narrow) × Asks ask → ⊥
unfolding holds
not_wide Narrow ask e w = (narrow_asks ask).1 e w.1
not_wide W· ask e w = let n = w.0 in let z : ◌≡◌ {A = ℕ} 0 1 = cc in omega arith

-- "exceed the memory or 262,144 bytes"
over : (memory : List ℕ) (n : ℕ) → usable memory < n → (length memory < n) ⊎ (262144 < n)
over memory n h = decide (ltb (length memory) n) (λ t. inl (ltb-true (length memory) n t)) (λ t. let k = ltb-false (length memory) n t in inr (omega arith))

not_over : (memory : List ℕ) (n : ℕ) → n ≤ usable memory → (length memory < n) ⊎ (262144 < n) → ⊥
not_over memory n h (inl k) = omega arith
not_over memory n h (inr k) = omega arith

-- what a line is not
no_bus : (l : Line) (u : ℕ) → Uses u l → (n : ℕ) → l ≡ Bus n → ⊥
no_bus l u h n e = subst (Uses u) e h

no_mc : (l : Line) (u v : ℕ) → HasVpi u v l → (a session : ℕ) → l ≡ Mc a session → ⊥
no_mc l u v h a session e = ⊎_elim (λ z. z) (λ z. z.1) (subst (HasVpi u v) e h)

first_of : {P : Type 0} → P ⊎ ((n : ℕ) × ⊥) → P
first_of (inl p) = p
first_of (inr z) = absurd z.1

second_of : {P : Type 0} → ((n : ℕ) × ⊥) ⊎ P → P
second_of (inl z) = absurd z.1
second_of (inr p) = p

-- C. a line after good lines
module _ (card : Card) (memory : List ℕ) (told : List Line) (good : Good card (usable memory) told) where
  abbrev bus : ℕ
  bus = (shelf_of told).bus

  grew : Grown told
  grew = grown card (usable memory) told good

  -- a line that uses a declared unit is in order if its target is below the bus number, its VPI is not above the top, and its VCI is in its page
  in_order : (l : Line) (a v top : ℕ) → v ≤ top → is_first told ≡ false → top_of told (of_unit a) ≡ Some top → Uses a l → ((u : ℕ) → HasUnit u l → a ≡ u) → ((u : ℕ) → HasTarget u l → u < bus) → ((u vpi : ℕ) → HasVpi u vpi l → (a ≡ u) × (v ≡ vpi)) → ((u vpi vci : ℕ) → IsVc u vpi vci l → (t : ℕ) × In (Page u vpi t) told × (vci ≤ t)) → OutOfOrder told l → ⊥
  in_order l a v₀ top below f e used unit target vpi vc (first_not_bus z h) = false≢true (sym f ∙ ap is_first z)
  in_order l a v₀ top below f e used unit target vpi vc (bus_again b n m z) = no_bus l a used n z
  in_order l a v₀ top below f e used unit target vpi vc (unit_off b u m h k) =
      let s = unit u h in
      let t = in_bus card (usable memory) told good b m in
      let i = below_bus card (usable memory) told good a top e in
      omega arith
  in_order l a v₀ top below f e used unit target vpi vc (target_off b u m h k) =
      let s = target u h in
      let t = in_bus card (usable memory) told good b m in
      omega arith
  in_order l a v₀ top below f e used unit target vpi vc (not_declared u h k) = k top (declared told u top (ap (λ x. top_of told (of_unit x)) (sym (unit u (inr h))) ∙ e))
  in_order l a v₀ top below f e used unit target vpi vc (vpi_above u w t h b k) =
      let s = vpi u w h in
      let i : top ≡ t = some_inj (sym e ∙ ap (λ x. top_of told (of_unit x)) s.0 ∙ top_is told grew u t b) in
      let j = s.1 in
      omega arith
  in_order l a v₀ top below f e used unit target vpi vc (no_page u v w h k) = let p = vc u v w h in k p.0 p.1
  in_order l a v₀ top below f e used unit target vpi vc (vci_above u v w t h m k) =
      let p = vc u v w h in
      let i : p.0 ≡ t = some_inj (sym (top_of_page told grew u v p.0 p.1) ∙ top_of_page told grew u v t m) in
      let j = p.2 in
      omega arith

  -- a line says nothing again if what it gives has not been given
  anew : (l : Line) → ((u top : ℕ) → Declares u top l → top_of told (of_unit u) ≡ None) → ((u vpi : ℕ) → Gives u vpi l → taken (Some (record_of told (of_unit u) vpi)) ≡ false) → ((u vpi vci : ℕ) → IsVc u vpi vci l → taken (Some (record_of told (of_page u vpi) vci)) ≡ false) → ((u session : ℕ) → l ≡ Mc u session → hears_in told u session ≡ false) → Again told l → ⊥
  anew l unit vpi vc mc (unit_again u top top₁ d b) = none_some (sym (unit u top d) ∙ top_is told grew u top₁ b)
  anew l unit vpi vc mc (vpi_again u v h b) = before_given told u v (vpi u v h) b
  anew l unit vpi vc mc (vc_again u v w h b) = before_vc told u v w (vc u v w h) b
  anew l unit vpi vc mc (mc_again u s h m) = false≢true (sym (mc u s h) ∙ in_heard told u s m)

  -- what it means for a line
  abbrev Says : Line → Verdict → Type 0
  Says l = Means (OutOfOrder told l) (Again told l) ((card ≡ Narrow) × IsWide l) (Exceeds memory (l ∷ told))

  -- a line that takes no records
  still : (l : Line) → records_by l ≡ 0 → Exceeds memory (l ∷ told) → ⊥
  unfolding records_of
  still l o = not_over memory (8 * records_of (l ∷ told)) (let h = fits_room card (usable memory) told good in let k = records_total told in omega arith)

  -- a line that uses a unit
  uses : (l : Line) (u : ℕ) (f : ℕ → Verdict) → Uses u l → (is_first told ≡ false → (top : ℕ) → top_of told (of_unit u) ≡ Some top → Says l (f top)) → Says l (started told (owned (top_of told (of_unit u)) f))
  uses l u f h rest =
      started_test _ _ _ _ told _ (λ e. first_not_bus e (no_bus l u h))
      (λ b. owned_test _ _ _ _ (top_of told (of_unit u)) f (λ e. not_declared u h (λ top d. none_some (sym e ∙ top_is told grew u top d))) (rest b))

  -- with a VPI
  has_vpi : (l : Line) (u v : ℕ) (f : ℕ → Verdict) → Uses u l → HasVpi u v l → (is_first told ≡ false → (top : ℕ) → top_of told (of_unit u) ≡ Some top → v ≤ top → Says l (f top)) → Says l (started told (owned (top_of told (of_unit u)) λ top. cond (ltb top v) (Err (Order 3)) (f top)))
  has_vpi l u v f h k rest =
      uses l u _ h
      (λ b top e.
      order_test _ _ _ _ (ltb top v) 3 (f top) (λ t. vpi_above u v top k (declared told u top e) (ltb-true top v t)) (λ t. rest b top e (ltb-false top v t)))

  -- with a target
  has_target : (l : Line) (target : Target) (field : ℕ) (x : Verdict) → ((u : ℕ) → IsUnit u target → HasTarget u l) → is_first told ≡ false → (off_bus bus target ≡ false → Says l x) → Says l (cond (off_bus bus target) (Err (Order field)) x)
  has_target l target field x h b rest =
      order_test _ _ _ _ (off_bus bus target) field x
      (λ o. let k = off_bus_lem bus target o in target_off bus k.0 (bus_in card (usable memory) told good b) (h k.0 k.1) k.2) rest

  -- with an outgoing VPI
  goes_out : (l : Line) (outvpi : ℕ) → (255 < outvpi → IsWide l) → (IsWide l → 255 < outvpi) → records_by l ≡ 0 → (OutOfOrder told l → ⊥) → (Again told l → ⊥) → Says l (asked card (Out outvpi) fine)
  goes_out l outvpi to from o ok new =
      wide_test _ _ _ _ (holds card (Out outvpi)) fine ok new (λ t. let w = too_wide_lem card (Out outvpi) t in (w.0, to w.1))
      (λ t. (ok, new, λ w. not_wide card (Out outvpi) t (w.0, from w.1), still l o))

  -- with records of its own
  takes_room : (l : Line) (top : ℕ) → records_by l ≡ top + 1 → (OutOfOrder told l → ⊥) → (Again told l → ⊥) → ((card ≡ Narrow) × IsWide l → ⊥) → Says l (room_for (usable memory) (size * total told) (top + 1))
  unfolding records_of
  takes_room l top e ok new narrow =
      let n = records_total told in
      room_test _ _ _ _ (leb (size * total told + size * (top + 1)) (usable memory)) ok new narrow
      (λ t. over memory (8 * records_of (l ∷ told)) (let k = leb-false (size * total told + size * (top + 1)) (usable memory) t in omega arith))
      (λ t. not_over memory (8 * records_of (l ∷ told)) (let k = leb-true (size * total told + size * (top + 1)) (usable memory) t in omega arith))

  -- the VPI of a `vp`, `drop` or `page` line, where something may stand
  free_path : (u v : ℕ) → taken (Some (record_of told (of_unit u) v)) ≡ false → (a b : ℕ) → (u ≡ a) × (v ≡ b) → taken (Some (record_of told (of_unit a) b)) ≡ false
  free_path u v t a b h = ap₂ (λ x y. taken (Some (record_of told (of_unit x) y))) (sym h.0) (sym h.1) ∙ t

  gives_path : (l : Line) (u v : ℕ) (x : Verdict) → Gives u v l → ((a b : ℕ) → Gives a b l → (u ≡ a) × (v ≡ b)) → ((a t : ℕ) → Declares a t l → ⊥) → ((a b c : ℕ) → IsVc a b c l → ⊥) → (OutOfOrder told l → ⊥) → ((Again told l → ⊥) → Says l x) → Says l (cond (taken (Some (record_of told (of_unit u) v))) (Err (Twice 3)) x)
  gives_path l u v x g its nounit novc ok rest =
      twice_test _ _ _ _ (taken (Some (record_of told (of_unit u) v))) 3 x ok (λ y. vpi_again u v g (given_before told u v y))
      (λ y.
      rest
      (anew l (λ a t z. absurd (nounit a t z)) (λ a b h. free_path u v y a b (its a b h)) (λ a b c z. absurd (novc a b c z)) (λ a t z. absurd (no_mc l u v (inl g) a t z))))

  free_vc : (u v w : ℕ) → taken (Some (record_of told (of_page u v) w)) ≡ false → (a b c : ℕ) → (u ≡ a) × (v ≡ b) × (w ≡ c) → taken (Some (record_of told (of_page a b) c)) ≡ false
  free_vc u v w t a b c h = sym (λ i. taken (Some (record_of told (of_page (h.0 i) (h.1 i)) (h.2 i)))) ∙ t

  in_this : (u v t a b : ℕ) → u ≡ a → v ≡ b → In (Page u v t) told → In (Page a b t) told
  in_this u v t a b x y = Memᴰ.cast (sym (ap₂ (λ m n. Page m n t) x y))

  unheard : (u session : ℕ) → hears_in told u session ≡ false → (a s : ℕ) → Mc u session ≡ Mc a s → hears_in told a s ≡ false
  unheard u session f a s e = let x : u ≡ a = cc in let y : session ≡ s = cc in ap₂ (hears_in told) (sym x) (sym y) ∙ f

  -- a `bus` line
  bus_order : (n : ℕ) → ((l : Line) → In l told → ⊥) → OutOfOrder told (Bus n) → ⊥
  bus_order n empty (first_not_bus z h) = h n refl
  bus_order n empty (bus_again b m i z) = empty (Bus b) i
  bus_order n empty (unit_off b u i h k) = empty (Bus b) i
  bus_order n empty (target_off b u i h k) = empty (Bus b) i
  bus_order n empty (not_declared u h k) = h
  bus_order n empty (vpi_above u v t h b k) = empty b.0 b.1
  bus_order n empty (no_page u v w h k) = h
  bus_order n empty (vci_above u v w t h m k) = h

  first_bus : (n : ℕ) → is_first told ≡ true → Says (Bus n) (asked card (A-as-Bus n) fine)
  first_bus n f =
      let empty = first_is told f in
      let none_in : (l : Line) → In l told → ⊥ = λ l m. Memᴰ.not-nil (subst (In l) empty m) in
      let ok : OutOfOrder told (Bus n) → ⊥ = bus_order n none_in in
      let new = anew (Bus n) (λ a t z. absurd z) (λ a w z. absurd z) (λ a w c z. absurd z) (λ a t z. let q : ◌≡◌ {A = ℕ} 0 1 = cc in absurd (omega arith)) in
      wide_test _ _ _ _ (holds card (A-as-Bus n)) fine ok new (too_wide_lem card (A-as-Bus n)) (λ t. (ok, new, not_wide card (A-as-Bus n) t, still (Bus n) refl))

  -- a `unit` line
  declares : (settings : Settings) (limits : Limits) → is_first told ≡ false → settings.number < bus → OutOfOrder told (L-as-Unit settings limits) → ⊥
  declares settings limits f below (first_not_bus z h) = false≢true (sym f ∙ ap is_first z)
  declares settings limits f below (bus_again b n m z) = let q : ◌≡◌ {A = ℕ} 0 1 = cc in omega arith
  declares settings limits f below (unit_off b u m (inl d) k) =
      let s = d.1.0 in
      let t = in_bus card (usable memory) told good b m in
      omega arith
  declares settings limits f below (unit_off b u m (inr d) k) = d
  declares settings limits f below (target_off b u m h k) = h
  declares settings limits f below (not_declared u h k) = h
  declares settings limits f below (vpi_above u v t (inl h) b k) = h
  declares settings limits f below (vpi_above u v t (inr h) b k) = h.1
  declares settings limits f below (no_page u v w h k) = h
  declares settings limits f below (vci_above u v w t h m k) = h

  -- the verdict on a line
  pub judged : (l : Line) → Says l (judge card (usable memory) told l)
  unfolding judge judge_bus judge_unit judge_vp judge_drop judge_page judge_vc judge_mc
  judged (Bus n) =
      decide (is_first told) (λ f. rw f (first_bus n f)) (λ f. rw f (bus_again bus n (bus_in card (usable memory) told good f) refl))
  judged (L-as-Unit settings limits) =
      let l = L-as-Unit settings limits in
      started_test _ _ _ _ told _ (λ e. first_not_bus e (λ n z. let q : ◌≡◌ {A = ℕ} 0 1 = cc in omega arith))
      (λ b.
      order_test _ _ _ _ (leb bus settings.number) 2 _
      (λ t. unit_off bus settings.number (bus_in card (usable memory) told good b) (inl (settings.top, (refl, refl))) (leb-true bus settings.number t))
      (λ t.
      let ok = declares settings limits b (leb-false bus settings.number t) in
      declared_test _ _ _ _ (top_of told (of_unit settings.number)) _ ok
      (λ top e. unit_again settings.number settings.top top (refl, refl) (declared told settings.number top e))
      (λ e.
      let new = anew l (λ u top d. ap (λ x. top_of told (of_unit x)) (sym d.0) ∙ e) (λ a w z. absurd z) (λ a w c z. absurd z) (λ a s z. let q : ◌≡◌ {A = ℕ} 0 1 = cc in absurd (omega arith)) in
      wide_test _ _ _ _ (holds card (On settings.link)) _ ok new (too_wide_lem card (On settings.link))
      (λ h. takes_room l settings.top refl ok new (not_wide card (On settings.link) h)))))
  judged (Vp u v target class outvpi) =
      let l = Vp u v target class outvpi in
      has_vpi l u v _ refl (inl (refl, refl))
      (λ b top e below.
      has_target l target 4 _ (λ n h. h) b
      (λ o.
      let ok = in_order l u v top below b e refl (λ n. second_of) (on_bus bus target o) (λ n w. first_of) (λ n w c z. absurd z) in
      gives_path l u v _ (refl, refl) (λ a b h. h) (λ a t z. z) (λ a b c z. z) ok (goes_out l outvpi (λ h. h) (λ h. h) refl ok)))
  judged (Drop u v) =
      let l = Drop u v in
      has_vpi l u v _ refl (inl (refl, refl))
      (λ b top e below.
      let ok = in_order l u v top below b e refl (λ n. second_of) (λ n z. absurd z) (λ n w. first_of) (λ n w c z. absurd z) in
      gives_path l u v _ (refl, refl) (λ a b h. h) (λ a t z. z) (λ a b c z. z) ok (λ new. (ok, new, λ w. w.1, still l refl)))
  judged (Page u v topvci) =
      let l = Page u v topvci in
      has_vpi l u v _ refl (inl (refl, refl))
      (λ b top e below.
      let ok = in_order l u v top below b e refl (λ n. second_of) (λ n z. absurd z) (λ n w. first_of) (λ n w c z. absurd z) in
      gives_path l u v _ (refl, refl) (λ a b h. h) (λ a t z. z) (λ a b c z. z) ok (λ new. takes_room l topvci refl ok new (λ w. w.1)))
  judged (Vc u v w target class outvpi outvci) =
      let l = Vc u v w target class outvpi outvci in
      has_vpi l u v _ refl (inr (w, (refl, refl, refl)))
      (λ b top e below.
      page_test _ _ _ _ (record_of told (of_unit u) v) w _
      (λ n. no_page u v w (refl, refl, refl) (λ t m. n t (size * start told (of_page u v)) (page_stands told grew u v t m)))
      (λ t p r h. vci_above u v w t (refl, refl, refl) (page_in_lem told u v t (grew.opened u v t p r).0) h)
      (λ t p r h.
      has_target l target 5 _ (λ n k. k) b
      (λ o.
      let page = page_in_lem told u v t (grew.opened u v t p r).0 in
      let ok = in_order l u v top below b e refl (λ n. second_of) (on_bus bus target o) (λ n x. ⊎_elim (λ z. absurd z) (λ z. (z.1.0, z.1.1))) (λ n x c z. (t, in_this u v t n x z.0 z.1 page, let q = z.2 in omega arith)) in
      twice_test _ _ _ _ (taken (Some (record_of told (of_page u v) w))) 4 _ ok (λ y. vc_again u v w (refl, refl, refl) (vc_before told u v w y))
      (λ y. goes_out l outvpi (λ k. k) (λ k. k) refl ok (anew l (λ n s z. absurd z) (λ n x z. absurd z) (free_vc u v w y) (λ n s z. absurd (no_mc l u v (inr (w, (refl, refl, refl))) n s z)))))))
  judged (Mc u session) =
      let l = Mc u session in
      uses l u _ refl
      (λ b top e.
      let ok = in_order l u 0 top (omega arith) b e refl (λ n. second_of) (λ n z. absurd z) (λ n w. ⊎_elim (λ z. absurd z) (λ z. absurd z.1)) (λ n w c z. absurd z) in
      twice_test _ _ _ _ (hears_in told u session) 3 _ ok (λ y. mc_again u session refl (heard_in told u session y))
      (λ y. (ok, anew l (λ n t z. absurd z) (λ n w z. absurd z) (λ n w c z. absurd z) (unheard u session y), λ w. w.1, still l refl)))

-- D. the numbers
pub fault_least : (card : Card) (memory : List ℕ) (told : List Line) (l : Line) (n : ℕ) → Fault card memory told l n → 3 ≤ n
fault_least card memory told l n (order h k) = omega arith
fault_least card memory told l n (twice h k) = omega arith
fault_least card memory told l n (wide c h k) = omega arith
fault_least card memory told l n (room h k) = omega arith

module _ (card : Card) (memory : List ℕ) (told : List Line) where
  -- a line has four conditions
  by_fault : (P : Type 0) (l : Line) (n : ℕ) → (n ≡ 3 → OutOfOrder told l → P) → (n ≡ 4 → Again told l → P) → (n ≡ 5 → (card ≡ Narrow) × IsWide l → P) → (n ≡ 6 → Exceeds memory (l ∷ told) → P) → Fault card memory told l n → P
  by_fault P l n o a w m (order h k) = o k h
  by_fault P l n o a w m (twice h k) = a k h
  by_fault P l n o a w m (wide c h k) = w k (c, h)
  by_fault P l n o a w m (room h k) = m k h

  -- the number is that of the first condition that holds
  abbrev First : Line → ℕ → Type 0
  First l n = Fault card memory told l n × ((m : ℕ) → m < n → Fault card memory told l m → ⊥)

  abbrev Meant : Line → Verdict → Type 0
  Meant l = Means (OutOfOrder told l) (Again told l) ((card ≡ Narrow) × IsWide l) (Exceeds memory (l ∷ told))

  number_first : (l : Line) (n : ℕ) (v : Verdict) → Meant l v → (n ≡ 0 → ⊥) → number_of v ≡ n → First l n
  number_first l n (Ok x) h least e = absurd (least (sym e))
  number_first l n (Err (Form wrong)) h least e = absurd h
  number_first l n (Err (Order field)) h least e =
      (order h (sym e), λ m k. by_fault ⊥ l m (λ q z. omega arith) (λ q z. omega arith) (λ q z. omega arith) (λ q z. omega arith))
  number_first l n (Err (Twice field)) h least e =
      (twice h.1 (sym e), λ m k. by_fault ⊥ l m (λ q. h.0) (λ q z. omega arith) (λ q z. omega arith) (λ q z. omega arith))
  number_first l n (Err Wide) h least e =
      (wide h.2.0 h.2.1 (sym e), λ m k. by_fault ⊥ l m (λ q. h.0) (λ q. h.1) (λ q z. omega arith) (λ q z. omega arith))
  number_first l n (Err Room) h least e = (room h.3 (sym e), λ m k. by_fault ⊥ l m (λ q. h.0) (λ q. h.1) (λ q. h.2) (λ q z. omega arith))

  first_number : (l : Line) (n : ℕ) (v : Verdict) → Meant l v → First l n → number_of v ≡ n
  first_number l n (Ok x) h f = absurd (by_fault ⊥ l n (λ q. h.0) (λ q. h.1) (λ q. h.2) (λ q. h.3) f.0)
  first_number l n (Err (Form wrong)) h f = absurd h
  first_number l n (Err (Order field)) h f =
      let no : 3 < n → ⊥ = λ k. f.1 3 k (order h refl) in
      by_fault (3 ≡ n) l n (λ q z. sym q) (λ q z. absurd (no (omega arith))) (λ q z. absurd (no (omega arith))) (λ q z. absurd (no (omega arith))) f.0
  first_number l n (Err (Twice field)) h f =
      let no : 4 < n → ⊥ = λ k. f.1 4 k (twice h.1 refl) in
      by_fault (4 ≡ n) l n (λ q z. absurd (h.0 z)) (λ q z. sym q) (λ q z. absurd (no (omega arith))) (λ q z. absurd (no (omega arith))) f.0
  first_number l n (Err Wide) h f =
      let no : 5 < n → ⊥ = λ k. f.1 5 k (wide h.2.0 h.2.1 refl) in
      by_fault (5 ≡ n) l n (λ q z. absurd (h.0 z)) (λ q z. absurd (h.1 z)) (λ q z. sym q) (λ q z. absurd (no (omega arith))) f.0
  first_number l n (Err Room) h f =
      by_fault (6 ≡ n) l n (λ q z. absurd (h.0 z)) (λ q z. absurd (h.1 z)) (λ q z. absurd (h.2 z)) (λ q z. sym q) f.0

  -- a line with no condition is fine
  none_fine : (l : Line) (v : Verdict) → Meant l v → ((n : ℕ) → Fault card memory told l n → ⊥) → v ≡ fine
  none_fine l (Ok x) h none_holds = refl
  none_fine l (Err (Form wrong)) h none_holds = absurd h
  none_fine l (Err (Order field)) h none_holds = absurd (none_holds 3 (order h refl))
  none_fine l (Err (Twice field)) h none_holds = absurd (none_holds 4 (twice h.1 refl))
  none_fine l (Err Wide) h none_holds = absurd (none_holds 5 (wide h.2.0 h.2.1 refl))
  none_fine l (Err Room) h none_holds = absurd (none_holds 6 (room h.3 refl))

  fine_none : (l : Line) → Meant l fine → (n : ℕ) → Fault card memory told l n → ⊥
  fine_none l h n = by_fault ⊥ l n (λ q. h.0) (λ q. h.1) (λ q. h.2) (λ q. h.3)

faultless : (card : Card) (memory : List ℕ) (told : List Line) → Good card (usable memory) told → Faultless card memory told
faultless card memory [] g = tt
faultless card memory (l ∷ told) g =
    (fine_none card memory told l (subst (Meant card memory told l) g.0 (judged card memory told g.1 l)), faultless card memory told g.1)

good : (card : Card) (memory : List ℕ) (told : List Line) → Faultless card memory told → Good card (usable memory) told
good card memory [] f = tt
good card memory (l ∷ told) f =
    let g = good card memory told f.1 in
    (none_fine card memory told l (judge card (usable memory) told l) (judged card memory told g l) f.0, g)

-- the lines that loading finds good are the faultless ones
pub good_iff : (card : Card) (memory : List ℕ) (told : List Line) → Good card (usable memory) told ↔ Faultless card memory told
good_iff card memory told = (faultless card memory told, good card memory told)

-- E. the same of a line's bytes
read_bad : {l : Line} {wrong : Wrong} → Ok l ≡ Err wrong → ⊥
read_bad e = let z : ◌≡◌ {A = ℕ} 0 1 = cc in omega arith

was_ended : (bytes : List ℕ) (ended : Bool) (l : Line) → reading_of bytes ended ≡ Ok l → ended ≡ true
unfolding reading_of
was_ended bytes true l e = refl
was_ended bytes false l e = absurd (read_bad (sym e))

module _ (card : Card) (memory : List ℕ) (told : List Line) (bytes : List ℕ) (ended : Bool) where
  pub condition_least : (n : ℕ) → Condition card memory told bytes ended n → 2 ≤ n
  condition_least n (not_ended e k) = omega arith
  condition_least n (no_line h k) = omega arith
  condition_least n (fault l e r w h) = let k = fault_least card memory told l n h in omega arith

  -- a line that cannot be read has one condition, and one that can be read its four
  only_form : (wrong : Wrong) → reading_of bytes ended ≡ Err wrong → (n : ℕ) → Condition card memory told bytes ended n → n ≡ 2
  only_form wrong e n (not_ended f k) = k
  only_form wrong e n (no_line h k) = k
  only_form wrong e n (fault l t r w h) = absurd (read_bad (sym (ap (reading_of bytes) t ∙ (reads_iff bytes l).1 (r, w)) ∙ e))

  only_fault : (l : Line) → InRange l → bytes ≡ words_of l → ended ≡ true → (n : ℕ) → Condition card memory told bytes ended n → Fault card memory told l n
  only_fault l r w t n (not_ended e k) = absurd (false≢true (sym e ∙ t))
  only_fault l r w t n (no_line h k) = absurd (h l r w)
  only_fault l r w t n (fault m e s x h) = subst (λ y. Fault card memory told y n) (words_only m l s r (sym x ∙ w)) h

  abbrev FirstCondition : ℕ → Type 0
  FirstCondition n = Condition card memory told bytes ended n × ((m : ℕ) → m < n → Condition card memory told bytes ended m → ⊥)

  form_first : (wrong : Wrong) → reading_of bytes ended ≡ Err wrong → FirstCondition 2
  form_first wrong e = (
    ⊎_elim (λ f. not_ended f refl) (λ f. no_line f refl) ((form_iff bytes ended).0 (wrong, e)),
    λ m k c. let q = condition_least m c in omega arith,
  )

  pub condition_iff : Faultless card memory told → (n : ℕ) → (n ≡ 0 → ⊥) → (number_of (verdict_on card (usable memory) told (reading_of bytes ended)) ≡ n) ↔ FirstCondition n
  condition_iff f n least = go (reading_of bytes ended) refl
    where
      go : (r : Reading) → reading_of bytes ended ≡ r → (number_of (verdict_on card (usable memory) told r) ≡ n) ↔ FirstCondition n
      go (Err wrong) e = (λ k. subst FirstCondition k (form_first wrong e), λ h. sym (only_form wrong e n h.0))
      go (Ok l) e =
          let t = was_ended bytes ended l e in
          let r = (reads_iff bytes l).0 (ap (reading_of bytes) (sym t) ∙ e) in
          let h = judged card memory told (good card memory told f) l in
          let only = only_fault l r.0 r.1 t in
          let all : (m : ℕ) → Fault card memory told l m → Condition card memory told bytes ended m = λ m k. fault l t r.0 r.1 k in (
            λ k. let g = number_first card memory told l n (judge card (usable memory) told l) h least k in (all n g.0, λ m i c. g.1 m i (only m c)),
            λ c. first_number card memory told l n (judge card (usable memory) told l) h (only n c.0, λ m i k. c.1 m i (all m k)),
          )
