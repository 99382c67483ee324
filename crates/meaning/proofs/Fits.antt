-- What a line that is fine says of the lines before it. Assumes nothing.
use Rattle.std.specs.Prelude.{Some, Err, Ok, None, Option}
use mathlib.Core.Path.{◌≡◌, refl, sym}
use mathlib.Core.Bool.{Bool, true, false, cond, false≢true}
use mathlib.Core.List.{List, [], ◌∷◌}
use Prim.Native.Nat.{ℕ, ◌+◌, ◌*◌, ◌<◌, ◌≤◌}
use native.Mathlib.Omega.{arith}
use lib.Dec.{leb, ltb}
use borrow.Author.Tests.{leb-true, leb-false, ltb-false}
use Rattle.bus.specs.declared.Target.{Target}
use Rattle.card.specs.Cards.{holds}
use Rattle.card.specs.declared.Card.{Card}
use Rattle.card.specs.declared.Ask.TheVariants.{Bus as A-as-Bus, On, Out}
use Rattle.lookup.specs.Record.{size}
use Rattle.lookup.specs.declared.Record as R
use Rattle.lookup.specs.declared.Record.TheVariants.{Empty, Drop as R-as-Drop, Route, Page as R-as-Page}
use Rattle.outlet.specs.declared.Limits.{Limits}
use Rattle.shelf.specs.declared.Settings.{Settings}
use Rattle.line.specs.declared.Line.{Line}
use Rattle.line.specs.declared.Line.TheVariants.{Bus, Unit as L-as-Unit, Vp, Drop, Page, Vc, Mc}
use Rattle.judge.specs.declared.Fault.TheVariants.{Order, Twice, Wide, Room}
use Rattle.judge.specs.Verdicts.{fine, Verdict, asked, room_for, off_bus, taken, page_in}
use Rattle.judge.specs.Judge.{in_page, judge_bus, judge_unit, judge_vp, judge_drop, judge_page, judge_vc, judge_mc}
use Rattle.meaning.specs.Told.{of_unit, of_page, top_of, hears_in, total, record_of, shelf_of}
use Rattle.meaning.specs.Lines.{started, is_first, owned, is_declared, judge}

-- verdicts told apart
pub order_fine : {f : ℕ} → Err (Order f) ≡ fine → ⊥
order_fine e = let z : ◌≡◌ {A = ℕ} 0 1 = cc in omega arith

pub twice_fine : {f : ℕ} → Err (Twice f) ≡ fine → ⊥
twice_fine e = let z : ◌≡◌ {A = ℕ} 0 1 = cc in omega arith

pub wide_fine : (Err Wide) ≡ fine → ⊥
wide_fine e = let z : ◌≡◌ {A = ℕ} 0 1 = cc in omega arith

room_fine : (Err Room) ≡ fine → ⊥
room_fine e = let z : ◌≡◌ {A = ℕ} 0 1 = cc in omega arith

-- a test that would have ended otherwise did not hold; one that was wanted did
past : (b : Bool) (x y : Verdict) → (x ≡ fine → ⊥) → cond b x y ≡ fine → (b ≡ false) × (y ≡ fine)
past true x y bad e = absurd (bad e)
past false x y bad e = (refl, e)

kept : (b : Bool) (x y : Verdict) → (y ≡ fine → ⊥) → cond b x y ≡ fine → (b ≡ true) × (x ≡ fine)
kept true x y bad e = (refl, e)
kept false x y bad e = absurd (bad e)

pub begun : (told : List Line) (x : Verdict) → started told x ≡ fine → (is_first told ≡ false) × (x ≡ fine)
begun [] x e = absurd (order_fine e)
begun (l ∷ told) x e = (refl, e)

owner : (o : Option ℕ) (k : ℕ → Verdict) → owned o k ≡ fine → (top : ℕ) × (o ≡ Some top) × (k top ≡ fine)
owner None k e = absurd (order_fine e)
owner (Some top) k e = (top, refl, e)

pub free : (r : R.Record) → taken (Some r) ≡ false → r ≡ Empty
free Empty e = refl
free R-as-Drop e = absurd (false≢true (sym e))
free (Route h v w) e = absurd (false≢true (sym e))
free (R-as-Page t p) e = absurd (false≢true (sym e))

undeclared : (o : Option ℕ) → is_declared o ≡ false → o ≡ None
undeclared None e = refl
undeclared (Some top) e = absurd (false≢true (sym e))

-- in the page: its top and place, and what was asked after
paged : (r : R.Record) (vci : ℕ) (rest : Verdict) → in_page (page_in (Some r)) vci rest ≡ fine → (top : ℕ) × (place : ℕ) × (r ≡ R-as-Page top place) × (vci ≤ top) × (rest ≡ fine)
paged Empty vci rest e = absurd (order_fine e)
paged R-as-Drop vci rest e = absurd (order_fine e)
paged (Route h v w) vci rest e = absurd (order_fine e)
paged (R-as-Page top place) vci rest e = let p = past (ltb top vci) (Err (Order 4)) rest order_fine e in (top, place, refl, ltb-false top vci p.0, p.1)

-- A line may stand at a VPI of a declared unit that has nothing yet, or at a VCI of a page that has nothing yet
pub record AtPath (told : List Line) (u v : ℕ) : Type 0 where
  pub top : ℕ
  pub declared : top_of told (of_unit u) ≡ Some top
  pub within : v ≤ top
  pub vacant : record_of told (of_unit u) v ≡ Empty

pub record AtCircuit (told : List Line) (u v w : ℕ) : Type 0 where
  pub top : ℕ
  pub declared : top_of told (of_unit u) ≡ Some top
  pub within : v ≤ top
  pub pagetop : ℕ
  pub place : ℕ
  pub page : record_of told (of_unit u) v ≡ R-as-Page pagetop place
  pub inpage : w ≤ pagetop
  pub vacant : record_of told (of_page u v) w ≡ Empty

-- A unit or a page may be opened where there is room for its records
roomy : (room used n : ℕ) → room_for room used n ≡ fine → used + size * n ≤ room
roomy room used n e = leb-true _ _ (kept (leb (used + size * n) room) fine (Err Room) room_fine e).0

module _ (card : Card) (room : ℕ) (told : List Line) where
  pub fine_bus : (bus : ℕ) → judge card room told (Bus bus) ≡ fine → (is_first told ≡ true) × (holds card (A-as-Bus bus) ≡ true)
  unfolding judge judge_bus
  fine_bus bus e =
      let p = kept (is_first told) (asked card (A-as-Bus bus) fine) (Err (Order 1)) order_fine e in
      (p.0, (kept (holds card (A-as-Bus bus)) fine (Err Wide) wide_fine p.1).0)

  pub record UnitFine (settings : Settings) : Type 0 where
    pub begun : is_first told ≡ false
    pub below : settings.number < (shelf_of told).bus
    pub new : top_of told (of_unit settings.number) ≡ None
    pub held : holds card (On settings.link) ≡ true
    pub roomy : size * total told + size * (settings.top + 1) ≤ room

  pub fine_unit : (settings : Settings) (limits : Limits) → judge card room told (L-as-Unit settings limits) ≡ fine → UnitFine settings
  unfolding judge judge_unit
  fine_unit settings limits e =
      let p = begun told _ e in
      let q = past (leb (shelf_of told).bus settings.number) (Err (Order 2)) _ order_fine p.1 in
      let d = past (is_declared (top_of told (of_unit settings.number))) (Err (Twice 2)) _ twice_fine q.1 in
      let h = kept (holds card (On settings.link)) _ (Err Wide) wide_fine d.1 in
      record {
        begun = p.0;
        below = leb-false _ _ q.0;
        new = undeclared _ d.0;
        held = h.0;
        roomy = roomy room (size * total told) (settings.top + 1) h.1;
      }

  -- the VPI of a declared unit, where nothing stands yet
  at_path : (u v : ℕ) (k : ℕ → Verdict) → started told (owned (top_of told (of_unit u)) λ top. cond (ltb top v) (Err (Order 3)) (cond (taken (Some (record_of told (of_unit u) v))) (Err (Twice 3)) (k top))) ≡ fine → AtPath told u v × ((top : ℕ) × (k top ≡ fine))
  at_path u v k e =
      let o = owner (top_of told (of_unit u)) _ (begun told _ e).1 in
      let w = past (ltb o.0 v) (Err (Order 3)) _ order_fine o.2 in
      let t = past (taken (Some (record_of told (of_unit u) v))) (Err (Twice 3)) _ twice_fine w.1 in
      (record { top = o.0; declared = o.1; within = ltb-false _ _ w.0; vacant = free _ t.0 }, (o.0, t.1))

  pub fine_drop : (u v : ℕ) → judge card room told (Drop u v) ≡ fine → AtPath told u v
  unfolding judge judge_drop
  fine_drop u v e = (at_path u v (λ top. fine) e).0

  pub fine_page : (u v topvci : ℕ) → judge card room told (Page u v topvci) ≡ fine → AtPath told u v × (size * total told + size * (topvci + 1) ≤ room)
  unfolding judge judge_page
  fine_page u v topvci e =
      let p = at_path u v (λ top. room_for room (size * total told) (topvci + 1)) e in
      (p.0, roomy room (size * total told) (topvci + 1) p.1.1)

  pub fine_vp : (u v : ℕ) (target : Target) (class outvpi : ℕ) → judge card room told (Vp u v target class outvpi) ≡ fine → AtPath told u v × (holds card (Out outvpi) ≡ true)
  unfolding judge judge_vp
  fine_vp u v target class outvpi e =
      let o = owner (top_of told (of_unit u)) _ (begun told _ e).1 in
      let w = past (ltb o.0 v) (Err (Order 3)) _ order_fine o.2 in
      let b = past (off_bus (shelf_of told).bus target) (Err (Order 4)) _ order_fine w.1 in
      let t = past (taken (Some (record_of told (of_unit u) v))) (Err (Twice 3)) _ twice_fine b.1 in (
        record { top = o.0; declared = o.1; within = ltb-false _ _ w.0; vacant = free _ t.0 },
        (kept (holds card (Out outvpi)) fine (Err Wide) wide_fine t.1).0,
      )

  pub fine_vc : (u v w : ℕ) (target : Target) (class outvpi outvci : ℕ) → judge card room told (Vc u v w target class outvpi outvci) ≡ fine → AtCircuit told u v w × (holds card (Out outvpi) ≡ true)
  unfolding judge judge_vc
  fine_vc u v w target class outvpi outvci e =
      let o = owner (top_of told (of_unit u)) _ (begun told _ e).1 in
      let q = past (ltb o.0 v) (Err (Order 3)) _ order_fine o.2 in
      let p = paged (record_of told (of_unit u) v) w _ q.1 in
      let b = past (off_bus (shelf_of told).bus target) (Err (Order 5)) _ order_fine p.4 in
      let t = past (taken (Some (record_of told (of_page u v) w))) (Err (Twice 4)) _ twice_fine b.1 in (
        record {
          top = o.0;
          declared = o.1;
          within = ltb-false _ _ q.0;
          pagetop = p.0;
          place = p.1;
          page = p.2;
          inpage = p.3;
          vacant = free _ t.0;
        },
        (kept (holds card (Out outvpi)) fine (Err Wide) wide_fine t.1).0,
      )

  pub fine_mc : (u session : ℕ) → judge card room told (Mc u session) ≡ fine → (top : ℕ) × (top_of told (of_unit u) ≡ Some top) × (hears_in told u session ≡ false)
  unfolding judge judge_mc
  fine_mc u session e =
      let o = owner (top_of told (of_unit u)) _ (begun told _ e).1 in
      (o.0, o.1, (past (hears_in told u session) (Err (Twice 3)) fine twice_fine o.2).0)
