-- A sound shelf with one unit changed in its queues is sound. Assumes nothing.
use Prim.Native.Nat.{ℕ, ◌<◌, ◌≤◌}
use native.Mathlib.Omega.{arith}
use mathlib.Core.Path.{◌≡◌, refl, sym, ap, subst, ◌∙◌}
use mathlib.Core.Logic.{◌⊎◌, inl, inr, ⊎_elim}
use mathlib.Core.Bool.{Bool, true, false}
use mathlib.Core.List.{List}
use lib.Dec.{eqb, ltb}
use lib.ListN.{length, length-set, get_or, set, length-take}
use lib.Seq.{get_or-set_same, get_or-set_other, set_out, take-set-lt}
use borrow.Author.Tests.{eqb-true, eqb-false, ltb-true, ltb-false}
use Rattle.card.specs.declared.Card.{Card}
use Rattle.outlet.specs.Outlets.{Given, RingFits, RingsFit, capacity, empty}
use Rattle.outlet.specs.declared.Ring.{Ring}
use Rattle.outlet.specs.declared.Outlet.{Outlet}
use Rattle.shelf.specs.Shelves.{declared, blank, waiting, number_of}
use Rattle.shelf.specs.declared.Side.{Side}
use Rattle.shelf.specs.declared.Unit as U
use Rattle.shelf.specs.Shelf.{Shelf}
use Rattle.shelf.proofs.Finding.{declared_at}
use Rattle.soundness.specs.State.{SideFits, UnitSound, DeclaredIn, Sound}
use Rattle.soundness.specs.Admission.{unit_at, with_unit, with_queue}

-- what stands at a place of a list of which one place was set
pub set_or : {A : Type 0} (l : List A) (i : ℕ) (x d : A) (j : ℕ) → ((j ≡ i) × (get_or (set l i x) j d ≡ x)) ⊎ (get_or (set l i x) j d ≡ get_or l j d)
set_or l i x d j = pick (eqb j i) refl
  where
    inside : (b : Bool) → ltb i (length l) ≡ b → j ≡ i → ((j ≡ i) × (get_or (set l i x) j d ≡ x)) ⊎ (get_or (set l i x) j d ≡ get_or l j d)
    inside true h e = inl (e, ap (λ n. get_or (set l i x) n d) e ∙ get_or-set_same l i x d (ltb-true i (length l) h))
    inside false h e = inr (ap (λ m. get_or m j d) (set_out l i x (ltb-false i (length l) h)))

    pick : (b : Bool) → eqb j i ≡ b → ((j ≡ i) × (get_or (set l i x) j d ≡ x)) ⊎ (get_or (set l i x) j d ≡ get_or l j d)
    pick true t = inside (ltb i (length l)) refl (eqb-true j i t)
    pick false t = inr (get_or-set_other l i j x d (eqb-false j i t))

-- a unit with another outlet, another inlet and other places beside its data queues
abbrev pub remade : U.Unit → Outlet → Ring → Side → U.Unit
remade u o r side = record { settings = u.settings; outlet = o; inlet = r; side = side; place = u.place; sessions = u.sessions }

-- a queue of an outlet changed
pub queue_changed : (u : U.Unit) (q : ℕ) (ring : Ring) → RingsFit u.outlet → RingFits ring (capacity u.outlet.limits q) → RingsFit (with_queue u q ring).outlet
queue_changed u q ring fits ok =
    record {
      each = λ r h.
          ⊎_elim
          (λ e. subst (λ x. RingFits x (capacity u.outlet.limits r)) (sym e.1) (subst (λ n. RingFits ring (capacity u.outlet.limits n)) (sym e.0) ok))
          (λ e. subst (λ x. RingFits x (capacity u.outlet.limits r)) (sym e) (fits.each r h))
          (set_or u.outlet.queues q ring empty r);
    }

module _ (card : Card) (bus granted : ℕ) (asks : List ℕ) (u : U.Unit) (o : Outlet) (r : Ring) (side : Side) where
  -- nothing that a grant or a request needs is lost where no fewer cells wait than before
  pub unit_changed : UnitSound card bus granted asks u → Given o.limits → RingsFit o → RingFits r 4 → SideFits side → waiting u ≤ waiting (remade u o r side) → UnitSound card bus granted asks (remade u o r side)
  unit_changed s given fits inlet beside more =
      record {
        below = s.below;
        link = s.link;
        top = s.top;
        least = s.least;
        most = s.most;
        limits = given;
        inlet = inlet;
        queues = fits;
        side = beside;
        grant = λ e. let h = s.grant e in omega arith;
        ask = ⊎_elim (λ e. inl e) (λ e. inr (e.0, let h = e.1 in omega arith)) s.ask;
      }

module _ (card : Card) (shelf : Shelf) (bytes records i : ℕ) (o : Outlet) (r : Ring) (side : Side) (h : i < length (declared shelf)) where
  abbrev old : U.Unit
  old = unit_at shelf i

  abbrev now : Shelf
  now = with_unit shelf i (remade old o r side)

  below_count : i < shelf.count
  below_count = omega (arith, length-take shelf.count shelf.units, h)

  old_is : get_or (declared shelf) i blank ≡ old
  old_is = declared_at shelf i blank below_count

  declared_is : declared now ≡ set (declared shelf) i (remade old o r side)
  declared_is = take-set-lt shelf.count shelf.units i (remade old o r side) below_count

  same_length : length (declared now) ≡ length (declared shelf)
  same_length = ap length declared_is ∙ length-set (declared shelf) i (remade old o r side)

  -- the unit in a place: the changed one, or as it was
  which : (j : ℕ) → ((j ≡ i) × (get_or (declared now) j blank ≡ remade old o r side)) ⊎ (get_or (declared now) j blank ≡ get_or (declared shelf) j blank)
  which j = subst (λ (l : List U.Unit). ((j ≡ i) × (get_or l j blank ≡ remade old o r side)) ⊎ (get_or l j blank ≡ get_or (declared shelf) j blank)) (sym declared_is) (set_or (declared shelf) i (remade old o r side) blank j)

  same_number : (j : ℕ) → number_of (get_or (declared now) j blank) ≡ number_of (get_or (declared shelf) j blank)
  same_number j =
      ⊎_elim
      (λ e. ap number_of e.1 ∙ ap number_of (sym old_is) ∙ ap (λ n. number_of (get_or (declared shelf) n blank)) (sym e.0))
      (λ e. ap number_of e)
      (which j)

  still_declared : (n : ℕ) → DeclaredIn (declared shelf) n → DeclaredIn (declared now) n
  still_declared n d = (d.0, subst (λ m. d.0 < m) (sym same_length) d.1, same_number d.0 ∙ d.2)

  pub shelf_changed : Sound card shelf bytes records → Given o.limits → RingsFit o → RingFits r 4 → SideFits side → waiting old ≤ waiting (remade old o r side) → Sound card now bytes records
  shelf_changed s given fits inlet beside more =
      record {
        bus = s.bus;
        count = s.count;
        store = s.store;
        rows = s.rows;
        once = λ a b l k e. s.once a b l (subst (λ m. b < m) same_length k) (sym (same_number a) ∙ e ∙ same_number b);
        units = λ j k.
            ⊎_elim
            (λ e. subst (λ u. UnitSound card shelf.bus shelf.granted shelf.arbiter.asks u) (sym e.1)
            (unit_changed card shelf.bus shelf.granted shelf.arbiter.asks old o r side (subst (λ u. UnitSound card shelf.bus shelf.granted shelf.arbiter.asks u) old_is (s.units i h)) given fits inlet beside more))
            (λ e. subst (λ u. UnitSound card shelf.bus shelf.granted shelf.arbiter.asks u) (sym e) (s.units j (subst (λ m. j < m) same_length k)))
            (which j);
        granted = ⊎_elim (λ e. inl e) (λ d. inr (still_declared shelf.granted d)) s.granted;
        last = λ p k. ⊎_elim (λ e. inl e) (λ d. inr (still_declared (get_or shelf.arbiter.last p 0) d)) (s.last p k);
        asks = λ n f. s.asks n (λ d. f (still_declared n d));
      }
