-- One unit changes, on both. Assumes nothing.
use Prim.Native.Nat.{ℕ, ◌<◌, min}
use native.Mathlib.Omega.{arith}
use mathlib.Core.Path.{◌≡◌, sym, ap, subst, ◌∙◌}
use mathlib.Core.Logic.{◌≢◌}
use mathlib.Core.List.{List}
use lib.Dec.{eqb}
use lib.ListN.{length, length-take, length-set, get_or, set}
use lib.Seq.{get_or-set_same, get_or-set_other}
use borrow.Author.Tests.{eqb-true, eqb-false}
use Rattle.card.specs.declared.Card.{Card}
use Rattle.shelf.specs.Shelves as S
use Rattle.shelf.specs.declared.Unit as U
use Rattle.shelf.specs.Shelf.{Shelf}
use Rattle.meaning.proofs.Grown.{decide}
use Rattle.soundness.specs.Admission.{unit_at, with_unit}
use Rattle.document.specs.Counters.{Entry}
use Rattle.document.specs.Shelf as D
use Rattle.refining.proofs.Alike.{UnitAlike, Known, Alike}

module _ (card : Card) (shelf : Shelf) (memory store : List ℕ) (d : D.Shelf) (a : Alike card shelf memory store d) (i : ℕ) (here : i < length d.units) where
  inside : i < length shelf.units
  inside = omega (arith, length-take shelf.count shelf.units, a.many, here)

  -- the unit in a place becomes another, on both, and the others stay alike in the store as it is then
  pub changed : (u : U.Unit) (e : D.Unit) (after : List ℕ) (happened : List Entry) → UnitAlike after i u e → Known card memory d.lines u →
      ((j : ℕ) → j < length d.units → j ≢ i → UnitAlike after j (unit_at shelf j) (D.unit_at d j)) →
      Alike card (with_unit shelf i u) memory after (D.after d i e happened)
  changed u e after happened new knows others =
      record {
        many =
            length-take shelf.count (set shelf.units i u) ∙ ap (min shelf.count) (length-set shelf.units i u)
            ∙ sym (length-take shelf.count shelf.units) ∙ a.many ∙ sym (length-set d.units i e);
        counted = a.counted ∙ sym (length-set d.units i e);
        units = λ j h. by_place j (subst (λ n. j < n) (length-set d.units i e) h);
        known = λ j h. knows_place j (subst (λ n. j < n) (length-set d.units i e) h);
        ranged = a.ranged;
        bus = a.bus;
        arbiter = a.arbiter;
        granted = a.granted;
        frame = a.frame;
      }
    where
      same_real : get_or (set shelf.units i u) i S.blank ≡ u
      same_real = get_or-set_same shelf.units i u S.blank inside

      same_paper : get_or (set d.units i e) i D.blank ≡ e
      same_paper = get_or-set_same d.units i e D.blank here

      by_place : (j : ℕ) → j < length d.units → UnitAlike after j (get_or (set shelf.units i u) j S.blank) (get_or (set d.units i e) j D.blank)
      by_place j h =
          decide (eqb j i)
          (λ t.
          let q = eqb-true j i t in
          subst (λ k. UnitAlike after k (get_or (set shelf.units i u) k S.blank) (get_or (set d.units i e) k D.blank)) (sym q)
          (subst (λ x. UnitAlike after i x (get_or (set d.units i e) i D.blank)) (sym same_real) (subst (λ y. UnitAlike after i u y) (sym same_paper) new)))
          (λ t.
          let q = eqb-false j i t in
          subst (λ x. UnitAlike after j x (get_or (set d.units i e) j D.blank)) (sym (get_or-set_other shelf.units i j u S.blank q))
          (subst (λ y. UnitAlike after j (unit_at shelf j) y) (sym (get_or-set_other d.units i j e D.blank q)) (others j h q)))

      knows_place : (j : ℕ) → j < length d.units → Known card memory d.lines (get_or (set shelf.units i u) j S.blank)
      knows_place j h =
          decide (eqb j i)
          (λ t.
          let q = eqb-true j i t in
          subst (λ k. Known card memory d.lines (get_or (set shelf.units i u) k S.blank)) (sym q) (subst (Known card memory d.lines) (sym same_real) knows))
          (λ t. subst (Known card memory d.lines) (sym (get_or-set_other shelf.units i j u S.blank (eqb-false j i t))) (a.known j h))
