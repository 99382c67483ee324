-- The same unit is found on both, or none. Assumes nothing.
use Rattle.std.specs.Prelude.{Some}
use Prim.Native.Nat.{ℕ, ◌<◌}
use native.Mathlib.Omega.{arith}
use mathlib.Core.Path.{◌≡◌, refl, sym, ap, ◌∙◌}
use mathlib.Core.List.{List, [], ◌∷◌, map}
use lib.ListN.{length, length-take, get_or, get_or-map}
use lib.Seq.{ext_get_or}
use Rattle.card.specs.declared.Card.{Card}
use Rattle.shelf.specs.Shelves as S
use Rattle.shelf.specs.Shelf.{Shelf}
use Rattle.shelf.proofs.Finding.{declared_at, find_at}
use Rattle.soundness.specs.Admission.{unit_at}
use Rattle.document.specs.Shelf as D
use Rattle.refining.proofs.Alike.{Alike}

pub length_map : {X Y : Type 0} (f : X → Y) (l : List X) → length (map f l) ≡ length l
length_map f [] = refl
length_map f (x ∷ l) = let h = length_map f l in omega arith

module _ (card : Card) (shelf : Shelf) (memory store : List ℕ) (d : D.Shelf) (a : Alike card shelf memory store d) where
  -- a declared unit stands in its place
  pub below_count : (i : ℕ) → i < length d.units → i < shelf.count
  below_count i h = omega (arith, length-take shelf.count shelf.units, a.many, h)

  pub declared_is : (i : ℕ) → i < length d.units → get_or (S.declared shelf) i S.blank ≡ unit_at shelf i
  declared_is i h = declared_at shelf i S.blank (below_count i h)

  numbers_alike : S.numbers (S.declared shelf) ≡ map D.number_of d.units
  numbers_alike =
      ext_get_or 0 (S.numbers (S.declared shelf)) (map D.number_of d.units) (length_map S.number_of (S.declared shelf) ∙ a.many ∙ sym (length_map D.number_of d.units))
      (λ i h.
      let few : i < length d.units = omega (arith, h, length_map S.number_of (S.declared shelf), a.many) in
      get_or-map S.number_of (S.declared shelf) i S.blank ∙ ap S.number_of (declared_is i few) ∙ ap (λ x. x.number) (a.units i few).settings
      ∙ sym (get_or-map D.number_of d.units i D.blank))

  pub find_alike : (n : ℕ) → S.find_in (S.declared shelf) n ≡ D.find_in d.units n
  unfolding S.find_in
  find_alike n = ap (λ l. S.place_from 0 l n) numbers_alike

  -- where a unit is found there is one
  pub found_below : (n i : ℕ) → S.find_in (S.declared shelf) n ≡ Some i → i < length d.units
  found_below n i e = let f = ((find_at n (S.declared shelf) i).0 e).inside in omega (arith, f, a.many)
