-- Who is let in, of lent bytes, and what an event that is let in may count on. Assumes nothing.
use Rattle.std.proofs.Common.{◌≡◌, ℕ, ◌<◌, Bool, true, false, cond, ◌&&◌, List, get_or, sym, refl, ap, ◌∙◌, subst, arith, length-take, None, Option, Some, Err, Ok}
use mathlib.Core.Logic.Iff
use Rattle.card.specs.declared.Card.{Card}
use Rattle.outlet.proofs.Truth.{and_iff}
use Rattle.shelf.specs.Shelves.{declared, blank, find_in}
use Rattle.shelf.proofs.Finding.{find_at}
use Rattle.state.specs.Bytes.{unit_in, shelf_in}
use Rattle.state.proofs.Laws.{unit_at_lem}
use Rattle.soundness.specs.State.{sound_of}
use Rattle.soundness.specs.Soundings.{formed_all, sound_in}
use Rattle.soundness.specs.Admission.{at_unit, admitted, admitted_in, formed_or, decided, counted_in, Housed}
use Rattle.soundness.proofs.Laws.{stranger, misfit, let_in, LetIn, at_let_in, let_in_housed, decided_at, decided_refused}

-- bytes that are a state, and a sound one
pub sound_in_lem : (card : Card) (b : List ℕ) (store rows : ℕ) → sound_in card b store rows ≡ true → (formed_all b ≡ true) × (sound_of card (shelf_in b) store rows ≡ true)
unfolding sound_in
sound_in_lem card b store rows e = (and_iff (Iff.rfl {A = formed_all b ≡ true}) (Iff.rfl {A = sound_of card (shelf_in b) store rows ≡ true})).0 e

module _ (card : Card) (b : List ℕ) (store rows unit : ℕ) (right : Bool) where
  -- bytes that are a state are let in as their shelf is, others are not
  pub formed_in : formed_all b ≡ true → admitted_in card b store rows unit right ≡ admitted card (shelf_in b) store rows unit right
  unfolding admitted_in
  formed_in e = rw e

  pub unformed_in : formed_all b ≡ false → admitted_in card b store rows unit right ≡ Err 8
  unfolding admitted_in
  unformed_in e = rw e

  -- the four ways through, in 01's order
  pub unsound_in : sound_in card b store rows ≡ false → admitted_in card b store rows unit right ≡ Err 8
  unfolding admitted_in sound_in admitted
  unsound_in e = pick (formed_all b) (sound_of card (shelf_in b) store rows) e
    where
      pick : (f s : Bool) → (f && s) ≡ false → cond f (cond s (at_unit (find_in (declared (shelf_in b)) unit) right) (Err 8)) (Err 8) ≡ Err 8
      pick true true h = absurd (let z : ◌≡◌ {A = ℕ} 0 1 = cc in omega arith)
      pick true false h = refl
      pick false s h = refl

  module _ (e : sound_in card b store rows ≡ true) where
    pub stranger_in : find_in (declared (shelf_in b)) unit ≡ None → admitted_in card b store rows unit right ≡ Err 9
    stranger_in f = let s = sound_in_lem card b store rows e in formed_in s.0 ∙ stranger card (shelf_in b) store rows unit right s.1 f

    pub misfit_in : (i : ℕ) → find_in (declared (shelf_in b)) unit ≡ Some i → right ≡ false → admitted_in card b store rows unit right ≡ Err 10
    misfit_in i f r = let s = sound_in_lem card b store rows e in formed_in s.0 ∙ misfit card (shelf_in b) store rows unit right i s.1 f r

    pub comes_in : (i : ℕ) → find_in (declared (shelf_in b)) unit ≡ Some i → right ≡ true → admitted_in card b store rows unit right ≡ Ok i
    comes_in i f r = let s = sound_in_lem card b store rows e in formed_in s.0 ∙ let_in card (shelf_in b) store rows unit right i s.1 f r

-- an event that is let in at a place: the bytes are a state, their shelf lets it in, and the unit has its part of the store and its row
pub record LetInPlace (card : Card) (b : List ℕ) (store rows unit : ℕ) (right : Bool) (i : ℕ) : Type 0 where
  pub formed : formed_all b ≡ true
  pub shelf : admitted card (shelf_in b) store rows unit right ≡ Ok i
  pub let_in : LetIn card (shelf_in b) store rows unit right i
  pub below : i < 32
  pub housed : Housed i (unit_in b i) store
  pub row : i < rows

module _ (card : Card) (b : List ℕ) (store rows unit : ℕ) (right : Bool) (i : ℕ) where
  pub in_place : admitted_in card b store rows unit right ≡ Ok i → LetInPlace card b store rows unit right i
  unfolding admitted_in
  in_place e = pick (formed_all b) refl e
    where
      pick : (f : Bool) → formed_all b ≡ f → cond f (admitted card (shelf_in b) store rows unit right) (Err 8) ≡ Ok i → LetInPlace card b store rows unit right i
      pick true ef h =
          let l = at_let_in card (shelf_in b) store rows unit right i h in
          let w = let_in_housed card (shelf_in b) store rows unit right i l in
          record {
            formed = ef;
            shelf = h;
            let_in = l;
            below = w.0.below;
            housed = subst (λ u. Housed i u store) (unit_at_lem b i blank w.0.below) w.0;
            row = w.1;
          }
      pick false ef h = absurd (let z : ◌≡◌ {A = ℕ} 0 1 = cc in omega arith)

  pub below_count : LetInPlace card b store rows unit right i → i < get_or b 805 0
  below_count l =
      let e = ((find_at unit (declared (shelf_in b)) i).0 l.let_in.found).inside in
      omega (arith, length-take (get_or b 805 0) (shelf_in b).units)

  -- and one that is refused with a number
  pub refused_place : (n : ℕ) → admitted_in card b store rows unit right ≡ Err n → (formed_all b ≡ true → admitted card (shelf_in b) store rows unit right ≡ Err n) × (formed_all b ≡ false → n ≡ 8)
  refused_place n e = (λ f. sym (formed_in card b store rows unit right f) ∙ e, λ f. let q : Err 8 ≡ Err n = sym (unformed_in card b store rows unit right f) ∙ e in cc)

-- what comes of an event by the shelf that lent bytes are, where the bytes let it in at a place, and where they do not
module _ {X Y : Type 0} (f : X → Y) (inside outside : ℕ → X) (bad : Y) (card : Card) (b : List ℕ) (store rows unit : ℕ) (right : Bool) where
  by_shelf : formed_all b ≡ true → f (decided (admitted card (shelf_in b) store rows unit right) inside outside) ≡ formed_or b (f (decided (admitted card (shelf_in b) store rows unit right) inside outside)) bad
  by_shelf e = rw e

  pub came_in : (i : ℕ) → admitted_in card b store rows unit right ≡ Ok i → f (inside i) ≡ formed_or b (f (decided (admitted card (shelf_in b) store rows unit right) inside outside)) bad
  came_in i e = let w = in_place card b store rows unit right i e in ap f (decided_at inside outside _ i w.shelf) ∙ by_shelf w.formed

  pub kept_out : (n : ℕ) → admitted_in card b store rows unit right ≡ Err n → f (outside 8) ≡ bad → f (outside n) ≡ formed_or b (f (decided (admitted card (shelf_in b) store rows unit right) inside outside)) bad
  kept_out n e h = pick (formed_all b) refl
    where
      w : (formed_all b ≡ true → admitted card (shelf_in b) store rows unit right ≡ Err n) × (formed_all b ≡ false → n ≡ 8)
      w = refused_place card b store rows unit right 0 n e

      pick : (t : Bool) → formed_all b ≡ t → f (outside n) ≡ cond t (f (decided (admitted card (shelf_in b) store rows unit right) inside outside)) bad
      pick true t = ap f (decided_refused inside outside _ n (w.0 t))
      pick false t = ap (λ m. f (outside m)) (w.1 t) ∙ h

-- which row a count reads
module _ (card : Card) (b : List ℕ) (store rows unit : ℕ) where
  -- no refusal has the number 0
  numbered : (n : ℕ) → admitted_in card b store rows unit true ≡ Err n → n ≡ 0 → ⊥
  unfolding admitted_in admitted at_unit
  numbered n e none = pick (formed_all b) (sound_of card (shelf_in b) store rows) (find_in (declared (shelf_in b)) unit) e
    where
      pick : (f s : Bool) (w : Option ℕ) → cond f (cond s (at_unit w true) (Err 8)) (Err 8) ≡ Err n → ⊥
      pick true true (Some i) h = let z : ◌≡◌ {A = ℕ} 0 1 = cc in omega arith
      pick true true None h = let z : 9 ≡ n = cc in omega arith
      pick true false w h = let z : 8 ≡ n = cc in omega arith
      pick false s w h = let z : 8 ≡ n = cc in omega arith

  -- where the unit is let in its row is there
  pub row_there : (i : ℕ) → counted_in card b store rows unit ≡ Ok i → (i < 32) × (i < rows)
  row_there i inside = let w = in_place card b store rows unit true i inside in (w.below, w.row)
