-- What a note says: whether the state is sound, and which unit has the number. Assumes nothing.
use Rattle.std.proofs.Common.{◌≡◌, ℕ, Bool, true, false, cond, not, eqb, List, get_or, sym, refl, ap, ◌∙◌, arith, ne_eqb, None, Option, Some}
use Rattle.card.specs.declared.Card.{Card}
use Rattle.shelf.specs.Shelves.{declared, blank, number_of, find_in}
use Rattle.shelf.specs.declared.Unit as U
use Rattle.shelf.proofs.Finding.{declared_length, find_at}
use Rattle.state.specs.Bytes.{shelf_in}
use Rattle.state.proofs.Laws.{units_length}
use Rattle.soundness.specs.Numbered.{note_of, place_in}
use Rattle.soundness.specs.Soundings.{sound_in, looked}
use Rattle.soundness.proofs.Pass.{priority_of, cells_of}
use Rattle.soundness.proofs.Numbered.{stands_most}

module _ (card : Card) (b : List ℕ) (store rows unit : ℕ) where
  abbrev us : List U.Unit
  us = declared (shelf_in b)

  abbrev granted : ℕ
  granted = get_or b 803 0

  -- no note is 1
  other : note_of granted us (find_in us unit) ≡ 1 → ⊥
  unfolding note_of
  other = pick (find_in us unit)
    where
      pick : (f : Option ℕ) → note_of granted us f ≡ 1 → ⊥
      pick (Some i) e = omega arith
      pick None e = omega arith

  pub note_sound : not (eqb (looked card b store rows unit) 1) ≡ sound_in card b store rows
  unfolding looked
  note_sound = pick (sound_in card b store rows)
    where
      pick : (s : Bool) → not (eqb (cond s (note_of granted us (find_in us unit)) 1) 1) ≡ s
      pick true = ap not (ne_eqb (note_of granted us (find_in us unit)) 1 other)
      pick false = refl

  module _ (note : ℕ) (e : note ≡ looked card b store rows unit) where
    pub note_bad : note ≡ 1 → sound_in card b store rows ≡ false
    note_bad h = sym note_sound ∙ ap (λ n. not (eqb n 1)) (sym e ∙ h)

    pub note_good : (note ≡ 1 → ⊥) → sound_in card b store rows ≡ true
    note_good h = sym note_sound ∙ ap (λ n. not (eqb n 1)) (sym e) ∙ ap not (ne_eqb note 1 h)

    module _ (s : sound_in card b store rows ≡ true) where
      by : (f : Option ℕ) → find_in us unit ≡ f → note ≡ note_of granted us f
      unfolding looked
      by f g = e ∙ ap (λ x. cond x (note_of granted us (find_in us unit)) 1) s ∙ ap (note_of granted us) g

      -- of a unit more than nothing is noted
      pub note_nobody : note ≡ 0 → find_in us unit ≡ None
      unfolding note_of
      note_nobody z = pick (find_in us unit) refl
        where
          pick : (f : Option ℕ) → find_in us unit ≡ f → find_in us unit ≡ None
          pick (Some i) g = let n = by (Some i) g in absurd (omega arith)
          pick None g = g

      pub note_place : (note ≡ 0 → ⊥) → find_in us unit ≡ Some (place_in note)
      unfolding note_of
      note_place h = pick (find_in us unit) refl
        where
          pick : (f : Option ℕ) → find_in us unit ≡ f → find_in us unit ≡ Some (place_in note)
          pick (Some i) g =
              let u = get_or us i blank in
              let h = ((find_at unit us i).0 g).inside in
              let l = declared_length (shelf_in b) (units_length b 0 32) in
              let most = stands_most (priority_of u) (cells_of u) (number_of u) granted in
              let n = by (Some i) g in
              let place : i ≡ place_in note = omega arith in
              g ∙ ap Some place
          pick None g = absurd (h (by None g))
