-- What a function says of the rest of a line is what is said of more of it. Assumes nothing.
use Prim.Native.Nat.{ℕ, suc}
use mathlib.Core.Path.{◌≡◌, ◌∙◌}
use mathlib.Core.List.{List, [], ◌∷◌}
use Rattle.header.specs.declared.Link.{Link}
use Rattle.outlet.specs.declared.Mode.{Mode}
use Rattle.text.specs.Text.{at, fields_of, after_of, from2, from4, from6, from7}
use Rattle.text.proofs.Split.{after_fields}
use Rattle.line.specs.Units.{settings_on, limits_in, limits_of}

-- one field further, two, and four
module _ (t s : List ℕ) (e : t ≡ after_of s) where
  pub limits_in_rest : (mode : Mode) → limits_in (from7 (fields_of t)) mode ≡ limits_in (from6 (fields_of s)) mode
  unfolding limits_in
  limits_in_rest mode =
      let p = after_fields t s e in
      λ i. limits_in ([] ∷ [] ∷ [] ∷ [] ∷ [] ∷ [] ∷ p 0 i ∷ p 1 i ∷ p 2 i ∷ p 3 i ∷ []) mode

module _ (t u s : List ℕ) (d : t ≡ after_of u) (e : u ≡ after_of s) where
  pub second_fields : (k : ℕ) → at (fields_of t) k ≡ at (fields_of s) (suc (suc k))
  second_fields k = after_fields t u d k ∙ after_fields u s e (suc k)

  pub settings_on_rest : (number : ℕ) (link : Link) → settings_on (from4 (fields_of t)) number link ≡ settings_on (from2 (fields_of s)) number link
  unfolding settings_on
  settings_on_rest number link = λ i. settings_on ([] ∷ [] ∷ [] ∷ second_fields 0 i ∷ second_fields 1 i ∷ []) number link

module _ (t u v w s : List ℕ) (a : t ≡ after_of u) (b : u ≡ after_of v) (c : v ≡ after_of w) (d : w ≡ after_of s) where
  pub fourth_fields : (k : ℕ) → at (fields_of t) k ≡ at (fields_of s) (suc (suc (suc (suc k))))
  fourth_fields k = second_fields t u v a b k ∙ second_fields v w s c d (suc (suc k))

  pub limits_rest : limits_of (from6 (fields_of t)) ≡ limits_of (from2 (fields_of s))
  unfolding limits_of limits_in
  limits_rest = λ i. limits_of (from6 (fourth_fields 0 i ∷ fourth_fields 1 i ∷ fourth_fields 2 i ∷ fourth_fields 3 i ∷ fourth_fields 4 i ∷ []))
