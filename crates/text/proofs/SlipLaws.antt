-- The laws of a byte in a line and at its end. Assumes nothing.
use mathlib.Core.Path.{◌≡◌, refl, sym, ap, ◌∙◌}
use mathlib.Core.Bool.{◌||◌}
use mathlib.Core.List.{List, [], ◌∷◌}
use Prim.Native.Nat.{ℕ, ◌-◌}
use native.Mathlib.Numerals.{unary_clauses}
use native.Mathlib.Omega.{arith}
use lib.Dec.{eqb}
use lib.ListN.{length, get_or}
use denote.Ref.{Bor}
use Rattle.std.specs.Prelude.{Option, None, Some}
use Rattle.std.specs.Option.{option_copied, option_eq}
use Rattle.std.specs.List.{list_any, slice_get}
use Rattle.std.proofs.lemmas.Option.{none-some, get_or_from_slice_get, slice_get-get_or}
use Rattle.text.specs.Slips.{has, ends_in}

-- what `contains` says
pub any_has : (byte : ℕ) (s : List ℕ) → list_any (λ b. eqb b byte) s ≡ has byte s
unfolding has
any_has byte [] = refl
any_has byte (b ∷ r) = ap (λ t. eqb b byte || t) (any_has byte r)

-- the last byte by its place
last_of : (byte b : ℕ) (r : List ℕ) → eqb (get_or (b ∷ r) (length r) 0) byte ≡ ends_in byte (b ∷ r)
unfolding ends_in
last_of byte b [] = refl
last_of byte b (c ∷ r) = last_of byte c r

pub ends_last : (byte : ℕ) (s : List ℕ) → (length s ≡ 0 → ⊥) → eqb (get_or s (length s - 1) 0) byte ≡ ends_in byte s
ends_last byte [] h = absurd (h refl)
ends_last byte (b ∷ r) h = simp unary_clauses (last_of byte b r)

-- and what `last` says
pub last_is : (y : Bor ℕ) (o : Option (Bor ℕ)) (s : List ℕ) → option_copied o ≡ slice_get s (length s - 1) → option_eq (λ x y. eqb x.now y.now) o (Some y) ≡ ends_in y.now s
unfolding ends_in
last_is y None [] h = refl
last_is y (Some x) [] h = absurd (none-some _ (sym h))
last_is y None (b ∷ r) h = absurd (none-some _ (h ∙ slice_get-get_or (b ∷ r) (length (b ∷ r) - 1) 0 (omega arith)))
last_is y (Some x) (b ∷ r) h = ap (λ n. eqb n y.now) (sym (get_or_from_slice_get (b ∷ r) (length (b ∷ r) - 1) x.now 0 (sym h))) ∙ ends_last y.now (b ∷ r) (λ e. absurd (omega arith))
