-- The laws of a console line's fields: a word among names, and a byte. Assumes nothing.
use mathlib.Core.Path.{◌≡◌, sym, ap, ◌∙◌}
use mathlib.Core.Bool.{true, false, and-false}
use mathlib.Core.List.{List, ◌∷◌, tail}
use Prim.Native.Nat.{ℕ, ◌+◌, ◌-◌, ◌≤◌, ◌<◌}
use native.Mathlib.Numerals.{add-one}
use lib.ListN.{length, take, drop}
use Rattle.std.specs.Prelude.{None}
use Rattle.text.specs.Text.{at, split, field_of, same}
use Rattle.text.proofs.Split.{split_first, split_more, split_last}
use Rattle.text.specs.Hex.{is_hex}
use Rattle.command.specs.Fields.{place_from, byte_in}

-- a name that starts at from and ends at e: the word is this one, is none, or is looked for further on
module _ (names w : List ℕ) (from e k : ℕ) (q : e ≡ from + length (at (split 9 (drop from names)) 0)) where
  pub is_here : same (take (e - from) (drop from names)) w ≡ true → place_from k (split 9 (drop from names)) w ≡ k
  unfolding place_from
  is_here s = ap (λ ns. place_from k ns w) (split_first 9 names from e q) ∙ found (tail (split 9 (drop from names)))
    where
      found : (rest : List (List ℕ)) → place_from k (take (e - from) (drop from names) ∷ rest) w ≡ k
      found rest = rw s

  pub is_last : same (take (e - from) (drop from names)) w ≡ false → length names ≤ e → place_from k (split 9 (drop from names)) w ≡ k + 1
  unfolding place_from
  is_last s h = rw (split_last 9 names from e q h, add-one, s)

  pub is_later : same (take (e - from) (drop from names)) w ≡ false → e < length names → place_from k (split 9 (drop from names)) w ≡ place_from (k + 1) (split 9 (drop (e + 1) names)) w
  unfolding place_from
  is_later s h = rw (split_more 9 names from e q h, add-one e, add-one k, s)

-- a field h that is not hex digits says no byte
module _ (fs : List (List ℕ)) (f : ℕ) (h : List ℕ) (e : h ≡ field_of f fs) where
  pub no_byte : is_hex h ≡ false → None ≡ byte_in fs f
  unfolding byte_in
  no_byte n = simp (sym e, n, and-false)
