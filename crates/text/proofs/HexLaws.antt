-- Hex digits and pairs, digit by digit. Assumes nothing.
use mathlib.Core.Path.{◌≡◌, refl, sym, ap, ap₂, ◌∙◌}
use mathlib.Core.Bool.{true, false, ◌&&◌}
use mathlib.Core.List.{List, [], ◌∷◌}
use Prim.Native.Nat.{ℕ, zero, suc, ◌+◌, ◌*◌, ◌-◌, ◌/◌, ◌%◌, ◌≤◌, ◌<◌}
use native.Mathlib.Nat.{le_of_suc-le-suc}
use native.Mathlib.Numerals.{add-one}
use native.Mathlib.Omega.{arith}
use lib.Dec.{ltb, eqb}
use lib.ListN.{length, get_or, set}
use lib.Seq.{paste, paste-suc}
use Rattle.std.specs.List.{list_all}
use Rattle.std.specs.Char.{is_ascii_hexdigit}
use Rattle.std.proofs.lemmas.Bool.Decides.{nat_tests}
use borrow.Author.Tests.{ltb-true, le-leb, lt-leb, eq-eqb, ne_eqb}
use Rattle.octets.specs.Octets.{cat}
use Rattle.octets.proofs.Parts.{cat_length}
use Rattle.text.proofs.Numbers.{first, second}
use Rattle.text.proofs.Splices.{paste_two}
use Rattle.text.specs.Hex.{hex_digit, hex_digits, is_hex, unhex, capital, hex_pair, hex_of}

-- two answers of the digit's reader
module _ (b : ℕ) where
  pub decimal_digit : 48 ≤ b → b ≤ 57 → b - 48 ≡ hex_digit b
  unfolding hex_digit
  decimal_digit h k = simp (le-leb 48 b h, le-leb b 57 k)

  pub capital_digit : 65 ≤ b → b ≤ 70 → b - 55 ≡ hex_digit b
  unfolding hex_digit
  capital_digit h k = simp (le-leb 48 b (omega arith), lt-leb b 57 (omega arith), le-leb 65 b h, le-leb b 70 k)

-- what `is_ascii_hexdigit` says, and `all`
digit_is : (b : ℕ) → is_ascii_hexdigit b ≡ ltb (hex_digit b) 16
unfolding hex_digit
digit_is b = grind (arith, nat_tests)

pub all_hex : (s : List ℕ) → list_all is_ascii_hexdigit s ≡ hex_digits s
unfolding hex_digits
all_hex [] = refl
all_hex (b ∷ r) = ap₂ (λ d t. d && t) (digit_is b) (all_hex r)

pub odd : (s : List ℕ) → (length s % 2 ≡ 0 → ⊥) → false ≡ is_hex s
unfolding is_hex
odd s h = simp (ne_eqb _ _ h)

pub even : (s : List ℕ) → length s % 2 ≡ 0 → hex_digits s ≡ is_hex s
unfolding is_hex
even s h = simp (eq-eqb _ _ h)

-- what pairs of hex digits have: a digit at each place, an even number of them
pub digit_below : (s : List ℕ) (i : ℕ) → i < length s → hex_digits s ≡ true → hex_digit (get_or s i 0) < 16
unfolding hex_digits
digit_below [] i h e = absurd (omega arith)
digit_below (b ∷ r) zero h e = ltb-true _ _ (first (ltb (hex_digit b) 16) (hex_digits r) e)
digit_below (b ∷ r) (suc i) h e = digit_below r i (le_of_suc-le-suc h) (second (ltb (hex_digit b) 16) (hex_digits r) e)

pub has_hex : (s : List ℕ) → is_hex s ≡ true → hex_digits s ≡ true
unfolding is_hex
has_hex s e = second (eqb (length s % 2) 0) (hex_digits s) e

-- the place of the next pair
twice : (i : ℕ) → 2 * suc i ≡ suc (suc (2 * i))
twice i = omega arith

twice_one : (i : ℕ) → 2 * suc i + 1 ≡ suc (suc (2 * i + 1))
twice_one i = omega arith

pub length_unhex : (s : List ℕ) → length (unhex s) ≡ length s / 2
unfolding unhex
length_unhex [] = refl
length_unhex (a ∷ []) = refl
length_unhex (a ∷ b ∷ r) = let e = length_unhex r in omega arith

pub unhex_at : (s : List ℕ) (i : ℕ) → 2 * i + 1 < length s → get_or (unhex s) i 0 ≡ hex_digit (get_or s (2 * i) 0) * 16 + hex_digit (get_or s (2 * i + 1) 0)
unfolding unhex
unhex_at [] i h = absurd (omega arith)
unhex_at (a ∷ []) i h = absurd (omega arith)
unhex_at (a ∷ b ∷ r) zero h = refl
unhex_at (a ∷ b ∷ r) (suc i) h = rw (twice_one i, twice i) (unhex_at r i (omega arith))

-- what stands in hex for the byte at a place
pub high_at : (bs : List ℕ) (i : ℕ) → i < length bs → get_or (hex_of bs) (2 * i) 0 ≡ capital (get_or bs i 0 / 16)
unfolding cat
high_at [] i h = absurd (omega arith)
high_at (b ∷ r) zero h = refl
high_at (b ∷ r) (suc i) h = rw (twice i) (high_at r i (le_of_suc-le-suc h))

pub low_at : (bs : List ℕ) (i : ℕ) → i < length bs → get_or (hex_of bs) (2 * i + 1) 0 ≡ capital (get_or bs i 0 % 16)
unfolding cat
low_at [] i h = absurd (omega arith)
low_at (b ∷ r) zero h = refl
low_at (b ∷ r) (suc i) h = rw (twice_one i) (low_at r i (le_of_suc-le-suc h))

pub length_hex : (bs : List ℕ) → length (hex_of bs) ≡ 2 * length bs
length_hex bs = cat_length 2 hex_pair (λ a. refl) bs

-- one turn of the writer and of the reader: two digits of a byte more, and a byte of two digits more
module _ (d : List ℕ) (at : ℕ) (t : List ℕ) (i : ℕ) (out : List ℕ) (x y : ℕ) where
  pub pair_turn : i < length t → at + 2 * length t ≤ length d → out ≡ paste d at (hex_of t) (2 * i) → x ≡ capital (get_or t i 0 / 16) → y ≡ capital (get_or t i 0 % 16) → set (set out (at + 2 * i) x) (at + 2 * i + 1) y ≡ paste d at (hex_of t) (2 * (i + 1))
  pair_turn h room e ex ey =
      let l = length_hex t in
      let px : x ≡ get_or (hex_of t) (2 * i) 0 = ex ∙ sym (high_at t i h) in
      let py : y ≡ get_or (hex_of t) (2 * i + 1) 0 = ey ∙ sym (low_at t i h) in
      let n : 2 * i + 2 ≡ 2 * (i + 1) = omega arith in
      (λ k. set (set (e k) (at + 2 * i) (px k)) (at + 2 * i + 1) (py k)) ∙ paste_two d at (hex_of t) (2 * i) (omega arith) (omega arith) ∙ ap (paste d at (hex_of t)) n

  pub byte_turn : 2 * i + 1 < length t → at + i < length d → out ≡ paste d at (unhex t) i → x ≡ hex_digit (get_or t (2 * i) 0) → y ≡ hex_digit (get_or t (2 * i + 1) 0) → set out (at + i) (x * 16 + y) ≡ paste d at (unhex t) (i + 1)
  byte_turn h room e ex ey =
      let l = length_unhex t in
      let p : x * 16 + y ≡ get_or (unhex t) i 0 = ap₂ (λ a b. a * 16 + b) ex ey ∙ sym (unhex_at t i h) in
      (λ k. set (e k) (at + i) (p k)) ∙ paste-suc d at (unhex t) i 0 room (omega arith) ∙ ap (paste d at (unhex t)) (sym (add-one i))
