-- Decimal numbers, digit by digit. Assumes nothing.
use mathlib.Core.Path.{◌≡◌, sym, ap, ap₂, ◌∙◌}
use mathlib.Core.Bool.{Bool, true, false, cond}
use mathlib.Core.List.{List, [], ◌∷◌, ◌++◌, append_assoc}
use Prim.Native.Nat.{ℕ, zero, suc, ◌+◌, ◌*◌, ◌-◌, ◌/◌, ◌%◌, ◌^◌, ◌≤◌, ◌<◌}
use native.Mathlib.Nat.{pow-suc, lt_of_lt_of_le}
use native.Mathlib.Numerals.{add-one}
use native.Mathlib.Omega.{arith}
use lib.Dec.{ltb}
use lib.ListN.{length, get_or, drop, take, set, length-append, length-set, length-drop}
use lib.Seq.{drop-cons, drop-set-lt, get_or-set_same, take_all, take-suc}
use borrow.Author.Tests.{lt-ltb, le-ltb, le-leb, lt-leb}
use Rattle.text.specs.Digits.{decimal_of, value}
use Rattle.text.proofs.Numbers.{value_on, grows}
use Rattle.octets.specs.Octets.{cat}
use Rattle.text.specs.Writing.{Wrote}
use Rattle.text.proofs.Splices.{nothing, cat_snoc}
use Rattle.std.specs.Prelude.{Ok, Err}
use Rattle.text.specs.declared.NotNumber.TheVariants.{Above, Malformed}
use Rattle.text.specs.Decimals.{digits_to, decimal, number_field, number_fields, number_of}

-- a digit written behind the others
pub set_drop : (ds : List ℕ) (k d : ℕ) → k < length ds → drop k (set ds k d) ≡ d ∷ drop (suc k) ds
set_drop ds k d h =
    let l : k < length (set ds k d) = rw length-set h in
    drop-cons (set ds k d) k 0 l ∙ ap₂ (λ x y. x ∷ y) (get_or-set_same ds k d 0 h) (drop-set-lt (suc k) ds k d (omega arith))

module _ (ds : List ℕ) (left : ℕ) where
  turn_at : (k : ℕ) → k < length ds → 9 < left → digits_to (suc k) left ++ drop (suc k) ds ≡ digits_to k (left / 10) ++ drop k (set ds k (48 + left % 10))
  unfolding digits_to
  turn_at k h m =
      ap (λ t. cond t ((48 + left) ∷ []) (digits_to k (left / 10) ++ (48 + left % 10) ∷ []) ++ drop (suc k) ds) (le-ltb left 10 m)
      ∙ append_assoc (digits_to k (left / 10)) ((48 + left % 10) ∷ []) (drop (suc k) ds)
      ∙ ap (λ x. digits_to k (left / 10) ++ x) (sym (set_drop ds k (48 + left % 10) h))

  last_at : (k : ℕ) → k < length ds → left ≤ 9 → digits_to (suc k) left ++ drop (suc k) ds ≡ drop k (set ds k (48 + left))
  unfolding digits_to
  last_at k h m =
      ap (λ t. cond t ((48 + left) ∷ []) (digits_to k (left / 10) ++ (48 + left % 10) ∷ []) ++ drop (suc k) ds) (lt-ltb left 10 (omega arith))
      ∙ sym (set_drop ds k (48 + left) h)

  -- one turn: the last digit is written, the others are left
  pub digit_turn : (k : ℕ) → 0 < k → k ≤ length ds → 9 < left → digits_to k left ++ drop k ds ≡ digits_to (k - 1) (left / 10) ++ drop (k - 1) (set ds (k - 1) (48 + left % 10))
  digit_turn k p h m =
      let e : k ≡ suc (k - 1) = omega arith in
      ap (λ x. digits_to x left ++ drop x ds) e ∙ turn_at (k - 1) (omega arith) m

  -- the first digit
  pub digit_last : (k : ℕ) → 0 < k → k ≤ length ds → left ≤ 9 → digits_to k left ++ drop k ds ≡ drop (k - 1) (set ds (k - 1) (48 + left))
  digit_last k p h m =
      let e : k ≡ suc (k - 1) = omega arith in
      ap (λ x. digits_to x left ++ drop x ds) e ∙ last_at (k - 1) (omega arith) m

-- there is a place for the digits that are left
pub next_place : (left k : ℕ) → left < 10 ^ k → 9 < left → (left / 10 < 10 ^ (k - 1)) × (1 < k)
next_place left k h m = go k h m
  where
    ten : (p : ℕ) → left < p * 10 → left / 10 < p
    ten p h = omega arith

    go : (k : ℕ) → left < 10 ^ k → 9 < left → (left / 10 < 10 ^ (k - 1)) × (1 < k)
    go zero h m = absurd (omega arith)
    go (suc zero) h m = absurd (omega arith)
    go (suc (suc k)) h m =
        let e : suc (suc k) - 1 ≡ suc k = omega arith in
        (rw e (ten (10 ^ suc k) (rw (pow-suc 10 (suc k)) at h)), omega arith)

-- how many digits there are
pub digits_most : (k n : ℕ) → length (digits_to k n) ≤ k
unfolding digits_to
digits_most zero n = omega arith
digits_most (suc k) n = go (ltb n 10) (digits_most k (n / 10))
  where
    go : (t : Bool) → length (digits_to k (n / 10)) ≤ k → length (cond t ((48 + n) ∷ []) (digits_to k (n / 10) ++ (48 + n % 10) ∷ [])) ≤ suc k
    go true e = omega arith
    go false e = simp length-append (omega arith)

pub decimal_most : (n : ℕ) → length (decimal n) ≤ 20
unfolding decimal
decimal_most n = digits_most 20 n

-- the digits as they stand when the first one is written
pub decimal_ended : (ds : List ℕ) (left k n : ℕ) → 0 < k → k ≤ 20 → length ds ≡ 20 → left ≤ 9 → digits_to 20 n ≡ digits_to k left ++ drop k ds → take (20 - (k - 1)) (drop (k - 1) (set ds (k - 1) (48 + left))) ≡ decimal n
unfolding decimal
decimal_ended ds left k n p h l m e =
    take_all (20 - (k - 1)) (drop (k - 1) (set ds (k - 1) (48 + left))) (simp (length-drop, length-set) (omega arith))
    ∙ sym (e ∙ digit_last ds left k p (omega arith) m)

-- a digit more makes the number too large
pub past : (s : List ℕ) (i v most : ℕ) → i < length s → value 0 s ≡ value v (drop i s) → most < v * 10 + (get_or s i 0 - 48) → most < value 0 s
past s i v most h e m = rw (e, value_on s i h v) (lt_of_lt_of_le m (grows (v * 10 + (get_or s i 0 - 48)) (drop (i + 1) s)))

-- each answer of the reader
module _ (most : ℕ) (s : List ℕ) where
  pub no_numeral : decimal_of s ≡ false → Err Malformed ≡ number_of most s
  unfolding number_of
  no_numeral d = simp d

  pub numeral_above : decimal_of s ≡ true → most < value 0 s → Err Above ≡ number_of most s
  unfolding number_of
  numeral_above d h = simp (d, lt-leb _ _ h)

  pub numeral_is : (v : ℕ) → decimal_of s ≡ true → value 0 s ≡ v → v ≤ most → Ok v ≡ number_of most s
  unfolding number_of
  numeral_is v d e h = simp (d, e, le-leb _ _ h)

-- no number is written, and one more
pub no_fields : (b : List ℕ) (k : ℕ) → Wrote b k (number_fields []) k b
unfolding cat
no_fields b k = nothing b k

pub one_more : (ns : List ℕ) (i : ℕ) → i < length ns → number_fields (take (i + 1) ns) ≡ number_fields (take i ns) ++ number_field (get_or ns i 0)
one_more ns i h = rw (add-one, take-suc ns i 0) (cat_snoc number_field (take i ns) (get_or ns i 0))
