-- A unit hears a session that it was given, and the others as before. Assumes nothing.
use mathlib.Core.Path.{◌≡◌, refl, sym, ap, ap₂, ◌∙◌}
use mathlib.Core.Bool.{Bool, true, false, ◌||◌}
use mathlib.Core.List.{List}
use Prim.Native.Nat.{ℕ, zero, suc, ◌/◌, ◌%◌, ◌^◌, ◌<◌}
use native.Mathlib.Nat.{div_self, div-eq_of_lt, div-one, mul-div-mul_right, pow-suc, mod-lt, zero-div}
use native.Mathlib.Omega.{arith}
use lib.Dec.{eqb}
use lib.Bits.{bit_or, or_shr, or_mod, or_zero_r}
use lib.Pow.{pow_pos, pow-lt}
use lib.ListN.{length, get_or, replicate}
use lib.Seq.{get_or-set_same, get_or-set_other}
use borrow.Author.Tests.{eq-eqb, ne_eqb, eqb-true, eqb-false}
use Rattle.shelf.specs.Sessions.{hears, with_session}

-- bit j of a number, and of a power of two
bit : ℕ → ℕ → ℕ
bit w j = w / 2 ^ j % 2

bit_same : (k : ℕ) → bit (2 ^ k) k ≡ 1
unfolding bit
bit_same k = ap (λ n. n % 2) (div_self (pow_pos k))

bit_other : (k j : ℕ) → (k ≡ j → ⊥) → bit (2 ^ k) j ≡ 0
unfolding bit
bit_other zero zero h = absurd (h refl)
bit_other zero (suc j) h = ap (λ n. n % 2) (div-eq_of_lt (pow-lt {i = 0} {j = suc j} (omega arith)))
bit_other (suc k) zero h = ap (λ n. n % 2) (div-one (2 ^ suc k) ∙ pow-suc 2 k) ∙ omega arith
bit_other (suc k) (suc j) h =
    ap (λ n. n % 2) (ap₂ ◌/◌ (pow-suc 2 k) (pow-suc 2 j) ∙ mul-div-mul_right (2 ^ k) (2 ^ j) (omega arith))
    ∙ bit_other k j (λ e. h (ap suc e))

bit_of_or : (v w j : ℕ) → bit (bit_or v w) j ≡ bit_or (bit v j) (bit w j)
unfolding bit
bit_of_or v w j = ap (λ n. n % 2) (or_shr v w j) ∙ or_mod (v / 2 ^ j) (w / 2 ^ j) 1

or_one : (n : ℕ) → n < 2 → bit_or n 1 ≡ 1
or_one zero h = refl
or_one (suc zero) h = refl
or_one (suc (suc n)) h = absurd (omega arith)

bit_lt : (w k : ℕ) → bit w k < 2
unfolding bit
bit_lt w k = mod-lt (w / 2 ^ k) (omega arith)

word_same : (w k : ℕ) → bit (bit_or w (2 ^ k)) k ≡ 1
word_same w k = bit_of_or w (2 ^ k) k ∙ ap (bit_or (bit w k)) (bit_same k) ∙ or_one (bit w k) (bit_lt w k)

word_other : (w k j : ℕ) → (k ≡ j → ⊥) → bit (bit_or w (2 ^ k)) j ≡ bit w j
word_other w k j h = bit_of_or w (2 ^ k) j ∙ ap (bit_or (bit w j)) (bit_other k j h) ∙ or_zero_r (bit w j)

module _ (sessions : List ℕ) (four : length sessions ≡ 32) (s t : ℕ) (hs : s < 256) (ht : t < 256) where
  -- the words of the two sessions, the same or not, and their bits, the same or not
  at_words : (b : Bool) → eqb (s / 8) (t / 8) ≡ b → (d : Bool) → eqb (s % 8) (t % 8) ≡ d → hears (with_session sessions s) t ≡ (eqb s t || hears sessions t)
  unfolding hears with_session bit
  at_words false p d q =
      let other : s / 8 ≡ t / 8 → ⊥ = eqb-false (s / 8) (t / 8) p in
      rw (ne_eqb s t (λ e. other (ap (λ n. n / 8) e)))
      (ap (λ w. eqb (bit w (t % 8)) 1) (get_or-set_other sessions (s / 8) (t / 8) (bit_or (get_or sessions (s / 8) 0) (2 ^ (s % 8))) 0 (λ e. other (sym e))))
  at_words true p true q =
      let x : s / 8 ≡ t / 8 = eqb-true (s / 8) (t / 8) p in
      let y : s % 8 ≡ t % 8 = eqb-true (s % 8) (t % 8) q in
      rw (eq-eqb s t (omega arith))
      (eq-eqb (bit (get_or (with_session sessions s) (t / 8) 0) (t % 8)) 1
      (ap₂ (λ n k. bit (get_or (with_session sessions s) n 0) k) (sym x) (sym y)
      ∙ ap (λ w. bit w (s % 8)) (get_or-set_same sessions (s / 8) (bit_or (get_or sessions (s / 8) 0) (2 ^ (s % 8))) 0 (omega arith))
      ∙ word_same (get_or sessions (s / 8) 0) (s % 8)))
  at_words true p false q =
      let x : s / 8 ≡ t / 8 = eqb-true (s / 8) (t / 8) p in
      let other : s % 8 ≡ t % 8 → ⊥ = eqb-false (s % 8) (t % 8) q in
      rw (ne_eqb s t (λ e. other (ap (λ n. n % 8) e)))
      (ap (λ n. eqb n 1)
      (ap (λ n. bit (get_or (with_session sessions s) n 0) (t % 8)) (sym x)
      ∙ ap (λ w. bit w (t % 8)) (get_or-set_same sessions (s / 8) (bit_or (get_or sessions (s / 8) 0) (2 ^ (s % 8))) 0 (omega arith))
      ∙ word_other (get_or sessions (s / 8) 0) (s % 8) (t % 8) other
      ∙ ap (λ n. bit (get_or sessions n 0) (t % 8)) x))

  pub hears_with : hears (with_session sessions s) t ≡ (eqb s t || hears sessions t)
  hears_with = at_words (eqb (s / 8) (t / 8)) refl (eqb (s % 8) (t % 8)) refl

-- a freshly declared unit hears none
zeros : (n q : ℕ) → ◌≡◌ {A = ℕ} (get_or (replicate n 0) q 0) 0
zeros zero q = refl
zeros (suc n) zero = refl
zeros (suc n) (suc q) = zeros n q

pub hears_none : (t : ℕ) → hears (replicate 32 0) t ≡ false
unfolding hears
hears_none t = ap (λ n. eqb (n % 2) 1) (ap (λ w. w / 2 ^ (t % 8)) (zeros 32 (t / 8)) ∙ zero-div (2 ^ (t % 8)))
