-- Notes as one number: that of twice as many is that of the first, with that of the others above it. Assumes nothing.
use Rattle.std.proofs.Common.{◌≡◌, ℕ, ◌+◌, ◌-◌, ◌*◌, ◌/◌, ◌%◌, ◌^◌, ◌<◌, ◌≤◌, List, get_or, sym, ap, ◌∙◌, ap₂, lt_of_lt_of_le, mul_assoc, arith, pow_mono, pow-add, shl_lt, shr-shr}
use native.Mathlib.Nat.{div-eq_of_lt, mul-mod_left}
use lib.Bits.{bit_or, or_shr, or_mod, or_lt, or_zero_l, or_zero_r}
use lib.Pow.{shl-shr}
use Rattle.store.proofs.Slots.{by_lt}
use Rattle.soundness.specs.Numbered.{Word}

-- raised by more places than it is lowered, a number has nothing in the lowest one; by fewer, it is lowered by the difference
raised_below : (b i j : ℕ) → i < j → b * 2 ^ (8 * j) / 2 ^ (8 * i) % 256 ≡ 0
raised_below b i j h =
    let d = j - i - 1 in
    let e : 8 * j ≡ (8 * d + 8) + 8 * i = omega arith in
    ap (λ x. x / 2 ^ (8 * i) % 256) (ap (λ x. b * 2 ^ x) e ∙ ap (λ x. b * x) (pow-add 2 (8 * d + 8) (8 * i)) ∙ sym (mul_assoc b (2 ^ (8 * d + 8)) (2 ^ (8 * i))))
    ∙ ap (λ x. x % 256) (shl-shr (b * 2 ^ (8 * d + 8)) (8 * i) ∙ ap (λ x. b * x) (pow-add 2 (8 * d) 8) ∙ sym (mul_assoc b (2 ^ (8 * d)) 256))
    ∙ mul-mod_left (b * 2 ^ (8 * d)) 256

lowered : (b i j : ℕ) → j ≤ i → b * 2 ^ (8 * j) / 2 ^ (8 * i) ≡ b / 2 ^ (8 * (i - j))
lowered b i j h =
    let e : 8 * i ≡ 8 * j + 8 * (i - j) = omega arith in
    ap (λ x. b * 2 ^ (8 * j) / 2 ^ x) e ∙ sym (shr-shr (b * 2 ^ (8 * j)) (8 * j) (8 * (i - j))) ∙ ap (λ x. x / 2 ^ (8 * (i - j))) (shl-shr b (8 * j))

pub both : (n : ℕ) (each : List ℕ) (at a b : ℕ) → Word n each at a → Word n each (at + n) b → Word (n + n) each at (bit_or a (b * 2 ^ (8 * n)))
both n each at a b low high =
    let w = bit_or a (b * 2 ^ (8 * n)) in
    let long : 8 * (n + n) ≡ 8 * n + 8 * n = omega arith in
    record {
      small = rw long
          (or_lt (8 * n + 8 * n) a (b * 2 ^ (8 * n)) (lt_of_lt_of_le low.small (pow_mono (omega arith))) (shl_lt (8 * n) (8 * n) high.small));
      bytes = λ k l.
          let at_k = 2 ^ (8 * k) in
          ap (λ x. x % 256) (or_shr a (b * 2 ^ (8 * n)) (8 * k)) ∙ or_mod (a / at_k) (b * 2 ^ (8 * n) / at_k) 8
          ∙ by_lt k n
          (λ h. ap (bit_or (a / at_k % 256)) (raised_below b k n h) ∙ or_zero_r (a / at_k % 256) ∙ low.bytes k h)
          (λ h.
          let there : at + n + (k - n) ≡ at + k = omega arith in
          ap₂ (λ x y. bit_or (x % 256) (y % 256)) (div-eq_of_lt (lt_of_lt_of_le low.small (pow_mono (omega arith)))) (lowered b k n h)
          ∙ or_zero_l (b / 2 ^ (8 * (k - n)) % 256) ∙ high.bytes (k - n) (omega arith) ∙ ap (λ i. get_or each i 0) there);
    }
