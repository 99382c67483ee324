-- A bit of a set of counters, read by a remainder and not by a quotient. Assumes nothing.
use Rattle.std.proofs.Common.{◌≡◌, ℕ, zero, suc, ◌+◌, ◌*◌, ◌/◌, ◌%◌, ◌<◌, ◌≤◌, refl, mod-lt, arith}
use lib.Arith.{mod-mul}

-- what is left of n by two bits is the bit, and what is left by one
parted : (n b : ℕ) → 0 < b → n % (2 * b) ≡ n / b % 2 * b + n % b
parted n b h = mod-mul n {m = 2} {c = b} (omega arith) h

module _ (n b : ℕ) (h : 0 < b) where
  low : n % b < b
  low = mod-lt n h

  by_bit : (k : ℕ) → k < 2 → n % (2 * b) ≡ k * b + n % b → (b ≤ n % (2 * b) → k ≡ 1) × (n % (2 * b) < b → k ≡ 0)
  by_bit zero few e = (λ inside. absurd (omega (arith, low)), λ outside. refl)
  by_bit (suc zero) few e = (λ inside. refl, λ outside. absurd (omega (arith, low)))
  by_bit (suc (suc k)) few e = absurd (omega arith)

  each : (b ≤ n % (2 * b) → n / b % 2 ≡ 1) × (n % (2 * b) < b → n / b % 2 ≡ 0)
  each = by_bit (n / b % 2) (omega arith) (parted n b h)

  pub bit_in : b ≤ n % (2 * b) → n / b % 2 ≡ 1
  bit_in = each.0

  pub bit_out : n % (2 * b) < b → n / b % 2 ≡ 0
  bit_out = each.1
