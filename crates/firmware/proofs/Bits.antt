-- The fields of a number that is given back are read by division and remainder, as C reads them by shift and mask. Assumes nothing.
use mathlib.Core.Path.{◌≡◌, ap, ◌∙◌}
use Prim.Native.Nat.{ℕ, ◌+◌, ◌*◌, ◌<◌, ◌/◌, ◌%◌}
use native.Mathlib.Omega.{arith}
use Rattle.firmware.specs.Codes.{pack}

module _ (kind low sender granted high : ℕ) (k : kind < 256) (l : low < 256) (s : sender < 256) (g : granted < 256) where
  abbrev n : ℕ
  n = pack kind low sender granted high

  pub kind_read : n % 256 ≡ kind
  kind_read = omega (arith, k)

  -- what is left above each field
  above_kind : n / 256 ≡ low + sender * 256 + granted * 65536 + high * 16777216
  above_kind = omega (arith, k)

  above_low : n / 65536 ≡ sender + granted * 256 + high * 65536
  above_low = omega (arith, k, l)

  above_sender : n / 16777216 ≡ granted + high * 256
  above_sender = omega (arith, k, l, s)

  pub low_read : n / 256 % 256 ≡ low
  low_read = ap (λ m. m % 256) above_kind ∙ omega (arith, l)

  pub sender_read : n / 65536 % 256 ≡ sender
  sender_read = ap (λ m. m % 256) above_low ∙ omega (arith, s)

  pub granted_read : n / 16777216 % 256 ≡ granted
  granted_read = ap (λ m. m % 256) above_sender ∙ omega (arith, g)

  pub high_read : n / 4294967296 ≡ high
  high_read = omega (arith, k, l, s, g)
