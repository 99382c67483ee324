-- The FNV-1a sum of 32 bits (draft-eastlake-fnv): offset 2166136261, prime 16777619. Assumes nothing.
use Rattle.std.specs.Prelude.{ℕ, ◌+◌, ◌*◌, ◌/◌, ◌%◌, List, [], ◌∷◌}
use Rattle.std.specs.Int.Bits.{bit_xor}

-- one byte: exclusive-or into the low eight bits, then times the prime modulo 2^32
unfoldable pub step : ℕ → ℕ → ℕ
step sum byte = (sum / 256 * 256 + bit_xor byte (sum % 256)) * 16777619 % 4294967296

unfoldable pub sum_from : ℕ → List ℕ → ℕ
sum_from sum [] = sum
sum_from sum (b ∷ r) = sum_from (step sum b) r

abbrev pub sum : List ℕ → ℕ
sum bytes = sum_from 2166136261 bytes
