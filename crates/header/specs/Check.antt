-- "The check is the remainder of the header times x^8 by x^8+x^2+x+1, then exclusive-or with hex 55." Assumes nothing.
use Rattle.std.specs.Prelude.{ℕ, Bool, true, false, List, [], ◌∷◌}
use Rattle.std.specs.Int.Bits.{bit_xor}
use Rattle.remainder.specs.Division.{residue}

-- the coefficients of x^2+x+1 below x^8
abbrev pub divisor : List Bool
divisor = false ∷ false ∷ false ∷ false ∷ false ∷ true ∷ true ∷ true ∷ []

unfoldable pub check : ℕ → ℕ
check header = bit_xor (residue divisor 32 header) 0x55
