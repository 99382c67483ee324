-- The sessions that a unit hears: session s is bit s % 8 of byte s / 8. Assumes nothing.
use Rattle.std.specs.Prelude.{ℕ, ◌/◌, ◌%◌, ◌^◌, Bool, List, eqb, get_or, set}
use Rattle.std.specs.Int.Bits.{bit_or}

-- "`mc` unit, session: the unit hears that session"
unfoldable pub hears : List ℕ → ℕ → Bool
hears sessions session = eqb (get_or sessions (session / 8) 0 / 2 ^ (session % 8) % 2) 1

unfoldable pub with_session : List ℕ → ℕ → List ℕ
with_session sessions session = set sessions (session / 8) (bit_or (get_or sessions (session / 8) 0) (2 ^ (session % 8)))
