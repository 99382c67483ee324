-- The fields of an answer's line. Assumes nothing.
use Rattle.std.specs.Prelude.{ℕ, cond, List, [], ◌∷◌, eqb}
use Rattle.octets.specs.Octets.{cat}
use Rattle.arbiter.specs.Arbitration.{nobody}
use Rattle.text.specs.Decimals.{decimal}

-- a field behind the tab that parts it from the one before, and several
abbrev pub tabbed : List ℕ → List ℕ
tabbed field = 9 ∷ field

abbrev pub fields : List (List ℕ) → List ℕ
fields fs = cat tabbed fs

-- a unit's number, or `-` for nobody
unfoldable pub who : ℕ → List ℕ
who n = cond (eqb n nobody) (45 ∷ []) (decimal n)
