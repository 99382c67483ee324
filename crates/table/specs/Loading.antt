-- What loading comes to: what it answers, and the shelf afterwards. The code has the shelf in lent bytes and gives back the rest. Assumes nothing.
use Rattle.std.specs.Prelude.{ℕ, Result, Err}
use Rattle.shelf.specs.Shelf.{Shelf}
use Rattle.table.specs.declared.Refusal.{Refusal}

-- the bytes used, or the number of the refusal and its line
abbrev pub LoadOutcome : Type 0
LoadOutcome = Result ℕ Refusal

abbrev pub refusal_of : ℕ → ℕ → LoadOutcome
refusal_of number line = Err (record { number = number; line = line })

pub record Loading : Type 0 where
  pub outcome : LoadOutcome
  pub shelf : Shelf
