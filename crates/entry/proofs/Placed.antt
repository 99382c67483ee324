-- What a count answers, by the row of its place. Assumes nothing.
use Rattle.std.specs.Prelude.{ℕ, Ok}
use mathlib.Core.Path.{◌≡◌, refl}
use mathlib.Core.List.{List}
use lib.ListN.{get_or}
use Rattle.answer.specs.declared.Counters as C
use Rattle.answer.specs.Counting.{zeros}
use Rattle.entry.specs.Counts.{count_of}

module _ (at : ℕ) (rows : List C.Counters) where
  pub found_row : Ok (get_or rows at zeros) ≡ count_of (Ok at) rows
  unfolding count_of
  found_row = refl
