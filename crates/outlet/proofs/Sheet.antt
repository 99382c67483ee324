-- Data sheet 004's figures 15 and 16, and 01's values at a capacity, computed. Assumes nothing.
use mathlib.Core.Path.{◌≡◌, refl}
use mathlib.Core.Bool.{true, false}
use mathlib.Core.List.{[], ◌∷◌}
use Rattle.header.specs.Fields.{fields}
use Rattle.header.specs.declared.Link.TheVariants.{Uni}
use Rattle.outlet.specs.Outlets.{capacity, one}
use Rattle.outlet.specs.Hearing.{queue_of, limit, at_limit, too_wide, fate_at, fate}
use Rattle.outlet.specs.Taking.{lowest, leaving, marks}
use Rattle.outlet.specs.Figures.{with, without, marks_in_turn, figure15, figure16}
use Rattle.outlet.specs.declared.Fate.TheVariants.{Full, Queued}

-- cells 4 and 5 are marked, 6 is not
pub single_queue : marks_in_turn 3 figure15 ≡ true ∷ true ∷ false ∷ []
unfolding capacity limit at_limit lowest leaving marks without marks_in_turn
single_queue = refl

-- cells 4 to 7 are marked, 8 is not
pub split_queue : marks_in_turn 5 figure16 ≡ true ∷ true ∷ true ∷ true ∷ false ∷ []
unfolding capacity limit at_limit lowest leaving marks without marks_in_turn
split_queue = refl

-- "Mode `one`, limit 123: cell 123 queued with CLP 0, cell 124 `full`."
pub cell_123 : fate (with (one 123 false) 0 122) Uni 0 0 ≡ Queued
unfolding fields capacity queue_of limit too_wide fate_at fate
cell_123 = refl

pub cell_124 : fate (with (one 123 false) 0 123) Uni 0 0 ≡ Full
unfolding fields capacity queue_of limit too_wide fate_at fate
cell_124 = refl
