-- The examples are computed. Assumes nothing.
use mathlib.Core.Path.{refl}
use Rattle.arbiter.specs.Arbitration.{asking, due, renewed_from, run, cyclic, some_asks, highest, first, granted}
use Rattle.arbiter.specs.Examples.{Examples}

pub witnessed : Examples
unfolding asking due renewed_from run cyclic some_asks highest first granted
witnessed =
    record {
      no_cell = refl;
      a_cell = refl;
      granted_cell = refl;
      cell_besides = refl;
      bus_16 = refl;
      even_0 = refl;
      even_15 = refl;
      even_16 = refl;
      odd_15 = refl;
      odd_16 = refl;
      odd_31 = refl;
      renew_16 = refl;
      renew_even = refl;
      renew_odd = refl;
      idle = refl;
      no_priority = refl;
      from_0 = refl;
      after_5 = refl;
      after_30 = refl;
      after_31 = refl;
      not_itself = refl;
      itself = refl;
      three_first = refl;
      two_first = refl;
      own_1 = refl;
      own_2 = refl;
      own_3 = refl;
    }
