-- The state of a shelf: its declared units, a fresh one, which unit has a number. Assumes nothing.
use Rattle.std.specs.Prelude.{ℕ, suc, ◌+◌, ◌<◌, ◌≡◌, Bool, true, false, cond, List, [], ◌∷◌, map, eqb, length, get_or, take, replicate, None, Option, Some}
use Rattle.header.specs.declared.Link.TheVariants.{Uni}
use Rattle.outlet.specs.Outlets.{empty, fresh as fresh_outlet, one}
use Rattle.outlet.specs.declared.Limits.{Limits}
use Rattle.outlet.specs.declared.Ring.{Ring}
use Rattle.arbiter.specs.Arbitration.{nobody, fresh as fresh_arbiter}
use Rattle.shelf.specs.declared.Settings.{Settings}
use Rattle.shelf.specs.declared.Side.{Side}
use Rattle.shelf.specs.declared.Unit as U
use Rattle.shelf.specs.Shelf.{Shelf}

-- 02, W1: "each unit gets an inlet place for a control cell from its processor, one for a loopback cell, a four-cell control outlet and a one-cell
-- loopback outlet": all empty
abbrev pub empty_side : Side
empty_side = record { controlin = 0; loopbackin = 0; controlout = empty; loopbackout = 0 }

-- with other cells in one of them
abbrev pub control_in_put : Side → ℕ → Side
control_in_put s cells = record { controlin = cells; loopbackin = s.loopbackin; controlout = s.controlout; loopbackout = s.loopbackout }

abbrev pub loopback_in_put : Side → ℕ → Side
loopback_in_put s cells = record { controlin = s.controlin; loopbackin = cells; controlout = s.controlout; loopbackout = s.loopbackout }

abbrev pub control_out_put : Side → Ring → Side
control_out_put s ring = record { controlin = s.controlin; loopbackin = s.loopbackin; controlout = ring; loopbackout = s.loopbackout }

abbrev pub loopback_out_put : Side → ℕ → Side
loopback_out_put s cells = record { controlin = s.controlin; loopbackin = s.loopbackin; controlout = s.controlout; loopbackout = cells }

-- the cells that wait in a unit's inlet: data, control and loopback
abbrev pub waiting : U.Unit → ℕ
waiting u = u.inlet.count + u.side.controlin + u.side.loopbackin

-- a freshly declared unit: "A good load .. starts with all queues empty"
abbrev pub unit : Settings → Limits → ℕ → U.Unit
unit settings limits place =
    record { settings = settings; outlet = fresh_outlet limits; inlet = empty; side = empty_side; place = place; sessions = replicate 32 0 }

-- a place without a unit
abbrev pub blank : U.Unit
blank =
    record {
      settings = record { number = 0; link = Uni; top = 0; priority = 0 };
      outlet = one 0 false;
      inlet = empty;
      side = empty_side;
      place = 0;
      sessions = replicate 32 0;
    }

-- a bus without a unit, as "a fresh 16 bus with no units"
abbrev pub fresh : ℕ → Shelf
fresh bus = record { bus = bus; count = 0; units = replicate 32 blank; arbiter = fresh_arbiter; granted = nobody; frame = 0 }

-- the declared units, in `unit` line order, and their numbers
abbrev pub declared : Shelf → List U.Unit
declared shelf = take shelf.count shelf.units

abbrev pub number_of : U.Unit → ℕ
number_of u = u.settings.number

abbrev pub numbers : List U.Unit → List ℕ
numbers units = map number_of units

-- the place of the first of these numbers that is this one, counted from a place on
unfoldable pub place_from : ℕ → List ℕ → ℕ → Option ℕ
place_from i [] number = None
place_from i (n ∷ ns) number = cond (eqb n number) (Some i) (place_from (suc i) ns number)

unfoldable pub find_in : List U.Unit → ℕ → Option ℕ
find_in units number = place_from 0 (numbers units) number

-- whether it was found
abbrev pub is_at : Option ℕ → Bool
is_at (Some i) = true
is_at None = false

-- a unit with this number stands at this place, and none does before it
pub record FoundAt (units : List U.Unit) (number i : ℕ) : Type 0 where
  pub inside : i < length units
  pub named : number_of (get_or units i blank) ≡ number
  pub first : (j : ℕ) → j < i → number_of (get_or units j blank) ≡ number → ⊥

-- none has it
abbrev pub FoundNowhere : List U.Unit → ℕ → Type 0
FoundNowhere units number = (j : ℕ) → j < length units → number_of (get_or units j blank) ≡ number → ⊥
