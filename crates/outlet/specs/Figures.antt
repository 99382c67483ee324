-- Data sheet 004, figures 15 and 16: which of the cells that leave one after the other are marked. Assumes nothing.
use Rattle.std.specs.Prelude.{ℕ, zero, suc, ◌-◌, Bool, true, List, [], ◌∷◌, set, None, Option, Some}
use Rattle.outlet.specs.Outlets.{queue, one, four}
use Rattle.outlet.specs.declared.Ring.{Ring}
use Rattle.outlet.specs.declared.Outlet.{Outlet}
use Rattle.outlet.specs.Taking.{leaving, marks}

-- so many cells in a queue
abbrev pub holding : ℕ → Ring
holding n = record { head = 0; count = n }

abbrev pub with : Outlet → ℕ → ℕ → Outlet
with outlet q n = record { limits = outlet.limits; queues = set outlet.queues q (holding n) }

-- an outlet without the cell that leaves
unfoldable pub without : Outlet → Option ℕ → Outlet
without outlet (Some q) = with outlet q ((queue outlet q).count - 1)
without outlet None = outlet

-- the marks of the next n cells, while none comes in
unfoldable pub marks_in_turn : ℕ → Outlet → List Bool
marks_in_turn zero outlet = []
marks_in_turn (suc n) outlet = marks outlet ∷ marks_in_turn n (without outlet (leaving outlet))

-- "three cells in the queue when VBRLIMIT is set to 2": cells 4, 5 and 6
abbrev pub figure15 : Outlet
figure15 = with (one 2 true) 0 3

-- "three cells in the CBR cell queue when CBRLIMIT = 3 and two cells in the VBR cell queue when VBRLIMIT = 2": cells 4 to 8
abbrev pub figure16 : Outlet
figure16 = with (with (four 40 3 2 true) 1 3) 2 2
