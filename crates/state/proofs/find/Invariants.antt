use mathlib.Core.Path.{◌≡◌}
use lib.ListN.{drop}
use Rattle.shelf.specs.Shelves.{declared, numbers, place_from, find_in}
use Rattle.state.specs.Bytes.{shelf_in}
use Rattle.state.proofs.find.Given as goal

abbrev pub invariant-loop-i : goal.invariant-loop-i
invariant-loop-i l = find_in (declared (shelf_in l.s)) l.number ≡ place_from l.i (numbers (drop l.i (declared (shelf_in l.s)))) l.number
