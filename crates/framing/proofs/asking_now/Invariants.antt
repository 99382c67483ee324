use Rattle.std.proofs.Common.{◌≡◌, ◌≤◌, length, drop}
use Rattle.shelf.specs.Shelves.{declared}
use Rattle.state.specs.Bytes.{shelf_in}
use Rattle.framing.specs.Requests.{asking_of, asking_now}
use Rattle.framing.proofs.asking_now.Given as goal

abbrev pub invariant-loop-i : goal.invariant-loop-i
invariant-loop-i l = (l.i ≤ l.end) × ((length l.now ≡ 32) × (asking_now (shelf_in l.s) ≡ asking_of (shelf_in l.s).granted l.now (drop l.i (declared (shelf_in l.s)))))
