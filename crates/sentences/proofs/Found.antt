-- Which unit an event names. Assumes nothing.
use Prim.Native.Nat.{ℕ, ◌<◌, ◌≤◌}
use native.Mathlib.Omega.{arith}
use mathlib.Core.Path.{◌≡◌}
use lib.ListN.{length, length-take}
use Rattle.shelf.specs.Shelf.{Shelf}
use Rattle.shelf.proofs.Finding.{declared_at}
use Rattle.paper.specs.State.{units, unit_at, blank, Whole}
use lib.Seq.{set-get_or}
use Rattle.soundness.specs.Admission as admit
use Rattle.sentences.specs.Changes.{with_unit}

-- there are as many declared units as are counted
pub many_units : (shelf : Shelf) → Whole shelf → shelf.count ≤ 32 → length (units shelf) ≡ shelf.count
many_units shelf w h = let e = length-take shelf.count shelf.units in let f = w.units_32 in omega arith

-- a declared unit is the one of the whole array
pub unit_at_lem : (shelf : Shelf) (i : ℕ) → i < shelf.count → unit_at shelf i ≡ admit.unit_at shelf i
unit_at_lem shelf i h = declared_at shelf i blank h

-- the shelf with a unit's own self in its place
pub itself : (shelf : Shelf) (i : ℕ) → with_unit shelf i (admit.unit_at shelf i) ≡ shelf
itself shelf i t =
    record {
      bus = shelf.bus;
      count = shelf.count;
      units = set-get_or shelf.units i blank t;
      arbiter = shelf.arbiter;
      granted = shelf.granted;
      frame = shelf.frame;
    }
