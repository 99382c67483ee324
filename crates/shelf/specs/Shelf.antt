-- The state of a shelf, as the theorems speak of it; in the code it is lent bytes, and `state: shelf_in` says which shelf they are. Assumes nothing.
use Rattle.std.specs.Prelude.{ℕ, List}
use Rattle.arbiter.specs.declared.Arbiter.{Arbiter}
use Rattle.shelf.specs.declared.Unit as U

pub record Shelf : Type 0 where
  pub bus : ℕ
  -- how many of the units are declared, in `unit` line order
  pub count : ℕ
  pub units : List U.Unit
  pub arbiter : Arbiter
  -- the unit granted in the frame before, or nobody
  pub granted : ℕ
  pub frame : ℕ
