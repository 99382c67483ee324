-- The judges, test by test. Assumes nothing.
use Rattle.std.specs.Prelude.{Err}
use mathlib.Core.Path.{◌≡◌}
use mathlib.Core.Bool.{Bool}
use Prim.Native.Nat.{ℕ, ◌≤◌}
use borrow.Author.Tests.{le-leb}
use Rattle.header.specs.declared.Link.{Link}
use Rattle.card.specs.declared.Card.{Card}
use Rattle.judge.specs.declared.Fault.TheVariants.{Order}
use Rattle.judge.specs.Judge.{judge_unit}

-- a `unit` line
module _ (card : Card) (bus room used number top : ℕ) (link : Link) where
  pub unit_off : (declared : Bool) → bus ≤ number → Err (Order 2) ≡ judge_unit card bus declared room used number link top
  unfolding judge_unit
  unit_off declared h = rw (le-leb bus number h)
