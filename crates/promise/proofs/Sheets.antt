-- The four logic equations of data sheet 004 are our check, for all 4,096 words: one computed test. Assumes nothing.
use mathlib.Core.Path.{◌≡◌}
use mathlib.Core.Bool.{xor}
use Prim.Native.Nat.{ℕ, ◌<◌}
use lib.Dec.{eqb, eqb→eq}
use Rattle.remainder.specs.Bits.{bits, number}
use Rattle.remainder.specs.Division.{minus, divide, remainder, residue}
use Rattle.remainder.proofs.Every.{each}
use Rattle.bus.specs.Routing.{check}
use Rattle.promise.specs.Sheet.{sheet}

pub check_sheet : (word : ℕ) → word < 4096 → check word ≡ sheet word
unfolding bits number minus divide remainder residue check sheet xor
check_sheet word h = eqb→eq (check word) (sheet word) (each 12 (λ u. eqb (check u) (sheet u)) tt word h)
