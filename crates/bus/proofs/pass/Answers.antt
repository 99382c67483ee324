use mathlib.Core.Path.{◌≡◌, sym, ap}
use Prim.Native.Nat.{ℕ, ◌*◌, ◌/◌, ◌%◌, ◌<◌}
use native.Mathlib.Omega.{arith}
use lib.Bits.{bit_xor, xor_lt}
use lib.Dec.{eqb, eqb→eq}
use Rattle.remainder.specs.Bits.{bits, number}
use Rattle.remainder.specs.Division.{minus, divide, remainder, residue, advance}
use Rattle.remainder.proofs.Every.{each}
use Rattle.bus.specs.Routing.{divisor}
use borrow.Author.Rules.{rules}
use Rattle.bus.proofs.pass.Goals as goal

abbrev product : ℕ → ℕ
product n = bit_xor n (n * 2)

product_at : (n : ℕ) → n < 8 → residue divisor 3 n ≡ product n
unfolding bits number minus divide remainder residue
product_at n h = eqb→eq (residue divisor 3 n) (product n) (each 3 (λ k. eqb (residue divisor 3 k) (product k)) tt n h)

struck_lt : (c : goal.Start) → bit_xor (c.args.rest / 2) c.args.three < 8
struck_lt c = xor_lt 3 (c.args.rest / 2) c.args.three (search rules) c.requires.1

pub overflow_mul-result : goal.overflow_mul-result
overflow_mul-result c = record { fits = omega (arith, struck_lt c) }

pub returns : goal.returns
unfolding advance
returns c = ap (λ p. bit_xor p (c.args.rest % 2 * 8)) (sym (product_at (bit_xor (c.args.rest / 2) c.args.three) (struck_lt c)))
