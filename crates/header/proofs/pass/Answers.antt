use mathlib.Core.Path.{◌≡◌, sym, ap}
use Prim.Native.Nat.{ℕ, ◌*◌, ◌/◌, ◌%◌, ◌<◌}
use native.Mathlib.Omega.{arith}
use lib.Bits.{bit_xor, xor_lt}
use lib.Dec.{eqb, eqb→eq}
use Rattle.remainder.specs.Bits.{bits, number}
use Rattle.remainder.specs.Division.{minus, divide, remainder, residue, advance}
use Rattle.remainder.proofs.Every.{each}
use Rattle.header.specs.Check.{divisor}
use borrow.Author.Rules.{rules}
use Rattle.header.proofs.pass.Goals as goal

abbrev product : ℕ → ℕ
product n = bit_xor (bit_xor n (n * 2)) (n * 4)

product_at : (n : ℕ) → n < 64 → residue divisor 6 n ≡ product n
unfolding bits number minus divide remainder residue
product_at n h = eqb→eq (residue divisor 6 n) (product n) (each 6 (λ k. eqb (residue divisor 6 k) (product k)) tt n h)

struck_lt : (c : goal.Start) → bit_xor (c.args.rest / 4) c.args.six < 64
struck_lt c = xor_lt 6 (c.args.rest / 4) c.args.six (search rules) c.requires

pub overflow_mul-result : goal.overflow_mul-result
overflow_mul-result c = record { fits = omega (arith, struck_lt c) }

pub overflow_mul-result-2 : goal.overflow_mul-result-2
overflow_mul-result-2 c = record { fits = omega (arith, struck_lt c) }

pub returns : goal.returns
unfolding advance
returns c = ap (λ p. bit_xor p (c.args.rest % 4 * 64)) (sym (product_at (bit_xor (c.args.rest / 4) c.args.six) (struck_lt c)))
