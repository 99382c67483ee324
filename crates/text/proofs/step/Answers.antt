use mathlib.Core.Path.{◌≡◌, ap, ◌∙◌}
use Prim.Native.Nat.{ℕ, ◌+◌, ◌*◌, ◌/◌, ◌%◌, ◌<◌}
use native.Mathlib.Omega.{arith}
use Rattle.std.specs.Int.Bits.{bit_xor, xor_zero_r}
use Rattle.std.proofs.lemmas.Nat.{xor_shr, xor_mod, xor_comm}
use Rattle.text.specs.Fnv.{step}
use Rattle.text.proofs.step.Goals as goal

-- a byte mixes into the low eight bits alone
mixed : (sum byte : ℕ) → byte < 256 → bit_xor sum byte ≡ sum / 256 * 256 + bit_xor byte (sum % 256)
mixed sum byte h =
    let none : byte / 256 ≡ 0 = omega arith in
    let all : byte % 256 ≡ byte = omega arith in
    let high : bit_xor sum byte / 256 ≡ sum / 256 = xor_shr sum byte 8 ∙ ap (bit_xor (sum / 256)) none ∙ xor_zero_r (sum / 256) in
    let low : bit_xor sum byte % 256 ≡ bit_xor byte (sum % 256) = xor_mod sum byte 8 ∙ ap (bit_xor (sum % 256)) all ∙ xor_comm (sum % 256) byte in
    omega arith

pub returns : goal.returns
unfolding step
returns c = ap (λ x. x * 16777619 % 4294967296) (ap (bit_xor c.args.sum) c.from.ensures ∙ mixed c.args.sum c.args.byte c.ranges.byte.fits)
