use mathlib.Core.Path.{◌∙◌}
use Prim.Native.Nat.{◌+◌, ◌*◌}
use native.Mathlib.Omega.{arith}
use lib.ListN.{length-set}
use Rattle.text.specs.Hex.{unhex as unhexed}
use Rattle.text.proofs.Splices.{paste_whole}
use Rattle.text.proofs.HexLaws.{digit_below, has_hex, length_unhex, byte_turn}
use Rattle.text.proofs.unhex.Goals as goal

pub hex_digit-requires : goal.hex_digit-requires
hex_digit-requires c = digit_below _ (2 * c.loop-i.i) (omega arith) (has_hex _ c.requires.0)

pub hex_digit-requires-in-loop-i : goal.hex_digit-requires-in-loop-i
hex_digit-requires-in-loop-i c = digit_below _ (2 * c.loop-i.i + 1) (omega arith) (has_hex _ c.requires.0)

pub overflow_mul-out : goal.overflow_mul-out
overflow_mul-out c = omega (arith, digit_below _ (2 * c.loop-i.i) (omega arith) (has_hex _ c.requires.0))

pub overflow_add-out : goal.overflow_add-out
overflow_add-out c =
    let d = has_hex _ c.requires.0 in
    omega (arith, digit_below _ (2 * c.loop-i.i) (omega arith) d, digit_below _ (2 * c.loop-i.i + 1) (omega arith) d)

pub loop-i-preserved : goal.loop-i-preserved
loop-i-preserved c =
    let a = c.args in
    let l = c.loop-i in (
      byte_turn a.out.now a.at a.s.now l.i l.out _ _ (omega arith) (omega arith) l.invariant.0 c.hex_digit.ensures c.hex_digit-in-loop-i.ensures,
      simp length-set l.invariant.1,
    )

pub returns : goal.returns
returns c =
    let a = c.args in
    let n = length_unhex a.s.now in
    c.loop-i.invariant.0 ∙ paste_whole a.out.now a.at (unhexed a.s.now) c.loop-i.i (omega arith)
