use mathlib.Core.Path.{refl, ◌∙◌}
use Prim.Native.Nat.{◌*◌}
use native.Mathlib.Omega.{arith}
use lib.ListN.{length-set}
use Rattle.text.specs.Hex.{hex_of}
use Rattle.text.proofs.Splices.{paste_whole}
use Rattle.text.proofs.HexLaws.{pair_turn, length_hex}
use Rattle.text.proofs.put_hex.Goals as goal

pub loop-i-preserved : goal.loop-i-preserved
loop-i-preserved c =
    let a = c.args in
    let l = c.loop-i in (
      pair_turn a.out.now a.at a.bytes.now l.i l.out _ _ c.loop-i-test.true (omega arith) l.invariant.0 c.capital.ensures c.capital-in-loop-i.ensures,
      simp length-set l.invariant.1,
    )

pub returns : goal.returns
returns c =
    let a = c.args in
    let l = c.loop-i in
    let n = length_hex a.bytes.now in
    ((omega arith, l.invariant.0 ∙ paste_whole a.out.now a.at (hex_of a.bytes.now) (2 * l.i) (omega arith)), refl)
