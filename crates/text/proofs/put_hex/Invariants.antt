use mathlib.Core.Path.{◌≡◌}
use Prim.Native.Nat.{◌*◌}
use lib.ListN.{length}
use lib.Seq.{paste}
use Rattle.text.specs.Hex.{hex_of}
use Rattle.text.proofs.put_hex.Given as goal

abbrev pub invariant-loop-i : goal.invariant-loop-i
invariant-loop-i l = (l.out ≡ paste l.initial.out l.at (hex_of l.bytes) (2 * l.i)) × (length l.out ≡ length l.initial.out)
