use mathlib.Core.Path.{◌≡◌}
use mathlib.Core.List.{List}
use Prim.Native.Nat.{◌+◌, ◌-◌}
use lib.ListN.{length}
use Rattle.line.specs.declared.Line.{Line}
use Rattle.table.proofs.Turns.{Between}
use Rattle.table.proofs.read_lines.Given as goal

abbrev pub invariant-loop-from : goal.invariant-loop-from
invariant-loop-from l = (told : List Line) × Between l.card l.initial.memory l.text told l.from l.p l.memory l.s × (length l.memory ≡ length l.initial.memory)

abbrev pub decreases-loop-from : goal.decreases-loop-from
decreases-loop-from l = length l.text + 1 - l.from
