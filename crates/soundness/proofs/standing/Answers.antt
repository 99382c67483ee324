use Rattle.soundness.proofs.Numbered.{stands_left, stands_without}
use Rattle.soundness.proofs.standing.Goals as goal

pub returns-then-taken-cells : goal.returns-then-taken-cells
returns-then-taken-cells c = let a = c.args in stands_left a.priority a.cells a.number a.granted _ c.taken.ensures c.if-taken-cells.true

pub returns-else-taken-cells : goal.returns-else-taken-cells
returns-else-taken-cells c = let a = c.args in stands_without a.priority a.cells a.number a.granted _ c.taken.ensures c.if-taken-cells.false
