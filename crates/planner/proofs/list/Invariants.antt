use Rattle.std.proofs.Common.{◌+◌, ◌-◌, ◌≤◌, length}
use Rattle.planner.proofs.list.Given as goal

abbrev pub invariant-loop-next : goal.invariant-loop-next
invariant-loop-next g l = l.lines ≤ l.from

abbrev pub decreases-loop-next : goal.decreases-loop-next
decreases-loop-next g l = length l.text + 1 - l.from
