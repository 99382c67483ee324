use Rattle.std.proofs.Common.{◌≡◌, ◌-◌, ◌≤◌, ◌||◌}
use Rattle.framing.specs.Moves.{some_looped}
use Rattle.framing.proofs.some_looped.Given as goal

abbrev pub invariant-loop-i : goal.invariant-loop-i
invariant-loop-i l = (l.i ≤ 32) × (some_looped l.s 0 32 ≡ (l.some || some_looped l.s l.i (32 - l.i)))
