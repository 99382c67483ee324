use Rattle.std.proofs.Common.{◌≡◌, ◌-◌, ◌&&◌, eqb}
use Rattle.soundness.proofs.Judged.{places}
use Rattle.soundness.proofs.units_good.Given as goal

abbrev pub invariant-loop-i : goal.invariant-loop-i
invariant-loop-i l = places l.links l.last l.s l.count 0 32 ≡ (eqb l.worst 0 && places l.links l.last l.s l.count l.i (32 - l.i))
