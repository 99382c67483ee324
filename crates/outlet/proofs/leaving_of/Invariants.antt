use mathlib.Core.Path.{◌≡◌}
use Prim.Native.Nat.{◌-◌}
use Rattle.outlet.specs.Hearing.{held}
use Rattle.outlet.specs.Taking.{queues, lowest, leaving}
use Rattle.outlet.proofs.leaving_of.Given as goal

abbrev pub invariant-loop-q : goal.invariant-loop-q
invariant-loop-q l = leaving l.outlet ≡ lowest (held l.outlet) l.q (queues l.outlet.limits.mode - l.q)
