use mathlib.Core.Path.{◌≡◌}
use mathlib.Core.List.{◌++◌}
use lib.ListN.{length, take, drop}
use Rattle.arbiter.specs.Arbitration.{renewed_from}
use Rattle.arbiter.proofs.Arbiter.renew.Given as goal

abbrev pub invariant-loop-number : goal.invariant-loop-number
invariant-loop-number l = (length l.asks ≡ 32) × (renewed_from l.bus l.frame l.now 0 l.self.asks ≡ take l.number l.asks ++ renewed_from l.bus l.frame l.now l.number (drop l.number l.asks))
