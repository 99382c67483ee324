use Rattle.std.proofs.Common.{◌≡◌, ◌&&◌, eqb, drop}
use Rattle.soundness.specs.Numbered.{asks_held}
use Rattle.soundness.proofs.asks_held.Given as goal

abbrev pub invariant-loop-i : goal.invariant-loop-i
invariant-loop-i l = asks_held l.held 0 l.fn.asks ≡ (eqb l.worst 0 && asks_held l.held l.i (drop l.i l.fn.asks))
