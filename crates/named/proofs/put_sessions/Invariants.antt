use mathlib.Core.Path.{◌≡◌}
use Prim.Native.Nat.{◌+◌, ◌*◌, ◌≤◌}
use lib.ListN.{length}
use Rattle.text.specs.Writing.{Wrote}
use Rattle.named.specs.Named.{heard_below}
use Rattle.named.proofs.put_sessions.Given as goal

abbrev pub invariant-loop-session : goal.invariant-loop-session
invariant-loop-session l = (l.next ≤ l.initial.next + 21 * l.session) × (length l.out ≡ length l.initial.out) × Wrote l.initial.out l.initial.next (heard_below l.sessions l.session) l.next l.out
