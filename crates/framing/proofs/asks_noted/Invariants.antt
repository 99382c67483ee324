use Rattle.std.proofs.Common.{◌≡◌, ℕ, ◌-◌, ◌<◌, ◌≤◌, length, get_or}
use Rattle.framing.specs.Requests.{asked_in}
use Rattle.framing.proofs.asks_noted.Given as goal

abbrev pub invariant-loop-i : goal.invariant-loop-i
invariant-loop-i l = (l.i ≤ 32) × (length l.asks ≡ 32) × ((j : ℕ) → j < l.i → get_or l.asks j 0 ≡ asked_in (get_or l.held j 0))
