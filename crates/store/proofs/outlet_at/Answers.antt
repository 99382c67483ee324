use mathlib.Core.Path.{ap, ◌∙◌}
use Prim.Native.Nat.{◌+◌}
use Rattle.store.specs.Places.{slot_at}
use Rattle.store.proofs.Slots.{start_le}
use native.Mathlib.Omega.{arith}
use Rattle.store.proofs.outlet_at.Goals as goal

pub overflow_add-start : goal.overflow_add-start
overflow_add-start c = omega (arith, c.start.ensures, start_le c.args.limits c.args.queue)

pub returns : goal.returns
returns c = c.slot_at.ensures ∙ ap (λ s. slot_at c.args.place (s + c.args.p)) c.start.ensures
