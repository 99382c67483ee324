use Rattle.std.proofs.Common.{ap, ◌∙◌}
use Rattle.bus.specs.Routing.{address}
use Rattle.bus.specs.Frame.{heard_as, carried}
use Rattle.hearing.proofs.address_of.Goals as goal

pub returns : goal.returns
unfolding carried
returns c = ap (λ a. heard_as a c.args.cell.now) (c.read.ensures ∙ ap address c.two.ensures)
