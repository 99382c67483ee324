use Rattle.std.proofs.Common.{◌∙◌}
use Rattle.judge.specs.Standing.{judge_first}
use Rattle.judge.proofs.Owning.{no_bus}
use Rattle.judge.proofs.judge_first.Goals as goal

pub returns-in-Bus : goal.returns-in-Bus
unfolding judge_first
returns-in-Bus c = c.asks.ensures ∙ rw c.in-Bus.is

pub returns-in_default : goal.returns-in_default
returns-in_default c = no_bus c.args.card c.args.line c.in_default.not-Bus
