use Rattle.state.specs.Bytes.{unit_by}
use Rattle.state.proofs.waiting_at.Goals as goal

pub returns : goal.returns
unfolding unit_by
returns c = cc
