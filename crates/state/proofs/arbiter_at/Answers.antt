use Rattle.state.proofs.arbiter_at.Goals as goal

pub returns : goal.returns
returns c = cc
