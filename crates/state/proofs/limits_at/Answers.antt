use Rattle.state.proofs.limits_at.Goals as goal

pub returns : goal.returns
returns c = cc
