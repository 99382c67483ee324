use Rattle.state.proofs.side_at.Goals as goal

pub returns : goal.returns
returns c = cc
