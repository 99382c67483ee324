use Rattle.state.proofs.ring_at.Goals as goal

pub returns : goal.returns
returns c = cc
