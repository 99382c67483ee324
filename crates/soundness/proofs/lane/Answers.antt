use Rattle.soundness.proofs.lane.Goals as goal

pub returns : goal.returns
returns c = cc
