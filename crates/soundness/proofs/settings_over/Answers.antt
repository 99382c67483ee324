use Rattle.soundness.proofs.settings_over.Goals as goal

pub returns : goal.returns
returns c = cc
