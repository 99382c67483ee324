use Rattle.state.proofs.settings_at.Goals as goal

pub returns : goal.returns
returns c = cc
