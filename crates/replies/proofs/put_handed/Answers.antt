use mathlib.Core.List.{[], ◌∷◌}
use native.Mathlib.Omega.{arith}
use Rattle.replies.proofs.FieldJoins.{one, more}
use Rattle.replies.proofs.put_handed.Goals as goal

pub returns : goal.returns
returns c = (more _ _ _ _ _ _ (_ ∷ []) _ (one _ _ _ _ _ c.put_number-next.ensures.0) c.put_field.ensures (omega arith), omega arith)
