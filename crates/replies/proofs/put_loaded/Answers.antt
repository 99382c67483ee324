use mathlib.Core.List.{[], ◌∷◌}
use native.Mathlib.Omega.{arith}
use Rattle.replies.proofs.FieldJoins.{one, more}
use Rattle.replies.proofs.put_loaded.Goals as goal

pub returns : goal.returns
returns c = (more _ _ _ _ _ _ (_ ∷ []) _ (one _ _ _ _ _ c.put_field-next.ensures) c.put_number.ensures.0 (omega arith), omega arith)
