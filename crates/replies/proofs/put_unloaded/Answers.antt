use mathlib.Core.List.{[], ◌∷◌}
use native.Mathlib.Omega.{arith}
use Rattle.replies.proofs.FieldJoins.{more}
use Rattle.replies.proofs.put_unloaded.Goals as goal

pub returns : goal.returns
returns c = (more _ _ _ _ _ _ (_ ∷ _ ∷ []) _ c.put_refused-next.ensures.0 c.put_number.ensures.0 (omega arith), omega arith)
