use mathlib.Core.List.{[], ◌∷◌}
use native.Mathlib.Omega.{arith}
use Rattle.replies.proofs.FieldJoins.{one, more}
use Rattle.replies.proofs.put_taken.Goals as goal

pub returns : goal.returns
returns c =
    (more _ _ _ _ _ _ (_ ∷ _ ∷ []) _ (more _ _ _ _ _ _ (_ ∷ []) _ (one _ _ _ _ _ c.put_number-a.ensures.0) c.put_header-b.ensures.0 (omega arith)) c.put_byte.ensures.0 (omega arith), omega arith)
