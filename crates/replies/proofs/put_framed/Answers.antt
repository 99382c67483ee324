use mathlib.Core.List.{[], ◌∷◌}
use native.Mathlib.Omega.{arith}
use Rattle.replies.proofs.FieldJoins.{one, more}
use Rattle.replies.proofs.put_framed.Goals as goal

pub returns : goal.returns
returns c =
    let w1 = more _ _ _ _ _ _ (_ ∷ []) _ (one _ _ _ _ _ c.put_number-a.ensures.0) c.put_who-b.ensures.0 (omega arith) in
    let w2 = more _ _ _ _ _ _ (_ ∷ _ ∷ []) _ w1 c.put_who-c.ensures.0 (omega arith) in
    (more _ _ _ _ _ _ (_ ∷ _ ∷ _ ∷ []) _ w2 c.put_number.ensures.0 (omega arith), omega arith)
