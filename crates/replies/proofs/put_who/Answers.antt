use native.Mathlib.Omega.{arith}
use Rattle.replies.proofs.FieldJoins.{who_nobody, who_number}
use Rattle.replies.proofs.put_who.Goals as goal

pub returns-then-n-eq-NOBODY : goal.returns-then-n-eq-NOBODY
returns-then-n-eq-NOBODY c = rw (who_nobody _ c.if-n-eq-NOBODY.true) (c.put_field.ensures, omega arith)

pub returns : goal.returns
returns c = rw (who_number _ c.if-n-eq-NOBODY.false) c.put_number.ensures
