use native.Mathlib.Nat.{sub_self}
use Rattle.text.proofs.Split.{after_tab, after_end}
use Rattle.text.proofs.after.Goals as goal

pub returns-then-e-s : goal.returns-then-e-s
returns-then-e-s c = after_tab _ _ c.field_end-e.ensures.0

pub returns : goal.returns
returns c = rw sub_self (after_end _ _ c.field_end-e.ensures.0 c.if-e-s.false)
