use mathlib.Core.Path.{refl, sym, ◌∙◌}
use Rattle.command.proofs.FieldLaws.{is_here, is_last, is_later}
use native.Mathlib.Omega.{arith}
use Rattle.command.proofs.find.Goals as goal

pub loop-from-init : goal.loop-from-init
loop-from-init c = (omega arith, omega arith, refl)

pub returns-then-is : goal.returns-then-is
returns-then-is c = sym (c.loop-from.invariant.2 ∙ is_here _ _ _ _ _ c.field_end-e.ensures.0 (sym c.is.ensures ∙ c.if-is.true))

pub returns-then-names-e : goal.returns-then-names-e
returns-then-names-e c = sym (c.loop-from.invariant.2 ∙ is_last _ _ _ _ _ c.field_end-e.ensures.0 (sym c.is.ensures ∙ c.if-is.false) c.if-names-e.true)

pub loop-from-smaller : goal.loop-from-smaller
loop-from-smaller c = omega arith

pub loop-from-preserved : goal.loop-from-preserved
loop-from-preserved c = (omega arith, omega arith, c.loop-from.invariant.2 ∙ is_later _ _ _ _ _ c.field_end-e.ensures.0 (sym c.is.ensures ∙ c.if-is.false) c.if-names-e.false)
