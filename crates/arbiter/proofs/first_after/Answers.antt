use mathlib.Core.Path.{refl, sym, ap, ◌∙◌}
use Rattle.arbiter.specs.Arbitration.{next}
use Rattle.arbiter.proofs.Order.{cyclic_start, cyclic_next, cyclic_unit}
use Rattle.arbiter.proofs.Requests.{here, later, nowhere}
use native.Mathlib.Omega.{arith}
use Rattle.arbiter.proofs.first_after.Goals as goal

pub loop-passed-init : goal.loop-passed-init
loop-passed-init c = (λ h. c.next-unit.ensures ∙ sym (cyclic_start c.args.last), refl)

pub bounds-asks-unit : goal.bounds-asks-unit
bounds-asks-unit c =
    let s = c in
    let u = s.loop-passed.invariant.0 (omega arith) in
    let v = cyclic_unit s.args.last s.loop-passed._passed (omega arith) in
    omega arith

pub returns-then-asks-unit : goal.returns-then-asks-unit
returns-then-asks-unit c =
    let s = c in
    let a = s.args in
    sym (s.loop-passed.invariant.1 ∙ here a.asks a.priority a.last s.loop-passed._passed s.loop-passed.unit (omega arith) (s.loop-passed.invariant.0 (omega arith)) c.if-asks-unit.true)

pub loop-passed-preserved : goal.loop-passed-preserved
loop-passed-preserved c =
    let s = c in
    let a = s.args in
    let u = s.loop-passed.invariant.0 (omega arith) in (
      λ h. c.next-unit-in-loop-passed.ensures ∙ ap next u ∙ sym (cyclic_next a.last s.loop-passed._passed h),
      s.loop-passed.invariant.1 ∙ later a.asks a.priority a.last s.loop-passed._passed s.loop-passed.unit (omega arith) u c.if-asks-unit.false,
    )

pub returns : goal.returns
returns c =
    let s = c in
    let a = s.args in
    sym (s.loop-passed.invariant.1 ∙ nowhere a.asks a.priority a.last s.loop-passed._passed (omega arith))
