use Rattle.arbiter.proofs.Grants.{none_granted, one_granted, turn_unit, top_most}
use native.Mathlib.Omega.{arith}
use Rattle.arbiter.proofs.grant_rule.Goals as goal

pub returns-then-priority-eq0 : goal.returns-then-priority-eq0
returns-then-priority-eq0 c = none_granted c.args.last c.args.asks c.highest-priority.result c.highest-priority.ensures c.if-priority-eq0.true

pub bounds-last-place : goal.bounds-last-place
bounds-last-place c =
    let a = c.args in
    let m = top_most a.last a.asks c.highest-priority.result c.highest-priority.ensures in
    omega arith

pub bounds-last-place-2 : goal.bounds-last-place-2
bounds-last-place-2 c =
    let a = c.args in
    let m = top_most a.last a.asks c.highest-priority.result c.highest-priority.ensures in
    omega arith

pub bounds-asks-unit : goal.bounds-asks-unit
bounds-asks-unit c =
    let a = c.args in
    let m = turn_unit a.last a.asks c.highest-priority.result c.highest-priority.ensures c.if-priority-eq0.false in
    let e = c.first_after-unit.ensures in
    omega arith

pub returns : goal.returns
returns c =
    let a = c.args in
    let h = c.highest-priority in
    one_granted a.last a.asks h.result h.ensures c.first_after-unit.result c.if-priority-eq0.false c.first_after-unit.ensures
