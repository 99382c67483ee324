use Rattle.std.proofs.Common.{sym, ◌∙◌}
use Rattle.std.proofs.lemmas.Result.{err_from_is_err_and}
use borrow.Author.Tests.{le-leb, lt-leb}
use Rattle.judge.specs.Judge.{judge_unit}
use Rattle.judge.proofs.Owning.{asked_fine, asked_wide}
use Rattle.judge.proofs.judge_unit.Goals as goal

pub returns-then-bus-settings : goal.returns-then-bus-settings
unfolding judge_unit
returns-then-bus-settings c = rw (le-leb c.args.bus c.args.settings.number c.if-bus-settings.true)

pub returns-then-declared : goal.returns-then-declared
unfolding judge_unit
returns-then-declared c = rw (lt-leb c.args.bus c.args.settings.number c.if-bus-settings.false, c.if-declared.true)

pub returns-in_err-asks : goal.returns-in_err-asks
unfolding judge_unit
returns-in_err-asks c =
    let p = err_from_is_err_and c.from_residual.result c.from_residual.ensures.1 in
    rw (p.1, p.2, lt-leb c.args.bus c.args.settings.number c.if-bus-settings.false, c.if-declared.false) (asked_wide _ _ _ (sym c.asks.ensures ∙ c.in_err-asks.was) _)

pub returns : goal.returns
unfolding judge_unit
returns c =
    c.room_for.ensures ∙ rw (lt-leb c.args.bus c.args.settings.number c.if-bus-settings.false, c.if-declared.false) (asked_fine _ _ (sym c.asks.ensures ∙ c.in_ok-asks.was) _)
