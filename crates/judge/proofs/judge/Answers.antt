use Rattle.std.proofs.Common.{sym, ap, ◌∙◌}
use Rattle.std.proofs.lemmas.Result.{err_from_is_err_and}
use Rattle.lookup.specs.Record.{record_at}
use Rattle.state.specs.Bytes.{shelf_in}
use Rattle.judge.specs.Judge.{judge_bus}
use Rattle.judge.specs.Owners.{owned_by}
use Rattle.judge.specs.Standing.{judge_by}
use Rattle.judge.proofs.Owning.{owned, unowned, at_first}
use Rattle.judge.proofs.judge.Goals as goal

pub returns-then-first : goal.returns-then-first
returns-then-first c =
    let a = c.args in
    let s = record_at a.card a.memory.now in
    let h = shelf_in a.s.now in
    c.judge_first.ensures ∙ at_first a.card a.room s h a.used a.o a.line ∙ ap (λ f. judge_by a.card a.room f s h a.used a.o a.line) (sym c.if-first.true)

pub returns-in-Bus : goal.returns-in-Bus
unfolding judge_by judge_bus
returns-in-Bus c = rw (c.in-Bus.is, c.if-first.false)

pub returns-in-Unit : goal.returns-in-Unit
unfolding judge_by
returns-in-Unit c = c.judge_unit.ensures ∙ rw (c.in-Unit.is, c.if-first.false, c.is_some.ensures)

pub returns-in_err-named-in-Vp : goal.returns-in_err-named-in-Vp
unfolding judge_by owned_by
returns-in_err-named-in-Vp c =
    let p = err_from_is_err_and c.from_residual.result c.from_residual.ensures.1 in
    let none = unowned c.args.o _ (sym c.ok_or-named.ensures.value ∙ c.in_err-named-in-Vp.was) in
    rw (p.1, p.2, sym none.1, c.in-Vp.is, c.if-first.false, none.0)

pub returns-in_ok-named-in-Vp : goal.returns-in_ok-named-in-Vp
unfolding judge_by owned_by
returns-in_ok-named-in-Vp c = c.judge_vp.ensures ∙ rw (c.in-Vp.is, c.if-first.false, owned c.args.o _ (sym c.ok_or-named.ensures.value ∙ c.in_ok-named-in-Vp.was))

pub returns-in_err-named-in-Drop : goal.returns-in_err-named-in-Drop
unfolding judge_by owned_by
returns-in_err-named-in-Drop c =
    let p = err_from_is_err_and c.from_residual-in_err-named-in-Drop.result c.from_residual-in_err-named-in-Drop.ensures.1 in
    let none = unowned c.args.o _ (sym c.ok_or-named.ensures.value ∙ c.in_err-named-in-Drop.was) in
    rw (p.1, p.2, sym none.1, c.in-Drop.is, c.if-first.false, none.0)

pub returns-in_ok-named-in-Drop : goal.returns-in_ok-named-in-Drop
unfolding judge_by owned_by
returns-in_ok-named-in-Drop c = c.judge_drop.ensures ∙ rw (c.in-Drop.is, c.if-first.false, owned c.args.o _ (sym c.ok_or-named.ensures.value ∙ c.in_ok-named-in-Drop.was))

pub returns-in_err-named-in-Page : goal.returns-in_err-named-in-Page
unfolding judge_by owned_by
returns-in_err-named-in-Page c =
    let p = err_from_is_err_and c.from_residual-in_err-named-in-Page.result c.from_residual-in_err-named-in-Page.ensures.1 in
    let none = unowned c.args.o _ (sym c.ok_or-named.ensures.value ∙ c.in_err-named-in-Page.was) in
    rw (p.1, p.2, sym none.1, c.in-Page.is, c.if-first.false, none.0)

pub returns-in_ok-named-in-Page : goal.returns-in_ok-named-in-Page
unfolding judge_by owned_by
returns-in_ok-named-in-Page c = c.judge_page.ensures ∙ rw (c.in-Page.is, c.if-first.false, owned c.args.o _ (sym c.ok_or-named.ensures.value ∙ c.in_ok-named-in-Page.was))

pub returns-in_err-named-in-Vc : goal.returns-in_err-named-in-Vc
unfolding judge_by owned_by
returns-in_err-named-in-Vc c =
    let p = err_from_is_err_and c.from_residual-in_err-named-in-Vc.result c.from_residual-in_err-named-in-Vc.ensures.1 in
    let none = unowned c.args.o _ (sym c.ok_or-named.ensures.value ∙ c.in_err-named-in-Vc.was) in
    rw (p.1, p.2, sym none.1, c.in-Vc.is, c.if-first.false, none.0)

pub returns-in_ok-named-in-Vc : goal.returns-in_ok-named-in-Vc
unfolding judge_by owned_by
returns-in_ok-named-in-Vc c = c.judge_vc.ensures ∙ rw (c.in-Vc.is, c.if-first.false, owned c.args.o _ (sym c.ok_or-named.ensures.value ∙ c.in_ok-named-in-Vc.was))

pub returns-in_err-named-in-Mc : goal.returns-in_err-named-in-Mc
unfolding judge_by owned_by
returns-in_err-named-in-Mc c =
    let p = err_from_is_err_and c.from_residual-in_err-named-in-Mc.result c.from_residual-in_err-named-in-Mc.ensures.1 in
    let none = unowned c.args.o _ (sym c.ok_or-named.ensures.value ∙ c.in_err-named-in-Mc.was) in
    rw (p.1, p.2, sym none.1, c.in-Mc.is, c.if-first.false, none.0)

pub returns-in_ok-named-in-Mc : goal.returns-in_ok-named-in-Mc
unfolding judge_by owned_by
returns-in_ok-named-in-Mc c = c.judge_mc.ensures ∙ rw (c.in-Mc.is, c.if-first.false, owned c.args.o _ (sym c.ok_or-named.ensures.value ∙ c.in_ok-named-in-Mc.was))
