use Rattle.std.proofs.Common.{sym, ap, ◌∙◌}
use borrow.Author.Tests.{lt-ltb, le-ltb}
use Rattle.lookup.specs.Record.{record_at}
use Rattle.judge.specs.Verdicts.{taken, page_in}
use Rattle.judge.specs.Judge.{judge_vc}
use Rattle.judge.proofs.judge_vc.Goals as goal

pub returns-then-o-vpi : goal.returns-then-o-vpi
unfolding judge_vc
returns-then-o-vpi c = rw (lt-ltb c.args.o.top c.args.vpi c.if-o-vpi.true)

pub returns-in_default : goal.returns-in_default
unfolding judge_vc
returns-in_default c =
    let a = c.args in
    let page = sym (c.page_in.ensures ∙ ap page_in (c.get.ensures ∙ ap (record_at a.card a.memory.now) c.spot.ensures)) ∙ c.in_default.is in
    rw (le-ltb a.o.top a.vpi c.if-o-vpi.false, page)

pub returns-then-page-vci : goal.returns-then-page-vci
unfolding judge_vc
returns-then-page-vci c =
    let a = c.args in
    let page = sym (c.page_in.ensures ∙ ap page_in (c.get.ensures ∙ ap (record_at a.card a.memory.now) c.spot.ensures)) ∙ c.in-Some.is in
    rw (le-ltb a.o.top a.vpi c.if-o-vpi.false, page, lt-ltb c.in-Some.page.top a.vci c.if-page-vci.true)

pub returns-then-off_bus : goal.returns-then-off_bus
unfolding judge_vc
returns-then-off_bus c =
    let a = c.args in
    let page = sym (c.page_in.ensures ∙ ap page_in (c.get.ensures ∙ ap (record_at a.card a.memory.now) c.spot.ensures)) ∙ c.in-Some.is in
    rw (le-ltb a.o.top a.vpi c.if-o-vpi.false, page, le-ltb c.in-Some.page.top a.vci c.if-page-vci.false, sym c.off_bus.ensures ∙ c.if-off_bus.true)

pub returns-then-taken : goal.returns-then-taken
unfolding judge_vc
returns-then-taken c =
    let a = c.args in
    let page = sym (c.page_in.ensures ∙ ap page_in (c.get.ensures ∙ ap (record_at a.card a.memory.now) c.spot.ensures)) ∙ c.in-Some.is in
    let stands = c.taken.ensures ∙ ap taken (c.get-2.ensures ∙ ap (record_at a.card a.memory.now) c.vci_spot.ensures) in
    rw (le-ltb a.o.top a.vpi c.if-o-vpi.false, page, le-ltb c.in-Some.page.top a.vci c.if-page-vci.false, sym c.off_bus.ensures ∙ c.if-off_bus.false, sym stands ∙ c.if-taken.true)

pub returns : goal.returns
unfolding judge_vc
returns c =
    let a = c.args in
    let page = sym (c.page_in.ensures ∙ ap page_in (c.get.ensures ∙ ap (record_at a.card a.memory.now) c.spot.ensures)) ∙ c.in-Some.is in
    let stands = c.taken.ensures ∙ ap taken (c.get-2.ensures ∙ ap (record_at a.card a.memory.now) c.vci_spot.ensures) in
    rw (le-ltb a.o.top a.vpi c.if-o-vpi.false, page, le-ltb c.in-Some.page.top a.vci c.if-page-vci.false, sym c.off_bus.ensures ∙ c.if-off_bus.false, sym stands ∙ c.if-taken.false) c.asks.ensures
