use Rattle.std.proofs.Common.{sym, ap, ◌∙◌}
use borrow.Author.Tests.{lt-ltb, le-ltb}
use Rattle.lookup.specs.Record.{record_at}
use Rattle.judge.specs.Verdicts.{taken}
use Rattle.judge.specs.Judge.{judge_drop}
use Rattle.judge.proofs.judge_drop.Goals as goal

pub returns-then-o-vpi : goal.returns-then-o-vpi
unfolding judge_drop
returns-then-o-vpi c = rw (lt-ltb c.args.o.top c.args.vpi c.if-o-vpi.true)

pub returns-then-taken : goal.returns-then-taken
unfolding judge_drop
returns-then-taken c =
    let a = c.args in
    let stands = c.taken.ensures ∙ ap taken (c.get.ensures ∙ ap (record_at a.card a.memory.now) c.spot.ensures) in
    rw (le-ltb a.o.top a.vpi c.if-o-vpi.false, sym stands ∙ c.if-taken.true)

pub returns : goal.returns
unfolding judge_drop
returns c =
    let a = c.args in
    let stands = c.taken.ensures ∙ ap taken (c.get.ensures ∙ ap (record_at a.card a.memory.now) c.spot.ensures) in
    rw (le-ltb a.o.top a.vpi c.if-o-vpi.false, sym stands ∙ c.if-taken.false)
