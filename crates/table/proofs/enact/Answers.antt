use Rattle.std.specs.Prelude.{Ok}
use mathlib.Core.Path.{sym, ap, ◌∙◌}
use Prim.Native.Nat.{◌+◌, ◌*◌}
use lib.Dec.{eqb}
use Rattle.lookup.specs.Record.{size, record_at}
use Rattle.state.specs.Bytes.{shelf_in}
use Rattle.judge.specs.Standing.{judge_by}
use Rattle.meaning.specs.Enact.{memory_by}
use Rattle.table.proofs.Leaves.{step_stopped, memory_kept, state_kept, step_fine, memory_enacted, state_enacted, fine_is, failed, passed}
use Rattle.table.proofs.enact.Goals as goal

pub returns-then-is_err : goal.returns-then-is_err
returns-then-is_err c =
    let a = c.args in
    let h = shelf_in a.s.now in
    let e = c.judge-verdict.ensures ∙ ap (λ o. judge_by a.card a.room (eqb a.p.lines 0) (record_at a.card a.memory.now) (shelf_in a.s.now) a.p.used o a.line) c.owner_of-o.ensures.0 in
    let f = failed _ (sym c.is_err.ensures.value ∙ c.if-is_err.true) in record { value = step_stopped a.card a.memory.now a.s.now h a.p (Ok a.line) _ _ e f; memory_after = memory_kept a.card a.memory.now a.s.now h a.p (Ok a.line) _ _ e f; s_after = state_kept a.card a.memory.now a.s.now h a.p (Ok a.line) _ _ e f }

pub enter-requires : goal.enter-requires
enter-requires c =
    let s = c in
    let a = s.args in
    let e = c.judge-verdict.ensures ∙ ap (λ o. judge_by a.card a.room (eqb a.p.lines 0) (record_at a.card a.memory.now) (shelf_in a.s.now) a.p.used o a.line) c.owner_of-o.ensures.0 in
    s.requires.places (sym e ∙ fine_is _ (passed _ (sym c.is_err.ensures.value ∙ c.if-is_err.false)))

pub returns : goal.returns
returns c =
    let a = c.args in
    let h = shelf_in a.s.now in
    let e = c.judge-verdict.ensures ∙ ap (λ o. judge_by a.card a.room (eqb a.p.lines 0) (record_at a.card a.memory.now) (shelf_in a.s.now) a.p.used o a.line) c.owner_of-o.ensures.0 in
    let f = passed _ (sym c.is_err.ensures.value ∙ c.if-is_err.false) in
    let m = c.write.ensures ∙ ap (λ o. memory_by a.card a.memory.now a.p.used o a.line) c.owner_of-o.ensures.0 in record { value = step_fine a.card a.memory.now a.s.now h a.p (Ok a.line) _ _ e _ f (ap (λ n. a.p.used + size * n) c.takes.ensures.0); memory_after = memory_enacted a.card a.memory.now a.s.now h a.p (Ok a.line) _ _ e _ f m; s_after = state_enacted a.card a.memory.now a.s.now h a.p (Ok a.line) _ _ e _ f c.enter.ensures }
