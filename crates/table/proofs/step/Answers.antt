use mathlib.Core.Path.{◌≡◌, sym, ap, subst, ◌∙◌}
use Rattle.state.specs.Bytes.{shelf_in}
use Rattle.meaning.specs.Enact.{Places}
use Rattle.table.specs.Load.{progress_by, memory_after, verdict_in}
use Rattle.table.specs.InPlace.{state_after}
use Rattle.table.proofs.step.Goals as goal
use Rattle.judge.specs.Verdicts.{fine}

pub enact-requires : goal.enact-requires
enact-requires c =
    let s = c in
    let a = s.args in
    record { bounded = s.requires.bounded; places = subst (λ r. verdict_in a.card a.room a.memory.now (shelf_in a.s.now) a.p r ≡ fine → Places (shelf_in a.s.now) r) c.in-Ok.is s.requires.places }

pub returns-in-Ok : goal.returns-in-Ok
returns-in-Ok c =
    let a = c.args in
    let e = sym c.in-Ok.is in
    let m = a.memory.now in
    let h = shelf_in a.s.now in
    let k = c.enact.ensures in record { value = k.value ∙ ap (λ r. progress_by (verdict_in a.card a.room m h a.p r) a.p r) e; memory_after = k.memory_after ∙ ap (λ r. memory_after a.card m h (verdict_in a.card a.room m h a.p r) a.p r) e; s_after = k.s_after ∙ ap (λ r. state_after a.s.now (verdict_in a.card a.room m h a.p r) a.p r) e }

pub returns-in-Err : goal.returns-in-Err
unfolding progress_by
returns-in-Err c =
    let a = c.args in
    let e = sym c.in-Err.is in
    let m = a.memory.now in
    let h = shelf_in a.s.now in record { value = ap (λ r. progress_by (verdict_in a.card a.room m h a.p r) a.p r) e; memory_after = ap (λ r. memory_after a.card m h (verdict_in a.card a.room m h a.p r) a.p r) e; s_after = ap (λ r. state_after a.s.now (verdict_in a.card a.room m h a.p r) a.p r) e }
