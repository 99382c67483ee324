use mathlib.Core.Path.{sym, ap, ap₂, ◌∙◌}
use Rattle.lookup.specs.Record.{usable, cleared}
use Rattle.meaning.specs.Told.{memory_of}
use Rattle.table.specs.Load.{progress_of, told_in, ran_of}
use Rattle.table.specs.InPlace.{state_of}
use Rattle.table.proofs.Cleared.{cleared_usable, cleared_twice, memory_cleared, after_long, after_stopped, after_little, after_done}
use Rattle.table.proofs.Leaves.{failed, passed}
use Rattle.table.proofs.load_text.Goals as goal
use Rattle.table.specs.Loading.{refusal_of}

pub returns-then-text-gt-LONGEST : goal.returns-then-text-gt-LONGEST
returns-then-text-gt-LONGEST c =
    let a = c.args in
    let e = c.refused.ensures in
    let o = after_long a.card a.text.now a.memory.now a.store a.rows c.if-text-gt-LONGEST.true in
    record { value = e.value ∙ o.0; memory_after = e.memory_after ∙ o.1; s_after = e.s_after ∙ o.2 }

pub read_lines-p-requires : goal.read_lines-p-requires
read_lines-p-requires c =
    let e = c.clear.ensures in
    (c.if-text-gt-LONGEST.false, e ∙ sym (cleared_twice _) ∙ ap cleared (sym e), c.fresh.ensures)

pub returns-then-is_err : goal.returns-then-is_err
returns-then-is_err c =
    let a = c.args in
    let m = a.memory.now in
    let t = a.text.now in
    let k = c.clear.ensures in
    let l = c.read_lines-p in
    let p = l.result in
    let r = ap (λ x. ran_of a.card (usable x) t) k ∙ ap (λ n. ran_of a.card n t) (cleared_usable m) in
    let come = l.ensures.value ∙ ap progress_of r in
    let holding = l.ensures.memory_after ∙ ap₂ (λ x y. memory_of a.card x (told_in y)) k r ∙ memory_cleared a.card m (told_in (ran_of a.card (usable m) t)) in
    let standing = l.ensures.s_after ∙ ap (λ y. state_of (told_in y)) r in
    let short = c.if-text-gt-LONGEST.false in
    let o = after_stopped a.card t m a.store a.rows short p come _ _ holding standing (failed _ (sym c.is_err.ensures.value ∙ c.if-is_err.true)) in
    let e = c.refused-then-is_err.ensures in
    record { value = e.value ∙ ap (λ n. refusal_of n p.lines) c.number.ensures ∙ o.0; memory_after = e.memory_after ∙ o.1; s_after = e.s_after ∙ o.2 }

pub returns-then-too_little : goal.returns-then-too_little
returns-then-too_little c =
    let a = c.args in
    let m = a.memory.now in
    let t = a.text.now in
    let k = c.clear.ensures in
    let l = c.read_lines-p in
    let p = l.result in
    let r = ap (λ x. ran_of a.card (usable x) t) k ∙ ap (λ n. ran_of a.card n t) (cleared_usable m) in
    let come = l.ensures.value ∙ ap progress_of r in
    let holding = l.ensures.memory_after ∙ ap₂ (λ x y. memory_of a.card x (told_in y)) k r ∙ memory_cleared a.card m (told_in (ran_of a.card (usable m) t)) in
    let standing = l.ensures.s_after ∙ ap (λ y. state_of (told_in y)) r in
    let short = c.if-text-gt-LONGEST.false in
    let o = after_little a.card t m a.store a.rows short p come _ _ holding standing (passed _ (sym c.is_err.ensures.value ∙ c.if-is_err.false)) (sym c.too_little.ensures ∙ c.if-too_little.true) in
    let e = c.refused-then-too_little.ensures in
    record { value = e.value ∙ o.0; memory_after = e.memory_after ∙ o.1; s_after = e.s_after ∙ o.2 }

pub returns : goal.returns
returns c =
    let a = c.args in
    let m = a.memory.now in
    let t = a.text.now in
    let k = c.clear.ensures in
    let l = c.read_lines-p in
    let p = l.result in
    let r = ap (λ x. ran_of a.card (usable x) t) k ∙ ap (λ n. ran_of a.card n t) (cleared_usable m) in
    let come = l.ensures.value ∙ ap progress_of r in
    let holding = l.ensures.memory_after ∙ ap₂ (λ x y. memory_of a.card x (told_in y)) k r ∙ memory_cleared a.card m (told_in (ran_of a.card (usable m) t)) in
    let standing = l.ensures.s_after ∙ ap (λ y. state_of (told_in y)) r in
    let short = c.if-text-gt-LONGEST.false in
    let o = after_done a.card t m a.store a.rows short p come _ _ holding standing (passed _ (sym c.is_err.ensures.value ∙ c.if-is_err.false)) (sym c.too_little.ensures ∙ c.if-too_little.false) in
    record { value = o.0; memory_after = o.1; s_after = o.2 }
