use Prim.Native.Nat.{◌≤◌}
use native.Mathlib.Omega.{arith}
use mathlib.Core.Path.{sym, ap, ap₂, subst, ◌∙◌}
use lib.ListN.{length, get_or}
use Rattle.answer.specs.declared.Outcome.{Outcome}
use Rattle.shelf.specs.Shelf.{Shelf}
use Rattle.table.specs.EventInPlace.{outcome_by}
use Rattle.table.proofs.Laws.{load_rows}
use Rattle.table.proofs.EventInPlace.{load_decodes}
use Rattle.table.proofs.load.Goals as goal

pub returns : goal.returns
returns c =
    let a = c.args in
    let l = c.load_text-outcome.ensures in
    let n = length a.store.now in
    let count = ap (λ b. get_or b 805 0) l.s_after ∙ ap (λ (s : Shelf). s.count) (load_decodes a.card a.text.now a.memory.now n a.rows) in
    let e = c.outcome_of.ensures ∙ ap₂ outcome_by l.value count in record { value = (e, (l.memory_after, l.s_after)); fits = subst (λ (x : Outcome). (x.rises.to ≤ 32) × (x.rises.to ≤ a.rows)) (sym e) (omega arith, omega (arith, load_rows a.card a.text.now a.memory.now n a.rows)) }
