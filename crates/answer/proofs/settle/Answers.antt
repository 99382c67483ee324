-- `answer::settle` meets its contract. Assumes nothing.
use Rattle.std.proofs.Common.{◌≡◌, ℕ, ◌+◌, ◌≤◌, List, get_or, set, inl, inr, sym, ap, ◌∙◌, arith}
use Rattle.std.proofs.lemmas.List.{set-get_or}
use Rattle.answer.specs.declared.Counters.{Counters}
use Rattle.answer.specs.declared.Rises.{Rises}
use Rattle.answer.specs.Counting.{zeros, row_by, rise_at, row_after, settled_to}
use Rattle.answer.proofs.Settling.{settled_none, settled_next, settled_ahead, settled_end, row_by_lem}
use Rattle.answer.proofs.settle.Goals as goal
use Rattle.answer.proofs.settle.Goals.{then-rise-ne0, else-rise-ne0}

-- a turn: the row at place i becomes what its number says
turned : (ys : List Counters) (d : Rises) (i : ℕ) (zs : List Counters) (r : Counters) (n : ℕ) → zs ≡ settled_to ys d i → d.from ≤ i → n ≡ rise_at d i → r ≡ row_by (get_or zs i zeros) n → set zs i r ≡ settled_to ys d (i + 1)
turned ys d i zs r n e from f g =
    let old : get_or zs i zeros ≡ get_or ys i zeros = ap (λ (l : List Counters). get_or l i zeros) e ∙ settled_ahead ys d i i (omega arith) in
    let new : r ≡ row_after (get_or ys i zeros) d i = g ∙ (λ j. row_by (old j) (f j)) ∙ row_by_lem (get_or ys i zeros) d i in
    (λ j. set (e j) i (new j)) ∙ sym (settled_next ys d i from)

pub loop-i-init : goal.loop-i-init
loop-i-init c = (sym (settled_none c.args.rows.now c.args.rises c.args.rises.from (omega arith)), inr (omega arith))

pub loop-i-preserved : goal.loop-i-preserved
unfolding row_by
loop-i-preserved c =
    let ys = c.args.rows.now in
    let d = c.args.rises in
    let l = c.loop-i in (
      elim c.if-rise-ne0.branch [
        | then-rise-ne0 w ↦ w.rows-is ∙ turned ys d l.i l.rows w.row_by.result _ l.invariant.0 l.auto.i c.rise_at-rise.ensures w.row_by.ensures
        | else-rise-ne0 w ↦ w.rows-is ∙ sym (set-get_or l.rows l.i zeros)
            ∙ turned ys d l.i l.rows _ _ l.invariant.0 l.auto.i c.rise_at-rise.ensures (sym (ap (row_by _) w.if-rise-ne0.false ∙ w.unraised.ensures))
      ],
      inl (omega arith),
    )

pub returns : goal.returns
returns c = c.loop-i.invariant.0 ∙ settled_end c.args.rows.now c.args.rises c.loop-i.i c.loop-i-test.false c.loop-i.invariant.1
