-- `answer::raise` meets its contract. Assumes nothing.
use Rattle.std.proofs.Common.{◌≡◌, ℕ, ◌+◌, List, get_or, set, sym, ap, ◌∙◌, arith}
use Rattle.std.proofs.lemmas.List.{set-get_or}
use Rattle.answer.specs.declared.Counters.{Counters}
use Rattle.answer.specs.Counting.{zeros, raised, raised_from}
use Rattle.answer.proofs.Settling.{raised_start, raised_next, raised_ahead}
use Rattle.answer.proofs.raise.Goals as goal
use Rattle.answer.proofs.raise.Goals.{then-rise-eq-QUEUED, else-rise-eq-QUEUED+then-rise-ne0, else-rise-eq-QUEUED+else-rise-ne0}

-- a turn: the row at place at + k is raised by its own set
turned : (ys : List Counters) (at : ℕ) (es : List ℕ) (k : ℕ) (zs : List Counters) (r : Counters) → zs ≡ raised_from ys at es k → r ≡ raised (get_or zs (at + k) zeros) (get_or es k 0) → set zs (at + k) r ≡ raised_from ys at es (k + 1)
turned ys at es k zs r e g =
    let old : get_or zs (at + k) zeros ≡ get_or ys (at + k) zeros = ap (λ (l : List Counters). get_or l (at + k) zeros) e ∙ raised_ahead ys at es k (at + k) (omega arith) in
    (λ i. set (e i) (at + k) ((g ∙ ap (λ (c : Counters). raised c (get_or es k 0)) old) i)) ∙ sym (raised_next ys at es k)

pub loop-k-init : goal.loop-k-init
loop-k-init c = sym (raised_start c.args.rows.now c.args.at c.args.sets.now)

pub loop-k-preserved : goal.loop-k-preserved
loop-k-preserved c =
    let ys = c.args.rows.now in
    let at = c.args.at in
    let es = c.args.sets.now in
    let l = c.loop-k in
    elim c.if-rise-eq-QUEUED.branch [
      | then-rise-eq-QUEUED w ↦ w.rows-is ∙ turned ys at es l.k l.rows _ l.invariant (w.queued_up.ensures ∙ ap (raised _) (sym w.if-rise-eq-QUEUED.true))
      | else-rise-eq-QUEUED+then-rise-ne0 w ↦ w.rows-is ∙ turned ys at es l.k l.rows _ l.invariant w.risen.ensures
      | else-rise-eq-QUEUED+else-rise-ne0 w ↦ w.rows-is ∙ sym (set-get_or l.rows (at + l.k) zeros)
          ∙ turned ys at es l.k l.rows _ l.invariant (sym (ap (raised _) w.if-rise-ne0.false ∙ w.unraised.ensures))
    ]
