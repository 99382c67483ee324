use mathlib.Core.Path.{refl, ◌∙◌}
use native.Mathlib.Omega.{arith}
use lib.Seq.{take_all}
use Rattle.text.proofs.Splices.{then}
use Rattle.replies.proofs.RowLaws.{no_rows, next_row}
use Rattle.replies.proofs.rows.Goals as goal

pub loop-row-init : goal.loop-row-init
loop-row-init c = (omega arith, refl, no_rows _ _)

pub loop-row-preserved : goal.loop-row-preserved
loop-row-preserved c =
    let l = c.loop-row in
    (omega arith, c.put_numbers-next.auto.out ∙ l.auto.out, next_row _ _ _ _ _ _ _ _ _ c.loop-row-test.true l.invariant.2 (rw c.listed.ensures at c.put_numbers-next.ensures.0) (omega arith))

pub returns : goal.returns
returns c = then _ _ _ _ _ _ _ _ c.say-next.ensures.0 (rw (take_all c.loop-row.row-index c.args.rows.now c.loop-row-test.false) at c.loop-row.invariant.2) (omega arith)
