-- `entry::frame` meets its contract. Assumes nothing.
use Rattle.std.proofs.Common.{◌≡◌, ap, ◌∙◌}
use Rattle.answer.specs.declared.Outcome.{Outcome}
use Rattle.answer.specs.Counting.{settled, raised_from}
use Rattle.answer.proofs.Settling.{raised_all}
use Rattle.entry.proofs.frame.Goals as goal

pub returns : goal.returns
returns c =
    let rows = c.args.rows.now in
    let sets = c.frame-done.new.each in
    let e = c.frame-done.ensures.each_after in (
      ap (λ (o : Outcome). o.answer) e.0,
      (
        e.1.0,
        (
          e.1.1.0,
          (
            e.1.1.1,
            c.raise.ensures ∙ raised_all rows sets c.frame-done.result.to c.frame-done.result.to ∙ ap (λ (o : Outcome). settled rows o.rises) e.0,
          ),
        ),
      ),
    )
