use mathlib.Core.Path.{sym, ap, ◌∙◌}
use Prim.Native.Nat.{◌+◌}
use lib.ListN.{drop}
use Rattle.std.proofs.lemmas.List.{at_drop_more, at_drop_all}
use Rattle.text.specs.Fnv.{sum_from}
use Rattle.text.proofs.fnv.Goals as goal

pub loop-byte-preserved : goal.loop-byte-preserved
unfolding sum_from
loop-byte-preserved c =
    let l = c.loop-byte in
    l.invariant ∙ at_drop_more (sum_from l.sum) c.args.bytes.now l.byte-index 0 c.loop-byte-test.true ∙ ap (λ v. sum_from v (drop (l.byte-index + 1) c.args.bytes.now)) (sym c.step-sum.ensures)

pub returns : goal.returns
unfolding sum_from
returns c =
    let l = c.loop-byte in
    sym (l.invariant ∙ at_drop_all (sum_from l.sum) c.args.bytes.now l.byte-index c.loop-byte-test.false)
