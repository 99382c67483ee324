use mathlib.Core.Path.{sym, ◌∙◌}
use Rattle.outlet.specs.Hearing.{held}
use Rattle.outlet.proofs.Leaves.{lowest_here, lowest_on, lowest_past, leaving_start}
use Rattle.outlet.proofs.leaving_of.Goals as goal

pub loop-q-init : goal.loop-q-init
loop-q-init c = leaving_start c.args.outlet

pub returns-then-held-gt0 : goal.returns-then-held-gt0
returns-then-held-gt0 c = sym (c.loop-q.invariant ∙ lowest_here (held c.args.outlet) c.loop-q.q _ (rw c.queues-q-end.ensures at c.loop-q-test.true) (rw c.held.ensures at c.if-held-gt0.true))

pub loop-q-preserved : goal.loop-q-preserved
loop-q-preserved c = c.loop-q.invariant ∙ lowest_on (held c.args.outlet) c.loop-q.q _ (rw c.queues-q-end.ensures at c.loop-q-test.true) (rw c.held.ensures at c.if-held-gt0.false)

pub returns : goal.returns
returns c = sym (c.loop-q.invariant ∙ lowest_past (held c.args.outlet) c.loop-q.q _ (rw c.queues-q-end.ensures at c.loop-q-test.false))
