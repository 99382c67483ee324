use Rattle.std.specs.Prelude.{None}
use mathlib.Core.Path.{refl, sym, ap, ◌∙◌}
use lib.ListN.{length}
use borrow.Author.Tests.{ltb-true}
use Rattle.text.specs.Text.{fields_of}
use Rattle.text.proofs.Split.{field_is}
use Rattle.toowide.specs.Asks.{asked}
use Rattle.toowide.specs.Listing.{found_at}
use Rattle.toowide.proofs.Walk.{step, no_line, asks_ended, found_skip}
use native.Mathlib.Omega.{arith}
use Rattle.toowide.proofs.next_wide.Goals as goal

pub loop-start-init : goal.loop-start-init
loop-start-init c = (omega arith, refl)

pub slice_bounds-read-start : goal.slice_bounds-read-start
slice_bounds-read-start c = omega (arith, c.line_at-stretch.ensures.0)

pub slice_bounds-read-end : goal.slice_bounds-read-end
slice_bounds-read-end c = omega (arith, c.line_at-stretch.ensures.1)

pub read-reading-requires : goal.read-reading-requires
read-reading-requires c =
    let t = c.args.text.now in
    let e = c.line_at-stretch in
    e.ensures.2 ∙ ap (λ l. length (fields_of l)) (sym (field_is 10 t c.loop-start.start e.result.end e.ensures.0))

pub overflow_add-before : goal.overflow_add-before
overflow_add-before c = omega (arith, c.loop-start.invariant.0)

pub overflow_add-start : goal.overflow_add-start
overflow_add-start c = omega (arith, c.line_at-stretch.ensures.1)

pub loop-start-smaller : goal.loop-start-smaller
loop-start-smaller c = omega (arith, c.line_at-stretch.ensures.0)

pub returns-in-Some : goal.returns-in-Some
unfolding found_at
returns-in-Some c =
    let l = c in
    let t = l.args.text.now in
    let e = c.line_at-stretch in
    let asks = sym (c.too_much.ensures ∙ ap asked c.read-reading.ensures) ∙ c.in-Some.is in
    let ended = asks_ended _ _ _ asks in
    (sym (l.loop-start.invariant.1 ∙ step found_at None found_skip t l.loop-start.start e.result.end e.ensures.0 l.loop-start.before ∙ rw asks), (l.loop-start.invariant.0, omega (arith, e.ensures.0), ltb-true _ _ ended))

pub loop-start-preserved : goal.loop-start-preserved
loop-start-preserved c =
    let l = c in
    let t = l.args.text.now in
    let e = c.line_at-stretch in
    let asks = sym (c.too_much.ensures ∙ ap asked c.read-reading.ensures) ∙ c.in_default.is in
    (omega (arith, l.loop-start.invariant.0, e.ensures.0), l.loop-start.invariant.1 ∙ step found_at None found_skip t l.loop-start.start e.result.end e.ensures.0 l.loop-start.before ∙ rw asks (found_skip _ _ _ _))

pub returns : goal.returns
returns c =
    let l = c in
    let t = l.args.text.now in
    (sym (l.loop-start.invariant.1 ∙ no_line found_at None found_skip t l.loop-start.before l.loop-start.start c.loop-start-test.false), tt)
