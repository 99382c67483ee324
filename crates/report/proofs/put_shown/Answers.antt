use mathlib.Core.Path.{refl, ap, ◌∙◌}
use Prim.Native.Nat.{◌<◌, ◌≤◌}
use lib.ListN.{length, take}
use Rattle.std.proofs.lemmas.List.{length-take, take_all, take_min}
use Rattle.text.proofs.Splices.{then}
use Rattle.report.proofs.Showing.{none_shown, one_shown_lem}
use native.Mathlib.Omega.{arith}
use borrow.Author.Rules.{rules}
use Rattle.report.proofs.put_shown.Goals as goal

pub loop-b-init : goal.loop-b-init
loop-b-init c = (omega arith, refl, none_shown c.args.out.now c.args.at)

pub loop-b-preserved : goal.loop-b-preserved
loop-b-preserved c =
    let i = c.loop-b.b-index in
    let line = c.args.line.now in
    let all = ap (λ n. take n line) c.min.ensures ∙ take_min 80 line in
    let h : i < length (take 80 line) = rw all at c.loop-b-test.true in
    let e = rw (c.shown_byte.ensures, all) at c.put-next.ensures in
    (omega arith, search rules, rw (one_shown_lem (take 80 line) i h) (then _ _ _ _ _ _ _ _ c.loop-b.invariant.2 e (omega (arith, length-take 80 line))))

pub returns : goal.returns
returns c =
    let line = c.args.line.now in
    let all = ap (λ n. take n line) c.min.ensures ∙ take_min 80 line in
    let h : length (take 80 line) ≤ c.loop-b.b-index = rw all at c.loop-b-test.false in
    let w = rw (take_all c.loop-b.b-index (take 80 line) h) at c.loop-b.invariant.2 in
    (then _ _ _ _ _ _ _ _ w c.put_cut.ensures.0 (omega (arith, length-take 80 line, length-take c.min.result line)), omega (arith, length-take c.min.result line))
