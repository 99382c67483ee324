use mathlib.Core.Path.{◌≡◌, refl, sym, ap, ◌∙◌}
use mathlib.Core.List.{append-nil}
use Prim.Native.Nat.{◌+◌}
use native.Mathlib.Omega.{arith}
use lib.ListN.{length, length-set}
use Rattle.octets.specs.Octets.{splice}
use Rattle.text.specs.Decimals.{decimal}
use Rattle.text.proofs.NumberLaws.{digit_turn, next_place, decimal_most, decimal_ended}
use borrow.Author.Rules.{rules}
use Rattle.text.proofs.put_decimal.Goals as goal

pub loop-left-init : goal.loop-left-init
loop-left-init c = (omega arith, omega arith, search rules, refl, sym (append-nil _))

pub loop-left-preserved : goal.loop-left-preserved
loop-left-preserved c =
    let l = c.loop-left in
    let n = next_place l.left l.k l.invariant.2 c.loop-left-test.true in
    (omega arith, omega arith, n.0, simp length-set l.invariant.3, l.invariant.4 ∙ digit_turn l.digits l.left l.k l.invariant.0 (omega arith) c.loop-left-test.true)

pub slice_bounds-put-end : goal.slice_bounds-put-end
slice_bounds-put-end c = simp (length-set, c.loop-left.invariant.3) (omega arith)

pub returns : goal.returns
returns c =
    let l = c.loop-left in
    let e = c.put.ensures in
    let a = c.args in
    let d = decimal_ended l.digits l.left l.k a.n l.invariant.0 l.invariant.1 l.invariant.3 c.loop-left-test.false l.invariant.4 in
    let r : c.put.result ≡ a.at + length (decimal a.n) = e.0 ∙ ap (λ t. a.at + length t) d in
    ((r, e.1 ∙ ap (λ t. splice a.out.now a.at t) d), omega (arith, decimal_most a.n))
