use mathlib.Core.Path.{◌≡◌, refl}
use native.Mathlib.Omega.{arith}
use lib.ListN.{take}
use lib.Seq.{take_all}
use Rattle.text.proofs.Splices.{then}
use Rattle.text.proofs.NumberLaws.{no_fields, one_more}
use borrow.Author.Rules.{rules}
use Rattle.text.proofs.put_numbers.Goals as goal

pub loop-n-init : goal.loop-n-init
loop-n-init c = (omega arith, refl, no_fields c.args.out.now c.args.at)

pub loop-n-preserved : goal.loop-n-preserved
loop-n-preserved c =
    let l = c.loop-n in
    let t = one_more c.args.numbers.now l.n-index c.loop-n-test.true in
    (omega arith, search rules, rw t (then _ _ _ _ _ _ _ _ l.invariant.2 c.put_number-next.ensures.0 (omega arith)))

pub returns : goal.returns
returns c =
    let l = c.loop-n in
    let a = c.args in
    let t : take l.n-index a.numbers.now ≡ a.numbers.now = take_all l.n-index a.numbers.now c.loop-n-test.false in
    (rw t at l.invariant.2, omega arith)
