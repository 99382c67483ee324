use native.Mathlib.Omega.{arith}
use Rattle.text.proofs.Split.{count_tab, count_byte, count_end}
use Rattle.text.proofs.count.Goals as goal
use Rattle.text.proofs.count.Goals.{else-b-eq-TAB, then-b-eq-TAB}

pub loop-b-preserved : goal.loop-b-preserved
loop-b-preserved c =
    let s = c.args.s.now in
    let l = c.loop-b in
    let h = c.loop-b-test.true in
    elim c.if-b-eq-TAB.branch [
      | then-b-eq-TAB w ↦ omega (arith, count_tab 9 s l.b-index h w.if-b-eq-TAB.true)
      | else-b-eq-TAB w ↦ omega (arith, count_byte 9 s l.b-index h w.if-b-eq-TAB.false)
    ]

pub returns : goal.returns
returns c = omega (arith, count_end 9 c.args.s.now c.loop-b.b-index c.loop-b-test.false)
