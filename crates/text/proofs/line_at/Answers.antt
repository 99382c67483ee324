use mathlib.Core.Path.{sym, ◌∙◌}
use Prim.Native.Nat.{◌+◌, ◌≤◌}
use native.Mathlib.Nat.{add_assoc}
use native.Mathlib.Omega.{arith}
use lib.ListN.{length, get_or}
use mathlib.Core.Logic.{◌≢◌}
use Rattle.text.proofs.Split.{byte_from, none_from, end_tab, end_byte, end_end, line_ended, line_tab, line_byte, line_none}
use Rattle.text.proofs.line_at.Goals as goal
use Rattle.text.proofs.line_at.Goals.{in-9, in_default}

pub returns-in-10 : goal.returns-in-10
returns-in-10 c =
    let s = c.args.s.now in
    let i = c.args.from + c.loop-n.n in
    let b = byte_from s c.args.from c.loop-n.n c.loop-n-test.true in
    let e = sym b.1 ∙ c.in-10.is in
    omega (arith, end_tab 10 s i b.0 e, line_ended s i b.0 e)

pub loop-n-preserved : goal.loop-n-preserved
loop-n-preserved c =
    let s = c.args.s.now in
    let i = c.args.from + c.loop-n.n in
    let b = byte_from s c.args.from c.loop-n.n c.loop-n-test.true in
    rw (← add_assoc c.args.from c.loop-n.n 1)
    (elim c.match-b.branch [ in-9 w ↦ let e = sym b.1 ∙ w.in-9.is in omega (arith, end_byte 10 s i b.0 (λ t. absurd (omega arith)), line_tab s i b.0 e) | in_default w ↦ let n : get_or s i 0 ≢ 10 = λ t. absurd (omega arith) in omega (arith, end_byte 10 s i b.0 n, line_byte s i b.0 n (λ t. absurd (omega arith))) ])

pub returns : goal.returns
returns c =
    let s = c.args.s.now in
    let i = c.args.from + c.loop-n.n in
    let h : length s ≤ i = none_from s c.args.from c.loop-n.n c.loop-n-test.false in
    omega (arith, end_end 10 s i h, line_none s i h)
