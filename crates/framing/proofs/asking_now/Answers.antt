use Rattle.std.proofs.Common.{◌≡◌, eqb, length, set, sym, refl, ap, ◌∙◌, arith, length-set}
use lib.Seq.{set_out}
use Rattle.arbiter.specs.Arbitration.{asking, asks_now}
use Rattle.shelf.specs.Shelves.{waiting}
use Rattle.state.specs.Bytes.{col, unit_in, shelf_in}
use Rattle.framing.proofs.Turns.{none_left, asked, asks_none}
use Rattle.framing.proofs.asking_now.Goals as goal
use Rattle.framing.proofs.asking_now.Goals.{else-number-lt32, then-number-lt32}

pub loop-i-init : goal.loop-i-init
loop-i-init c = (omega arith, (refl, refl))

met : (c : goal.Joined-number-lt32) →
    let l = c.loop-i in
    let b = c.args.s.now in
    c.if-number-lt32.now ≡ set l.now (col b l.i 0) (asks_now (shelf_in b).granted (col b l.i 0) (col b l.i 4) (waiting (unit_in b l.i)))
met c =
    let l = c.loop-i in
    let b = c.args.s.now in
    let n = c.at-number.ensures in
    elim c.if-number-lt32.branch [
      | then-number-lt32 w ↦ w.now-is ∙ (λ k. set l.now (n k) ((w.asking.ensures ∙ (λ t. asking (w.at.ensures t) (w.waiting_at.ensures t) (eqb (n t) (shelf_in b).granted))) k))
      | else-number-lt32 w ↦ let m = l.invariant.1.0 in
          let h = w.if-number-lt32.false in
          w.now-is ∙ sym (set_out l.now (col b l.i 0) (asks_now (shelf_in b).granted (col b l.i 0) (col b l.i 4) (waiting (unit_in b l.i))) (omega (arith, n)))
    ]

pub loop-i-preserved : goal.loop-i-preserved
loop-i-preserved c =
    let l = c.loop-i in
    let b = c.args.s.now in
    let e = c.declared_count-end.ensures in (
      omega arith,
      (
        ap length (met c) ∙ length-set l.now _ _ ∙ l.invariant.1.0,
        l.invariant.1.1 ∙ asked b l.i (omega (arith, e)) (shelf_in b).granted l.now c.if-number-lt32.now (met c),
      ),
    )

pub returns : goal.returns
returns c =
    let l = c.loop-i in
    let b = c.args.s.now in
    let e = c.declared_count-end.ensures in
    sym (l.invariant.1.1 ∙ asks_none (shelf_in b).granted l.now _ (none_left b l.i (omega (arith, e))))
