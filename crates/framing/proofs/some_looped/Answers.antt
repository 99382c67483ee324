use Rattle.std.proofs.Common.{not, ◌||◌, eqb, sym, refl, ap, ◌∙◌, arith}
use Rattle.framing.proofs.Moves.{looped_step, looped_end}
use Rattle.framing.proofs.some_looped.Goals as goal

pub loop-i-init : goal.loop-i-init
loop-i-init c = (omega arith, refl)

pub loop-i-preserved : goal.loop-i-preserved
loop-i-preserved c =
    let l = c.loop-i in
    (omega arith, l.invariant.1 ∙ looped_step c.args.s.now l.i l.some _ (omega arith) (ap (λ x. l.some || not (eqb x 0)) c.at.ensures))

pub returns : goal.returns
returns c = let l = c.loop-i in sym (l.invariant.1 ∙ looped_end c.args.s.now l.i l.some (omega arith))
