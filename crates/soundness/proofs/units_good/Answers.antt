use Rattle.std.proofs.Common.{sym, ◌∙◌, arith}
use Rattle.soundness.proofs.Judged.{places_step, places_left, places_end}
use Rattle.soundness.proofs.units_good.Goals as goal

pub loop-i-preserved : goal.loop-i-preserved
loop-i-preserved c =
    let a = c.args in
    let l = c.loop-i in
    l.invariant
    ∙ places_step _ _ a.s.now a.count l.i l.worst c.over.result c.lane.result c.least.result c.worse-worst.result (omega arith) c.over.ensures.1 c.lane.ensures c.least.ensures c.worse-worst.ensures

pub returns : goal.returns
returns c =
    let a = c.args in
    let l = c.loop-i in
    let links = c.highest_link-links in
    let last = c.over-last in
    places_end links.result last.result a.s.now a.count a.card a.bus l.i l.worst c.requires c.fits-s links.ensures last.ensures.0
    (places_left links.result last.result a.s.now a.count l.i c.reach-end.result (omega arith) c.reach-end.ensures.upper_bound.1) (sym l.invariant)
