use Rattle.std.proofs.Common.{◌+◌, ◌&&◌, eqb, drop, sym, ap, ◌∙◌, arith}
use Rattle.soundness.specs.Numbered.{asks_held}
use Rattle.soundness.proofs.Numbered.{held_next, held_last}
use Rattle.soundness.proofs.asks_held.Goals as goal

pub loop-i-preserved : goal.loop-i-preserved
loop-i-preserved c =
    let a = c.args in
    let l = c.loop-i in
    let worse = c.worse-worst.ensures ∙ ap (λ t. eqb l.worst 0 && t) c.unheld.ensures in
    l.invariant ∙ held_next a.held.now a.asks l.i (eqb l.worst 0) (omega arith) ∙ ap (λ t. t && asks_held a.held.now (l.i + 1) (drop (l.i + 1) a.asks)) (sym worse)

pub returns : goal.returns
returns c =
    let a = c.args in
    let l = c.loop-i in
    sym (l.invariant ∙ held_last a.held.now a.asks l.i (eqb l.worst 0) (omega arith))
