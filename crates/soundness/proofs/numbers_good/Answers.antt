use Rattle.std.proofs.Common.{◌&&◌, eqb, get_or, ap, ◌∙◌}
use Rattle.soundness.specs.Numbered.{arbiter_held, asks_held}
use Rattle.soundness.proofs.numbers_good.Goals as goal

pub returns : goal.returns
unfolding arbiter_held
returns c =
    let third = c in
    let second = third in
    let first = second in
    let granted = first in
    let many = granted in
    let a = many.args in
    let asks = c.asks_held.ensures ∙ ap (asks_held a.held.now 0) c.asks_at.ensures in
    (λ t. eqb (many.how_many.ensures t) (get_or a.s.now 805 0) && (granted.grant_held.ensures t && (first.nobody_or.ensures t && second.nobody_or-2.ensures t && third.nobody_or-3.ensures t) && asks t))
