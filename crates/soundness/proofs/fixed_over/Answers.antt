use Rattle.std.proofs.Common.{◌&&◌, leb, ap, ◌∙◌}
use Rattle.soundness.proofs.Judged.{greater_most}
use Rattle.soundness.proofs.fixed_over.Goals as goal

pub returns : goal.returns
returns c =
    let single = ap (λ m. leb m 1) c.max.ensures ∙ greater_most c.greater_at-3.result c.greater_at-4.result 1 in
    c.worse-2.ensures
    ∙ (λ t. c.worse.ensures t && c.over-3.ensures.1 t)
    ∙ (λ t. (c.over.ensures.1 t && c.over-2.ensures.1 t) && single t)
    ∙ (λ t. (c.greater_at.ensures 3 t && c.greater_at-2.ensures 4 t)
    && (c.greater_at-3.ensures 1 t && c.greater_at-4.ensures 1 t))
