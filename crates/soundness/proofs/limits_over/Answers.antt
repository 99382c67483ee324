use Rattle.std.proofs.Common.{◌-◌, cond, ◌&&◌, eqb, ap, ◌∙◌}
use Rattle.outlet.specs.Outlets.{between}
use Rattle.soundness.specs.Lanes.{lesser}
use Rattle.soundness.proofs.limits_over.Goals as goal

pub returns : goal.returns
returns c =
    let limits = c in
    let first = limits in
    let settled = first in
    let read = settled in
    let mode = read.at-mode.ensures in
    let length = read.at-cbrlength.ensures in
    let some = read.least-some.ensures ∙ ap (λ n. lesser n 1) length in
    let most = settled.by-vbrmost.ensures ∙ (λ t. cond (eqb (mode t) 0) 123 ((settled.over.ensures.0 ∙ ap (λ n. 89 - n) length) t)) in
    c.worse-2.ensures
    ∙ (λ t. eqb first.outside.result 0 && c.worse.ensures t)
    ∙ (λ t. first.outside.ensures t && (limits.outside-2.ensures t && limits.outside-3.ensures t))
    ∙ (λ t. between (some t) (some t) (mode t)
    && (between (mode t) (length t) (limits.at.ensures t) && between 1 (most t) (limits.at-2.ensures t)))
