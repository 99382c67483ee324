use Rattle.std.proofs.Common.{◌-◌, cond, ◌&&◌, eqb, ap, ◌∙◌}
use Rattle.outlet.specs.Outlets.{ring_fits}
use Rattle.state.specs.Bytes.{col, ring_by}
use Rattle.soundness.proofs.rings_over.Goals as goal

pub returns : goal.returns
returns c =
    let last = c in
    let first = last in
    let read = first in
    let mode = read.at-mode.ensures in
    let length = read.at-cbrlength.ensures in
    let a = read.args in
    let f = col a.s.now a.i in
    let whole = first.by.ensures ∙ ap (λ n. cond (eqb n 0) 123 2) mode in
    let shared = read.by-vbrlength.ensures ∙ (λ t. cond (eqb (mode t) 0) 0 ((read.over.ensures.0 ∙ ap (λ n. 89 - n) length) t)) in
    let third = last.by-2.ensures ∙ ap (λ n. cond (eqb n 0) 0 32) mode in
    c.worse-3.ensures
    ∙ (λ t. first.ring_over.ensures t && c.worse-2.ensures t)
    ∙ (λ t. ring_fits (ring_by f 16 20) (whole t) && (last.ring_over-2.ensures t && c.worse.ensures t))
    ∙ (λ t. ring_fits (ring_by f 16 20) (cond (eqb (f 5) 0) 123 2) && (ring_fits (ring_by f 17 21) (length t) && (last.ring_over-3.ensures t && last.ring_over-4.ensures t)))
    ∙ (λ t. ring_fits (ring_by f 16 20) (cond (eqb (f 5) 0) 123 2)
    && (ring_fits (ring_by f 17 21) (f 6) && (ring_fits (ring_by f 18 22) (shared t) && ring_fits (ring_by f 19 23) (third t))))
