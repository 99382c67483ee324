use Rattle.std.proofs.Common.{◌≡◌, suc, ◌+◌, ◌-◌, ◌%◌, set, refl, ap, ◌∙◌, arith}
use Rattle.state.specs.Bytes.{col}
use Rattle.soundness.specs.Numbered.{noted_by}
use Rattle.soundness.proofs.note_8.Goals as goal

pub loop-k-init : goal.loop-k-init
unfolding noted_by
loop-k-init c = λ notes says. refl

pub loop-k-preserved : goal.loop-k-preserved
unfolding noted_by
loop-k-preserved c =
    let a = c.args in
    let l = c.loop-k in
    let there : a.from + l.k ≡ suc (a.from + (l.k - 1)) = omega arith in
    let many : suc (8 - l.k) ≡ 8 - (l.k - 1) = omega arith in
    λ notes says.
    (λ t. set (l.invariant notes says t) (c.at.ensures t % 32) (says (l.k - 1) (omega arith) t))
    ∙ ap (λ i. set (noted_by notes a.s.now a.held.now i (8 - l.k)) (col a.s.now (a.from + (l.k - 1)) 0 % 32) (notes (a.from + (l.k - 1)))) there
    ∙ ap (noted_by notes a.s.now a.held.now (a.from + (l.k - 1))) many

pub returns : goal.returns
returns c notes says =
    let a = c.args in
    let l = c.loop-k in
    let there : a.from + l.k ≡ a.from = omega arith in
    let many : 8 - l.k ≡ 8 = omega arith in
    l.invariant notes says ∙ (λ t. noted_by notes a.s.now a.held.now (there t) (many t))
