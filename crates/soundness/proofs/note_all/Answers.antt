use Rattle.std.proofs.Common.{◌≡◌, ◌+◌, ◌-◌, ap, ◌∙◌, ⊎_elim, arith}
use Rattle.soundness.specs.Numbered.{note_from, noted_by}
use Rattle.soundness.proofs.Sounding.{by_before, past_nothing}
use Rattle.soundness.proofs.note_all.Goals as goal

pub loop-from-init : goal.loop-from-init
unfolding noted_by
loop-from-init c =
    let end = c.reach-from.result in
    let none : 0 ≡ end - end = omega arith in
    (omega arith, c.reach-from.ensures.upper_bound.0, ⊎_elim (λ e. omega arith) (λ e. omega arith) c.reach-from.ensures.even, ap (noted_by (note_from c.notes-each.result) c.args.s.now c.args.held.now end) none)

pub note_8-requires : goal.note_8-requires
note_8-requires c = let most = c.loop-from.invariant.1 in omega (arith, most)

pub loop-from-preserved : goal.loop-from-preserved
loop-from-preserved c =
    let b = c.args.s.now in
    let held = c.args.held.now in
    let notes = note_from c.notes-each.result in
    let l = c.loop-from in
    let behind = c.reach-from.result - l.from in
    let there : l.from ≡ l.from - 8 + 8 = omega arith in
    let many : 8 + behind ≡ c.reach-from.result - (l.from - 8) = omega arith in (
      omega arith,
      l.invariant.1,
      omega arith,
      c.note_8.ensures notes c.eight_of.ensures.bytes
          ∙ ap (λ h. noted_by notes b h (l.from - 8) 8) (l.invariant.3 ∙ ap (λ k. noted_by notes b held k behind) there)
          ∙ by_before b notes held (l.from - 8) 8 behind
          ∙ ap (noted_by notes b held (l.from - 8)) many,
    )

pub returns : goal.returns
returns c =
    let l = c.loop-from in
    let end = c.reach-from.result in
    let notes = c.notes-each in
    let from : l.from ≡ 0 = omega arith in
    let many : end - l.from ≡ end = omega arith in
    let most = c.requires.0 in
    let past = c.reach-from.ensures.upper_bound in
    l.invariant.3
    ∙ (λ t. noted_by (note_from notes.result) c.args.s.now (c.requires.1 t) (from t) (many t))
    ∙ past_nothing c.args.s.now notes.result end notes.ensures (⊎_elim (λ h. h) (λ e. omega (arith, most)) past.1) past.0
