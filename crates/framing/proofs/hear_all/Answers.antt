use Rattle.std.proofs.Common.{◌≡◌, ◌+◌, ◌-◌, ◌<◌, min, false, ◌||◌, length, get_or, set, sym, refl, ap, ◌∙◌, subst, arith, rules}
use lib.Bits.{bit_or}
use Rattle.bus.specs.Frame.{heard_as}
use Rattle.state.specs.Bytes.{unit_in}
use Rattle.answer.specs.Answers.{hearing_rises, queued_one, is_addressed}
use Rattle.soundness.specs.Admission.{Housed}
use Rattle.hearing.specs.Hearings.{plan_of}
use Rattle.hearing.proofs.Plans.{plan_queue}
use Rattle.hearing.proofs.InPlace.{state_there}
use Rattle.framing.specs.Scenes.{turns}
use Rattle.framing.proofs.Turns.{scene, turns_step, turns_end}
use Rattle.framing.proofs.hear_all.Goals as goal

pub loop-i-init : goal.loop-i-init
loop-i-init c =
    let s = c in
    let a = s.args in
    let e = c.declared_count-end.ensures in
    let n : min (get_or a.s.now 805 0) 32 ≡ c.declared_count-end.result - 0 = omega arith in (
      omega arith,
      omega arith,
      omega arith,
      s.told-s,
      refl,
      λ j h l. s.requires.1 j (omega arith),
      ap (λ k. turns (heard_as a.address a.cell.now) a.cell.now 0 k (scene a.s.now a.store.now a.each.now 0 false)) n,
    )

pub heed-fate-requires : goal.heed-fate-requires
heed-fate-requires c =
    let l = c.loop-i in
    (c.requires.0, subst (λ n. Housed l.i (unit_in l.s l.i) n) (sym l.invariant.4) (l.invariant.5 l.i (omega arith) (omega arith)))

pub overflow_add-copies : goal.overflow_add-copies
overflow_add-copies c = let w = c.loop-i.invariant in let q = c.queued_one-copies.ensures.small in omega (arith, w.0, w.1, w.2, q)

pub loop-i-preserved : goal.loop-i-preserved
loop-i-preserved c =
    let l = c.loop-i in
    let a = c.args in
    let w = c.heed-fate in
    let n = c.declared_count-end.result in
    let r = c.hearing_rises in
    let u = unit_in l.s l.i in
    let p = plan_of u (heard_as a.address a.cell.now) in
    let f = w.ensures.value in
    let es = w.ensures.kept.0 in
    let et = w.ensures.kept.1 in
    let long : length w.new.store ≡ length l.store = search rules in
    let less : l.i < n = search rules in (
      omega arith,
      l.invariant.1,
      omega (arith, l.invariant.2, c.queued_one-copies.ensures.small),
      search rules,
      long ∙ l.invariant.4,
      λ j hj lj. subst (λ x. Housed j x (length a.store.now)) (sym (ap (λ b. unit_in b j) es ∙ state_there p l.s l.i (plan_queue u (heard_as a.address a.cell.now)) (omega (arith, l.invariant.1, less)) l.invariant.3 j (omega (arith, l.invariant.1, lj)) (λ e. absurd (omega arith)))) (l.invariant.5 j (omega arith) lj),
      l.invariant.6 ∙ turns_step (heard_as a.address a.cell.now) a.cell.now l.i n _ _ less (λ t.
          scene (sym es t) (sym et t) (set l.each l.i (bit_or (get_or l.each l.i 0) (sym (r.ensures ∙ ap hearing_rises f) t))) (l.copies + sym (c.queued_one-copies.ensures.value ∙ ap queued_one f) t) (l.addressed || sym (c.is_addressed-addressed.ensures ∙ ap is_addressed f) t)),
    )

pub shape_of-store : goal.shape_of-store
shape_of-store c = c.loop-i.invariant.4

pub returns : goal.returns
returns c =
    let l = c.loop-i in
    let a = c.args in
    let e = sym (l.invariant.6 ∙ turns_end (heard_as a.address a.cell.now) a.cell.now l.i _ (scene l.s l.store l.each l.copies l.addressed) (omega arith)) in
    record { each_after = λ t. (e t).tally; kept = (λ t. (e t).bytes, λ t. (e t).store) }
