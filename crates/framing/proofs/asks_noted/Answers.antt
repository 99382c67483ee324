use Rattle.std.proofs.Common.{◌≡◌, length, get_or, sym, refl, ◌∙◌, arith, length-set, ext_get_or, rules}
use lib.ListN.{length-map, get_or-map}
use Rattle.soundness.proofs.Sounding.{one_more}
use Rattle.framing.specs.Requests.{asked_in, asked_by}
use Rattle.framing.proofs.asks_noted.Goals as goal

pub loop-i-init : goal.loop-i-init
loop-i-init c = (omega arith, refl, λ j h. absurd (omega arith))

pub loop-i-preserved : goal.loop-i-preserved
loop-i-preserved c =
    let l = c.loop-i in
    let held = c.args.held in
    let e = l.invariant.1 in
    (omega arith, length-set l.asks _ _ ∙ e, one_more (λ j. asked_in (get_or held j 0)) l.asks l.i _ (omega arith) l.invariant.2 refl)

pub returns : goal.returns
returns c =
    let l = c.loop-i in
    let held = c.args.held in
    let long : length held ≡ 32 = search rules in
    let e = l.invariant.1 in
    ext_get_or 0 l.asks (asked_by held) (e ∙ sym (length-map held asked_in ∙ long)) (λ j h. l.invariant.2 j (omega arith) ∙ sym (get_or-map asked_in held j 0))
