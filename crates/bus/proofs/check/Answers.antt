use mathlib.Core.Path.{◌≡◌, refl, ap, ◌∙◌}
use Prim.Native.Nat.{◌+◌, ◌-◌, ◌*◌, ◌/◌, ◌%◌, ◌^◌}
use native.Mathlib.Nat.{div-one}
use native.Mathlib.Omega.{arith}
use Rattle.remainder.specs.Bits.{bits, number}
use Rattle.remainder.specs.Division.{divide, remainder, residue, advance}
use Rattle.remainder.proofs.Laws.{residue_lt, advances_down}
use Rattle.bus.specs.Routing.{divisor, check}
use borrow.Author.Rules.{rules}
use Rattle.bus.proofs.check.Goals as goal

pub loop-turn-init : goal.loop-turn-init
unfolding bits number divide remainder residue
loop-turn-init c = search rules

pub pass-rest-requires : goal.pass-rest-requires
pass-rest-requires c =
    let left = 12 - 3 * c.loop-turn.turn in
    (rw c.loop-turn.invariant (residue_lt divisor (12 - left) (c.args.upper / 2 ^ left)), search rules)

pub loop-turn-preserved : goal.loop-turn-preserved
loop-turn-preserved c =
    let w = c.args.upper in
    let i = c.loop-turn.turn in
    let left = 12 - 3 * i in
    let shift : 9 - 3 * i ≡ left - 3 = omega arith in
    let next : left - 3 ≡ 12 - 3 * (i + 1) = omega arith in
    c.pass-rest.ensures ∙ ap (λ k. advance divisor 3 1 c.loop-turn.rest (w / 2 ^ k % 8)) shift
    ∙ ap (λ r. advance divisor 3 1 r (w / 2 ^ (left - 3) % 8)) c.loop-turn.invariant
    ∙ advances_down divisor 3 1 refl 12 left w (omega arith) (omega arith) ∙ ap (λ k. residue divisor (12 - k) (w / 2 ^ k)) next

pub returns : goal.returns
unfolding check
returns c =
    let w = c.args.upper in
    let done : 12 - 3 * c.loop-turn.turn ≡ 0 = omega arith in
    c.loop-turn.invariant ∙ ap (λ l. residue divisor (12 - l) (w / 2 ^ l)) done ∙ ap (residue divisor 12) (div-one w)
