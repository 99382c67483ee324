use mathlib.Core.Path.{◌≡◌, refl, ap, ◌∙◌}
use Prim.Native.Nat.{◌+◌, ◌-◌, ◌*◌, ◌/◌, ◌%◌, ◌^◌}
use native.Mathlib.Nat.{div-one}
use native.Mathlib.Omega.{arith}
use lib.Bits.{bit_xor}
use Rattle.remainder.specs.Bits.{bits, number}
use Rattle.remainder.specs.Division.{divide, remainder, residue, advance}
use Rattle.remainder.proofs.Laws.{residue_ahead, advances_down}
use Rattle.header.specs.Check.{divisor, check}
use borrow.Author.Rules.{rules}
use Rattle.header.proofs.check.Goals as goal

pub loop-turn-init : goal.loop-turn-init
unfolding bits number divide remainder residue
loop-turn-init c = search rules

pub loop-turn-preserved : goal.loop-turn-preserved
loop-turn-preserved c =
    let w = c.args.word in
    let i = c.loop-turn.turn in
    let left = 36 - 6 * i in
    let shift : 30 - 6 * i ≡ left - 6 = omega arith in
    let next : left - 6 ≡ 36 - 6 * (i + 1) = omega arith in
    c.pass-rest.ensures ∙ ap (λ k. advance divisor 6 2 c.loop-turn.rest (w / 2 ^ k % 64)) shift
    ∙ ap (λ r. advance divisor 6 2 r (w / 2 ^ (left - 6) % 64)) c.loop-turn.invariant
    ∙ advances_down divisor 6 2 refl 36 left w (omega arith) (omega arith) ∙ ap (λ k. residue divisor (36 - k) (w / 2 ^ k)) next

pub returns : goal.returns
unfolding check
returns c =
    let w = c.args.word in
    let done : 36 - 6 * c.loop-turn.turn ≡ 0 = omega arith in
    let rest = c.loop-turn.invariant ∙ ap (λ l. residue divisor (36 - l) (w / 2 ^ l)) done ∙ ap (residue divisor 36) (div-one w) in
    ap (λ r. bit_xor r 0x55) (rest ∙ residue_ahead divisor 4 32 w c.ranges.word.fits)
