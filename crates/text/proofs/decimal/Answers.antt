use Rattle.std.proofs.Common.{◌≡◌, ◌≢◌, ◌∙◌, get_or, length, arith}
use Rattle.std.proofs.lemmas.Grind.{common_steps}
use Rattle.std.proofs.lemmas.Option.{gets}
use Rattle.text.proofs.Numbers.{empty, zero_alone, no_zero}
use Rattle.text.proofs.decimal.Goals as goal

pub returns-in-None : goal.returns-in-None
returns-in-None c =
    let z : length c.args.s.now ≡ 0 = grind (arith, common_steps, gets) in
    empty _ z

pub returns-in-Some-eq48 : goal.returns-in-Some-eq48
returns-in-Some-eq48 c =
    let z : get_or c.args.s.now 0 0 ≡ 48 = grind (arith, common_steps, gets) in
    zero_alone _ z

pub returns-in-Some : goal.returns-in-Some
returns-in-Some c =
    let z : get_or c.args.s.now 0 0 ≢ 48 = grind (arith, common_steps, gets) in
    let k : length c.args.s.now ≢ 0 = grind (arith, common_steps, gets) in
    c.digits.ensures ∙ no_zero _ k z
