use Rattle.std.proofs.Common.{arith}
use Rattle.std.proofs.lemmas.Grind.{common_steps}
use Rattle.text.proofs.Split.{after_fields}
use Rattle.line.specs.Lines.{vc_on, way_of}
use Rattle.line.proofs.UnitRests.{fourth_fields}
use Rattle.line.proofs.vc_on.Goals as goal

pub returns-in_err-outvci : goal.returns-in_err-outvci
unfolding vc_on way_of
returns-in_err-outvci c =
    let eighth = fourth_fields _ _ _ _ _ c.after-3.ensures c.after-2.ensures c.after.ensures c.after-fifth.ensures 0 in
    grind (arith, common_steps, after_fields)

pub returns : goal.returns
unfolding vc_on way_of
returns c =
    let eighth = fourth_fields _ _ _ _ _ c.after-3.ensures c.after-2.ensures c.after.ensures c.after-fifth.ensures 0 in
    grind (arith, common_steps, after_fields)
