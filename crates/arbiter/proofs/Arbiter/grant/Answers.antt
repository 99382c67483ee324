use Rattle.arbiter.specs.Arbitration.{arbiter_of}
use Rattle.arbiter.proofs.Arbiter.grant.Goals as goal

pub returns : goal.returns
returns c =
    let g = c.grant_rule-g.ensures in
    λ i. record { arbiter = arbiter_of (g i); unit = (g i).unit }
