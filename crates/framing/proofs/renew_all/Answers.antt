use Rattle.std.proofs.Common.{get_or, ◌∙◌}
use Rattle.arbiter.specs.Arbitration.{renewed}
use Rattle.framing.proofs.renew_all.Goals as goal

pub returns : goal.returns
returns c =
    let s = c in
    c.renew.ensures ∙ (λ i. renewed (c.arbiter_at-arbiter.ensures i) (get_or s.args.s.now 804 0) (c.frame_at.ensures i) (s.requires i))
