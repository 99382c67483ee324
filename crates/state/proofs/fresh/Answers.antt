use Rattle.std.proofs.Common.{set, replicate, ap, ◌∙◌}
use Rattle.arbiter.specs.Arbitration.{nobody}
use Rattle.state.specs.Placing.{fresh_bytes, zeros}
use Rattle.state.proofs.fresh.Goals as goal

pub returns : goal.returns
unfolding fresh_bytes zeros
returns c =
    let bus = c.args.bus in
    ap (λ b. set (set (set (set (set b 800 nobody) 801 nobody) 802 nobody) 803 nobody) 804 bus)
    (c.fill.ensures.after (λ y e. e) ∙ ap (λ n. replicate n 0) c.told-s)
