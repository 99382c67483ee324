use Rattle.std.proofs.Common.{◌+◌, ◌-◌, ◌*◌, drop, ◌∙◌, arith}
use Rattle.std.proofs.lemmas.List.{take-take}
use Rattle.state.proofs.sessions_at.Goals as goal

pub returns : goal.returns
returns c =
    let s = c.args.s.now in
    let first = rw c.unwrap.ensures at c.first_chunk.ensures.cases in
    first.same ∙ take-take 32 (2048 - (1024 + 32 * c.args.i)) (drop (1024 + 32 * c.args.i) s) (omega arith)
