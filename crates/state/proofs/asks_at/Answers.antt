use Rattle.std.proofs.Common.{drop, ◌∙◌, arith}
use Rattle.std.proofs.lemmas.List.{take-take}
use Rattle.state.proofs.asks_at.Goals as goal

pub returns : goal.returns
returns c =
    let s = c.args.s.now in
    let first = rw c.unwrap.ensures at c.first_chunk.ensures.cases in
    first.same ∙ take-take 32 1280 (drop 768 s) (omega arith)
