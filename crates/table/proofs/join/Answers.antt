use Rattle.std.proofs.Common.{sym, ◌∙◌}
use Rattle.state.specs.Bytes.{shelf_in}
use Rattle.state.proofs.Laws.{units_length}
use Rattle.judge.proofs.Owning.{found_in}
use Rattle.table.proofs.join.Goals as goal

pub join-requires : goal.join-requires
join-requires c =
    let b = c.args.s.now in
    found_in (shelf_in b) c.args.number c.in-Some.i (units_length b 0 32) (sym c.find.ensures ∙ c.in-Some.is)
