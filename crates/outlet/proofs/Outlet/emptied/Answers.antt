use Rattle.outlet.proofs.Outlet.emptied.Goals as goal

pub returns : goal.returns
returns c = simp c.empty.ensures
