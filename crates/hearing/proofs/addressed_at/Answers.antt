use lib.Dec.{eqb}
use Rattle.hearing.specs.Hearings.{addressed}
use Rattle.state.specs.Bytes.{unit_by}
use Rattle.hearing.proofs.addressed_at.Goals as goal

pub returns-in-Unit : goal.returns-in-Unit
unfolding addressed unit_by
returns-in-Unit c = rw c.in-Unit.is (λ t. eqb (c.at.ensures t) c.in-Unit.number)

pub returns-in-Session : goal.returns-in-Session
unfolding addressed unit_by
returns-in-Session c = rw c.in-Session.is c.hears_at.ensures

pub returns-in-All : goal.returns-in-All
unfolding addressed unit_by
returns-in-All c = rw c.in-All.is
