use Rattle.header.specs.Fields.{fields}
use Rattle.outlet.proofs.fate_in.Goals as goal

pub returns-then-too_wide : goal.returns-then-too_wide
returns-then-too_wide c = rw (← c.too_wide.ensures, c.if-too_wide.true)

pub returns : goal.returns
unfolding fields
returns c = rw (← c.too_wide.ensures, c.if-too_wide.false) c.fate_at.ensures
