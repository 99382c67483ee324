use Rattle.arbiter.specs.Arbitration.{highest}
use Rattle.arbiter.proofs.highest.Goals as goal

pub returns-then-some_asks : goal.returns-then-some_asks
unfolding highest
returns-then-some_asks c = rw (← c.some_asks.ensures, c.if-some_asks.true)

pub returns-then-some_asks-2 : goal.returns-then-some_asks-2
unfolding highest
returns-then-some_asks-2 c = rw (← c.some_asks.ensures, c.if-some_asks.false, ← c.some_asks-2.ensures, c.if-some_asks-2.true)

pub returns-then-some_asks-3 : goal.returns-then-some_asks-3
unfolding highest
returns-then-some_asks-3 c = rw (← c.some_asks.ensures, c.if-some_asks.false, ← c.some_asks-2.ensures, c.if-some_asks-2.false, ← c.some_asks-3.ensures, c.if-some_asks-3.true)

pub returns : goal.returns
unfolding highest
returns c = rw (← c.some_asks.ensures, c.if-some_asks.false, ← c.some_asks-2.ensures, c.if-some_asks-2.false, ← c.some_asks-3.ensures, c.if-some_asks-3.false)
