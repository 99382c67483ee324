-- `answer::tick` meets its contract. Assumes nothing.
use Rattle.std.proofs.Common.{arith}
use Rattle.answer.proofs.Ticking.{bit_in, bit_out}
use Rattle.answer.proofs.tick.Goals as goal

pub returns-then-bit-counters : goal.returns-then-bit-counters
returns-then-bit-counters c =
    let one = bit_in c.args.counters c.args.bit c.requires.0 c.if-bit-counters.true in
    omega (arith, one)

pub returns : goal.returns
returns c =
    let none = bit_out c.args.counters c.args.bit c.requires.0 c.if-bit-counters.false in
    omega (arith, none)
