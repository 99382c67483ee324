use mathlib.Core.Path.{ap, ◌∙◌}
use Prim.Native.Nat.{◌+◌}
use lib.ListN.{length}
use borrow.Author.Tests.{lt-leb, le-leb}
use Rattle.octets.specs.Octets.{splice}
use Rattle.lookup.specs.Record.{size, written}
use native.Mathlib.Omega.{arith}
use Rattle.lookup.proofs.put.Goals as goal

pub returns-then-memory-lt-SIZE : goal.returns-then-memory-lt-SIZE
unfolding written
returns-then-memory-lt-SIZE c =
    let a = c.args in
    simp (lt-leb (a.at + size) (length a.memory.now) (omega arith))

pub returns-then-memory-at : goal.returns-then-memory-at
unfolding written
returns-then-memory-at c =
    let a = c.args in
    simp (lt-leb (a.at + size) (length a.memory.now) (omega arith))

pub returns : goal.returns
unfolding written
returns c =
    let a = c.args in
    c.copy.ensures
    ∙ ap (splice a.memory.now a.at) c.bytes-b.ensures
    ∙ simp (le-leb (a.at + size) (length a.memory.now) (omega arith))
