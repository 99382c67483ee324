use Rattle.header.specs.Fields.{word}
use Rattle.header.proofs.Laws.{top_lt}
use native.Mathlib.Omega.{arith}
use Rattle.header.proofs.write.Goals as goal

pub overflow_mul-result : goal.overflow_mul-result
overflow_mul-result c = omega (arith, c.top.ensures, top_lt c.args.link c.args.h.gfc c.args.h.vpi)

pub overflow_add-result : goal.overflow_add-result
overflow_add-result c = omega (arith, c.top.ensures, top_lt c.args.link c.args.h.gfc c.args.h.vpi)

pub overflow_add-result-2 : goal.overflow_add-result-2
overflow_add-result-2 c = omega (arith, c.top.ensures, top_lt c.args.link c.args.h.gfc c.args.h.vpi)

pub overflow_add-result-3 : goal.overflow_add-result-3
overflow_add-result-3 c = omega (arith, c.top.ensures, top_lt c.args.link c.args.h.gfc c.args.h.vpi)

pub returns : goal.returns
unfolding word
returns c = rw c.top.ensures
