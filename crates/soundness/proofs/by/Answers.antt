use Rattle.std.proofs.Common.{cond, sym, ap, eq-eqb, ne_eqb}
use Rattle.soundness.proofs.by.Goals as goal

pub returns-then-byte-eq0 : goal.returns-then-byte-eq0
returns-then-byte-eq0 c = let a = c.args in sym (ap (λ t. cond t a.zero a.other) (eq-eqb a.byte 0 c.if-byte-eq0.true))

pub returns-else-byte-eq0 : goal.returns-else-byte-eq0
returns-else-byte-eq0 c = let a = c.args in sym (ap (λ t. cond t a.zero a.other) (ne_eqb a.byte 0 c.if-byte-eq0.false))
