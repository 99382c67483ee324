use mathlib.Core.Path.{refl, sym, ◌∙◌}
use native.Mathlib.Omega.{arith}
use Rattle.text.proofs.Numbers.{has_digits, digit_at, at_least, digits_on, value_on, value_end}
use Rattle.text.proofs.NumberLaws.{past, no_numeral, numeral_above, numeral_is}
use Rattle.text.proofs.number.Goals as goal
use Rattle.text.proofs.number.Goals.{then-most-digit-via-then-most-digit, then-most-digit-via-else-most-digit+then-most-digit-2}

pub returns-then-not-decimal-clause-says : goal.returns-then-not-decimal-clause-says
returns-then-not-decimal-clause-says c = no_numeral _ _ (sym c.decimal.ensures ∙ c.if-not-decimal.true)

pub loop-byte-init : goal.loop-byte-init
loop-byte-init c =
    let d = sym c.decimal.ensures ∙ c.if-not-decimal.false in
    (omega arith, has_digits _ d, d, refl)

pub overflow_sub-digit : goal.overflow_sub-digit
overflow_sub-digit c = (at_least _ (digit_at _ _ c.loop-byte-test.true c.loop-byte.invariant.1)).0

pub returns-then-most-digit-clause-says : goal.returns-then-most-digit-clause-says
returns-then-most-digit-clause-says c =
    let l = c.loop-byte in
    numeral_above _ _ l.invariant.2 (past _ l.byte-index l.v _ c.loop-byte-test.true l.invariant.3
    (elim c.then-most-digit.branch [ then-most-digit-via-then-most-digit w ↦ omega arith | then-most-digit-via-else-most-digit+then-most-digit-2 w ↦ omega arith ]))

pub loop-byte-preserved : goal.loop-byte-preserved
loop-byte-preserved c =
    let l = c.loop-byte in
    let h = c.loop-byte-test.true in (
      omega arith,
      sym (digits_on _ _ h (digit_at _ _ h l.invariant.1)) ∙ l.invariant.1,
      l.invariant.2,
      l.invariant.3 ∙ value_on _ _ h _,
    )

pub returns-clause-says : goal.returns-clause-says
returns-clause-says c =
    let l = c.loop-byte in
    numeral_is _ _ _ l.invariant.2 (l.invariant.3 ∙ value_end _ _ _ c.loop-byte-test.false) l.invariant.0
