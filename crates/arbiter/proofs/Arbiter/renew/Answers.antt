use Prim.Native.Nat.{ℕ}
use native.Mathlib.Omega.{arith}
use mathlib.Core.Path.{refl, sym, ap, ◌∙◌}
use mathlib.Core.Bool.{cond}
use mathlib.Core.List.{List}
use lib.ListN.{length-set, get_or, set}
use borrow.Author.Rules.{rules}
use Rattle.arbiter.proofs.Requests.{renew_next, renew_none}
use Rattle.arbiter.proofs.Arbiter.renew.Goals as goal

pub loop-number-init : goal.loop-number-init
loop-number-init c = (search rules, refl)

pub loop-number-preserved : goal.loop-number-preserved
loop-number-preserved c =
    let a = c.args in
    let n = c.loop-number.number in
    let asks = c.loop-number.asks in
    let l = c.loop-number.invariant.0 in (
      length-set asks n c.ask_after.result ∙ l,
      c.loop-number.invariant.1
          ∙ renew_next a.bus a.frame a.now asks _ n (omega arith)
          (ap (set asks n) (c.ask_after.ensures ∙ ap (λ d. cond d (get_or a.now n 0) (get_or asks n 0)) c.due.ensures)),
    )

pub returns : goal.returns
returns c =
    let a = c.args in
    let e = c.loop-number.invariant.0 in
    ap (λ (l : List ℕ). record { last = a.self.last; asks = l })
    (sym (renew_none a.bus a.frame a.now c.loop-number.asks c.loop-number.number (omega arith)) ∙ sym c.loop-number.invariant.1)
