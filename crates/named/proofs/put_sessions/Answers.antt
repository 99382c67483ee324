use mathlib.Core.Path.{◌≡◌, refl}
use Rattle.text.proofs.Splices.{then}
use Rattle.named.proofs.SessionLaws.{no_session, next_session}
use native.Mathlib.Omega.{arith}
use borrow.Author.Rules.{rules}
use Rattle.named.proofs.put_sessions.Goals as goal

pub loop-session-init : goal.loop-session-init
loop-session-init c = (omega arith, refl, no_session _ _ _)

pub loop-session-preserved : goal.loop-session-preserved
loop-session-preserved c =
    let l = c.loop-session in
    (omega arith, search rules, next_session _ _ _ _ _ _ _ _ l.invariant.2 c.put_session-next.ensures.0 (omega arith))

pub returns : goal.returns
returns c =
    let l = c.loop-session in
    let z : l.session ≡ 256 = omega arith in
    (then _ _ _ _ _ _ _ _ c.put-next.ensures (rw z at l.invariant.2) (omega arith), omega arith)
