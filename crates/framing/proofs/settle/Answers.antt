use Rattle.std.proofs.Common.{sym, ap, ◌∙◌}
use Rattle.state.specs.Bytes.{shelf_in}
use Rattle.framing.specs.Requests.{asking_now}
use Rattle.framing.proofs.Moves.{none_moves}
use Rattle.framing.proofs.settle.Goals as goal

pub returns-then-some_looped : goal.returns-then-some_looped
returns-then-some_looped c = let w = c.move_all.ensures in record { value = c.asking_now.ensures ∙ ap (λ b. asking_now (shelf_in b)) w.0; kept = w }

pub returns : goal.returns
returns c =
    let s = c in
    let a = s.args in
    let e = sym (none_moves a.s.now a.store.now (sym c.some_looped.ensures ∙ c.if-some_looped.false)) in
    record { value = c.asks_noted.ensures ∙ s.requires.2 ∙ (λ t. asking_now (shelf_in (e t).bytes)); kept = (λ t. (e t).bytes, (λ t. (e t).store, s.requires.1 ∙ (λ t. (e t).each))) }
