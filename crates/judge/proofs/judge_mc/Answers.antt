use Rattle.std.proofs.Common.{◌≡◌, ℕ, ◌+◌, ◌*◌, ◌<◌, Bool, List, get_or, sym, ap, ◌∙◌}
use Rattle.octets.specs.Octets.{part}
use Rattle.shelf.specs.Shelves.{blank}
use Rattle.shelf.specs.Sessions.{hears}
use Rattle.state.specs.Bytes.{shelf_in, unit_by}
use Rattle.state.proofs.Laws.{unit_at_lem}
use Rattle.judge.specs.Judge.{judge_mc}
use Rattle.judge.proofs.judge_mc.Goals as goal

heard : (b : List ℕ) (i session : ℕ) (r : Bool) → i < 32 → r ≡ hears (part b (1024 + 32 * i) 32) session → r ≡ hears (get_or (shelf_in b).units i blank).sessions session
unfolding unit_by
heard b i session r h q = q ∙ ap (λ l. hears l session) (sym (ap (λ u. u.sessions) (unit_at_lem b i blank h)))

pub returns-then-hears_at : goal.returns-then-hears_at
unfolding judge_mc
returns-then-hears_at c =
    let a = c.args in
    rw (sym (heard a.s.now a.o.at a.session _ c.requires c.hears_at.ensures) ∙ c.if-hears_at.true)

pub returns : goal.returns
unfolding judge_mc
returns c =
    let a = c.args in
    rw (sym (heard a.s.now a.o.at a.session _ c.requires c.hears_at.ensures) ∙ c.if-hears_at.false)
