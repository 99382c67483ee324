use mathlib.Core.Path.{sym, ap, ◌∙◌}
use Prim.Native.Nat.{◌+◌, ◌*◌, ◌/◌, ◌%◌, ◌^◌, ◌<◌}
use lib.Dec.{eqb}
use lib.ListN.{drop}
use lib.Seq.{get_or-take, get_or-drop}
use Rattle.shelf.specs.Sessions.{hears}
use borrow.Author.Rules.{rules}
use Rattle.state.proofs.hears_at.Goals as goal

pub returns : goal.returns
unfolding hears
returns c =
    let a = c.args in
    let j : a.session / 8 < 32 = search rules in
    ap (λ b. eqb (b / 2 ^ (a.session % 8) % 2) 1) (sym (get_or-take 32 (drop (1024 + 32 * a.i) a.s.now) (a.session / 8) 0 j ∙ get_or-drop (1024 + 32 * a.i) a.s.now (a.session / 8) 0))
