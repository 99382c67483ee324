use Rattle.std.proofs.Common.{◌+◌, ◌*◌, get_or, set, replicate, ap, ◌∙◌}
use Rattle.octets.specs.Octets.{splice}
use Rattle.state.specs.Placing.{puts, placed, side_emptied}
use Rattle.state.proofs.declare.Goals as goal

pub returns : goal.returns
unfolding placed side_emptied
returns c =
    let b = c.args.s.now in
    let i = get_or b 805 0 in
    ap (λ l. set l 805 (i + 1))
    (c.copy.ensures
    ∙ ap (λ l. splice l (1024 + 32 * i) (replicate 32 0))
    (c.put_columns-2.ensures
    ∙ ap (λ l. puts l i 26 (replicate 5 0)) (c.put_columns.ensures ∙ ap (puts b i 0) c.columns_of.ensures)))
