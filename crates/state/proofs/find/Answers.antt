use Rattle.std.proofs.Common.{refl, sym, ◌∙◌, arith}
use Rattle.shelf.specs.Shelves.{find_in, blank}
use Rattle.shelf.proofs.Finding.{here, later, nowhere}
use Rattle.state.specs.Bytes.{shelf_in}
use Rattle.state.proofs.Laws.{units_length, number_at}
use Rattle.state.proofs.find.Goals as goal

pub loop-i-init : goal.loop-i-init
unfolding find_in
loop-i-init c = refl

pub returns-then-at-number : goal.returns-then-at-number
returns-then-at-number c =
    let b = c.args.s.now in
    let i = c.loop-i.i in
    sym (c.loop-i.invariant ∙ here (shelf_in b) (units_length b 0 32) i c.args.number blank (omega arith) (number_at b i blank (omega arith) ∙ sym c.at.ensures ∙ c.if-at-number.true))

pub loop-i-preserved : goal.loop-i-preserved
loop-i-preserved c =
    let b = c.args.s.now in
    let i = c.loop-i.i in
    c.loop-i.invariant ∙ later (shelf_in b) (units_length b 0 32) i c.args.number blank (omega arith) (λ e. c.if-at-number.false (c.at.ensures ∙ sym (number_at b i blank (omega arith)) ∙ e))

pub returns : goal.returns
returns c =
    let b = c.args.s.now in
    sym (c.loop-i.invariant ∙ nowhere (shelf_in b) (units_length b 0 32) c.loop-i.i c.args.number (omega arith))
