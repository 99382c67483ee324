use Rattle.std.proofs.Common.{sym, ap, ◌∙◌, Some}
use Rattle.shelf.specs.Shelves.{blank}
use Rattle.state.specs.Bytes.{shelf_in, unit_by}
use Rattle.state.proofs.Laws.{units_length, unit_at_lem}
use Rattle.judge.specs.Owners.{owner_is, owner_at, owner_of}
use Rattle.judge.proofs.Owning.{found_in}
use Rattle.judge.proofs.find_owner.Goals as goal

pub returns-in_err-at : goal.returns-in_err-at
unfolding owner_of
returns-in_err-at c =
    (c.from_residual.ensures ∙ ap (owner_at (shelf_in c.args.s.now)) (sym (sym c.find.ensures ∙ c.in_err-at.was)), rw c.from_residual.ensures tt)

pub settings_at-requires : goal.settings_at-requires
settings_at-requires c =
    let b = c.args.s.now in
    found_in (shelf_in b) c.args.number c.in_ok-at.at (units_length b 0 32) (sym c.find.ensures ∙ c.in_ok-at.was)

pub place_at-requires : goal.place_at-requires
place_at-requires c =
    let b = c.args.s.now in
    found_in (shelf_in b) c.args.number c.in_ok-at.at (units_length b 0 32) (sym c.find.ensures ∙ c.in_ok-at.was)

pub returns : goal.returns
unfolding owner_of unit_by
returns c =
    let b = c.args.s.now in
    let e = sym c.find.ensures ∙ c.in_ok-at.was in
    let inside = found_in (shelf_in b) c.args.number c.in_ok-at.at (units_length b 0 32) e in
    ((λ t. Some (record { top = (c.settings_at.ensures t).top; place = c.place_at.ensures t; at = c.in_ok-at.at })) ∙ ap (λ u. Some (owner_is c.in_ok-at.at u)) (sym (unit_at_lem b c.in_ok-at.at blank inside)) ∙ ap (owner_at (shelf_in b)) (sym e), inside)
