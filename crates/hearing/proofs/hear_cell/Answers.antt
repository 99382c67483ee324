use Rattle.std.proofs.Common.{ap, ◌∙◌}
use Rattle.state.specs.Bytes.{unit_in}
use Rattle.hearing.specs.Hearings.{plan_of, fate_by, store_of}
use Rattle.hearing.specs.InPlace.{state_by}
use Rattle.hearing.proofs.hear_cell.Goals as goal

pub returns : goal.returns
returns c =
    let a = c.args in
    let u = unit_in a.s.now a.place in
    let carried = c.address_of-address.ensures in record {
      value = c.heed.ensures.value ∙ ap (λ h. fate_by (plan_of u h)) carried;
      kept = (c.heed.ensures.kept.0 ∙ ap (λ h. state_by (plan_of u h) a.s.now a.place) carried, c.heed.ensures.kept.1 ∙ ap (λ h. store_of u h a.place a.store.now a.cell.now) carried);
    }
