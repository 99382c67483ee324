use Rattle.std.proofs.Common.{◌∙◌, ap, ap₂, eqb, get_or, [], rules, tests}
use Rattle.std.specs.List.{slice_split}
use Rattle.std.specs.Option.{unwrap_or}
use Rattle.std.proofs.lemmas.Option.{unwrap_or-slice_get}
use Rattle.std.proofs.lemmas.Iterator.Consumers.{nth_from_yields_List}
use Rattle.std.proofs.lemmas.Iterator.Splits.{YieldsList-from_slice_split}
use Rattle.text.proofs.Split.{split_is, now_or}
use Rattle.text.proofs.part.Goals as goal

pub returns : goal.returns
returns c =
    let a = c.args in
    let n = nth_from_yields_List c.nth.result _ _ c.nth.ensures.ran (YieldsList-from_slice_split _ (λ b. eqb b a.parting) a.s.now c.split.ensures.rest c.split.ensures.done c.split.ensures.closure (λ x b q k. search (rules, tests))) in
    ap (λ x. x.now) c.unwrap_or.ensures ∙ now_or c.nth.result _ ∙ ap (λ o. unwrap_or o []) n ∙ unwrap_or-slice_get (slice_split (λ b. eqb b a.parting) a.s.now) c.saturating_sub-before.result []
    ∙ ap₂ (λ fs k. get_or fs k []) (split_is a.parting a.s.now) c.saturating_sub-before.ensures
