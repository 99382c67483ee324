use Rattle.std.proofs.Common.{◌∙◌, rules, tests}
use Rattle.std.proofs.lemmas.Iterator.{YieldsList-from_slice}
use Rattle.std.proofs.lemmas.Iterator.Search.{all_from_yields_List}
use Rattle.text.specs.Digits.{digit}
use Rattle.text.proofs.Numbers.{all_digits}
use Rattle.text.proofs.digits.Goals as goal

pub returns : goal.returns
unfolding digit
returns c = all_from_yields_List digit _ _ _ c.all.ensures.ran (YieldsList-from_slice c.args.s.now cc) (λ x b q k. search (rules, tests)) ∙ all_digits _
