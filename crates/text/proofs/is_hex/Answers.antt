use Rattle.std.proofs.Common.{◌∙◌, rules, tests}
use Rattle.std.proofs.lemmas.Iterator.{YieldsList-from_slice}
use Rattle.std.proofs.lemmas.Iterator.Search.{all_from_yields_List}
use Rattle.std.specs.Char.{is_ascii_hexdigit}
use borrow.Author.Tests.{ne_eqb}
use Rattle.text.proofs.HexLaws.{all_hex, even, odd}
use Rattle.text.proofs.is_hex.Goals as goal

pub returns-then-even : goal.returns-then-even
returns-then-even c =
    let s = c.args.s.now in
    all_from_yields_List is_ascii_hexdigit _ _ _ c.all.ensures.ran (YieldsList-from_slice s cc) (λ x b q k. search (rules, tests)) ∙ all_hex s ∙ even s c.if-even.true

pub returns-else-even : goal.returns-else-even
returns-else-even c = ne_eqb _ _ c.if-even.false ∙ odd c.args.s.now c.if-even.false
