use Rattle.std.proofs.Common.{◌∙◌, rules, tests}
use Rattle.std.specs.Int.Bits.{bit_xor}
use Rattle.std.proofs.lemmas.Iterator.{YieldsList-from_slice}
use Rattle.std.proofs.lemmas.Iterator.Consumers.{fold_from_yields_List}
use Rattle.bus.proofs.Laws.{folded}
use Rattle.bus.proofs.parity.Goals as goal

pub returns : goal.returns
returns c =
    let bytes = c.args.bytes.now in
    fold_from_yields_List _ bit_xor 0 _ c.fold.ensures.ran (YieldsList-from_slice bytes cc) (λ a x b q k. search (rules, tests)) ∙ folded 0 bytes
