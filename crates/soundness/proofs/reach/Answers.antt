use Rattle.std.proofs.Common.{refl, inl, inr, arith}
use Rattle.soundness.proofs.reach.Goals as goal

pub returns-then-count-le16 : goal.returns-then-count-le16
returns-then-count-le16 c = record { upper_bound = (omega arith, inl (omega arith)); even = inl refl }

pub returns-else-count-le16 : goal.returns-else-count-le16
returns-else-count-le16 c = record { upper_bound = (omega arith, inr refl); even = inr refl }
