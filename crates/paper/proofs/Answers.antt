-- The answers to a table and to a frame have the numbers and values that the paper says. Assumes nothing.
use Prim.Native.Nat.{ℕ, ◌<◌}
use mathlib.Core.Path.{refl}
use Rattle.answer.specs.Answers.{number_of, values_of}
use Rattle.answer.specs.declared.Answer.TheVariants.{Loaded, Unloaded, Framed}
use Rattle.paper.specs.Answers.{IsOk, IsRefused, IsFramed}

pub is_ok : (used : ℕ) → IsOk (Loaded used) used
unfolding number_of values_of
is_ok used = (refl, refl)

pub is_refused : (number line : ℕ) → 0 < number → IsRefused (Unloaded number line) number line
unfolding number_of values_of
is_refused number line h = (h, refl, refl)

pub is_framed : (number sender granted copies : ℕ) → IsFramed (Framed number sender granted copies) number sender granted copies
unfolding number_of values_of
is_framed number sender granted copies = (refl, refl)
