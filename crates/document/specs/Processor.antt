-- 02's hand and collect: what a unit's processor hands in, and takes from the control outlet. Assumes nothing.
use Rattle.std.specs.Prelude.{ℕ, List, [], ◌∷◌}
use Rattle.answer.specs.declared.Answer.TheVariants.{Refused, Handed, Taken}
use Rattle.paper.specs.Counters.{taken}
use Rattle.document.specs.Counters.{entries}
use Rattle.document.specs.Shelf.{Shelf, number_of, with_control_in, with_control_out, unit_at, after}
use Rattle.document.specs.Take.{Took, nothing}

-- "The processor hands in .. the 56 bytes before parity"; "11 Busy, place taken". By what stands in the place
unfoldable pub hands_into : List (List ℕ) → Shelf → ℕ → List ℕ → Took
hands_into [] shelf place c = record { answer = Handed; shelf = after shelf place (with_control_in (unit_at shelf place) (c ∷ [])) []; bytes = c }
hands_into (b ∷ others) shelf place c = record { answer = Refused 11; shelf = shelf; bytes = c }

abbrev pub hands : Shelf → ℕ → List ℕ → Took
hands shelf place c = hands_into (unit_at shelf place).side.controlin shelf place c

-- ".. and takes from the control outlet (or `empty`)"; "leaving either outlet is `taken`". By what stands in the outlet
unfoldable pub collects_from : List (List ℕ) → Shelf → ℕ → List ℕ → Took
collects_from [] shelf place buffer = nothing shelf buffer
collects_from (c ∷ rest) shelf place buffer =
    let u = unit_at shelf place in
    record { answer = Taken; shelf = after shelf place (with_control_out u rest) (entries (number_of u) (taken ∷ [])); bytes = c }

abbrev pub collects : Shelf → ℕ → List ℕ → Took
collects shelf place buffer = collects_from (unit_at shelf place).side.controlout shelf place buffer
