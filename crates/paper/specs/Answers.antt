-- What is given back, in 01's number and values: `answer: number_of` and `values_of` set them out for each answer. Assumes nothing.
use Rattle.std.specs.Prelude.{ℕ, ◌<◌, ◌≡◌, [], ◌∷◌}
use Rattle.answer.specs.Answers.{number_of, values_of}
use Rattle.answer.specs.declared.Answer as A

-- "`table` gives `ok` and bytes used, or `refused`, number and line": no refusal has number 0
abbrev pub IsOk : A.Answer → ℕ → Type 0
IsOk answer used = (number_of answer ≡ 0) × (values_of answer ≡ used ∷ [])

abbrev pub IsRefused : A.Answer → ℕ → ℕ → Type 0
IsRefused answer number line = (0 < number) × (number_of answer ≡ number) × (values_of answer ≡ line ∷ [])

-- "`frame` gives number, sender, unit granted, copies queued"
abbrev pub IsFramed : A.Answer → ℕ → ℕ → ℕ → ℕ → Type 0
IsFramed answer number sender granted copies = (number_of answer ≡ 0) × (values_of answer ≡ number ∷ sender ∷ granted ∷ copies ∷ [])
