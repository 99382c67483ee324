-- Numbers in bytes, and parts of a list of bytes. "All two-byte and four-byte numbers are big-endian." Assumes nothing.
use Rattle.std.specs.Prelude.{ℕ, ◌+◌, ◌*◌, ◌/◌, ◌%◌, List, [], ◌∷◌, ◌++◌, length, get_or, take, drop}

-- the two and the four bytes of a number
abbrev pub be2 : ℕ → List ℕ
be2 n = n / 256 % 256 ∷ n % 256 ∷ []

abbrev pub be4 : ℕ → List ℕ
be4 n = be2 (n / 65536) ++ be2 (n % 65536)

-- the numbers that the two and the four bytes of b from place k on say
abbrev pub two : List ℕ → ℕ → ℕ
two b k = get_or b k 0 * 256 + get_or b (k + 1) 0

abbrev pub four : List ℕ → ℕ → ℕ
four b k = two b k * 65536 + two b (k + 2)

-- b with v in place of what stood from place k on
abbrev pub splice : {A : Type 0} → List A → ℕ → List A → List A
splice b k v = take k b ++ v ++ drop (k + length v) b

-- n elements of b from place k on
abbrev pub part : {A : Type 0} → List A → ℕ → ℕ → List A
part b k n = take n (drop k b)

-- the bytes of a list of things, one after the other
unfoldable pub cat : {A : Type 0} → (A → List ℕ) → List A → List ℕ
cat f [] = []
cat f (a ∷ rest) = f a ++ cat f rest
