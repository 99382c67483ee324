-- What reading a table's text comes to, in the words of the paper. Assumes nothing.
use Rattle.std.specs.Prelude.{ℕ, ◌<◌, ◌^◌, ◌≡◌, Bool, true, false, List, ◌⊎◌, ◌↔◌, Ok, Err}
use Rattle.text.specs.Decimals.{decimal}
use Rattle.line.specs.declared.Wrong.{Wrong}
use Rattle.line.specs.Lines.{reading_of}
use Rattle.line.specs.declared.Line.{Line}
use Rattle.paper.specs.Words.{numeral, Decimal, words_of, text_of, InRange, AllInRange}

-- "Numbers are decimal without needless zeros.": such digits of a number are its numeral, and there are no others
abbrev pub NumeralIff : Type 0
NumeralIff = (n : ℕ) (text : List ℕ) → (text ≡ numeral n) ↔ Decimal n text

-- the numeral is what `text::put_decimal` writes
abbrev pub NumeralWritten : Type 0
NumeralWritten = (n : ℕ) → n < 10 ^ 20 → numeral n ≡ decimal n

-- a line that a newline ended is read as that line whose words it is, each number in its range
abbrev pub ReadsIff : Type 0
ReadsIff = (text : List ℕ) (l : Line) → (reading_of text true ≡ Ok l) ↔ (InRange l × (text ≡ words_of l))

-- no two lines in range have the same words
abbrev pub WordsApart : Type 0
WordsApart = (l m : Line) → InRange l → InRange m → words_of l ≡ words_of m → l ≡ m

-- and a text is that of one list of such lines only
abbrev pub TextsApart : Type 0
TextsApart = (told other : List Line) → AllInRange told → AllInRange other → text_of told ≡ text_of other → told ≡ other

-- "2 Form: unknown word, wrong field count, field outside its range, missing final newline": no newline ended it, or it is the words of no line in range
abbrev pub FormIff : Type 0
FormIff =
    (text : List ℕ) (ended : Bool) →
    ((wrong : Wrong) × (reading_of text ended ≡ Err wrong)) ↔ ((ended ≡ false) ⊎ ((l : Line) → InRange l → text ≡ words_of l → ⊥))
