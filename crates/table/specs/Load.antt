-- Loading: text into lines, lines judged, and what comes back. Assumes nothing.
use Rattle.std.specs.Prelude.{ℕ, ◌+◌, ◌*◌, Bool, true, false, cond, ◌||◌, List, [], ◌∷◌, eqb, ltb, length, Err, Ok}
use Rattle.card.specs.declared.Card.{Card}
use Rattle.lookup.specs.Record.{size, usable, record_at, cleared}
use Rattle.shelf.specs.Shelves.{fresh}
use Rattle.shelf.specs.Shelf.{Shelf}
use Rattle.text.specs.Text.{split}
use Rattle.line.specs.Lines.{Reading, reading_of}
use Rattle.line.specs.declared.Line.{Line}
use Rattle.line.specs.declared.Wrong.TheVariants.{Newline}
use Rattle.judge.specs.declared.Fault.TheVariants.{Form}
use Rattle.table.specs.declared.Progress.{Progress}
use Rattle.table.specs.Loading.{Loading, LoadOutcome, refusal_of}
use Rattle.judge.specs.Verdicts.{fine, Verdict, number_of, is_fine}
use Rattle.meaning.specs.Told.{total, shelf_of, memory_of}
use Rattle.meaning.specs.Enact.{verdict_at, used_in, memory_in}
use Rattle.meaning.specs.Lines.{Ran, done, stopped, run}

-- one line more: the bytes used, the lines read, and the verdict on it
unfoldable pub progress_by : Verdict → Progress → Reading → Progress
progress_by verdict p reading =
    record {
      used = cond (is_fine verdict) (used_in reading p.used) p.used;
      lines = p.lines + 1;
      verdict = verdict;
    }

abbrev pub memory_after : Card → List ℕ → Shelf → Verdict → Progress → Reading → List ℕ
memory_after card memory shelf verdict p reading = cond (is_fine verdict) (memory_in card memory shelf p.used reading) memory

abbrev pub verdict_in : Card → ℕ → List ℕ → Shelf → Progress → Reading → Verdict
verdict_in card room memory shelf p reading = verdict_at card room (eqb p.lines 0) (record_at card memory) shelf p.used reading

-- how far reading came
abbrev pub progress_of : Ran → Progress
progress_of (done told) = record { used = size * total told; lines = length told; verdict = fine }
progress_of (stopped told n verdict) = record { used = size * total told; lines = n; verdict = verdict }

abbrev pub told_in : Ran → List Line
told_in (done told) = told
told_in (stopped told n verdict) = told

-- "each line ended by a newline": what stands behind the last newline is a line only if it is not empty, and one that no newline ended
unfoldable pub readings_of : List (List ℕ) → List Reading
readings_of [] = []
readings_of (p ∷ []) = cond (eqb (length p) 0) [] (reading_of p false ∷ [])
readings_of (p ∷ q ∷ ps) = reading_of p true ∷ readings_of (q ∷ ps)

-- "empty text (line 1)" is Form; else the first faulty line, or all the lines
unfoldable pub ran_of : Card → ℕ → List ℕ → Ran
ran_of card room text = cond (eqb (length text) 0) (stopped [] 1 (Err (Form Newline))) (run card room [] 0 (readings_of (split 10 text)))

-- "cell store below 8,192 bytes a declared unit, or fewer counter rows than units"
abbrev pub too_little : Shelf → ℕ → ℕ → Bool
too_little shelf store rows = ltb store (8192 * shelf.count) || ltb rows shelf.count

-- "Refusals 1 to 7 zero the memory up to 262,144 bytes .. and give back a fresh 16 bus with no units."
abbrev pub refusal : LoadOutcome → Loading
refusal outcome = record { outcome = outcome; shelf = fresh 16 }

-- "Loading gives Long first; then the first faulty line .. with 2 to 6 tried in that order on it; then Store."
unfoldable pub loading_of : Ran → ℕ → ℕ → Loading
loading_of (stopped told n verdict) store rows = refusal (refusal_of (number_of verdict) n)
loading_of (done told) store rows =
    cond (too_little (shelf_of told) store rows) (refusal (refusal_of 7 0)) (record { outcome = Ok (size * total told); shelf = shelf_of told })

unfoldable pub memory_ran : Card → List ℕ → Ran → ℕ → ℕ → List ℕ
memory_ran card memory (stopped told n verdict) store rows = cleared memory
memory_ran card memory (done told) store rows = cond (too_little (shelf_of told) store rows) (cleared memory) (memory_of card memory told)

-- "text above 65,536 bytes; line 0"
abbrev pub is_long : List ℕ → Bool
is_long text = ltb 65536 (length text)

unfoldable pub load : Card → List ℕ → List ℕ → ℕ → ℕ → Loading
load card text memory store rows =
    cond (is_long text) (refusal (refusal_of 1 0)) (loading_of (ran_of card (usable memory) text) store rows)

unfoldable pub loaded : Card → List ℕ → List ℕ → ℕ → ℕ → List ℕ
loaded card text memory store rows = cond (is_long text) (cleared memory) (memory_ran card memory (ran_of card (usable memory) text) store rows)
