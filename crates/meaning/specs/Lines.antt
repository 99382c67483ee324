-- The lines of a table, each judged against the lines before it; the first faulty one ends it. Assumes nothing.
use Rattle.line.specs.Lines.{Reading}
use Rattle.std.specs.Prelude.{ℕ, ◌+◌, ◌*◌, ◌≡◌, Bool, true, false, cond, List, [], ◌∷◌, Some, Err, Ok, None, Option}
use Rattle.card.specs.declared.Card.{Card}
use Rattle.lookup.specs.Record.{size}
use Rattle.line.specs.declared.Line.{Line}
use Rattle.line.specs.declared.Line.TheVariants.{Bus, Unit as L-as-Unit, Vp, Drop, Page, Vc, Mc}
use Rattle.judge.specs.declared.Fault.TheVariants.{Form, Order}
use Rattle.judge.specs.Verdicts.{fine, Verdict, is_fine}
use Rattle.judge.specs.Judge.{judge_bus, judge_unit, judge_vp, judge_drop, judge_page, judge_vc, judge_mc}
use Rattle.meaning.specs.Told.{of_unit, of_page, top_of, hears_in, total, record_of, shelf_of}

-- "first line is not `bus`"
abbrev pub started : List Line → Verdict → Verdict
started [] rest = Err (Order 1)
started (l ∷ told) rest = rest

abbrev pub is_first : List Line → Bool
is_first [] = true
is_first (l ∷ told) = false

-- "unit not declared before use": a declared unit has a top VPI
abbrev pub owned : Option ℕ → (ℕ → Verdict) → Verdict
owned None rest = Err (Order 2)
owned (Some top) rest = rest top

abbrev pub is_declared : Option ℕ → Bool
is_declared None = false
is_declared (Some top) = true

-- Order, Twice, Wide or Room against the lines so far, in a memory with room for so many bytes
unfoldable pub judge : Card → ℕ → List Line → Line → Verdict
judge card room told (Bus bus) = judge_bus card (is_first told) bus
judge card room told (L-as-Unit settings limits) =
    started told
    (judge_unit card (shelf_of told).bus (is_declared (top_of told (of_unit settings.number))) room (size * total told) settings.number settings.link
    settings.top)
judge card room told (Vp u v target class outvpi) =
    started told (owned (top_of told (of_unit u)) λ top. judge_vp card (shelf_of told).bus top v (Some (record_of told (of_unit u) v)) target outvpi)
judge card room told (Drop u v) = started told (owned (top_of told (of_unit u)) λ top. judge_drop top v (Some (record_of told (of_unit u) v)))
judge card room told (Page u v topvci) =
    started told (owned (top_of told (of_unit u)) λ top. judge_page room (size * total told) top v (Some (record_of told (of_unit u) v)) topvci)
judge card room told (Vc u v w target class outvpi outvci) =
    started told
    (owned (top_of told (of_unit u)) λ top.
    judge_vc card (shelf_of told).bus top v (Some (record_of told (of_unit u) v)) w (Some (record_of told (of_page u v) w)) target outvpi)
judge card room told (Mc u session) = started told (owned (top_of told (of_unit u)) λ top. judge_mc (hears_in told u session))

-- the lines so far are good: each was fine after those before it
abbrev pub Good : Card → ℕ → List Line → Type 0
Good card room [] = Unit {0}
Good card room (l ∷ told) = (judge card room told l ≡ fine) × Good card room told

-- what reading lines comes to: all are good; or those before the first that is not, which line that is, counted from 1, and why
pub data Ran : Type 0 where
  done : List Line → Ran
  stopped : List Line → ℕ → Verdict → Ran

-- a line that cannot be read is Form; one that can is judged
abbrev pub verdict_on : Card → ℕ → List Line → Reading → Verdict
verdict_on card room told (Ok l) = judge card room told l
verdict_on card room told (Err wrong) = Err (Form wrong)

abbrev pub with : Reading → List Line → List Line
with (Ok l) told = l ∷ told
with (Err wrong) told = told

unfoldable pub run : Card → ℕ → List Line → ℕ → List Reading → Ran
run card room told n [] = done told
run card room told n (r ∷ rs) =
    cond (is_fine (verdict_on card room told r)) (run card room (with r told) (n + 1) rs) (stopped told (n + 1) (verdict_on card room told r))
