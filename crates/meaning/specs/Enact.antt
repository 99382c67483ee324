-- What a line does to a memory and a shelf as they stand. Assumes nothing.
use Rattle.line.specs.Lines.{Reading}
use Rattle.std.specs.Prelude.{ℕ, ◌+◌, ◌*◌, ◌<◌, Bool, cond, List, Option, Some, None, Err, Ok}
use Rattle.bus.specs.Routing.{routing}
use Rattle.card.specs.declared.Card.{Card}
use Rattle.lookup.specs.Record.{size, record_at, written}
use Rattle.lookup.specs.declared.Record as R
use Rattle.lookup.specs.declared.Record.TheVariants.{Drop as R-as-Drop, Route, Page as R-as-Page}
use Rattle.outlet.specs.Outlets.{Given}
use Rattle.shelf.specs.Shelf.{Shelf}
use Rattle.line.specs.declared.Line.{Line}
use Rattle.line.specs.declared.Line.TheVariants.{Bus, Unit as L-as-Unit, Vp, Drop, Page, Vc, Mc}
use Rattle.judge.specs.declared.Owner.{Owner}
use Rattle.judge.specs.declared.Paged.{Paged}
use Rattle.judge.specs.declared.Fault.TheVariants.{Form}
use Rattle.judge.specs.Verdicts.{Verdict, page_in}
use Rattle.judge.specs.Owners.{unit_of, owner_of, spot}
use Rattle.judge.specs.Standing.{judge_at}
use Rattle.meaning.specs.Told.{opens, takes, shelf_by}

-- the memory after it, where it names this unit
unfoldable pub put_by : Card → List ℕ → Option Owner → ℕ → R.Record → List ℕ
put_by card memory (Some o) vpi r = written card memory (spot o vpi) r
put_by card memory None vpi r = memory

unfoldable pub put_in : Card → List ℕ → Option Paged → ℕ → R.Record → List ℕ
put_in card memory (Some page) vci r = written card memory (page.place + size * vci) r
put_in card memory None vci r = memory

unfoldable pub put_vc : Card → List ℕ → Option Owner → ℕ → ℕ → R.Record → List ℕ
put_vc card memory (Some o) vpi vci r = put_in card memory (page_in (record_at card memory (spot o vpi))) vci r
put_vc card memory None vpi vci r = memory

unfoldable pub memory_by : Card → List ℕ → ℕ → Option Owner → Line → List ℕ
memory_by card memory used o (Bus bus) = memory
memory_by card memory used o (L-as-Unit settings limits) = memory
memory_by card memory used o (Vp u v target class outvpi) = put_by card memory o v (Route (routing target class) outvpi 0)
memory_by card memory used o (Drop u v) = put_by card memory o v R-as-Drop
memory_by card memory used o (Page u v top) = put_by card memory o v (R-as-Page top used)
memory_by card memory used o (Vc u v w target class outvpi outvci) = put_vc card memory o v w (Route (routing target class) outvpi outvci)
memory_by card memory used o (Mc u session) = memory

-- a line that is read
abbrev pub verdict_at : Card → ℕ → Bool → (ℕ → Option R.Record) → Shelf → ℕ → Reading → Verdict
verdict_at card room first stands shelf used (Ok l) = judge_at card room first stands shelf used l
verdict_at card room first stands shelf used (Err wrong) = Err (Form wrong)

abbrev pub shelf_in : Reading → ℕ → Shelf → Shelf
shelf_in (Ok l) used shelf = shelf_by l used shelf
shelf_in (Err wrong) used shelf = shelf

abbrev pub used_in : Reading → ℕ → ℕ
used_in (Ok l) used = used + size * takes (opens l)
used_in (Err wrong) used = used

abbrev pub memory_in : Card → List ℕ → Shelf → ℕ → Reading → List ℕ
memory_in card memory shelf used (Ok l) = memory_by card memory used (owner_of shelf (unit_of l)) l
memory_in card memory shelf used (Err wrong) = memory

-- there is a place for a unit that it declares, and a `unit` line could give its limits
abbrev pub Places : Shelf → Reading → Type 0
Places shelf (Ok (Bus bus)) = Unit {0}
Places shelf (Ok (L-as-Unit settings limits)) = (shelf.count < 32) × Given limits
Places shelf (Ok (Vp u v target class outvpi)) = Unit {0}
Places shelf (Ok (Drop u v)) = Unit {0}
Places shelf (Ok (Page u v top)) = Unit {0}
Places shelf (Ok (Vc u v w target class outvpi outvci)) = Unit {0}
Places shelf (Ok (Mc u session)) = Unit {0}
Places shelf (Err wrong) = Unit {0}
