-- What stands in the shelf and in a memory that a line is judged by. Assumes nothing.
use Rattle.std.specs.Prelude.{ℕ, ◌+◌, ◌*◌, Bool, cond, None, Option, Some, is_some, Err}
use Rattle.bus.specs.declared.Target.{Target}
use Rattle.card.specs.declared.Card.{Card}
use Rattle.card.specs.declared.Ask.TheVariants.{Bus as A-as-Bus}
use Rattle.lookup.specs.Record.{size}
use Rattle.shelf.specs.Sessions.{hears}
use Rattle.shelf.specs.Shelf.{Shelf}
use Rattle.line.specs.declared.Line.{Line}
use Rattle.line.specs.declared.Line.TheVariants.{Bus, Unit as L-as-Unit, Vp, Drop, Page, Vc, Mc}
use Rattle.judge.specs.declared.Owner.{Owner}
use Rattle.judge.specs.declared.Paged.{Paged}
use Rattle.judge.specs.declared.Fault.TheVariants.{Order}
use Rattle.judge.specs.Verdicts.{Verdict, fine, asked, page_in}
use Rattle.judge.specs.Owners.{unit_of, owner_of, owned_by, sessions_at, spot}
use Rattle.judge.specs.Judge.{judge_bus, judge_unit, judge_vp, judge_drop, judge_page, judge_vc, judge_mc}
use Rattle.lookup.specs.declared.Record as R

-- what stands in a page's record for a VCI; nothing where there is no page
abbrev pub second : (ℕ → Option R.Record) → Option Paged → ℕ → Option R.Record
second stands (Some page) vci = stands (page.place + size * vci)
second stands None vci = None

-- a `vc` line at a declared unit
abbrev pub judge_vc_at : Card → ℕ → (ℕ → Option R.Record) → Owner → ℕ → ℕ → Target → ℕ → Verdict
judge_vc_at card bus stands o v w target outvpi = judge_vc card bus o.top v (stands (spot o v)) w (second stands (page_in (stands (spot o v))) w) target outvpi

-- the verdict on a line that names this unit
unfoldable pub judge_by : Card → ℕ → Bool → (ℕ → Option R.Record) → Shelf → ℕ → Option Owner → Line → Verdict
judge_by card room first stands shelf used o (Bus bus) = judge_bus card first bus
judge_by card room first stands shelf used o (L-as-Unit settings limits) =
    cond first (Err (Order 1)) (judge_unit card shelf.bus (is_some o) room used settings.number settings.link settings.top)
judge_by card room first stands shelf used o (Vp u v target class outvpi) =
    cond first (Err (Order 1)) (owned_by o λ o. judge_vp card shelf.bus o.top v (stands (spot o v)) target outvpi)
judge_by card room first stands shelf used o (Drop u v) = cond first (Err (Order 1)) (owned_by o λ o. judge_drop o.top v (stands (spot o v)))
judge_by card room first stands shelf used o (Page u v top) = cond first (Err (Order 1)) (owned_by o λ o. judge_page room used o.top v (stands (spot o v)) top)
judge_by card room first stands shelf used o (Vc u v w target class outvpi outvci) =
    cond first (Err (Order 1)) (owned_by o λ o. judge_vc_at card shelf.bus stands o v w target outvpi)
judge_by card room first stands shelf used o (Mc u session) = cond first (Err (Order 1)) (owned_by o λ o. judge_mc (hears (sessions_at shelf o) session))

abbrev pub judge_at : Card → ℕ → Bool → (ℕ → Option R.Record) → Shelf → ℕ → Line → Verdict
judge_at card room first stands shelf used l = judge_by card room first stands shelf used (owner_of shelf (unit_of l)) l

-- the same of the first line
unfoldable pub judge_first : Card → Line → Verdict
judge_first card (Bus bus) = asked card (A-as-Bus bus) fine
judge_first card (L-as-Unit settings limits) = Err (Order 1)
judge_first card (Vp u v target class outvpi) = Err (Order 1)
judge_first card (Drop u v) = Err (Order 1)
judge_first card (Page u v top) = Err (Order 1)
judge_first card (Vc u v w target class outvpi outvci) = Err (Order 1)
judge_first card (Mc u session) = Err (Order 1)
