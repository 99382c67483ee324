-- The parts of a verdict, each of what stands where, as a value. Assumes nothing.
use Rattle.std.specs.Prelude.{ℕ, ◌+◌, ◌*◌, Bool, true, false, cond, leb, None, Option, Some, Result, Err, Ok}
use Rattle.bus.specs.declared.Target.{Target}
use Rattle.bus.specs.declared.Target.TheVariants.{Unit as T-as-Unit, Session, All}
use Rattle.card.specs.Cards.{holds}
use Rattle.card.specs.declared.Card.{Card}
use Rattle.card.specs.declared.Ask.{Ask}
use Rattle.lookup.specs.Record.{size}
use Rattle.lookup.specs.declared.Record.TheVariants.{Empty, Drop, Route, Page}
use Rattle.judge.specs.declared.Paged.{Paged}
use Rattle.judge.specs.declared.Fault.{Fault}
use Rattle.judge.specs.declared.Fault.TheVariants.{Form, Order, Twice, Wide, Room}
use Rattle.lookup.specs.declared.Record as R

-- what judging a line comes to
abbrev pub Verdict : Type 0
Verdict = Result (Unit {0}) Fault

abbrev pub fine : Verdict
fine = Ok tt

-- Wide, "narrow card only": what the line asks of the card
abbrev pub asked : Card → Ask → Verdict → Verdict
asked card ask rest = cond (holds card ask) rest (Err Wide)

-- Room, "records so far exceed the memory or 262,144 bytes": with n records more
abbrev pub room_for : ℕ → ℕ → ℕ → Verdict
room_for room used n = cond (leb (used + size * n) room) fine (Err Room)

-- "target unit not below the bus number"
abbrev pub off_bus : ℕ → Target → Bool
off_bus bus (T-as-Unit unit) = leb bus unit
off_bus bus (Session session) = false
off_bus bus All = false

-- whether a place is taken already
abbrev pub taken : Option R.Record → Bool
taken (Some Empty) = false
taken (Some Drop) = true
taken (Some (Route header vpi vci)) = true
taken (Some (Page top place)) = true
taken None = true

-- the page that a record is, where it is one
abbrev pub page_in : Option R.Record → Option Paged
page_in (Some Empty) = None
page_in (Some Drop) = None
page_in (Some (Route header outvpi outvci)) = None
page_in (Some (Page top place)) = Some (record { top = top; place = place })
page_in None = None

-- 01's number of a verdict
abbrev pub number_of : Verdict → ℕ
number_of (Ok x) = 0
number_of (Err (Form wrong)) = 2
number_of (Err (Order field)) = 3
number_of (Err (Twice field)) = 4
number_of (Err Wide) = 5
number_of (Err Room) = 6

-- whether a line is fine
abbrev pub is_fine : Verdict → Bool
is_fine (Ok x) = true
is_fine (Err fault) = false
