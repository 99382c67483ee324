-- 01's Take. Assumes nothing.
use Rattle.std.specs.Prelude.{ℕ, Bool, ◌&&◌, ◌||◌, List, [], ◌∷◌, ◌++◌, leb, None, Option, Some}
use Rattle.octets.specs.Octets.{be4}
use Rattle.header.specs.Check.{check}
use Rattle.outlet.specs.declared.Mode.{Mode}
use Rattle.outlet.specs.declared.Mode.TheVariants.{One, Four}
use Rattle.outlet.specs.Hearing.{limit}
use Rattle.outlet.specs.Taking.{lowest, queues, outgoing}
use Rattle.answer.specs.declared.Answer as A
use Rattle.answer.specs.declared.Answer.TheVariants.{Taken, Empty}
use Rattle.paper.specs.Counters.{taken}
use Rattle.document.specs.Counters.{entries}
use Rattle.document.specs.Shelf.{Cell, Unit, Shelf, number_of, queue_at, held, with_queue, unit_at, after}

-- "A line cell is 53 bytes: header 4, check 1, payload 48."
unfoldable pub line_cell : ℕ → List ℕ → List ℕ
line_cell header payload = be4 header ++ (check header ∷ payload)

-- "the oldest cell (mode `one`) or the oldest cell of the lowest class held (mode `four`), or `empty`": the queue that it leaves
abbrev pub leaving : Unit → Option ℕ
leaving u = lowest (held u) 0 (queues u.limits.mode)

-- "If mark is 1 and, counted before it leaves, CBR or VBR is at its limit or above (mode `one`: the queue at the VBR limit or above)"
abbrev pub at_limit : Unit → ℕ → Bool
at_limit u q = leb (limit u.limits q) (held u q)

unfoldable pub congested : Mode → Unit → Bool
congested One u = at_limit u 0
congested Four u = at_limit u 1 || at_limit u 2

abbrev pub marks : Unit → Bool
marks u = u.limits.mark && congested u.limits.mode u

-- ".. the middle PT bit is set. A UNI unit writes GFC 0. The check is new."; 02: "Now only cells whose top PT bit is 0 are marked", which `outgoing` asks of the cell's own header
abbrev pub handed : Unit → Cell → List ℕ
handed u c = line_cell (outgoing u.settings.link (marks u) c.header) c.payload

-- what is left when a take has been at a unit: what it says, the shelf with its history, the bytes
pub record Took : Type 0 where
  pub answer : A.Answer
  pub shelf : Shelf
  pub bytes : List ℕ

-- "`empty` with the buffer unchanged"
abbrev pub nothing : Shelf → List ℕ → Took
nothing shelf buffer = record { answer = Empty; shelf = shelf; bytes = buffer }

unfoldable pub takes_from : List Cell → Shelf → ℕ → ℕ → List ℕ → Took
takes_from [] shelf place q buffer = nothing shelf buffer
takes_from (c ∷ rest) shelf place q buffer =
    let u = unit_at shelf place in
    record { answer = Taken; shelf = after shelf place (with_queue u q rest) (entries (number_of u) (taken ∷ [])); bytes = handed u c }

unfoldable pub takes_by : Option ℕ → Shelf → ℕ → List ℕ → Took
takes_by (Some q) shelf place buffer = takes_from (queue_at (unit_at shelf place) q) shelf place q buffer
takes_by None shelf place buffer = nothing shelf buffer

abbrev pub takes : Shelf → ℕ → List ℕ → Took
takes shelf place buffer = takes_by (leaving (unit_at shelf place)) shelf place buffer
