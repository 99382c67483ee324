-- Which cell leaves an outlet, and its bytes: 01's Take, in its own numbers. Assumes nothing.
use Rattle.std.specs.Prelude.{ℕ, ◌+◌, ◌*◌, ◌/◌, ◌%◌, ◌<◌, ◌≡◌, List, ◌∷◌, ◌++◌, length, take, drop, None, Option, Some}
use Rattle.header.specs.declared.Link.{Link}
use Rattle.header.specs.declared.Link.TheVariants.{Uni, Nni}
use Rattle.outlet.specs.declared.Outlet.{Outlet}
use Rattle.shelf.specs.declared.Unit as U
use Rattle.paper.specs.Cells.{four, four_bytes, vpi, vci, pt, clp, header, HeaderCheck}
use Rattle.paper.specs.Outlets.{queues, held, MarksCell}

-- "Take gives the oldest cell (mode `one`) or the oldest cell of the lowest class held (mode `four`), or `empty`": of the queues that this mode has, the one that it leaves
abbrev pub Leaves : Outlet → Option ℕ → Type 0
Leaves outlet None = (q : ℕ) → q < length (queues outlet.limits) → held outlet q ≡ 0
Leaves outlet (Some q) = (q < length (queues outlet.limits)) × (0 < held outlet q) × ((p : ℕ) → p < q → held outlet p ≡ 0)

-- "the middle PT bit is set": the upper and the lowest stay
abbrev pub marked : ℕ → ℕ
marked p = p / 4 * 4 + 2 + p % 2

-- "A UNI unit writes GFC 0.": the header on the link of a cell with this header on the bus, and this PT; an UNI has eight bits for the VPI
abbrev pub on_link : Link → ℕ → ℕ → ℕ
on_link Uni h p = header (vpi Nni h % 256) (vci h) p (clp h)
on_link Nni h p = header (vpi Nni h) (vci h) p (clp h)

-- "If mark is 1 and, counted before it leaves, CBR or VBR is at its limit or above (mode `one`: the queue at the VBR limit or above), the middle PT bit is set. A UNI unit writes GFC 0. The
-- check is new."; 02: "Now only cells whose top PT bit is 0 are marked": the PT is that of the cell as it is held
pub record HandedOut (u : U.Unit) (cell bytes : List ℕ) : Type 0 where
  pub p : ℕ
  pub mark : MarksCell u.outlet.limits (held u.outlet) (pt (four cell 4)) → p ≡ marked (pt (four cell 4))
  pub no_mark : (MarksCell u.outlet.limits (held u.outlet) (pt (four cell 4)) → ⊥) → p ≡ pt (four cell 4)
  pub check : ℕ
  pub right : HeaderCheck (on_link u.settings.link (four cell 4) p) check
  pub are : bytes ≡ four_bytes (on_link u.settings.link (four cell 4) p) ++ (check ∷ take 48 (drop 8 cell))
