-- Which frames are damaged, by their bytes. Assumes nothing.
use Rattle.std.specs.Prelude.{ℕ, ◌≡◌, ◌↔◌, List, length}
use Rattle.bus.specs.Frame.{heard}
use Rattle.line.specs.declared.Line.{Line}
use Rattle.answer.specs.declared.Hearing.TheVariants as hearing
use Rattle.paper.specs.Cells.{Damaged}
use Rattle.document.specs.Shelf.{Unit as D-as-Unit}
use Rattle.document.specs.Hearing.{hearing_of}

-- "Bad parity, bad check, unicast above 31 or broadcast address not 0 is `damaged`", and of kind 3 "another class, or an address above 31", and of a loopback cell "a tandem byte above
-- 31": at every unit, and nothing else is
abbrev pub DamagedIff : Type 0
DamagedIff = (lines : List Line) (u : D-as-Unit) (f : List ℕ) → length f ≡ 57 → (hearing_of lines u (heard f) ≡ hearing.Damaged) ↔ Damaged f
