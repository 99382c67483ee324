-- What the header of a cell that leaves keeps: VPI, VCI, CLP, and the PT but for the mark. Assumes nothing.
use mathlib.Core.Path.{◌≡◌, refl, ap, ◌∙◌}
use mathlib.Core.Bool.{Bool, true, false}
use mathlib.Core.Logic.{◌↔◌}
use Prim.Native.Nat.{ℕ, ◌+◌, ◌*◌, ◌/◌, ◌%◌, ◌^◌, ◌<◌}
use native.Mathlib.Nat.{zero-mul, mod-lt, mod-eq_of_lt}
use native.Mathlib.Omega.{arith}
use Rattle.header.specs.Fields.{paths_of, fields, top_of, word}
use Rattle.header.proofs.Laws.{Fits, top_lt, fields_word}
use Rattle.header.specs.declared.Link.{Link}
use Rattle.header.specs.declared.Link.TheVariants.{Uni, Nni}
use Rattle.header.specs.declared.Header.{Header}
use Rattle.outlet.specs.Hearing.{bus_vpi, TooWide}
use Rattle.outlet.specs.Taking.{marked, marks_cell, outgoing}
use Rattle.outlet.proofs.Truth.{eq_iff, and_iff}

-- a marked PT: its middle bit is set, the others stay; an unmarked one is as it was
pub marked_middle : (pt : ℕ) → marked true pt / 2 % 2 ≡ 1
unfolding marked
marked_middle pt = omega arith

pub marked_top : (mark : Bool) (pt : ℕ) → marked mark pt / 4 ≡ pt / 4
unfolding marked
marked_top true pt = omega arith
marked_top false pt = refl

pub marked_low : (mark : Bool) (pt : ℕ) → marked mark pt % 2 ≡ pt % 2
unfolding marked
marked_low true pt = omega arith
marked_low false pt = refl

pub unmarked : (pt : ℕ) → marked false pt ≡ pt
unfolding marked
unmarked pt = refl

marked_lt : (mark : Bool) (pt : ℕ) → pt < 8 → marked mark pt < 8
unfolding marked
marked_lt true pt h = omega arith
marked_lt false pt h = h

-- a cell is marked where its outlet marks and the top bit of its own PT is 0
pub marks_cell_iff : {P : Type 0} (mark : Bool) (header : ℕ) → (mark ≡ true) ↔ P → (marks_cell mark header ≡ true) ↔ (P × ((fields Nni header).pt / 4 ≡ 0))
unfolding fields
marks_cell_iff mark header iff =
    and_iff iff (λ e. let t = (eq_iff (header / 2 % 8 / 4 % 2) 0).0 e in omega arith, λ z. (eq_iff (header / 2 % 8 / 4 % 2) 0).1 (omega arith))

-- a VPI is written by its low bits
low_vpi : (link : Link) (v : ℕ) → top_of link 0 v ≡ top_of link 0 (v % paths_of link)
unfolding top_of
low_vpi Uni v = omega arith
low_vpi Nni v = omega arith

low_lt : (link : Link) (v : ℕ) → v % paths_of link < paths_of link
low_lt Uni v = mod-lt v (omega arith)
low_lt Nni v = mod-lt v (omega arith)

-- the fields of a bus header as the link has room for them, with the mark
abbrev pub leaves_as : Link → Bool → Header → Header
leaves_as link mark h = record { gfc = 0; vpi = h.vpi % paths_of link; vci = h.vci; pt = marked mark h.pt; clp = h.clp }

room : (link : Link) (mark : Bool) (header : ℕ) → Fits link (leaves_as link mark (fields Nni header))
unfolding fields
room link mark header =
    record {
      gfc = rw zero-mul (omega arith);
      vpi = low_lt link (bus_vpi header);
      vci = mod-lt (header / 2 ^ 4) (omega arith);
      pt = marked_lt mark (header / 2 % 8) (mod-lt (header / 2) (omega arith));
      clp = mod-lt header (omega arith);
    }

-- the header that leaves, read as its link reads it
pub outgoing_fields : (link : Link) (mark : Bool) (header : ℕ) → fields link (outgoing link mark header) ≡ leaves_as link (marks_cell mark header) (fields Nni header)
unfolding outgoing word
outgoing_fields link mark header =
    let h = fields Nni header in
    let m = marks_cell mark header in
    let e : outgoing link mark header ≡ word link (leaves_as link m h) =
    ap (λ t. t * 2 ^ 20 + h.vci * 2 ^ 4 + marked m h.pt % 2 ^ 3 * 2 + h.clp % 2) (low_vpi link h.vpi) in
    ap (fields link) e ∙ fields_word link (leaves_as link m h) (room link m header)

-- so a VPI that the link has room for is kept
pub vpi_kept : (link : Link) (mark : Bool) (header : ℕ) → (TooWide link header → ⊥) → (fields link (outgoing link mark header)).vpi ≡ bus_vpi header
unfolding fields
vpi_kept link mark header n = ap (λ (h : Header). h.vpi) (outgoing_fields link mark header) ∙ go link n
  where
    go : (link : Link) → (TooWide link header → ⊥) → bus_vpi header % paths_of link ≡ bus_vpi header
    go Uni n = mod-eq_of_lt (narrow (λ h. n (refl, h)))
      where
        narrow : (255 < bus_vpi header → ⊥) → bus_vpi header < 2 ^ 8
        narrow n = omega arith
    go Nni n = mod-eq_of_lt (omega arith)

-- it is a number of four bytes
pub outgoing_lt : (link : Link) (mark : Bool) (header : ℕ) → outgoing link mark header < 2 ^ 32
unfolding outgoing word fields
outgoing_lt link mark header = let t = top_lt link 0 (bus_vpi header) in omega arith
