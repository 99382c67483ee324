-- `show unit` as bytes, up to its newline: one unit, its fields by name in the order of the columns (docs/CONSOLE.md). Assumes nothing.
use Rattle.std.specs.Prelude.{ℕ, zero, suc, ◌+◌, ◌*◌, cond, List, [], ◌++◌, eqb, None, Option, Some}
use Rattle.octets.specs.Octets.{part}
use Rattle.text.specs.Decimals.{number_field}
use Rattle.shelf.specs.Sessions.{hears}
use Rattle.shelf.specs.Shelves.{declared, find_in}
use Rattle.state.specs.Bytes.{col, place_by, shelf_in}
use Rattle.named.specs.Names.{t_show_unit, t_link, t_uni, t_nni, t_top, t_priority, t_mode, t_one, t_four, t_cbrlength, t_cbrlimit, t_vbrlimit, t_mark, t_place, t_inlethead, t_inletcount, t_queueheads, t_queuecounts, t_controlin, t_loopbackin, t_controlhead, t_controlcount, t_loopbackout, t_sessions, t_no_unit}

-- a column by its name; f is a unit's byte in each column
abbrev pub column : List ℕ → ℕ → List ℕ
column name byte = name ++ number_field byte

-- "LINK is `uni` for byte 0, `nni` for byte 1; MODE is `one` for byte 0, `four` for byte 1; any other byte there is written as its number"
unfoldable pub link_text : ℕ → List ℕ
link_text byte = cond (eqb byte 0) (t_link ++ t_uni) (cond (eqb byte 1) (t_link ++ t_nni) (column t_link byte))

unfoldable pub mode_text : ℕ → List ℕ
mode_text byte = cond (eqb byte 0) (t_mode ++ t_one) (cond (eqb byte 1) (t_mode ++ t_four) (column t_mode byte))

abbrev pub settings_text : (ℕ → ℕ) → List ℕ
settings_text f = ((column t_show_unit (f 0) ++ link_text (f 1)) ++ column t_top (f 2 * 256 + f 3)) ++ column t_priority (f 4)

abbrev pub cbr_text : (ℕ → ℕ) → List ℕ
cbr_text f = column t_cbrlength (f 6) ++ column t_cbrlimit (f 7)

abbrev pub limits_text : (ℕ → ℕ) → List ℕ
limits_text f = ((mode_text (f 5) ++ cbr_text f) ++ column t_vbrlimit (f 8)) ++ column t_mark (f 9)

abbrev pub inlet_text : (ℕ → ℕ) → List ℕ
inlet_text f = (column t_place (place_by f) ++ column t_inlethead (f 14)) ++ column t_inletcount (f 15)

-- four columns under one name
abbrev pub four_text : List ℕ → (ℕ → ℕ) → ℕ → List ℕ
four_text name f c = ((column name (f c) ++ number_field (f (c + 1))) ++ number_field (f (c + 2))) ++ number_field (f (c + 3))

-- "controlin N loopbackin N controlhead N controlcount N loopbackout N"
abbrev pub ins_text : (ℕ → ℕ) → List ℕ
ins_text f = column t_controlin (f 26) ++ column t_loopbackin (f 27)

abbrev pub outs_text : (ℕ → ℕ) → List ℕ
outs_text f = (column t_controlhead (f 28) ++ column t_controlcount (f 29)) ++ column t_loopbackout (f 30)

-- "Each S is a session that the unit hears, in rising order": those below a number
unfoldable pub session_text : List ℕ → ℕ → List ℕ
session_text sessions session = cond (hears sessions session) (number_field session) []

unfoldable pub heard_below : List ℕ → ℕ → List ℕ
heard_below sessions zero = []
heard_below sessions (suc n) = heard_below sessions n ++ session_text sessions n

abbrev pub sessions_text : List ℕ → List ℕ
sessions_text sessions = t_sessions ++ heard_below sessions 256

-- the unit in a place
abbrev pub front_text : (ℕ → ℕ) → List ℕ
front_text f = settings_text f ++ limits_text f

abbrev pub rings_text : (ℕ → ℕ) → List ℕ
rings_text f = (inlet_text f ++ four_text t_queueheads f 16) ++ four_text t_queuecounts f 20

abbrev pub cells_text : (ℕ → ℕ) → List ℕ
cells_text f = (rings_text f ++ ins_text f) ++ outs_text f

unfoldable pub place_text : List ℕ → ℕ → List ℕ
place_text b i = (front_text (col b i) ++ cells_text (col b i)) ++ sessions_text (part b (1024 + 32 * i) 32)

-- "The unit is the first place with the byte UNIT in column 0 among the declared places .. Where there is none, the answer is `show unit refused 9`"
abbrev pub found_text : List ℕ → Option ℕ → List ℕ
found_text b (Some i) = place_text b i
found_text b None = t_no_unit

unfoldable pub unit_text : List ℕ → ℕ → List ℕ
unit_text b number = found_text b (find_in (declared (shelf_in b)) number)
