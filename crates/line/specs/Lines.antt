-- What each line says: "Text, one record a line, fields parted by one tab, each line ended by a newline." Assumes nothing.
use Rattle.std.specs.Prelude.{ℕ, Bool, cond, List, length, eqb, Option, Some, None, Result, Ok, Err}
use Rattle.line.specs.declared.Line.{Line}
use Rattle.line.specs.declared.Line.TheVariants.{Bus, Unit as U·, Vp, Drop, Page, Vc, Mc}
use Rattle.line.specs.declared.Wrong.{Wrong}
use Rattle.line.specs.declared.Wrong.TheVariants.{Newline, Word as Unspoken, Fields, Range}
use Rattle.line.specs.declared.Kind.{Kind}
use Rattle.line.specs.declared.Kind.TheVariants.{Bus as K-as-Bus, Unit as K-as-Unit, Vp as K-as-Vp, Drop as K-as-Drop, Page as K-as-Page, Vc as K-as-Vc, Mc as K-as-Mc}
use Rattle.line.specs.declared.Key.{Key}
use Rattle.line.specs.declared.Way.{Way}
use Rattle.line.specs.Words.{w_bus, w_unit, w_vp, w_drop, w_page, w_vc, w_mc}
use Rattle.text.specs.Text.{fields_of, field_of, same}
use Rattle.line.specs.Ranged.{◌>>=◌, ranged, aim_of, number_in}
use Rattle.line.specs.Units.{settings_of, limits_of}

-- what reading a line comes to
abbrev pub Reading : Type 0
Reading = Result Line Wrong

-- Each kind of line; 02, W5: "leftmost fault first". "`bus` 16 or 32."
unfoldable pub bus_line : List (List ℕ) → Reading
bus_line fs = do
  n ← number_in fs 2 16 32
  cond (eqb n 16) (Ok (Bus n)) (cond (eqb n 32) (Ok (Bus n)) (Err (Range 2)))

-- the line of its settings and its limits
unfoldable pub unit_line : List (List ℕ) → Reading
unit_line fs = do
  settings ← settings_of fs
  limits ← limits_of fs
  Ok (U· settings limits)

-- "Classes are 0 to 3, units 0 to 31, VPIs 0 to 4,095, VCIs 0 to 65,535."
-- The unit and the VPI, which four kinds of line begin with
unfoldable pub key_of : List (List ℕ) → Result Key Wrong
key_of fs = do
  unit ← number_in fs 2 0 31
  vpi ← number_in fs 3 0 4095
  Ok (record { unit = unit; vpi = vpi })

-- target, class and outgoing VPI, as the texts x, y and z of the fields a, b and c say them
abbrev pub way_said : List ℕ → List ℕ → List ℕ → ℕ → ℕ → ℕ → Result Way Wrong
way_said x y z a b c = do
  target ← aim_of a x
  class ← ranged b 0 3 y
  outvpi ← ranged c 0 4095 z
  Ok (record { target = target; class = class; outvpi = outvpi })

-- in the fields a, b and c
unfoldable pub way_of : List (List ℕ) → ℕ → ℕ → ℕ → Result Way Wrong
way_of fs a b c = way_said (field_of a fs) (field_of b fs) (field_of c fs) a b c

-- "`vp` unit, VPI, target, class, outgoing VPI."
unfoldable pub vp_line : List (List ℕ) → Reading
vp_line fs = do
  key ← key_of fs
  way ← way_of fs 4 5 6
  Ok (Vp key.unit key.vpi way.target way.class way.outvpi)

-- "`drop` unit, VPI."
unfoldable pub drop_line : List (List ℕ) → Reading
drop_line fs = do
  key ← key_of fs
  Ok (Drop key.unit key.vpi)

-- "`page` unit, VPI, top VCI."
unfoldable pub page_line : List (List ℕ) → Reading
page_line fs = do
  key ← key_of fs
  top ← number_in fs 4 0 65535
  Ok (Page key.unit key.vpi top)

-- "`vc` unit, VPI, VCI, target, class, outgoing VPI, outgoing VCI.": what comes after the VPI, and the whole
unfoldable pub vc_on : List (List ℕ) → Key → Reading
vc_on fs key = do
  vci ← number_in fs 4 0 65535
  way ← way_of fs 5 6 7
  outvci ← number_in fs 8 0 65535
  Ok (Vc key.unit key.vpi vci way.target way.class way.outvpi outvci)

unfoldable pub vc_line : List (List ℕ) → Reading
vc_line fs = key_of fs >>= vc_on fs

-- "`mc` unit, session: the unit hears that session."
unfoldable pub mc_line : List (List ℕ) → Reading
mc_line fs = do
  unit ← number_in fs 2 0 31
  session ← number_in fs 3 0 255
  Ok (Mc unit session)

-- the line of each kind, and how many fields it has
unfoldable pub line_of : Kind → List (List ℕ) → Reading
line_of K-as-Bus fs = bus_line fs
line_of K-as-Unit fs = unit_line fs
line_of K-as-Vp fs = vp_line fs
line_of K-as-Drop fs = drop_line fs
line_of K-as-Page fs = page_line fs
line_of K-as-Vc fs = vc_line fs
line_of K-as-Mc fs = mc_line fs

abbrev pub count_of : Kind → ℕ
count_of K-as-Bus = 2
count_of K-as-Unit = 10
count_of K-as-Vp = 6
count_of K-as-Drop = 3
count_of K-as-Page = 4
count_of K-as-Vc = 8
count_of K-as-Mc = 3

-- the kind that a line's word names
unfoldable pub word_of : List ℕ → Option Kind
word_of w =
    cond (same w w_bus) (Some K-as-Bus)
    (cond (same w w_unit) (Some K-as-Unit)
    (cond (same w w_vp) (Some K-as-Vp)
    (cond (same w w_drop) (Some K-as-Drop)
    (cond (same w w_page) (Some K-as-Page)
    (cond (same w w_vc) (Some K-as-Vc)
    (cond (same w w_mc) (Some K-as-Mc) None))))))

-- 02, W5: "tried as Newline, Word, Fields, then 23 or 24 by field"
unfoldable pub spoken : Option Kind → List (List ℕ) → Reading
spoken None fs = Err Unspoken
spoken (Some kind) fs = cond (eqb (length fs) (count_of kind)) (line_of kind fs) (Err Fields)

unfoldable pub reading_of : List ℕ → Bool → Reading
reading_of text ended = cond ended (spoken (word_of (field_of 1 (fields_of text))) (fields_of text)) (Err Newline)
