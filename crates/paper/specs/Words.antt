-- 01's "The route table": the words of each line, byte by byte, and the range of each number. Assumes nothing.
use Rattle.std.specs.Prelude.{ℕ, zero, suc, ◌+◌, ◌-◌, ◌*◌, ◌/◌, ◌%◌, ◌^◌, ◌≤◌, ◌<◌, ◌≡◌, Bool, true, false, cond, List, [], ◌∷◌, ◌++◌, ◌⊎◌, ltb, length, get_or}
use Rattle.header.specs.declared.Link.{Link}
use Rattle.header.specs.declared.Link.TheVariants.{Uni, Nni}
use Rattle.bus.specs.declared.Target.{Target}
use Rattle.bus.specs.declared.Target.TheVariants as target
use Rattle.outlet.specs.declared.Mode.{Mode}
use Rattle.outlet.specs.declared.Mode.TheVariants.{One, Four}
use Rattle.paper.specs.Outlets.{Given}
use Rattle.line.specs.declared.Line.{Line}
use Rattle.line.specs.declared.Line.TheVariants.{Bus, Unit as L-as-Unit, Vp, Drop, Page, Vc, Mc}

-- A. numbers
-- "Numbers are decimal without needless zeros.": a number below 10 is one digit, 0 is byte 48; any other is the number of its tens, and then its last digit. `most` says how often tens are
-- taken at most, which for n is n times
unfoldable pub numeral_to : ℕ → ℕ → List ℕ
numeral_to zero n = (48 + n) ∷ []
numeral_to (suc most) n = let tens = numeral_to most (n / 10) ++ ((48 + n % 10) ∷ []) in cond (ltb n 10) ((48 + n) ∷ []) tens

unfoldable pub numeral : ℕ → List ℕ
numeral n = numeral_to n n

-- what digits say: each so many times 10 to its place, counted from the last
unfoldable pub worth : List ℕ → ℕ
worth [] = 0
worth (b ∷ text) = (b - 48) * 10 ^ length text + worth text

-- the same as a fact: at least one byte, each a digit 0 to 9, no 0 in front of another digit, and they say the number
pub record Decimal (n : ℕ) (text : List ℕ) : Type 0 where
  pub some : 0 < length text
  pub digits : (i : ℕ) → i < length text → (48 ≤ get_or text i 0) × (get_or text i 0 ≤ 57)
  pub no_zero : get_or text 0 0 ≡ 48 → length text ≡ 1
  pub says : worth text ≡ n

-- B. words
-- `uni` or `nni`
abbrev pub link_word : Link → List ℕ
link_word Uni = 117 ∷ 110 ∷ 105 ∷ []
link_word Nni = 110 ∷ 110 ∷ 105 ∷ []

-- `one` or `four`
abbrev pub mode_word : Mode → List ℕ
mode_word One = 111 ∷ 110 ∷ 101 ∷ []
mode_word Four = 102 ∷ 111 ∷ 117 ∷ 114 ∷ []

-- "mark 0 or 1"
abbrev pub mark_word : Bool → List ℕ
mark_word false = 48 ∷ []
mark_word true = 49 ∷ []

-- "Target is `u` and a unit, `m` and a session 0 to 255, or `b`."
abbrev pub target_word : Target → List ℕ
target_word (target.Unit unit) = 117 ∷ numeral unit
target_word (target.Session session) = 109 ∷ numeral session
target_word target.All = 98 ∷ []

-- the fields of a line, its word first
unfoldable pub fields_of : Line → List (List ℕ)
-- "`bus` 16 or 32."
fields_of (Bus units) = (98 ∷ 117 ∷ 115 ∷ []) ∷ numeral units ∷ []
-- "`unit` number, `uni` or `nni`, top VPI, priority 1 to 3, mode, CBR length, CBR limit, VBR limit, mark 0 or 1."
fields_of (L-as-Unit settings limits) =
    (117 ∷ 110 ∷ 105 ∷ 116 ∷ []) ∷ numeral settings.number ∷ link_word settings.link ∷ numeral settings.top ∷ numeral settings.priority
    ∷ mode_word limits.mode ∷ numeral limits.cbrlength ∷ numeral limits.cbrlimit ∷ numeral limits.vbrlimit ∷ mark_word limits.mark ∷ []
-- "`vp` unit, VPI, target, class, outgoing VPI."
fields_of (Vp unit vpi target class outvpi) = (118 ∷ 112 ∷ []) ∷ numeral unit ∷ numeral vpi ∷ target_word target ∷ numeral class ∷ numeral outvpi ∷ []
-- "`drop` unit, VPI."
fields_of (Drop unit vpi) = (100 ∷ 114 ∷ 111 ∷ 112 ∷ []) ∷ numeral unit ∷ numeral vpi ∷ []
-- "`page` unit, VPI, top VCI."
fields_of (Page unit vpi top) = (112 ∷ 97 ∷ 103 ∷ 101 ∷ []) ∷ numeral unit ∷ numeral vpi ∷ numeral top ∷ []
-- "`vc` unit, VPI, VCI, target, class, outgoing VPI, outgoing VCI."
fields_of (Vc unit vpi vci target class outvpi outvci) =
    (118 ∷ 99 ∷ []) ∷ numeral unit ∷ numeral vpi ∷ numeral vci ∷ target_word target ∷ numeral class ∷ numeral outvpi ∷ numeral outvci ∷ []
-- "`mc` unit, session"
fields_of (Mc unit session) = (109 ∷ 99 ∷ []) ∷ numeral unit ∷ numeral session ∷ []

-- "fields parted by one tab": a tab is byte 9
unfoldable pub parted : List (List ℕ) → List ℕ
parted [] = []
parted (f ∷ []) = f
parted (f ∷ g ∷ fs) = f ++ (9 ∷ parted (g ∷ fs))

unfoldable pub words_of : Line → List ℕ
words_of l = parted (fields_of l)

-- "Text, one record a line, .. each line ended by a newline": a newline is byte 10. A list of lines has the latest first
unfoldable pub text_of : List Line → List ℕ
text_of [] = []
text_of (l ∷ told) = text_of told ++ (words_of l ++ (10 ∷ []))

-- C. ranges
-- "Top VPI is at most 255 for uni, 4,095 for nni."
abbrev pub TopIn : Link → ℕ → Type 0
TopIn Uni top = top ≤ 255
TopIn Nni top = top ≤ 4095

-- "Target is `u` and a unit, `m` and a session 0 to 255, or `b`."
abbrev pub TargetIn : Target → Type 0
TargetIn (target.Unit unit) = unit ≤ 31
TargetIn (target.Session session) = session ≤ 255
TargetIn target.All = Unit {0}

-- "Classes are 0 to 3, units 0 to 31, VPIs 0 to 4,095, VCIs 0 to 65,535.": every number of a line is in its range
abbrev pub InRange : Line → Type 0
InRange (Bus units) = (units ≡ 16) ⊎ (units ≡ 32)
InRange (L-as-Unit settings limits) =
    (settings.number ≤ 31) × TopIn settings.link settings.top × (1 ≤ settings.priority) × (settings.priority ≤ 3)
    × Given limits
InRange (Vp unit vpi target class outvpi) = (unit ≤ 31) × (vpi ≤ 4095) × TargetIn target × (class ≤ 3) × (outvpi ≤ 4095)
InRange (Drop unit vpi) = (unit ≤ 31) × (vpi ≤ 4095)
InRange (Page unit vpi top) = (unit ≤ 31) × (vpi ≤ 4095) × (top ≤ 65535)
InRange (Vc unit vpi vci target class outvpi outvci) =
    (unit ≤ 31) × (vpi ≤ 4095) × (vci ≤ 65535) × TargetIn target × (class ≤ 3) × (outvpi ≤ 4095) × (outvci ≤ 65535)
InRange (Mc unit session) = (unit ≤ 31) × (session ≤ 255)

abbrev pub AllInRange : List Line → Type 0
AllInRange [] = Unit {0}
AllInRange (l ∷ told) = InRange l × AllInRange told
