-- What a line says of units, VPIs and VCIs, in the words of 01's route table. The line comes last. Assumes nothing.
use Rattle.std.specs.Prelude.{ℕ, ◌+◌, ◌<◌, ◌≡◌, ◌⊎◌, List, [], ◌∷◌}
use Rattle.header.specs.declared.Link.TheVariants.{Nni}
use Rattle.bus.specs.declared.Target.{Target}
use Rattle.bus.specs.declared.Target.TheVariants.{Unit as T-as-Unit, Session, All}
use Rattle.line.specs.declared.Line.{Line}
use Rattle.line.specs.declared.Line.TheVariants.{Bus, Unit as L-as-Unit, Vp, Drop, Page, Vc, Mc}

-- "`unit` number, `uni` or `nni`, top VPI": it declares this unit, with this top VPI
abbrev pub Declares : ℕ → ℕ → Line → Type 0
Declares u top (Bus bus) = ⊥
Declares u top (L-as-Unit settings limits) = (settings.number ≡ u) × (settings.top ≡ top)
Declares u top (Vp a b target class outvpi) = ⊥
Declares u top (Drop a b) = ⊥
Declares u top (Page a b topvci) = ⊥
Declares u top (Vc a b c target class outvpi outvci) = ⊥
Declares u top (Mc a session) = ⊥

-- "Target is `u` and a unit, `m` and a session 0 to 255, or `b`": it is this unit
abbrev pub IsUnit : ℕ → Target → Type 0
IsUnit u (T-as-Unit unit) = unit ≡ u
IsUnit u (Session session) = ⊥
IsUnit u All = ⊥

-- the lines that use a unit: `vp`, `drop`, `page`, `vc` and `mc` begin with it
abbrev pub Uses : ℕ → Line → Type 0
Uses u (Bus bus) = ⊥
Uses u (L-as-Unit settings limits) = ⊥
Uses u (Vp a b target class outvpi) = a ≡ u
Uses u (Drop a b) = a ≡ u
Uses u (Page a b topvci) = a ≡ u
Uses u (Vc a b c target class outvpi outvci) = a ≡ u
Uses u (Mc a session) = a ≡ u

-- the target of a `vp` or `vc` line is this unit
abbrev pub HasTarget : ℕ → Line → Type 0
HasTarget u (Bus bus) = ⊥
HasTarget u (L-as-Unit settings limits) = ⊥
HasTarget u (Vp a b target class outvpi) = IsUnit u target
HasTarget u (Drop a b) = ⊥
HasTarget u (Page a b topvci) = ⊥
HasTarget u (Vc a b c target class outvpi outvci) = IsUnit u target
HasTarget u (Mc a session) = ⊥

-- "unit and VPI given .. by `vp`, `drop` or `page`"
abbrev pub Gives : ℕ → ℕ → Line → Type 0
Gives u vpi (Bus bus) = ⊥
Gives u vpi (L-as-Unit settings limits) = ⊥
Gives u vpi (Vp a b target class outvpi) = (a ≡ u) × (b ≡ vpi)
Gives u vpi (Drop a b) = (a ≡ u) × (b ≡ vpi)
Gives u vpi (Page a b topvci) = (a ≡ u) × (b ≡ vpi)
Gives u vpi (Vc a b c target class outvpi outvci) = ⊥
Gives u vpi (Mc a session) = ⊥

-- "`vc` unit, VPI, VCI"
abbrev pub IsVc : ℕ → ℕ → ℕ → Line → Type 0
IsVc u vpi vci (Bus bus) = ⊥
IsVc u vpi vci (L-as-Unit settings limits) = ⊥
IsVc u vpi vci (Vp a b target class outvpi) = ⊥
IsVc u vpi vci (Drop a b) = ⊥
IsVc u vpi vci (Page a b topvci) = ⊥
IsVc u vpi vci (Vc a b c target class outvpi outvci) = (a ≡ u) × (b ≡ vpi) × (c ≡ vci)
IsVc u vpi vci (Mc a session) = ⊥

-- the lines that have a VPI of a unit: "`vp`, `drop` or `page`", and `vc`
abbrev pub HasVpi : ℕ → ℕ → Line → Type 0
HasVpi u vpi l = Gives u vpi l ⊎ ((vci : ℕ) × IsVc u vpi vci l)

-- the lines that have a unit: `unit`, and those that use one
abbrev pub HasUnit : ℕ → Line → Type 0
HasUnit u l = ((top : ℕ) × Declares u top l) ⊎ Uses u l

-- "`bus` 32, `nni`, or outgoing VPI above 255"
abbrev pub IsWide : Line → Type 0
IsWide (Bus bus) = bus ≡ 32
IsWide (L-as-Unit settings limits) = settings.link ≡ Nni
IsWide (Vp a b target class outvpi) = 255 < outvpi
IsWide (Drop a b) = ⊥
IsWide (Page a b topvci) = ⊥
IsWide (Vc a b c target class outvpi outvci) = 255 < outvpi
IsWide (Mc a session) = ⊥

-- "each `unit` line takes (top VPI + 1) records and each `page` line (top VCI + 1) records": how many a line takes, and how many these lines do
abbrev pub records_by : Line → ℕ
records_by (Bus bus) = 0
records_by (L-as-Unit settings limits) = settings.top + 1
records_by (Vp a b target class outvpi) = 0
records_by (Drop a b) = 0
records_by (Page a b topvci) = topvci + 1
records_by (Vc a b c target class outvpi outvci) = 0
records_by (Mc a session) = 0

unfoldable pub records_of : List Line → ℕ
records_of [] = 0
records_of (l ∷ told) = records_of told + records_by l

-- the declared units: how many `unit` lines there are
abbrev pub units_by : Line → ℕ
units_by (Bus bus) = 0
units_by (L-as-Unit settings limits) = 1
units_by (Vp a b target class outvpi) = 0
units_by (Drop a b) = 0
units_by (Page a b topvci) = 0
units_by (Vc a b c target class outvpi outvci) = 0
units_by (Mc a session) = 0

unfoldable pub unit_lines : List Line → ℕ
unit_lines [] = 0
unit_lines (l ∷ told) = unit_lines told + units_by l
