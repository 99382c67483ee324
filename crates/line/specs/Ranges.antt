-- What the numbers of a good line are: "Classes are 0 to 3, units 0 to 31, VPIs 0 to 4,095, VCIs 0 to 65,535." Assumes nothing.
use Rattle.std.specs.Prelude.{ℕ, ◌≤◌, ◌≡◌, ◌⊎◌}
use Rattle.header.specs.Fields.{highest}
use Rattle.bus.specs.declared.Target.{Target}
use Rattle.bus.specs.Routing.{Sayable}
use Rattle.outlet.specs.Outlets.{Given as LimitsGiven}
use Rattle.outlet.specs.declared.Limits.{Limits}
use Rattle.shelf.specs.declared.Settings.{Settings}
use Rattle.line.specs.declared.Line.{Line}
use Rattle.line.specs.declared.Line.TheVariants.{Bus, Unit as U·, Vp, Drop, Page, Vc, Mc}

-- the settings of a `unit` line: the top VPI by the link
pub record SettingsIn (settings : Settings) : Type 0 where
  pub number_most : settings.number ≤ 31
  pub top_most : settings.top ≤ highest settings.link
  pub priority_least : 1 ≤ settings.priority
  pub priority_most : settings.priority ≤ 3

-- with its limits, which are such as the outlet asks for
pub record Given (settings : Settings) (limits : Limits) : Type 0 where
  pub settings_in : SettingsIn settings
  pub limits_in_lem : LimitsGiven limits

-- a unit and a VPI
pub record KeyIn (unit vpi : ℕ) : Type 0 where
  pub unit_most : unit ≤ 31
  pub vpi_most : vpi ≤ 4095

-- a target, a class and an outgoing VPI
pub record WayIn (target : Target) (class outvpi : ℕ) : Type 0 where
  pub sayable : Sayable target
  pub class_most : class ≤ 3
  pub outvpi_most : outvpi ≤ 4095

pub record VpIn (unit vpi : ℕ) (target : Target) (class outvpi : ℕ) : Type 0 where
  pub key : KeyIn unit vpi
  pub way : WayIn target class outvpi

pub record PageIn (unit vpi top : ℕ) : Type 0 where
  pub key : KeyIn unit vpi
  pub top_most : top ≤ 65535

pub record VcIn (unit vpi vci : ℕ) (target : Target) (class outvpi outvci : ℕ) : Type 0 where
  pub key : KeyIn unit vpi
  pub vci_most : vci ≤ 65535
  pub way : WayIn target class outvpi
  pub outvci_most : outvci ≤ 65535

pub record McIn (unit session : ℕ) : Type 0 where
  pub unit_most : unit ≤ 31
  pub session_most : session ≤ 255

abbrev pub InRange : Line → Type 0
InRange (Bus units) = (units ≡ 16) ⊎ (units ≡ 32)
InRange (U· settings limits) = Given settings limits
InRange (Vp unit vpi target class outvpi) = VpIn unit vpi target class outvpi
InRange (Drop unit vpi) = KeyIn unit vpi
InRange (Page unit vpi top) = PageIn unit vpi top
InRange (Vc unit vpi vci target class outvpi outvci) = VcIn unit vpi vci target class outvpi outvci
InRange (Mc unit session) = McIn unit session
