-- A line in 01's ranges is one in the ranges that the rooms below name. Assumes nothing.
use native.Mathlib.Omega.{arith}
use mathlib.Core.Logic.{◌↔◌}
use Rattle.header.specs.Fields.{highest}
use Rattle.header.specs.declared.Link.{Link}
use Rattle.header.specs.declared.Link.TheVariants.{Uni, Nni}
use Rattle.bus.specs.declared.Target.{Target}
use Rattle.bus.specs.declared.Target.TheVariants as target
use Rattle.bus.specs.Routing.{Sayable}
use Rattle.paper.proofs.State.{given_iff}
use Rattle.line.specs.Ranges as line
use Rattle.line.specs.declared.Line.{Line}
use Rattle.line.specs.declared.Line.TheVariants.{Bus, Unit as L-as-Unit, Vp, Drop, Page, Vc, Mc}
use Prim.Native.Nat.{ℕ, ◌≤◌}
use Rattle.paper.specs.Words.{TopIn, TargetIn, InRange}

pub top_iff : (link : Link) (top : ℕ) → (top ≤ highest link) ↔ TopIn link top
top_iff Uni top = (λ h. h, λ h. h)
top_iff Nni top = (λ h. h, λ h. h)

pub sayable_iff : (t : Target) → Sayable t ↔ TargetIn t
sayable_iff (target.Unit unit) = (λ h. h, λ h. h)
sayable_iff (target.Session session) = (λ h. omega arith, λ h. omega arith)
sayable_iff target.All = (λ h. h, λ h. h)

pub range_iff : (l : Line) → line.InRange l ↔ InRange l
range_iff (Bus units) = (λ h. h, λ h. h)
range_iff (L-as-Unit settings limits) = (
  λ h. (h.settings_in.number_most, (top_iff settings.link settings.top).0 h.settings_in.top_most, h.settings_in.priority_least, h.settings_in.priority_most, (given_iff limits).0 h.limits_in_lem),
  λ h.
      record {
        settings_in = record { number_most = h.0; top_most = (top_iff settings.link settings.top).1 h.1; priority_least = h.2; priority_most = h.3 };
        limits_in_lem = (given_iff limits).1 h.4;
      },
)
range_iff (Vp unit vpi t class outvpi) = (
  λ h. (h.key.unit_most, h.key.vpi_most, (sayable_iff t).0 h.way.sayable, h.way.class_most, h.way.outvpi_most),
  λ h. record { key = record { unit_most = h.0; vpi_most = h.1 }; way = record { sayable = (sayable_iff t).1 h.2; class_most = h.3; outvpi_most = h.4 } },
)
range_iff (Drop unit vpi) = (λ h. (h.unit_most, h.vpi_most), λ h. record { unit_most = h.0; vpi_most = h.1 })
range_iff (Page unit vpi top) = (
  λ h. (h.key.unit_most, h.key.vpi_most, h.top_most),
  λ h. record { key = record { unit_most = h.0; vpi_most = h.1 }; top_most = h.2 },
)
range_iff (Vc unit vpi vci t class outvpi outvci) = (
  λ h. (h.key.unit_most, h.key.vpi_most, h.vci_most, (sayable_iff t).0 h.way.sayable, h.way.class_most, h.way.outvpi_most, h.outvci_most),
  λ h.
      record {
        key = record { unit_most = h.0; vpi_most = h.1 };
        vci_most = h.2;
        way = record { sayable = (sayable_iff t).1 h.3; class_most = h.4; outvpi_most = h.5 };
        outvci_most = h.6;
      },
)
range_iff (Mc unit session) = (λ h. (h.unit_most, h.session_most), λ h. record { unit_most = h.0; session_most = h.1 })
