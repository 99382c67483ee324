-- What a unit of a sound shelf is after a frame is sent and heard. Assumes nothing.
use Prim.Native.Nat.{ℕ, ◌≤◌}
use native.Mathlib.Omega.{arith}
use mathlib.Core.Path.{◌≡◌, refl, sym, ap, subst, ◌∙◌}
use lib.Dec.{eqb}
use Rattle.arbiter.specs.Arbitration.{besides}
use Rattle.outlet.specs.Outlets.{Given, RingFits, RingsFit}
use Rattle.shelf.specs.Shelves.{waiting, number_of}
use Rattle.shelf.specs.declared.Unit as U
use Rattle.soundness.specs.State.{SideFits}
use Rattle.soundness.specs.Admission.{Housed}
use Rattle.running.proofs.Copies.{Copied}

-- all that its request asked for is still there
pub record Went (granted : ℕ) (u v : U.Unit) : Type 0 where
  pub settings : v.settings ≡ u.settings
  pub limits : Given v.outlet.limits
  pub queues : RingsFit v.outlet
  pub inlet : RingFits v.inlet 4
  pub side : SideFits v.side
  pub enough : besides (waiting u) (eqb (number_of u) granted) ≤ waiting v

pub went_copy : (granted : ℕ) (u v w : U.Unit) → Went granted u v → Copied v w → Went granted u w
went_copy granted u v w a c =
    record {
      settings = ap (λ x. x.settings) c.copy ∙ a.settings;
      limits = c.limits;
      queues = c.queues;
      inlet = subst (λ r. RingFits r 4) (sym (ap (λ x. x.inlet) c.copy)) a.inlet;
      side = c.side;
      enough = omega (arith, a.enough, c.waits);
    }

pub went_nowhere : (granted place bytes : ℕ) (u : U.Unit) → Housed place u bytes → Went granted u u
went_nowhere granted place bytes u h = record { settings = refl; limits = h.limits; queues = h.queues; inlet = h.inlet; side = h.side; enough = omega arith }
