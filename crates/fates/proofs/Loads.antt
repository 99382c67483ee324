-- From a good load on the shelf is alike to the document's, which stands as it should. Assumes nothing.
use Prim.Native.Nat.{ℕ, ◌<◌}
use native.Mathlib.Omega.{arith}
use mathlib.Core.Path.{◌≡◌, refl, sym, ap, subst, ◌∙◌}
use mathlib.Core.Logic.{◌⊎◌, inl, inr, ⊎_elim}
use mathlib.Core.List.{List}
use lib.ListN.{length, get_or, get_or-eq_default}
use Rattle.bus.proofs.Wire.{sent_is_heard, length_returned}
use Rattle.card.specs.declared.Card.{Card}
use Rattle.shelf.specs.Shelves as S
use Rattle.store.proofs.Slots.{by_lt}
use Rattle.soundness.specs.State.{Sound}
use Rattle.soundness.proofs.Facts.{sound_iff}
use Rattle.line.specs.declared.Line.{Line}
use Rattle.document.specs.Events.{Event}
use Rattle.document.specs.Shelf as D
use Rattle.document.specs.Steps.{becomes}
use Rattle.document.proofs.Fixed.{given_stays}
use Rattle.flow.proofs.Kept.{as_many}
use Rattle.flow.proofs.Senders.{backed, backed_first}
use Rattle.flow.proofs.Streets.{right_street, control_waits, loopback_waits}
use Rattle.running.specs.Events.{World}
use Rattle.running.specs.Keeping.{run, loaded}
use Rattle.refining.proofs.Alike.{WorldAlike, AllSendable}
use Rattle.refining.proofs.Finds.{declared_is}
use Rattle.refining.proofs.Opens.{opened_alike}
use Rattle.refining.proofs.Steps.{once}
use Rattle.refining.proofs.Refined.{run_alike}
use Rattle.fates.specs.Loaded.{FromLoad}
use Rattle.fates.proofs.Standing.{full_stays, UnitStands, Stands}

-- the shelf after some events
module _ (card : Card) (told : List Line) (es : List Event) (w : World) (a : WorldAlike card w (becomes (D.opened told) es)) where
  abbrev d : D.Shelf
  d = becomes (D.opened told) es

  facts : Sound card w.shelf (length w.store) (length w.rows)
  facts = (sound_iff card w.shelf (length w.store) (length w.rows)).0 a.sound

  -- as many units as the lines declare
  many : length d.units ≡ length (D.units_of told)
  many = as_many (D.opened told) d (given_stays (D.opened told) es)

  four_queues : (j : ℕ) → length (D.unit_at d j).queues ≡ 4
  four_queues j =
      by_lt j (length d.units)
      (λ h. (a.shelf.units j h).four)
      (λ h. ap (λ u. length u.queues) (get_or-eq_default d.units D.blank {n = j} h))

  unit_stands : (i : ℕ) → i < length d.units → UnitStands (D.unit_at d i)
  unit_stands i h =
      let is = declared_is card w.shelf w.memory w.store d a.shelf i h in
      let same : (get_or (S.declared w.shelf) i S.blank).settings ≡ (D.unit_at d i).settings = ap (λ u. u.settings) is ∙ (a.shelf.units i h).settings in
      let s = facts.units i (omega (arith, h, a.shelf.many)) in
      let number = ap (λ x. x.number) same in
      let priority = ap (λ x. x.priority) same in
      let within : i < length (D.units_of told) = omega (arith, h, many) in
      record {
        below = ⊎_elim (λ b. omega (arith, b, s.below, number)) (λ b. omega (arith, b, s.below, number)) facts.bus;
        least = omega (arith, s.least, priority);
        most = omega (arith, s.most, priority);
        clean = λ r rest e.
            let good = (subst AllSendable e (a.shelf.units i h).sendable).0 in
            record {
              sound = sent_is_heard r.target r.class 0 r.cell.header r.cell.payload good.target good.class good.header good.payload;
              whole = good.payload;
            };
        control = λ c here. (control_waits told es i within c here).whole;
        loopback = λ c here.
            let t = loopback_waits told es i within c here in
            let b = ((right_street told es i within).turned t.before t.moved_there).whole in
            ap length t.bytes ∙ length_returned t.before (omega (arith, b)) ∙ b;
      }

  -- State refuses a request at another priority
  own_ask : (i : ℕ) → i < length d.units → (get_or d.arbiter.asks (D.number_of (D.unit_at d i)) 0 ≡ 0 → ⊥) → get_or d.arbiter.asks (D.number_of (D.unit_at d i)) 0 ≡ (D.unit_at d i).settings.priority
  own_ask i h some =
      let same = ap (λ u. u.settings) (declared_is card w.shelf w.memory w.store d a.shelf i h) ∙ (a.shelf.units i h).settings in
      let ask : get_or d.arbiter.asks (D.number_of (D.unit_at d i)) 0 ≡ get_or w.shelf.arbiter.asks (get_or (S.declared w.shelf) i S.blank).settings.number 0 = λ t. get_or (sym a.shelf.arbiter t).asks (sym same t).number 0 in
      ⊎_elim (λ z. absurd (some (ask ∙ z))) (λ e. ask ∙ e.0 ∙ ap (λ x. x.priority) same) (facts.units i (omega (arith, h, a.shelf.many))).ask

  stands : Stands d
  stands =
      let same = a.shelf.bus in
      record {
        full = full_stays (D.opened told) es (record { lasts = refl; asks = refl });
        bus = ⊎_elim (λ b. inl (sym same ∙ b)) (λ b. inr (sym same ∙ b)) facts.bus;
        once = once card w d a;
        backed = backed (D.opened told) es (backed_first told);
        fours = four_queues;
        units = unit_stands;
        own = own_ask;
      }

-- what follows from that holds from a good load on
pub from_load : (P : D.Shelf → Type 0) → ((d : D.Shelf) → Stands d → P d) → FromLoad P
from_load P follows card text memory store rows told good es =
    follows (becomes (D.opened told) es)
    (stands card told es (run card (loaded card text memory store rows) es)
    (run_alike card (loaded card text memory store rows) (D.opened told) (opened_alike card text memory store rows told good) es).alike)
