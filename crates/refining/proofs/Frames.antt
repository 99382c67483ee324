-- A frame, on both. Assumes nothing.
use Rattle.std.specs.Prelude.{None, Some, Option}
use Prim.Native.Nat.{ℕ, zero, suc, ◌+◌, ◌<◌, ◌≤◌, ◌%◌, ◌^◌, min}
use native.Mathlib.Omega.{arith}
use mathlib.Core.Path.{◌≡◌, refl, sym, ap, subst, ◌∙◌}
use mathlib.Core.Logic.{◌≢◌}
use mathlib.Core.Bool.{Bool, true, false, cond, ◌||◌}
use mathlib.Core.List.{List, [], ◌∷◌, map}
use lib.Bits.{bit_or}
use lib.Dec.{eqb}
use lib.ListN.{length, length-take, length-set, get_or, set, take, replicate}
use lib.Seq.{get_or-set_same, get_or-set_other}
use borrow.Author.Tests.{eq-eqb, ne_eqb}
use Rattle.card.specs.declared.Card.{Card}
use Rattle.bus.specs.Frame.{sealed, heard}
use Rattle.bus.specs.Heard as H
use Rattle.arbiter.specs.Arbitration.{asking, renewed, granted_by}
use Rattle.arbiter.proofs.Requests.{same_or}
use Rattle.outlet.specs.Outlets.{RingFits}
use Rattle.arbiter.specs.Arbitration.{asks_now}
use Rattle.shelf.specs.Shelves as S
use Rattle.shelf.specs.declared.Unit as U
use Rattle.shelf.specs.Shelf.{Shelf}
use Rattle.shelf.proofs.Finding.{find_at}
use Rattle.line.specs.declared.Line.{Line}
use Rattle.soundness.specs.State.{sound_of}
use Rattle.soundness.proofs.Facts.{sound_iff}
use Rattle.answer.specs.declared.Answer.TheVariants.{Framed}
use Rattle.answer.specs.Answers.{hearing_rises, queued_one, is_addressed}
use Rattle.soundness.specs.Admission.{unit_at, with_unit, Housed}
use Rattle.soundness.proofs.Laws.{sound_housed}
use Rattle.hearing.specs.Hearings as hearing
use Rattle.framing.specs.Moves as framing·
use Rattle.framing.specs.Requests as requests
use Rattle.framing.specs.Sending as sending
use Rattle.framing.specs.Frames as framing
use Rattle.framing.specs.Sending.{Listened}
use Rattle.framing.proofs.Bits.{taken_if}
use Rattle.framing.proofs.Moving.{moved_rises_lem}
use Rattle.framing.proofs.Sends.{out_housed, sealed_cell}
use Rattle.document.specs.Shelf as D
use Rattle.document.specs.Hearing as paper
use Rattle.document.specs.Frame as page
use Rattle.running.proofs.Copies.{copied, store_kept}
use Rattle.running.proofs.Sent.{bus_kept, count_kept, many_kept}
use Rattle.running.proofs.Sent.{heard_units_lem, each_long, heard_each, sets_at}
use Rattle.running.proofs.Moved.{moves_sound}
use Rattle.refining.proofs.Alike.{UnitAlike, Known, Alike}
use Rattle.refining.proofs.Finds.{length_map, declared_is, find_alike}
use Rattle.refining.proofs.Changes.{changed}
use Rattle.refining.proofs.Hears.{Carries, fate_alike, copy_alike, copy_elsewhere, copy_knows, copy_fate}
use Rattle.refining.proofs.Moved.{moves_alike}
use Rattle.refining.proofs.Sends.{waiting_alike, SendsAlike, sends_alike, sends_knows}

-- the moves count in 32 rows
each_moved : (shelf : Shelf) → length (framing·.moved_each shelf) ≡ 32
unfolding framing·.each_from
each_moved shelf = go 0 (S.declared shelf) (replicate 32 0)
  where
    go : (place : ℕ) (us : List U.Unit) (each : List ℕ) → length (framing·.each_from place us each) ≡ length each
    go place [] each = refl
    go place (u ∷ us) each = go (suc place) us (set each place (framing·.moved_rises u)) ∙ length-set each place (framing·.moved_rises u)

-- 1. requests
asks_alike : (g : ℕ) (now : List ℕ) (us : List U.Unit) (ds : List D.Unit) → length us ≡ length ds →
    ((k : ℕ) → k < length ds → ((get_or us k S.blank).settings ≡ (get_or ds k D.blank).settings) × (S.waiting (get_or us k S.blank) ≡ D.waiting (get_or ds k D.blank))) →
    requests.asking_of g now us ≡ page.asking_of g now ds
unfolding requests.asking_of page.asking_of
asks_alike g now [] [] l same = refl
asks_alike g now [] (d ∷ ds) l same = absurd (omega arith)
asks_alike g now (u ∷ us) [] l same = absurd (omega arith)
asks_alike g now (u ∷ us) (d ∷ ds) l same =
    let one = same 0 (omega arith) in
    (λ z. requests.asking_of g (set now (one.0 z).number (asking (one.0 z).priority (one.1 z) (eqb (one.0 z).number g))) us)
    ∙ asks_alike g (set now (D.number_of d) (asks_now g (D.number_of d) d.settings.priority (D.waiting d))) us ds (omega arith) (λ k h. same (suc k) (omega arith))

module _ (card : Card) (shelf : Shelf) (memory store : List ℕ) (d : D.Shelf) (a : Alike card shelf memory store d) (housed : (k : ℕ) → k < length d.units → Housed k (unit_at shelf k) (length store)) where
  -- what the declared units ask now
  pub asking_alike : requests.asking_now shelf ≡ page.asking_of d.granted (replicate 32 0) d.units
  asking_alike =
      ap (λ g. requests.asking_of g (replicate 32 0) (S.declared shelf)) a.granted
      ∙ asks_alike d.granted (replicate 32 0) (S.declared shelf) d.units a.many
      (λ k h.
      let x = a.units k h in
      let e = declared_is card shelf memory store d a k h in (
        ap (λ u. u.settings) e ∙ x.settings,
        ap S.waiting e ∙ waiting_alike store k (unit_at shelf k) (D.unit_at d k) x (housed k h),
      ))

  -- so the requests as they are renewed are the same
  pub requests_alike : requests.requests shelf ≡ page.requests d
  requests_alike = λ z. renewed (a.arbiter z) (a.bus z) (a.frame z) (asking_alike z)

-- 2. these units, the first of them in a place, beside the document's
pub record Beside (card : Card) (memory : List ℕ) (lines : List Line) (store : List ℕ) (place : ℕ) (u : U.Unit) (d : D.Unit) : Type 0 where
  pub housed : Housed place u (length store)
  pub alike : UnitAlike store place u d
  pub knows : Known card memory lines u

pub data Both (card : Card) (memory : List ℕ) (lines : List Line) (store : List ℕ) : ℕ → List U.Unit → List D.Unit → Type 0 where
  none : {place : ℕ} → Both card memory lines store place [] []
  more : {place : ℕ} {u : U.Unit} {d : D.Unit} {us : List U.Unit} {ds : List D.Unit} → Beside card memory lines store place u d → Both card memory lines store (suc place) us ds → Both card memory lines store place (u ∷ us) (d ∷ ds)

module _ (card : Card) (memory : List ℕ) (lines : List Line) where
  -- made of its places, and read at one
  both_from : (store : List ℕ) (place : ℕ) (us : List U.Unit) (ds : List D.Unit) → length us ≡ length ds →
      ((k : ℕ) → k < length ds → Beside card memory lines store (place + k) (get_or us k S.blank) (get_or ds k D.blank)) → Both card memory lines store place us ds
  both_from store place [] [] l at = none
  both_from store place [] (d ∷ ds) l at = absurd (omega arith)
  both_from store place (u ∷ us) [] l at = absurd (omega arith)
  both_from store place (u ∷ us) (d ∷ ds) l at =
      let here : place + 0 ≡ place = omega arith in
      more (subst (λ p. Beside card memory lines store p u d) here (at 0 (omega arith)))
      (both_from store (suc place) us ds (omega arith)
      (λ k h.
      let on : place + suc k ≡ suc place + k = omega arith in
      subst (λ p. Beside card memory lines store p (get_or us k S.blank) (get_or ds k D.blank)) on (at (suc k) (omega arith))))

  both_at : (store : List ℕ) {place : ℕ} {us : List U.Unit} {ds : List D.Unit} → Both card memory lines store place us ds → (k : ℕ) → k < length ds →
      Beside card memory lines store (place + k) (get_or us k S.blank) (get_or ds k D.blank)
  both_at store none k h = absurd (omega arith)
  both_at store {place} (more {u = u} {d = d} x rest) zero h = let here : place ≡ place + 0 = omega arith in subst (λ p. Beside card memory lines store p u d) here x
  both_at store {place} (more {us = us} {ds = ds} x rest) (suc k) h =
      let on : suc place + k ≡ place + suc k = omega arith in
      subst (λ p. Beside card memory lines store p (get_or us k S.blank) (get_or ds k D.blank)) on (both_at store rest k (omega arith))

  -- a frame with these bytes is heard
  module _ (x : paper.OnBus) (carries : Carries x) where
    abbrev said : H.Heard
    said = x.heard

    abbrev raw : List ℕ
    raw = x.bytes

    abbrev copy : U.Unit → U.Unit
    copy u = (hearing.copy_of u said).unit

    abbrev hears : D.Unit → D.Unit
    hears d = paper.hearing_unit lines d x

    -- a unit with its copy has its part of the store
    copy_housed : (place n : ℕ) (u : U.Unit) → Housed place u n → Housed place (copy u) n
    copy_housed place n u y =
        let c = copied u said y.limits y.queues y.side in
        record {
          below = y.below;
          inside = y.inside;
          limits = c.limits;
          queues = c.queues;
          inlet = subst (λ r. RingFits r 4) (sym (ap (λ (v : U.Unit). v.inlet) c.copy)) y.inlet;
          side = c.side;
        }

    -- a unit with its copy, and another unit
    copy_beside : (store : List ℕ) (i : ℕ) (u : U.Unit) (d : D.Unit) → Beside card memory lines store i u d → Beside card memory lines (hearing.store_of u said i store raw) i (copy u) (hears d)
    copy_beside store i u d y =
        record {
          housed = subst (Housed i (copy u)) (sym (store_kept u said i store raw y.housed carries.whole)) (copy_housed i (length store) u y.housed);
          alike = copy_alike card memory store lines i u d y.alike y.knows y.housed x carries;
          knows = copy_knows card memory lines u said y.knows;
        }

    -- a unit in another place keeps what it has; so do all in later places
    other_beside : (store : List ℕ) (i : ℕ) (u : U.Unit) → Housed i u (length store) → (j : ℕ) (v : U.Unit) (e : D.Unit) → (j ≢ i) → Beside card memory lines store j v e → Beside card memory lines (hearing.store_of u said i store raw) j v e
    other_beside store i u here j v e apart y =
        record {
          housed = subst (Housed j v) (sym (store_kept u said i store raw here carries.whole)) y.housed;
          alike = copy_elsewhere store i j u v e said raw carries.whole here y.housed apart y.alike;
          knows = y.knows;
        }

    others_beside : (store : List ℕ) (i : ℕ) (u : U.Unit) → Housed i u (length store) → {place : ℕ} {us : List U.Unit} {ds : List D.Unit} → i < place → Both card memory lines store place us ds → Both card memory lines (hearing.store_of u said i store raw) place us ds
    others_beside store i u here l none = none
    others_beside store i u here {place} l (more {u = v} {d = e} y rest) =
        more (other_beside store i u here place v e (λ q. omega arith) y) (others_beside store i u here (omega arith) rest)

    -- a unit before them keeps what it has while they hear
    kept_beside : (us : List U.Unit) (store : List ℕ) {place : ℕ} {ds : List D.Unit} → Both card memory lines store place us ds → (j : ℕ) (v : U.Unit) (e : D.Unit) → j < place →
        Beside card memory lines store j v e → Beside card memory lines (sending.store_from said place us store raw) j v e
    unfolding sending.store_from
    kept_beside [] store none j v e l z = z
    kept_beside (u ∷ us) store {place} (more y rest) j v e l z =
        kept_beside us (hearing.store_of u said place store raw) (others_beside store place u y.housed (omega arith) rest) j v e (omega arith) (other_beside store place u y.housed j v e (λ q. omega arith) z)

    -- each of them has its copy
    pub both_heard : (us : List U.Unit) (store : List ℕ) {place : ℕ} {ds : List D.Unit} → Both card memory lines store place us ds →
        Both card memory lines (sending.store_from said place us store raw) place (map copy us) (map hears ds)
    unfolding sending.store_from
    both_heard [] store none = none
    both_heard (u ∷ us) store {place} (more {d = d} y rest) =
        let then = others_beside store place u y.housed (omega arith) rest in
        let now = hearing.store_of u said place store raw in
        more (kept_beside us now then place (copy u) (hears d) (omega arith) (copy_beside store place u d y)) (both_heard us now then)

-- 3. what has been heard
-- one of three, from the left or from the right
either : (a b c : Bool) → ((a || b) || c) ≡ (a || (b || c))
either true b c = refl
either false b c = refl

-- a sent cell with these bytes is heard: the copies that are queued, and whether a unit is addressed
module _ (card : Card) (memory : List ℕ) (lines : List Line) (store : List ℕ) (x : paper.OnBus) (carries : Carries x) where
  -- the fate of a copy
  copy_fates : (place : ℕ) (u : U.Unit) (d : D.Unit) → Beside card memory lines store place u d → (hearing.copy_of u x.heard).fate ≡ paper.hearing_of lines d x.heard
  copy_fates place u d y =
      copy_fate u (hearing.plan_of u x.heard) ∙ fate_alike card memory store lines place u d y.alike y.knows x.heard x.bytes carries.says

  -- the copies that are queued
  copies_alike : {place : ℕ} {us : List U.Unit} {ds : List D.Unit} → Both card memory lines store place us ds → (l : Listened) →
      (sending.heard_from x.heard place us l).copies ≡ l.copies + page.copies lines ds x
  unfolding sending.heard_from page.copies
  copies_alike none l = omega arith
  copies_alike {place} (more {u = u} {d = d} {ds = ds} y rest) l =
      let f = ap queued_one (copy_fates place u d y) in
      let e = copies_alike rest (sending.after place (hearing.copy_of u x.heard) l) in
      omega arith

  -- whether a unit is addressed
  addressed_alike : {place : ℕ} {us : List U.Unit} {ds : List D.Unit} → Both card memory lines store place us ds → (l : Listened) →
      (sending.heard_from x.heard place us l).addressed ≡ (l.addressed || page.some_addressed lines ds x)
  unfolding sending.heard_from page.some_addressed
  addressed_alike none l = or_false l.addressed
    where
      or_false : (b : Bool) → b ≡ (b || false)
      or_false true = refl
      or_false false = refl
  addressed_alike {place} (more {u = u} {d = d} {ds = ds} y rest) l =
      addressed_alike rest (sending.after place (hearing.copy_of u x.heard) l)
      ∙ ap (λ b. (l.addressed || b) || page.some_addressed lines ds x) (ap is_addressed (copy_fates place u d y))
      ∙ either l.addressed (is_addressed (paper.hearing_of lines d x.heard)) (page.some_addressed lines ds x)

  -- what rises by it at each
  rises_alike : {place : ℕ} {us : List U.Unit} {ds : List D.Unit} → Both card memory lines store place us ds → (k : ℕ) → k < length ds →
      hearing_rises (hearing.copy_of (get_or us k S.blank) x.heard).fate ≡ hearing_rises (paper.hearing_of lines (get_or ds k D.blank) x.heard)
  rises_alike none k h = absurd (omega arith)
  rises_alike {place} (more {u = u} {d = d} y rest) zero h = ap hearing_rises (copy_fates place u d y)
  rises_alike (more y rest) (suc k) h = rises_alike rest k (omega arith)

-- 4. which counters rise in a frame, as the document's shelf has it, where this set rose by the moves: each unit's hearing, and at the sender what it sent
unfoldable pub rises_one : Option page.Sending → D.Shelf → ℕ → ℕ → ℕ → ℕ
rises_one None d place k moved = moved
rises_one (Some s) d place k moved =
    let us = set d.units place s.left in
    let heard = bit_or moved (hearing_rises (paper.hearing_of d.lines (get_or us k D.blank) s.cell.heard)) in
    cond (eqb k place) (bit_or heard (sending.sent_rises (page.some_addressed d.lines us s.cell))) heard

unfoldable pub rises_by : Option ℕ → D.Shelf → ℕ → ℕ → ℕ
rises_by (Some place) d k moved = rises_one (page.sending_of (D.unit_at d place)) d place k moved
rises_by None d k moved = moved

abbrev pub rises_in : D.Shelf → ℕ → ℕ → ℕ
rises_in d k moved = rises_by (D.find_in d.units d.granted) d k moved

-- 5. requests, sending and grant, after the moves, which counted this at each
module _ (card : Card) (shelf : Shelf) (memory store : List ℕ) (d : D.Shelf) (rows : ℕ) (sound : sound_of card shelf (length store) rows ≡ true) (a : Alike card shelf memory store d)
    (each : List ℕ) (long : length each ≡ 32) where
  -- each declared unit has its part of the store; there are at most 32
  all_housed : sending.AllHoused shelf (length store)
  all_housed i h = (sound_housed card shelf (length store) rows sound i h).0

  few_units : length d.units ≤ 32
  few_units = let c = ((sound_iff card shelf (length store) rows).0 sound).count in omega (arith, c, length-take shelf.count shelf.units, a.many)

  -- what was heard, the store, the bytes on the bus and the rises, beside what the document's shelf has
  record HeardAlike (l : Listened) (now bytes : List ℕ) (s : page.Sent) (rises : ℕ → ℕ → ℕ) : Type 0 where
    bus : l.shelf.bus ≡ shelf.bus
    many : length (S.declared l.shelf) ≡ length s.units
    counted : l.shelf.count ≡ length s.units
    units : (k : ℕ) → k < length s.units → UnitAlike now k (unit_at l.shelf k) (get_or s.units k D.blank)
    known : (k : ℕ) → k < length s.units → Known card memory d.lines (unit_at l.shelf k)
    sent : bytes ≡ s.bytes
    copies : l.copies ≡ s.queued
    rose : (k : ℕ) → k < length d.units → get_or l.each k 0 ≡ rises k (get_or each k 0)

  module _ (place : ℕ) (at : framing.sender shelf ≡ Some place) where
    -- the sender is declared
    inside : place < length (S.declared shelf)
    inside = ((find_at shelf.granted (S.declared shelf) place).0 at).inside

    here : place < length d.units
    here = let i = inside in omega (arith, i, a.many)

    abbrev u : U.Unit
    u = unit_at shelf place

    abbrev e : D.Unit
    e = D.unit_at d place

    -- a granted unit has a cell
    held : 1 ≤ S.waiting u
    held =
        let g = (((sound_iff card shelf (length store) rows).0 sound).units place inside).grant ((find_at shelf.granted (S.declared shelf) place).0 at).named in
        omega (arith, g, ap S.waiting (declared_is card shelf memory store d a place here))

    abbrev out : Shelf
    out = with_unit shelf place (sending.unit_out u)

    module _ (s : page.Sending) (sends : SendsAlike store place u e (a.units place here) (all_housed place inside) s) where
      abbrev us : List D.Unit
      us = set d.units place s.left

      -- the sender without the cell
      out_alike : Alike card out memory store (D.after d place s.left [])
      out_alike =
          changed card shelf memory store d a place here (sending.unit_out u) s.left store [] sends.left (sends_knows card memory d.lines u (a.known place here)) (λ j h n. a.units j h)

      -- all units then, beside the document's
      both_out : Both card memory d.lines store 0 (S.declared out) us
      both_out =
          both_from card memory d.lines store 0 (S.declared out) us out_alike.many
          (λ k h.
          let on : k ≡ 0 + k = omega arith in
          subst (λ p. Beside card memory d.lines store p (get_or (S.declared out) k S.blank) (get_or us k D.blank)) on
          (subst (λ v. Beside card memory d.lines store k v (get_or us k D.blank)) (sym (declared_is card out memory store (D.after d place s.left []) out_alike k h))
          (record {
            housed = out_housed shelf place (length store) u refl inside all_housed k (omega (arith, h, out_alike.many));
            alike = out_alike.units k h;
            knows = out_alike.known k h;
          })))

      abbrev h : H.Heard
      h = s.cell.heard

      abbrev l : Listened
      l = sending.heard_by_all out each h

      abbrev now : List ℕ
      now = sending.heard_store out h store s.cell.bytes

      abbrev copies : List U.Unit
      copies = map (λ x. (hearing.copy_of x h).unit) (S.declared out)

      abbrev heard_units : List D.Unit
      heard_units = page.all_hear d.lines us s.cell

      -- and when all have heard it
      both_now : Both card memory d.lines now 0 copies heard_units
      both_now = both_heard card memory d.lines s.cell sends.carries (S.declared out) store both_out

      -- the unit in a place of the shelf is one of these
      unit_now : (k : ℕ) → k < length (S.declared out) → unit_at l.shelf k ≡ get_or copies k S.blank
      unit_now k few =
          ap (λ m. get_or m k S.blank) (heard_units_lem h 0 (S.declared out) (sending.silence out each))
          ∙ sets_at copies out.units k S.blank (omega (arith, length_map (λ x. (hearing.copy_of x h).unit) (S.declared out), length-take out.count out.units))
          (omega (arith, few, length_map (λ x. (hearing.copy_of x h).unit) (S.declared out)))

      -- the rises of 32 rows, and of each declared unit
      each_length : length l.each ≡ 32
      each_length = each_long h 0 (S.declared out) (sending.silence out each) ∙ long

      many_us : length us ≡ length d.units
      many_us = length-set d.units place s.left

      each_at : (k : ℕ) → k < length us → get_or l.each k 0 ≡ bit_or (get_or each k 0) (hearing_rises (paper.hearing_of d.lines (get_or us k D.blank) h))
      each_at k few =
          let on : k ≡ 0 + k = omega arith in
          subst (λ p. get_or l.each p 0 ≡ bit_or (get_or each p 0) (hearing_rises (hearing.copy_of (get_or (S.declared out) k S.blank) h).fate)) (sym on)
          (heard_each h 0 (S.declared out) (sending.silence out each) k (omega (arith, few, out_alike.many)) (omega (arith, few, many_us, few_units, long)))
          ∙ ap (bit_or (get_or each k 0)) (rises_alike card memory d.lines store s.cell sends.carries both_out k few)

      -- the unit in a place, beside the document's
      beside_now : (k : ℕ) → k < length heard_units → Beside card memory d.lines now k (unit_at l.shelf k) (get_or heard_units k D.blank)
      beside_now k few =
          let on : 0 + k ≡ k = omega arith in
          subst (λ v. Beside card memory d.lines now k v (get_or heard_units k D.blank))
          (sym (unit_now k (omega (arith, few, length_map (λ x. paper.hearing_unit d.lines x s.cell) us, out_alike.many))))
          (subst (λ p. Beside card memory d.lines now p (get_or copies k S.blank) (get_or heard_units k D.blank)) on (both_at card memory d.lines now both_now k few))

      -- what rises in its row, and in the sender's
      each_now : (k : ℕ) → k < length us → get_or (sending.count_sent place l).each k 0 ≡ rises_one (Some s) d place k (get_or each k 0)
      unfolding rises_one
      each_now k few =
          let all = addressed_alike card memory d.lines store s.cell sends.carries both_out (sending.silence out each) in
          let both = bit_or (get_or l.each place 0) (sending.sent_rises l.addressed) in
          same_or k place
          (λ q.
          rw (eq-eqb k place q)
          (ap (λ n. get_or (set l.each place both) n 0) q
          ∙ get_or-set_same l.each place both 0 (omega (arith, each_length, few_units, here))
          ∙ (λ z. bit_or ((ap (λ n. get_or l.each n 0) (sym q) ∙ each_at k few) z) (sending.sent_rises (all z)))))
          (λ q. rw (ne_eqb k place q) (get_or-set_other l.each place k both 0 q ∙ each_at k few))

      -- a sent frame
      sent_alike : (buffer : List ℕ) → HeardAlike (sending.count_sent place l) now (page.frame_of s.cell) (page.sends_one (Some s) d place buffer) (rises_one (Some s) d place)
      unfolding page.sends_one
      sent_alike buffer =
          let m = length_map (λ x. paper.hearing_unit d.lines x s.cell) us in
          record {
            bus = bus_kept h 0 (S.declared out) (sending.silence out each);
            many =
                length-take l.shelf.count l.shelf.units
                ∙ (λ z. min (count_kept h 0 (S.declared out) (sending.silence out each) z) (many_kept h 0 (S.declared out) (sending.silence out each) z))
                ∙ sym (length-take out.count out.units) ∙ out_alike.many ∙ sym m;
            counted = count_kept h 0 (S.declared out) (sending.silence out each) ∙ out_alike.counted ∙ sym m;
            units = λ k few. (beside_now k few).alike;
            known = λ k few. (beside_now k few).knows;
            sent = refl;
            copies = copies_alike card memory d.lines store s.cell sends.carries both_out (sending.silence out each) ∙ omega arith;
            rose = λ k few. each_now k (omega (arith, few, many_us));
          }

      -- by the bytes of the frame
      frame_is : sending.sent_frame shelf place store ≡ page.frame_of s.cell
      unfolding sending.sent_frame
      frame_is = ap sealed sends.cell

      by_frame : (buffer : List ℕ) →
          HeardAlike (framing.listened_by (Some place) shelf store each) (framing.store_by (Some place) shelf store) (framing.buffer_by (Some place) shelf store buffer)
          (page.sends_one (Some s) d place buffer) (rises_one (Some s) d place)
      unfolding framing.listened_by framing.store_by framing.buffer_by sending.sent_by sending.sent_store sending.cell_out
      by_frame buffer =
          let left = page.sends_one (Some s) d place buffer in
          let rises = rises_one (Some s) d place in
          let f = page.frame_of s.cell in
          subst (λ f. HeardAlike (sending.count_sent place (sending.heard_by_all out each (heard f))) (sending.heard_store out (heard f) store (take 56 f)) f left rises) (sym frame_is)
          (subst (λ x. HeardAlike (sending.count_sent place (sending.heard_by_all out each x)) (sending.heard_store out x store (take 56 f)) f left rises) (sym sends.heard)
          (subst (λ b. HeardAlike (sending.count_sent place l) (sending.heard_store out h store b) f left rises) (sym (sealed_cell s.cell.bytes f sends.carries.whole refl))
          (sent_alike buffer)))

    -- whichever cell it is
    by_sending : (buffer : List ℕ) →
        HeardAlike (framing.listened_by (Some place) shelf store each) (framing.store_by (Some place) shelf store) (framing.buffer_by (Some place) shelf store buffer)
        (page.sends_one (page.sending_of e) d place buffer) (rises_one (page.sending_of e) d place)
    by_sending buffer =
        let x = sends_alike store place u e (a.units place here) (all_housed place inside) held in
        subst
        (λ o.
        HeardAlike (framing.listened_by (Some place) shelf store each) (framing.store_by (Some place) shelf store) (framing.buffer_by (Some place) shelf store buffer)
        (page.sends_one o d place buffer) (rises_one o d place))
        (sym x.1) (by_frame x.0 x.2 buffer)

  -- with a sender, or idle
  by_sender : (f : Option ℕ) → framing.sender shelf ≡ f → (buffer : List ℕ) →
      HeardAlike (framing.listened_by f shelf store each) (framing.store_by f shelf store) (framing.buffer_by f shelf store buffer) (page.sends f d buffer) (rises_by f d)
  unfolding page.sends rises_by framing.listened_by framing.store_by framing.buffer_by
  by_sender (Some place) at buffer = by_sending place at buffer
  by_sender None at buffer =
      record {
        bus = refl;
        many = a.many;
        counted = a.counted;
        units = a.units;
        known = a.known;
        sent = refl;
        copies = refl;
        rose = λ k few. refl;
      }

  -- the sender is the document's
  heard_alike : (buffer : List ℕ) → HeardAlike (framing.listened_of shelf store each) (framing.turn_store shelf store) (framing.turn_buffer shelf store buffer) (page.sent_in d buffer) (rises_in d)
  heard_alike buffer =
      let same : framing.sender shelf ≡ D.find_in d.units d.granted = find_alike card shelf memory store d a shelf.granted ∙ ap (D.find_in d.units) a.granted in
      subst (λ f. HeardAlike (framing.listened_of shelf store each) (framing.turn_store shelf store) (framing.turn_buffer shelf store buffer) (page.sends f d buffer) (rises_by f d)) same
      (by_sender (framing.sender shelf) refl buffer)

  -- the counters that rise in each declared unit's row
  turn_rises : (k : ℕ) → k < length d.units → get_or (framing.listened_of shelf store each).each k 0 ≡ rises_in d k (get_or each k 0)
  turn_rises k few = (heard_alike []).rose k few

  -- answered, sent and left is what the document's shelf has
  turn_alike : (buffer : List ℕ) →
      ((framing.turn_done shelf store each).reply.answer ≡ page.turned_answer d buffer)
      × (framing.turn_buffer shelf store buffer ≡ (page.sent_in d buffer).bytes)
      × Alike card (framing.turn_done shelf store each).reply.shelf memory (framing.turn_store shelf store) (page.turned d buffer)
  turn_alike buffer =
      let x = heard_alike buffer in
      let housed : (k : ℕ) → k < length d.units → Housed k (unit_at shelf k) (length store) = λ k h. all_housed k (omega (arith, h, a.many)) in
      let g : framing.granted shelf ≡ page.granting d = ap granted_by (requests_alike card shelf memory store d a housed) in (
        (λ z. Framed (a.frame z) (a.granted z) (g z).unit (x.copies z)),
        x.sent,
        record {
          many = x.many;
          counted = x.counted;
          units = x.units;
          known = x.known;
          ranged = a.ranged;
          bus = x.bus ∙ a.bus;
          arbiter = ap (λ y. y.arbiter) g;
          granted = ap (λ y. y.unit) g;
          frame = ap (λ n. (n + 1) % 2 ^ 16) a.frame;
        },
      )

-- 6. a whole frame: the moves first
module _ (card : Card) (shelf : Shelf) (memory store : List ℕ) (d : D.Shelf) (rows : ℕ) (sound : sound_of card shelf (length store) rows ≡ true) (a : Alike card shelf memory store d) where
  housed : (k : ℕ) → k < length d.units → Housed k (unit_at shelf k) (length store)
  housed k h = (sound_housed card shelf (length store) rows sound k (omega (arith, h, a.many))).0

  abbrev after : List ℕ
  after = framing·.moved_stores shelf store

  then : Alike card (framing·.moved shelf) memory after (page.moved d)
  then = moves_alike card shelf memory store d a housed

  -- the counters that rise in each declared unit's row
  pub frame_rises_lem : (k : ℕ) → k < length d.units →
      get_or (framing.listened_of (framing·.moved shelf) after (framing·.moved_each shelf)).each k 0 ≡ rises_in (page.moved d) k (taken_if (framing·.moves (unit_at shelf k)))
  unfolding framing·.moved_rises
  frame_rises_lem k few =
      turn_rises card (framing·.moved shelf) memory after (page.moved d) rows (moves_sound card shelf store rows sound) then (framing·.moved_each shelf) (each_moved shelf) k (omega (arith, few, length_map page.moved_unit d.units))
      ∙ ap (rises_in (page.moved d) k) (moved_rises_lem shelf k (omega (arith, few, a.many)) (housed k few).below)

  -- a frame answers, sends and leaves what the document's shelf does
  pub frame_alike : (buffer : List ℕ) →
      ((framing.done_at shelf store).reply.answer ≡ page.framed_answer d buffer)
      × (framing.buffer_at shelf store buffer ≡ page.framed_bytes d buffer)
      × Alike card (framing.done_at shelf store).reply.shelf memory (framing.store_at shelf store) (page.framed d buffer)
  frame_alike buffer =
      turn_alike card (framing·.moved shelf) memory after (page.moved d) rows (moves_sound card shelf store rows sound) then (framing·.moved_each shelf) (each_moved shelf) buffer
