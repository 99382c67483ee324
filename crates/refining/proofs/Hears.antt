-- A unit hears a frame, on both. Assumes nothing.
use Prim.Native.Nat.{ℕ, ◌<◌, ◌/◌, ◌%◌, ◌^◌}
use native.Mathlib.Omega.{arith}
use mathlib.Core.Path.{◌≡◌, refl, sym, ap, subst, ◌∙◌}
use mathlib.Core.Logic.{◌≢◌, inl, inr}
use mathlib.Core.Bool.{Bool, true, false, cond, ◌&&◌}
use mathlib.Core.List.{List, [], ◌∷◌, ◌++◌, map, map-append}
use lib.Dec.{eqb, leb}
use lib.ListN.{length, length-set, length-drop, get_or, set, take, drop, take-append-drop}
use lib.Seq.{get_or-set_same, get_or-set_other, drop-append-le, take-append-le}
use borrow.Author.Tests.{leb-true, leb-false}
use Rattle.octets.specs.Octets.{two, four, part}
use Rattle.bus.specs.Routing.{check, kind_in, number_in, address}
use Rattle.bus.specs.declared.Target as T
use Rattle.bus.specs.declared.Target.TheVariants as target
use Rattle.std.specs.Prelude.{Option, Some, None}
use Rattle.bus.specs.declared.Address as Ad
use Rattle.bus.specs.declared.Address.TheVariants.{To, Third}
use Rattle.bus.specs.Routing.{Sayable}
use Rattle.card.specs.declared.Card.{Card}
use Rattle.bus.specs.Frame.{heard, third, carried, parity, delivered}
use Rattle.bus.specs.Heard as frame
use Rattle.bus.proofs.Wire.{carried_cell}
use Rattle.arbiter.proofs.Requests.{same_or}
use Rattle.outlet.specs.Outlets.{capacity, queue, empty}
use Rattle.outlet.specs.declared.Ring.{Ring}
use Rattle.outlet.specs.Hearing.{queue_of, limit, held, too_wide, bus_clp, fate, fate_at}
use Rattle.outlet.specs.declared.Fate.TheVariants as fates
use Rattle.outlet.proofs.Fates.{queue_lt}
use Rattle.store.specs.Rings.{tail, pushed}
use Rattle.store.specs.Places.{start, outlet_slot, control_in_slot, loopback_in_slot, control_out_slot, loopback_out_slot, put_at, outlet_cells, single, single_cells}
use Rattle.store.proofs.Rounds.{tail_lt}
use Rattle.store.proofs.Slots.{start_inside, slot_below}
use Rattle.store.proofs.Queues.{length_cells, cells_pushed, outlet_pushed, outlet_beside, inlet_below, single_none, single_put}
use Rattle.shelf.specs.declared.Unit as U
use Rattle.shelf.specs.Shelf.{Shelf}
use Rattle.line.specs.declared.Line.{Line}
use Rattle.meaning.specs.Told.{hears_in}
use Rattle.soundness.specs.State.{sound_of}
use Rattle.answer.specs.declared.Hearing as A
use Rattle.answer.specs.declared.Hearing.TheVariants.{Other, Wide, Full, Clp, Queued}
use Rattle.answer.specs.declared.Answer.TheVariants.{Heard}
use Rattle.soundness.specs.Admission.{unit_at, with_queue, Housed}
use Rattle.soundness.proofs.Laws.{sound_housed}
use Rattle.hearing.specs.Hearings as hearing
use Rattle.hearing.specs.Hearings.{Queue, ToControl, ToLoopback, Lost}
use Rattle.hearing.proofs.Plans.{plan_queue, slot_below as plan_below, control_below, before_parity}
use Rattle.paper.specs.Counters.{hearing_counts}
use Rattle.document.specs.Counters.{entries}
use Rattle.document.specs.Shelf as D
use Rattle.document.specs.Hearing as paper
use Rattle.refining.proofs.Alike.{UnitAlike, Known, Alike, off_bus, single_kept, control_kept, side_kept, side_written, elsewhere}
use Rattle.refining.proofs.Finds.{length_map}
use Rattle.refining.proofs.Changes.{changed}

-- 1. how a copy ends: lost, and the document's unit is as it was, or as planned, behind the others where there is room
pub data Ends (full : Bool) (plan : hearing.Plan) : hearing.Plan → A.Hearing → Type 0 where
  lost : (f : A.Hearing) → ((d : D.Unit) (x : paper.OnBus) → paper.keeping f d x ≡ d) → Ends full plan (Lost f) f
  queued : full ≡ false → Ends full plan plan Queued

-- whether it is addressed, too wide, finds the queue full or at its limit
abbrev fated : Bool → Bool → Bool → Bool → A.Hearing
fated mine wide full low = cond mine (cond wide Wide (cond full Full (cond low Clp Queued))) Other

-- each way through the four tests ends so
ends_so : (mine wide full low : Bool) (q : ℕ) →
    Ends full (Queue q) (cond mine (hearing.plan_for (cond wide fates.Wide (cond full fates.Full (cond low fates.Clp fates.Queued))) q) (Lost Other)) (fated mine wide full low)
unfolding hearing.plan_for paper.keeping
ends_so false wide full low q = lost Other (λ d x. refl)
ends_so true true full low q = lost Wide (λ d x. refl)
ends_so true false true low q = lost Full (λ d x. refl)
ends_so true false false true q = lost Clp (λ d x. refl)
ends_so true false false false q = queued refl

-- and so through the two of an outlet beside the data queues
ends_in : (mine full : Bool) (plan : hearing.Plan) → Ends full plan (cond mine (cond full (Lost Full) plan) (Lost Other)) (cond mine (cond full Full Queued) Other)
unfolding paper.keeping
ends_in false full plan = lost Other (λ d x. refl)
ends_in true true plan = lost Full (λ d x. refl)
ends_in true false plan = queued refl

-- at a unit: what befalls a cell with this target, class and header
module _ (u : U.Unit) (t : T.Target) (class header : ℕ) where
  -- the queue of its class, and whether that is full
  abbrev own : ℕ
  own = queue_of u.outlet.limits class

  abbrev is_full : Bool
  is_full = leb (capacity u.outlet.limits own) (held u.outlet own)

  -- its fate, and that its plan ends so
  abbrev befalls : A.Hearing
  befalls =
      fated (hearing.addressed u t) (too_wide u.settings.link header) is_full
      (eqb (bus_clp header) 1 && leb (limit u.outlet.limits own) (held u.outlet own))

  ends_at : Ends is_full (Queue own) (hearing.plan_of u (frame.Cell t class header)) befalls
  unfolding hearing.plan_of fate fate_at
  ends_at = ends_so (hearing.addressed u t) (too_wide u.settings.link header) is_full (eqb (bus_clp header) 1 && leb (limit u.outlet.limits own) (held u.outlet own)) own

-- what is heard can be said in a routing header, and the bytes have its header
abbrev pub Says : frame.Heard → List ℕ → Type 0
Says frame.Length bytes = Unit {0}
Says frame.Damaged bytes = Unit {0}
Says (frame.Cell t class header) bytes = Sayable t × (four bytes 4 ≡ header)
Says (frame.Control unit) bytes = Unit {0}
Says (frame.Loopback unit) bytes = Unit {0}

-- a cell on the bus has its 56 bytes, with the payload and with what is heard
pub record Carries (x : paper.OnBus) : Type 0 where
  pub whole : length x.bytes ≡ 56
  pub payload : part x.bytes 8 48 ≡ x.payload
  pub says : Says x.heard x.bytes

module _ (card : Card) (memory store : List ℕ) (lines : List Line) (i : ℕ) (u : U.Unit) (d : D.Unit) (a : UnitAlike store i u d) (k : Known card memory lines u) where
  -- the held count of a ring is the length of the document's queue
  count_alike : (q : ℕ) → q < 4 → held u.outlet q ≡ D.held d q
  count_alike q h =
      sym (length_cells store i (start u.outlet.limits q) (capacity u.outlet.limits q) (queue u.outlet q))
      ∙ sym (length_map off_bus (outlet_cells store i u.outlet.limits q (queue u.outlet q))) ∙ ap length (a.queues q h)

  -- the same cells are addressed to both
  addressed_alike : (t : T.Target) → Sayable t → hearing.addressed u t ≡ paper.addressed lines d t
  unfolding hearing.addressed paper.addressed
  addressed_alike (target.Unit n) s = ap (λ x. eqb x.number n) a.settings
  addressed_alike (target.Session n) s = k.hearing n s ∙ ap (λ x. hears_in lines x.number n) a.settings
  addressed_alike target.All s = refl

  -- they have the same fate on both
  befalls_alike : (t : T.Target) (class header : ℕ) → Sayable t → befalls u t class header ≡ paper.hearing_of lines d (frame.Cell t class header)
  unfolding paper.hearing_of paper.fate_in
  befalls_alike t class header s =
      let n : held u.outlet (own u t class header) ≡ D.held d (queue_of d.limits class) = count_alike (own u t class header) (queue_lt u.outlet.limits class) ∙ ap (λ l. D.held d (queue_of l class)) a.limits in
      λ z.
      let l = a.limits z in
      fated (addressed_alike t s z) (too_wide (a.settings z).link header) (leb (capacity l (queue_of l class)) (n z)) (eqb (bus_clp header) 1 && leb (limit l (queue_of l class)) (n z))

  -- so a plan ends as the document has it
  ends_alike : (t : T.Target) (class header : ℕ) → Sayable t →
      Ends (is_full u t class header) (Queue (own u t class header)) (hearing.plan_of u (frame.Cell t class header)) (paper.hearing_of lines d (frame.Cell t class header))
  ends_alike t class header s =
      subst (Ends (is_full u t class header) (Queue (own u t class header)) (hearing.plan_of u (frame.Cell t class header))) (befalls_alike t class header s) (ends_at u t class header)

  -- the same of a control and of a loopback cell
  control_ends : (unit : ℕ) → Ends (leb 4 u.side.controlout.count) ToControl (hearing.plan_of u (frame.Control unit)) (paper.hearing_of lines d (frame.Control unit))
  unfolding hearing.plan_of hearing.plan_in paper.hearing_of paper.room_in
  control_ends unit =
      let n : u.side.controlout.count ≡ length d.side.controlout = sym (length_cells store i 129 4 u.side.controlout) ∙ ap length a.side.controlout in
      subst (Ends (leb 4 u.side.controlout.count) ToControl (hearing.plan_of u (frame.Control unit)))
      (λ z. cond (eqb (a.settings z).number unit) (cond (leb 4 (n z)) Full Queued) Other)
      (ends_in (eqb u.settings.number unit) (leb 4 u.side.controlout.count) ToControl)

  loopback_ends : (unit : ℕ) → Ends (leb 1 u.side.loopbackout) ToLoopback (hearing.plan_of u (frame.Loopback unit)) (paper.hearing_of lines d (frame.Loopback unit))
  unfolding hearing.plan_of hearing.plan_in paper.hearing_of paper.room_in
  loopback_ends unit =
      let n : u.side.loopbackout ≡ length d.side.loopbackout = sym (length_cells store i 133 1 (single u.side.loopbackout)) ∙ ap length a.side.loopbackout in
      subst (Ends (leb 1 u.side.loopbackout) ToLoopback (hearing.plan_of u (frame.Loopback unit)))
      (λ z. cond (eqb (a.settings z).number unit) (cond (leb 1 (n z)) Full Queued) Other)
      (ends_in (eqb u.settings.number unit) (leb 1 u.side.loopbackout) ToLoopback)

  -- the copy has the fate that the document's unit gives it
  ended_fate : {full : Bool} {plan p : hearing.Plan} {f : A.Hearing} → hearing.fate_by plan ≡ Queued → Ends full plan p f → hearing.fate_by p ≡ f
  unfolding hearing.fate_by
  ended_fate e (lost f same) = refl
  ended_fate e (queued room) = e

  pub fate_alike : (h : frame.Heard) (bytes : List ℕ) → Says h bytes → hearing.fate_by (hearing.plan_of u h) ≡ paper.hearing_of lines d h
  unfolding hearing.fate_by hearing.plan_of paper.hearing_of
  fate_alike frame.Length bytes s = refl
  fate_alike frame.Damaged bytes s = refl
  fate_alike (frame.Cell t class header) bytes s = ended_fate refl (ends_alike t class header s.0)
  fate_alike (frame.Control unit) bytes s = ended_fate refl (control_ends unit)
  fate_alike (frame.Loopback unit) bytes s = ended_fate refl (loopback_ends unit)

  -- a copy behind the others in a queue with room
  module _ (housed : Housed i u (length store)) (bytes : List ℕ) (whole : length bytes ≡ 56) (q : ℕ) (few : q < 4) (room : held u.outlet q < capacity u.outlet.limits q) where
    abbrev ring : Ring
    ring = queue u.outlet q

    abbrev spot : ℕ
    spot = tail ring (capacity u.outlet.limits q)

    abbrev after : List ℕ
    after = put_at store i (outlet_slot u.outlet.limits q spot) bytes

    abbrev longer : List D.Cell
    longer = D.queue_at d q ++ (off_bus bytes ∷ [])

    -- the place past the newest lies in the queue
    spot_lt : spot < capacity u.outlet.limits q
    spot_lt = let b = start_inside u.outlet.limits q housed.limits few in tail_lt (capacity u.outlet.limits q) (omega arith) ring (housed.queues.each q few) (omega arith)

    -- each queue, with the copy in its own
    queues_longer : (p : ℕ) → p < 4 → map off_bus (outlet_cells after i u.outlet.limits p (get_or (set u.outlet.queues q (pushed ring)) p empty)) ≡ get_or (set d.queues q longer) p []
    queues_longer p h =
        same_or p q
        (λ e.
        subst (λ k. map off_bus (outlet_cells after i u.outlet.limits k (get_or (set u.outlet.queues q (pushed ring)) k empty)) ≡ get_or (set d.queues q longer) k []) (sym e)
        (ap (λ r. map off_bus (outlet_cells after i u.outlet.limits q r)) (get_or-set_same u.outlet.queues q (pushed ring) empty (omega (arith, few, a.rings)))
        ∙ ap (map off_bus) (outlet_pushed i u.outlet.limits housed.limits q few ring (housed.queues.each q few) store bytes whole housed.inside room)
        ∙ map-append off_bus (outlet_cells store i u.outlet.limits q ring) (bytes ∷ [])
        ∙ ap (λ l. l ++ (off_bus bytes ∷ [])) (a.queues q few)
        ∙ sym (get_or-set_same d.queues q longer [] (omega (arith, few, a.four)))))
        (λ ne.
        ap (λ r. map off_bus (outlet_cells after i u.outlet.limits p r)) (get_or-set_other u.outlet.queues q p (pushed ring) empty ne)
        ∙ ap (map off_bus) (outlet_beside i u.outlet.limits housed.limits p h (queue u.outlet p) (housed.queues.each p h) store bytes whole housed.inside q spot few spot_lt ne)
        ∙ a.queues p h ∙ sym (get_or-set_other d.queues q p longer [] ne))

    -- and the unit
    unit_longer : UnitAlike after i (with_queue u q (pushed ring)) (D.with_queue d q longer)
    unit_longer =
        record {
          settings = a.settings;
          limits = a.limits;
          sendable = a.sendable;
          inlet = inlet_below i u.inlet housed.inlet store bytes whole housed.inside u.outlet.limits housed.limits q spot few spot_lt ∙ a.inlet;
          rings = length-set u.outlet.queues q (pushed ring) ∙ a.rings;
          four = length-set d.queues q longer ∙ a.four;
          queues = queues_longer;
          side = (let low = slot_below u.outlet.limits q spot housed.limits few spot_lt in
              side_kept store i i (outlet_slot u.outlet.limits q spot) bytes whole (omega arith) housed.inside u.side d.side housed.side (inr (inl (omega arith))) a.side);
        }

  -- a copy behind the others in the control outlet, or in the loopback outlet, with room
  module _ (housed : Housed i u (length store)) (bytes : List ℕ) (whole : length bytes ≡ 56) where
    -- the control outlet
    module _ (room : u.side.controlout.count < 4) where
      abbrev free : ℕ
      free = tail u.side.controlout 4

      controlled : UnitAlike (put_at store i (control_out_slot free) bytes) i (hearing.controlled_up u) (D.with_control_out d (d.side.controlout ++ (bytes ∷ [])))
      controlled =
          let low : free < 4 = tail_lt 4 (omega arith) u.side.controlout housed.side.controlout (omega arith) in
          let here = single_kept store i i (control_out_slot free) bytes whole (omega arith) housed.inside in
          side_written store i u d (control_out_slot free) bytes whole (omega arith) (omega arith) housed a (hearing.controlled_up u).side _
          (record {
            controlin = here control_in_slot u.side.controlin (omega arith) housed.side.controlin (inr (inr (omega arith))) ∙ a.side.controlin;
            loopbackin = here loopback_in_slot u.side.loopbackin (omega arith) housed.side.loopbackin (inr (inr (omega arith))) ∙ a.side.loopbackin;
            controlout = cells_pushed i 129 4 (omega arith) u.side.controlout housed.side.controlout store bytes whole housed.inside room ∙ ap (λ l. l ++ (bytes ∷ [])) a.side.controlout;
            loopbackout = here loopback_out_slot u.side.loopbackout (omega arith) housed.side.loopbackout (inr (inl (omega arith))) ∙ a.side.loopbackout;
          })

    -- the loopback outlet holds none yet
    looped : u.side.loopbackout < 1 → UnitAlike (put_at store i loopback_out_slot bytes) i (hearing.looped_up u) (D.with_loopback_out d (d.side.loopbackout ++ (bytes ∷ [])))
    looped room =
        let here = single_kept store i i loopback_out_slot bytes whole (omega arith) housed.inside in
        let nothing : u.side.loopbackout ≡ 0 = omega arith in
        side_written store i u d loopback_out_slot bytes whole (omega arith) (omega arith) housed a (hearing.looped_up u).side _
        (record {
          controlin = here control_in_slot u.side.controlin (omega arith) housed.side.controlin (inr (inr (omega arith))) ∙ a.side.controlin;
          loopbackin = here loopback_in_slot u.side.loopbackin (omega arith) housed.side.loopbackin (inr (inr (omega arith))) ∙ a.side.loopbackin;
          controlout = control_kept store i i loopback_out_slot bytes whole (omega arith) housed.inside u.side.controlout housed.side.controlout (inr (inr (omega arith))) ∙ a.side.controlout;
          loopbackout =
              single_put store i loopback_out_slot bytes (omega arith) housed.inside whole
              ∙ ap (λ l. l ++ (bytes ∷ [])) (sym (single_none store i loopback_out_slot) ∙ ap (single_cells store i loopback_out_slot) (sym nothing) ∙ a.side.loopbackout);
        })

  -- the unit with its copy is the document's unit with its copy
  copied_alike : Housed i u (length store) → (h : frame.Heard) (payload bytes : List ℕ) → length bytes ≡ 56 → part bytes 8 48 ≡ payload → Says h bytes →
      UnitAlike (hearing.store_of u h i store bytes) i (hearing.copy_of u h).unit (paper.hearing_unit lines d (record { heard = h; payload = payload; bytes = bytes }))
  unfolding hearing.store_by hearing.copy_by hearing.plan_of paper.hearing_of paper.keeping paper.placing
  copied_alike housed frame.Length payload bytes whole held s = a
  copied_alike housed frame.Damaged payload bytes whole held s = a
  copied_alike housed (frame.Cell t class header) payload bytes whole held s = go (ends_alike t class header s.0)
    where
      q : ℕ
      q = own u t class header

      x : paper.OnBus
      x = record { heard = frame.Cell t class header; payload = payload; bytes = bytes }

      go : {p : hearing.Plan} {f : A.Hearing} → Ends (is_full u t class header) (Queue q) p f → UnitAlike (hearing.store_by p u i store bytes) i (hearing.copy_by p u).unit (paper.keeping f d x)
      go (lost f same) = subst (UnitAlike store i u) (sym (same d x)) a
      go (queued room) =
          let few = queue_lt u.outlet.limits class in
          let less = leb-false _ _ room in
          subst (λ p. UnitAlike (after housed bytes whole q few less) i (with_queue u q (pushed (queue u.outlet q))) (D.with_queue d p (D.queue_at d p ++ (record { header = header; payload = payload } ∷ []))))
          (ap (λ l. queue_of l class) a.limits)
          (subst (λ c. UnitAlike (after housed bytes whole q few less) i (with_queue u q (pushed (queue u.outlet q))) (D.with_queue d q (D.queue_at d q ++ (c ∷ []))))
          (λ z. record { header = s.1 z; payload = held z })
          (unit_longer housed bytes whole q few less))
  copied_alike housed (frame.Control unit) payload bytes whole held s = go (control_ends unit)
    where
      x : paper.OnBus
      x = record { heard = frame.Control unit; payload = payload; bytes = bytes }

      go : {p : hearing.Plan} {f : A.Hearing} → Ends (leb 4 u.side.controlout.count) ToControl p f → UnitAlike (hearing.store_by p u i store bytes) i (hearing.copy_by p u).unit (paper.keeping f d x)
      go (lost f same) = subst (UnitAlike store i u) (sym (same d x)) a
      go (queued room) = controlled housed bytes whole (leb-false _ _ room)
  copied_alike housed (frame.Loopback unit) payload bytes whole held s = go (loopback_ends unit)
    where
      x : paper.OnBus
      x = record { heard = frame.Loopback unit; payload = payload; bytes = bytes }

      go : {p : hearing.Plan} {f : A.Hearing} → Ends (leb 1 u.side.loopbackout) ToLoopback p f → UnitAlike (hearing.store_by p u i store bytes) i (hearing.copy_by p u).unit (paper.keeping f d x)
      go (lost f same) = subst (UnitAlike store i u) (sym (same d x)) a
      go (queued room) = looped housed bytes whole (leb-false _ _ room)

  pub copy_alike : Housed i u (length store) → (x : paper.OnBus) → Carries x →
      UnitAlike (hearing.store_of u x.heard i store x.bytes) i (hearing.copy_of u x.heard).unit (paper.hearing_unit lines d x)
  copy_alike housed x c = copied_alike housed x.heard x.payload x.bytes c.whole c.payload c.says

-- another unit is as it was
pub copy_elsewhere : (store : List ℕ) (i j : ℕ) (u v : U.Unit) (e : D.Unit) (h : frame.Heard) (bytes : List ℕ) → length bytes ≡ 56 → Housed i u (length store) → Housed j v (length store) → (j ≢ i) →
    UnitAlike store j v e → UnitAlike (hearing.store_of u h i store bytes) j v e
unfolding hearing.store_by
copy_elsewhere store i j u v e h bytes whole here there apart a = go (hearing.plan_of u h) refl
  where
    written : (slot : ℕ) → slot < 146 → UnitAlike (put_at store i slot bytes) j v e
    written slot few = elsewhere store j i slot bytes v e whole few here.inside (λ x. apart (sym x)) there a

    go : (p : hearing.Plan) → hearing.plan_of u h ≡ p → UnitAlike (hearing.store_by p u i store bytes) j v e
    go (Lost f) p = a
    go (Queue q) p = written (outlet_slot u.outlet.limits q (tail (queue u.outlet q) (capacity u.outlet.limits q))) (plan_below i (length store) u q here (plan_queue u h q p))
    go ToControl p = written (control_out_slot (tail u.side.controlout 4)) (control_below i (length store) u here)
    go ToLoopback p = written loopback_out_slot (omega arith)

-- 2. what is heard of a frame
abbrev SayableIn : Option Ad.Address → Type 0
SayableIn None = Unit {0}
SayableIn (Some (To t class)) = Sayable t
SayableIn (Some (Third class number)) = Unit {0}

-- a choice between two addresses
chosen : (b : Bool) (x y : Option Ad.Address) → (b ≡ true → SayableIn x) → (b ≡ false → SayableIn y) → SayableIn (cond b x y)
chosen true x y p q = p refl
chosen false x y p q = q refl

-- a routing header says only what can be said in one
address_sayable : (r : ℕ) → SayableIn (address r)
unfolding address
address_sayable r =
    chosen (eqb (check (r / 2 ^ 4)) (r % 2 ^ 4)) _ _
    (λ good.
    chosen (eqb (kind_in r) 0) _ _
    (λ one. chosen (leb (number_in r) 31) _ _ (λ t. leb-true (number_in r) 31 t) (λ f. tt))
    (λ more.
    chosen (eqb (kind_in r) 1) _ _ (λ some. omega arith)
    (λ rest. chosen (eqb (kind_in r) 2) _ _ (λ all. chosen (eqb (number_in r) 0) _ _ (λ t. tt) (λ f. tt)) (λ third. tt))))
    (λ bad. tt)

-- the payload stands before parity
part_before : (f : List ℕ) → length f ≡ 57 → part (take 56 f) 8 48 ≡ part f 8 48
part_before f l =
    let n = before_parity f l in
    sym (take-append-le 48 (drop 8 (take 56 f)) (drop 56 f) (let m = length-drop 8 (take 56 f) in omega arith))
    ∙ ap (take 48) (sym (drop-append-le 8 (take 56 f) (drop 56 f) (omega arith)))
    ∙ ap (λ x. part x 8 48) (take-append-drop 56 f)

-- what these bytes are heard as can be said, and they have its header
pub carried_says : (bytes : List ℕ) → Says (carried bytes) bytes
unfolding carried third
carried_says bytes = to (address (two bytes 0)) (address_sayable (two bytes 0))
  where
    judged : (low control back : Bool) (unit : ℕ) → Says (cond low (cond control (frame.Control unit) (cond back (frame.Loopback unit) frame.Damaged)) frame.Damaged) bytes
    judged false control back unit = tt
    judged true true back unit = tt
    judged true false true unit = tt
    judged true false false unit = tt

    to : (x : Option Ad.Address) → SayableIn x → Says (delivered x (get_or bytes 2 0) (four bytes 4)) bytes
    to None s = tt
    to (Some (To t class)) s = (s, refl)
    to (Some (Third class number)) s = judged (leb number 31) (eqb class 0) (eqb class 1 && leb (get_or bytes 2 0) 31) number

-- so it is of a frame without its parity
heard_says : (f : List ℕ) → length f ≡ 57 → Says (heard f) (take 56 f)
unfolding heard
heard_says f l = pick (eqb (length f) 57) (eqb (parity (take 56 f)) (get_or f 56 0))
  where
    pick : (b c : Bool) → Says (cond b (cond c (carried f) frame.Damaged) frame.Length) (take 56 f)
    pick false c = tt
    pick true false = tt
    pick true true = subst (λ h. Says h (take 56 f)) (carried_cell f l) (carried_says (take 56 f))

pub handed_carries : (f : List ℕ) → length f ≡ 57 → Carries (paper.as_handed f)
handed_carries f l = record { whole = before_parity f l; payload = part_before f l; says = heard_says f l }

-- a unit with its copy knows what it knew
pub copy_knows : (card : Card) (memory : List ℕ) (lines : List Line) (u : U.Unit) (h : frame.Heard) → Known card memory lines u → Known card memory lines (hearing.copy_of u h).unit
unfolding hearing.copy_by
copy_knows card memory lines u h k = go (hearing.plan_of u h)
  where
    go : (p : hearing.Plan) → Known card memory lines (hearing.copy_by p u).unit
    go (Lost f) = k
    go (Queue q) = record { looks = k.looks; hearing = k.hearing }
    go ToControl = record { looks = k.looks; hearing = k.hearing }
    go ToLoopback = record { looks = k.looks; hearing = k.hearing }

-- a copy has the fate of its plan
pub copy_fate : (u : U.Unit) (p : hearing.Plan) → (hearing.copy_by p u).fate ≡ hearing.fate_by p
unfolding hearing.copy_by hearing.fate_by
copy_fate u (Lost f) = refl
copy_fate u (Queue q) = refl
copy_fate u ToControl = refl
copy_fate u ToLoopback = refl

-- 3. a frame handed in to a unit
pub hear_alike : (card : Card) (shelf : Shelf) (memory store : List ℕ) (d : D.Shelf) (rows : ℕ) → sound_of card shelf (length store) rows ≡ true → Alike card shelf memory store d →
    (i : ℕ) → i < length d.units → (f : List ℕ) → length f ≡ 57 →
    ((hearing.done_at shelf i f).reply.answer ≡ Heard (paper.hearing_of d.lines (D.unit_at d i) (heard f)))
    × Alike card (hearing.done_at shelf i f).reply.shelf memory (hearing.store_at shelf i store f) (paper.handed_in d i f)
unfolding paper.handed_in
hear_alike card shelf memory store d rows sound a i here f long =
    let housed : (j : ℕ) → j < length d.units → Housed j (unit_at shelf j) (length store) = λ j k. (sound_housed card shelf (length store) rows sound j (omega (arith, k, a.many))).0 in
    let u = unit_at shelf i in
    let e = D.unit_at d i in
    let x = paper.as_handed f in
    let c = handed_carries f long in (
      ap Heard (copy_fate u (hearing.plan_of u (heard f)) ∙ fate_alike card memory store d.lines i u e (a.units i here) (a.known i here) (heard f) (take 56 f) c.says),
      changed card shelf memory store d a i here (hearing.copy_of u (heard f)).unit (paper.hearing_unit d.lines e x) (hearing.store_at shelf i store f)
          (entries (D.number_of e) (hearing_counts (paper.hearing_of d.lines e (heard f))))
          (copy_alike card memory store d.lines i u e (a.units i here) (a.known i here) (housed i here) x c)
          (copy_knows card memory d.lines u (heard f) (a.known i here))
          (λ j k ne. copy_elsewhere store i j u (unit_at shelf j) (D.unit_at d j) (heard f) (take 56 f) c.whole (housed i here) (housed j k) ne (a.units j k)),
    )
