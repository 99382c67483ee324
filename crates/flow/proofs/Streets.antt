-- Over every sequence of events: each cell in an outlet is a copy of a cell that arrived, was handed in or has moved, or of a frame handed in, that addresses that unit. Assumes nothing.
use Rattle.std.specs.Prelude.{Option, Some, None}
use Prim.Native.Nat.{ℕ, ◌<◌, ◌≤◌}
use native.Mathlib.Omega.{arith}
use mathlib.Core.Path.{◌≡◌, refl, sym, ap, subst, ◌∙◌}
use mathlib.Core.Logic.{◌⊎◌, inr, ⊎_elim}
use mathlib.Core.Bool.{Bool, true, false, cond, ◌&&◌, false≢true}
use mathlib.Core.List.Memᴰ
use mathlib.Core.List.{List, [], ◌∷◌, ◌++◌, map, Memᴰ as In}
use lib.Dec.{eqb, leb}
use lib.ListN.{length, get_or, take, drop}
use lib.Seq.{length-take-le}
use borrow.Author.Tests.{eqb-true, eqb-false, leb-true}
use Rattle.octets.specs.Octets.{two, four}
use Rattle.bus.specs.Frame.{payload, parity, heard, third, carried, returned, delivered}
use Rattle.bus.specs.Routing.{address}
use Rattle.bus.specs.declared.Address as D
use Rattle.bus.specs.declared.Address.TheVariants as says
use Rattle.bus.specs.Heard as frames
use Rattle.bus.specs.declared.Target as T
use Rattle.bus.proofs.Laws.{heard_parity, heard_carried}
use Rattle.bus.proofs.Wire.{carried_cell, carried_returned, length_returned, drop_returned}
use Rattle.outlet.specs.Hearing.{queue_of, too_wide, TooWide}
use Rattle.outlet.proofs.Fates.{wide_iff}
use Rattle.line.specs.declared.Line.{Line}
use Rattle.answer.specs.declared.Hearing as A
use Rattle.answer.specs.declared.Hearing.TheVariants as hearing
use Rattle.answer.specs.Answers.{queued_one}
use Rattle.meaning.proofs.Grown.{decide}
use Rattle.document.specs.Events.{Event, arrive, hear, hand}
use Rattle.document.specs.Shelf.{Cell, Routed, Unit, Shelf, number_of, unit_at, units_of, opened}
use Rattle.document.specs.Arrival.{Way, goes, lost, way_of}
use Rattle.document.specs.Hearing.{OnBus, addressed, fate_in, room_in, hearing_of}
use Rattle.document.specs.Frame.{moving, moved_unit}
use Rattle.document.specs.Steps.{happens_to, becomes}
use Rattle.document.proofs.Fixed.{given_of, given_kept, unit_moved}
use Rattle.flow.specs.Parts.{From, from_inlet, from_control, from_loopback, cell_of, without, Part, rests, arrives, hears, takes, hands, collects, sends, moves, part_of, room_for, brought_by, place_for, handed_by, copy_in, queued_by, control_copy, loopback_copy, controls_by, loopbacks_by, brought_in, handed_at, moved_at, out_by, of_out, data_in, control_in, loopback_in, sent_from, control_from, loopback_from, queued_in, controls_in, loopbacks_in}
use Rattle.flow.specs.Order.{over, queued_all, taken_all, brought_all, sent_all, handed_all, control_sent, moved_all, loopback_sent, control_queued, collected_all, loopback_queued, out_from, InTurn}
use Rattle.flow.specs.Street.{declared_at, Arrived, HandedIn, Turned, MeantFor, CameFrom, by_bus, by_hand, by_processor, HeardFrom, from_processor, from_move, from_hand, Beside, RightStreet, Supplied, by_hand_in, by_frame, BytesStay}
use Rattle.flow.proofs.Turns.{same_address, Because, Handed, Sent, does, in_turn}
use Rattle.flow.proofs.Moves.{moved_by_lem, moved_in, moved_out}
use Rattle.flow.proofs.Kept.{given_at, as_many, four_first, bare, inlet_after, control_after, loopback_after, loopbackout_after, four_after, in_order}
use Rattle.flow.proofs.Bytes.{sent_moved}
use Rattle.flow.proofs.Senders.{out_moved}

-- A. what a queued copy is
pub record Copy (lines : List Line) (u : Unit) (h : frames.Heard) (bytes : List ℕ) (q : ℕ) (c : Cell) : Type 0 where
  pub target : T.Target
  pub class : ℕ
  pub header : ℕ
  pub frame_is : h ≡ frames.Cell target class header
  pub reached : addressed lines u target ≡ true
  pub queue : queue_of u.limits class ≡ q
  pub narrow : TooWide u.settings.link header → ⊥
  pub cell : c ≡ record { header = header; payload = bytes }

-- what is not addressed is not queued
reaches : (b : Bool) (fate : A.Hearing) → queued_one (cond b fate hearing.Other) ≡ 1 → (b ≡ true) × (queued_one fate ≡ 1)
unfolding queued_one
reaches true fate e = (refl, e)
reaches false fate e = absurd (omega arith)

-- nor is what is too wide
fits : (b : Bool) (fate : A.Hearing) → queued_one (cond b hearing.Wide fate) ≡ 1 → b ≡ false
unfolding queued_one
fits true fate e = absurd (omega arith)
fits false fate e = refl

room_for_lem : (u : Unit) (q header : ℕ) → queued_one (fate_in u q header) ≡ 1 → TooWide u.settings.link header → ⊥
unfolding fate_in
room_for_lem u q header e w = false≢true (sym (fits (too_wide u.settings.link header) _ e) ∙ (wide_iff u.settings.link header).1 w)

-- a cell that a hearing puts into a queue
copied : (lines : List Line) (u : Unit) (h : frames.Heard) (bytes : List ℕ) (q : ℕ) (c : Cell) → In c (copy_in lines u h bytes q) → Copy lines u h bytes q c
unfolding copy_in hearing_of
copied lines u frames.Length bytes q c m = absurd (Memᴰ.not-nil m)
copied lines u frames.Damaged bytes q c m = absurd (Memᴰ.not-nil m)
copied lines u (frames.Control unit) bytes q c m = absurd (Memᴰ.not-nil m)
copied lines u (frames.Loopback unit) bytes q c m = absurd (Memᴰ.not-nil m)
copied lines u (frames.Cell target class header) bytes q c m =
    go (eqb (queued_one (hearing_of lines u (frames.Cell target class header))) 1) refl (eqb q (queue_of u.limits class)) refl m
  where
    go : (a : Bool) → eqb (queued_one (hearing_of lines u (frames.Cell target class header))) 1 ≡ a → (b : Bool) → eqb q (queue_of u.limits class) ≡ b → In c (cond (a && b) (record { header = header; payload = bytes } ∷ []) []) → Copy lines u (frames.Cell target class header) bytes q c
    go true x true y m =
        record {
          target = target;
          class = class;
          header = header;
          frame_is = refl;
          reached = (reaches (addressed lines u target) (fate_in u (queue_of u.limits class) header) (eqb-true (queued_one (hearing_of lines u (frames.Cell target class header))) 1 x)).0;
          queue = sym (eqb-true q (queue_of u.limits class) y);
          narrow = room_for_lem u (queue_of u.limits class) header (reaches (addressed lines u target) (fate_in u (queue_of u.limits class) header) (eqb-true (queued_one (hearing_of lines u (frames.Cell target class header))) 1 x)).1;
          cell = Memᴰ.eq_of_singleton m;
        }
    go true x false y m = absurd (Memᴰ.not-nil m)
    go false x b y m = absurd (Memᴰ.not-nil m)

-- and what one is in an outlet beside the queues
abbrev Aside : (ℕ → frames.Heard) → Unit → frames.Heard → List ℕ → List ℕ → Type 0
Aside kind u h bytes b = (h ≡ kind (number_of u)) × (b ≡ bytes)

only_own : (kind : ℕ → frames.Heard) (u : Unit) (unit : ℕ) (fate : A.Hearing) (bytes b : List ℕ) → In b (cond (eqb (queued_one (cond (eqb (number_of u) unit) fate hearing.Other)) 1) (bytes ∷ []) []) → Aside kind u (kind unit) bytes b
unfolding queued_one
only_own kind u unit fate bytes b m = go (eqb (number_of u) unit) refl m
  where
    pick : (t : Bool) → number_of u ≡ unit → In b (cond t (bytes ∷ []) []) → Aside kind u (kind unit) bytes b
    pick true e m = (ap kind (sym e), Memᴰ.eq_of_singleton m)
    pick false e m = absurd (Memᴰ.not-nil m)

    go : (t : Bool) → eqb (number_of u) unit ≡ t → In b (cond (eqb (queued_one (cond t fate hearing.Other)) 1) (bytes ∷ []) []) → Aside kind u (kind unit) bytes b
    go true t m = pick (eqb (queued_one fate) 1) (eqb-true (number_of u) unit t) m
    go false t m = absurd (Memᴰ.not-nil m)

control_copied : (lines : List Line) (u : Unit) (h : frames.Heard) (bytes b : List ℕ) → In b (control_copy lines u h bytes) → Aside frames.Control u h bytes b
unfolding control_copy hearing_of
control_copied lines u frames.Length bytes b m = absurd (Memᴰ.not-nil m)
control_copied lines u frames.Damaged bytes b m = absurd (Memᴰ.not-nil m)
control_copied lines u (frames.Cell target class header) bytes b m = absurd (Memᴰ.not-nil m)
control_copied lines u (frames.Control unit) bytes b m = only_own frames.Control u unit (room_in 4 u.side.controlout) bytes b m
control_copied lines u (frames.Loopback unit) bytes b m = absurd (Memᴰ.not-nil m)

loopback_copied : (lines : List Line) (u : Unit) (h : frames.Heard) (bytes b : List ℕ) → In b (loopback_copy lines u h bytes) → Aside frames.Loopback u h bytes b
unfolding loopback_copy hearing_of
loopback_copied lines u frames.Length bytes b m = absurd (Memᴰ.not-nil m)
loopback_copied lines u frames.Damaged bytes b m = absurd (Memᴰ.not-nil m)
loopback_copied lines u (frames.Cell target class header) bytes b m = absurd (Memᴰ.not-nil m)
loopback_copied lines u (frames.Control unit) bytes b m = absurd (Memᴰ.not-nil m)
loopback_copied lines u (frames.Loopback unit) bytes b m = only_own frames.Loopback u unit (room_in 1 u.side.loopbackout) bytes b m

-- what a frame with a sound parity is heard as
sound : (f : List ℕ) → length f ≡ 57 → (heard f ≡ frames.Damaged → ⊥) → heard f ≡ carried f
sound f whole fine =
    decide (eqb (parity (take 56 f)) (get_or f 56 0)) (λ t. heard_carried f whole (eqb-true (parity (take 56 f)) (get_or f 56 0) t))
    (λ t. absurd (fine (heard_parity f whole (eqb-false (parity (take 56 f)) (get_or f 56 0) t))))

-- a loopback cell names a unit in its first tandem byte
names_one : (c : List ℕ) (n : ℕ) → carried c ≡ frames.Loopback n → get_or c 2 0 ≤ 31
unfolding carried third
names_one c n e = go (address (two c 0)) e
  where
    pick : (unit : ℕ) (low control back b : Bool) → leb (get_or c 2 0) 31 ≡ b →
        cond low (cond control (frames.Control unit) (cond (back && b) (frames.Loopback unit) frames.Damaged)) frames.Damaged ≡ frames.Loopback n → get_or c 2 0 ≤ 31
    pick unit true false true true t e = leb-true (get_or c 2 0) 31 t
    pick unit false control back b t e = let z : ◌≡◌ {A = ℕ} 0 1 = cc in absurd (omega arith)
    pick unit true true back b t e = let z : ◌≡◌ {A = ℕ} 0 1 = cc in absurd (omega arith)
    pick unit true false false b t e = let z : ◌≡◌ {A = ℕ} 0 1 = cc in absurd (omega arith)
    pick unit true false true false t e = let z : ◌≡◌ {A = ℕ} 0 1 = cc in absurd (omega arith)

    go : (a : Option D.Address) → delivered a (get_or c 2 0) (four c 4) ≡ frames.Loopback n → get_or c 2 0 ≤ 31
    go None e = let z : ◌≡◌ {A = ℕ} 0 1 = cc in absurd (omega arith)
    go (Some (says.To target class)) e = let z : ◌≡◌ {A = ℕ} 0 1 = cc in absurd (omega arith)
    go (Some (says.Third class number)) e = pick number (leb number 31) (eqb class 0) (eqb class 1) (leb (get_or c 2 0) 31) refl e

-- B. a loopback cell that has moved, and will be heard as a control cell
pub record Turning (lines : List Line) (es : List Event) (i : ℕ) (c : List ℕ) : Type 0 where
  pub turned : Turned lines es i c
  pub whole : length turned.before ≡ 56
  pub tandem : get_or turned.before 2 0 ≤ 31

turning_as : (lines : List Line) (es : List Event) (i : ℕ) (c : List ℕ) (t : Turning lines es i c) → carried c ≡ frames.Control (get_or t.turned.before 2 0)
turning_as lines es i c t = ap carried t.turned.bytes ∙ carried_returned t.turned.before t.whole t.tandem

turning_length : (lines : List Line) (es : List Event) (i : ℕ) (c : List ℕ) (t : Turning lines es i c) → length c ≡ 56
turning_length lines es i c t = ap length t.turned.bytes ∙ length_returned t.turned.before (omega (arith, t.whole)) ∙ t.whole

-- a cell of that outlet that moves
turns : (lines : List Line) (es : List Event) (i : ℕ) (b : List ℕ) → Beside lines es i frames.Loopback b → In b (moved_all (opened lines) es i) → Turning lines es i (returned b)
turns lines es i b k m = record { turned = record { before = b; moved_there = m; bytes = refl }; whole = k.whole; tandem = names_one b _ k.kind_is }

-- what is in a list made anew
in_map : {A B : Type 0} (f : A → B) (xs : List A) (y : B) → In y (map f xs) → (x : A) × In x xs × (y ≡ f x)
in_map f [] y m = absurd (Memᴰ.not-nil m)
in_map f (x ∷ xs) y (In.head e) = (x, In.head refl, e)
in_map f (x ∷ xs) y (In.tail m) = let w = in_map f xs y m in (w.0, In.tail w.1, w.2)

-- a shelf on the way: its lines and units are those of the lines; what waits at its units arrived, was handed in or moved in these events; what stands in a loopback outlet is such a
-- cell, for that unit
pub record On (lines : List Line) (es : List Event) (d : Shelf) : Type 0 where
  pub lines_are : d.lines ≡ lines
  pub many : length d.units ≡ length (units_of lines)
  pub given : (i : ℕ) → given_of (unit_at d i) ≡ given_of (declared_at lines i)
  pub four : (i : ℕ) → i < length d.units → length (unit_at d i).queues ≡ 4
  pub waiting : (i : ℕ) → i < length d.units → (r : Routed) → In r (unit_at d i).inlet → Arrived lines es i r
  pub handed : (i : ℕ) → i < length d.units → (c : List ℕ) → In c (unit_at d i).side.controlin → HandedIn lines es i c
  pub turned : (i : ℕ) → i < length d.units → (c : List ℕ) → In c (unit_at d i).side.loopbackin → Turning lines es i c
  pub loops : (i : ℕ) → i < length d.units → (b : List ℕ) → In b (unit_at d i).side.loopbackout → Beside lines es i frames.Loopback b

-- what an event sends and moves is sent and moved in these events
pub record Here (lines : List Line) (es : List Event) (d : Shelf) (e : Event) : Type 0 where
  pub event : In e es
  pub data_sent : (j : ℕ) (r : Routed) → In r (sent_from d e j) → In r (sent_all (opened lines) es j)
  pub control_sent_lem : (j : ℕ) (c : List ℕ) → In c (control_from d e j) → In c (control_sent (opened lines) es j)
  pub loopback_sent_lem : (j : ℕ) (c : List ℕ) → In c (loopback_from d e j) → In c (loopback_sent (opened lines) es j)
  pub moved_here : (j : ℕ) (c : List ℕ) → In c (moved_at d e j) → In c (moved_all (opened lines) es j)

-- what is routed in, is on its way
in_room : (w : Way) (u : Unit) (r : Routed) → In r (room_for w u) → w ≡ goes r
unfolding room_for
in_room (lost fate) u r m = absurd (Memᴰ.not-nil m)
in_room (goes s) u r m = go (leb 4 (length u.inlet)) m
  where
    go : (b : Bool) → In r (cond b [] (s ∷ [])) → goes s ≡ goes r
    go true m = absurd (Memᴰ.not-nil m)
    go false m = ap goes (sym (Memᴰ.eq_of_singleton m))

-- what is handed in, is that cell
in_place : (cells : List (List ℕ)) (c b : List ℕ) → In b (place_for cells c) → b ≡ c
unfolding place_for
in_place [] c b m = Memᴰ.eq_of_singleton m
in_place (x ∷ others) c b m = absurd (Memᴰ.not-nil m)

given_without : (f : From) (u : Unit) → given_of (without f u) ≡ given_of u
unfolding without
given_without (from_inlet r rest) u = refl
given_without (from_control c rest) u = refl
given_without (from_loopback c rest) u = refl

module _ (lines : List Line) (es : List Event) (d : Shelf) (on : On lines es d) (e : Event) (here : Here lines es d e) (i : ℕ) (within : i < length d.units) where
  abbrev u : Unit
  u = unit_at d i

  -- its number is that of its line
  number : number_of u ≡ number_of (declared_at lines i)
  number = ap (λ g. g.settings.number) (on.given i)

  -- what comes into an inlet has arrived there
  brought_from : (v : Unit) → given_of v ≡ given_of u → (p : Part) → Because d e i p → (r : Routed) → In r (brought_by d.lines v p) → Arrived lines es i r
  unfolding brought_by
  brought_from v same rests w r m = absurd (Memᴰ.not-nil m)
  brought_from v same (arrives c) w r m =
      record {
        bytes = c;
        whole = w.1;
        event = Memᴰ.cast (ap (λ n. arrive n c) (sym number) ∙ sym w.0) here.event;
        way = sym (λ t. way_of (on.lines_are t) ((same ∙ on.given i) t).settings c) ∙ in_room (way_of d.lines v.settings c) v r m;
      }
  brought_from v same (hears x) w r m = absurd (Memᴰ.not-nil m)
  brought_from v same takes w r m = absurd (Memᴰ.not-nil m)
  brought_from v same (hands c) w r m = absurd (Memᴰ.not-nil m)
  brought_from v same collects w r m = absurd (Memᴰ.not-nil m)
  brought_from v same (sends f) w r m = absurd (Memᴰ.not-nil m)
  brought_from v same (moves p) w r m = brought_from (moved_unit v) (unit_moved v ∙ same) p w r m

  -- what comes into the place of a control cell was handed in there
  handed_from : (v : Unit) (p : Part) → Because d e i p → (c : List ℕ) → In c (handed_by v p) → HandedIn lines es i c
  unfolding handed_by
  handed_from v rests w c m = absurd (Memᴰ.not-nil m)
  handed_from v (arrives x) w c m = absurd (Memᴰ.not-nil m)
  handed_from v (hears x) w c m = absurd (Memᴰ.not-nil m)
  handed_from v takes w c m = absurd (Memᴰ.not-nil m)
  handed_from v (hands x) w c m =
      let same = in_place v.side.controlin x c m in
      record {
        whole = ap length same ∙ w.1;
        event = Memᴰ.cast (ap (λ n. hand n c) (sym number) ∙ ap (λ y. hand (number_of u) y) same ∙ sym w.0) here.event;
      }
  handed_from v collects w c m = absurd (Memᴰ.not-nil m)
  handed_from v (sends f) w c m = absurd (Memᴰ.not-nil m)
  handed_from v (moves p) w c m = handed_from (moved_unit v) p w c m

  -- a copy reaches whom the target addresses
  reached : (v : Unit) (h : frames.Heard) (bytes : List ℕ) (q : ℕ) (c : Cell) → given_of v ≡ given_of u → (k : Copy d.lines v h bytes q c) → MeantFor lines i q k.target k.class k.header
  reached v h bytes q c same k =
      record {
        addresses = sym (ap (λ l. addressed l v k.target) on.lines_are ∙ same_address lines v (declared_at lines i) k.target (ap (λ g. g.settings.number) same ∙ number)) ∙ k.reached;
        queue = sym (ap (λ g. queue_of g.limits k.class) (same ∙ on.given i)) ∙ k.queue;
        narrow = subst (λ g. TooWide g.settings.link k.header → ⊥) (same ∙ on.given i) k.narrow;
      }

  -- where a cell that was sent came from
  sent_arrived : (s : ℕ) → s < length d.units → (r : Routed) (rest : List Routed) → InTurn (moved_unit (unit_at d s)) (from_inlet r rest) → Arrived lines es s r
  sent_arrived s inside r rest turn =
      on.waiting s inside r (subst (λ rs. In r rs) (sym (sym (moved_by_lem (λ v. v.inlet) (unit_at d s) (λ back out. refl)) ∙ turn)) (In.head refl))

  sent_handed : (s : ℕ) → s < length d.units → (c : List ℕ) (rest : List (List ℕ)) → InTurn (moved_unit (unit_at d s)) (from_control c rest) → HandedIn lines es s c
  sent_handed s inside c rest turn =
      on.handed s inside c (subst (λ cs. In c cs) (sym (sym (moved_by_lem (λ v. v.side.controlin) (unit_at d s) (λ back out. refl)) ∙ turn.1)) (In.head refl))

  sent_turned : (s : ℕ) → s < length d.units → (c : List ℕ) (rest : List (List ℕ)) → InTurn (moved_unit (unit_at d s)) (from_loopback c rest) → out_from d e s ≡ Some (from_loopback c rest) → Turning lines es s c
  sent_turned s inside c rest turn left =
      let v = unit_at d s in
      ⊎_elim (on.turned s inside c)
      (λ m.
      let w = in_map returned (moving v) c m in
      let now = subst (λ cs. In w.0 cs) (sym (out_moved d e s (from_loopback c rest) left)) w.1 in
      let held = subst (λ cs. In w.0 cs) (sym (moved_out v)) (Memᴰ.append_left (moved_unit v).side.loopbackout w.1) in
      subst (Turning lines es s) (sym w.2) (turns lines es s w.0 (on.loops s inside w.0 held) (here.moved_here s w.0 now)))
      (Memᴰ.append_cases v.side.loopbackin (subst (λ cs. In c cs) (sym (moved_in v ∙ turn.2)) (In.head refl)))

  -- a copy of a cell that was sent
  from_bus : (v : Unit) (x : OnBus) (q : ℕ) (c : Cell) → given_of v ≡ given_of u → Copy d.lines v x.heard x.payload q c → Sent d e x → CameFrom lines es i q c
  unfolding cell_of of_out data_in control_in
  from_bus v x q c same k s = go s.f s.turn s.left s.cell_is
    where
      go : (f : From) → InTurn (moved_unit (unit_at d s.place)) f → out_from d e s.place ≡ Some f → x ≡ cell_of f → CameFrom lines es i q c
      go (from_inlet r rest) turn left is =
          let y : frames.Cell r.target r.class r.cell.header ≡ frames.Cell k.target k.class k.header = sym (ap (λ o. o.heard) is) ∙ k.frame_is in
          let t : r.target ≡ k.target = cc in
          let l : r.class ≡ k.class = cc in
          let m : r.cell.header ≡ k.header = cc in
          let b = reached v x.heard x.payload q c same k in
          by_bus s.place r (omega (arith, s.inside, on.many)) (sent_arrived s.place s.inside r rest turn)
          (here.data_sent s.place r (subst (λ o. In r (of_out data_in o)) (sym left) (In.head refl)))
          (record {
            addresses = ap (addressed lines (declared_at lines i)) t ∙ b.addresses;
            queue = ap (queue_of (declared_at lines i).limits) l ∙ b.queue;
            narrow = subst (λ n. TooWide (declared_at lines i).settings.link n → ⊥) (sym m) b.narrow;
          })
          (k.cell ∙ (λ j. record { header = sym m j; payload = (is j).payload }))
      go (from_control b rest) turn left is =
          by_processor s.place b k.target k.class k.header (omega (arith, s.inside, on.many)) (sent_handed s.place s.inside b rest turn)
          (here.control_sent_lem s.place b (subst (λ o. In b (of_out control_in o)) (sym left) (In.head refl)))
          (sym (ap (λ o. o.heard) is) ∙ k.frame_is) (reached v x.heard x.payload q c same k) (k.cell ∙ (λ j. record { header = k.header; payload = (is j).payload }))
      go (from_loopback b rest) turn left is =
          let t = sent_turned s.place s.inside b rest turn left in
          let y : frames.Control (get_or t.turned.before 2 0) ≡ frames.Cell k.target k.class k.header = sym (turning_as lines es s.place b t) ∙ sym (ap (λ o. o.heard) is) ∙ k.frame_is in
          let z : ◌≡◌ {A = ℕ} 0 1 = cc in
          absurd (omega arith)

  -- a copy of a frame that was handed in
  of_hand : (x : OnBus) (q : ℕ) (c : Cell) (v : Unit) → given_of v ≡ given_of u → Copy d.lines v x.heard x.payload q c → Handed d e i x → CameFrom lines es i q c
  of_hand x q c v same k s =
      by_hand s.f k.target k.class k.header
      (Memᴰ.cast (ap (λ n. hear n s.f) (sym number) ∙ sym s.event) here.event)
      (sym (ap (λ o. o.heard) s.cell_is) ∙ k.frame_is) (reached v x.heard x.payload q c same k)
      (k.cell ∙ (λ j. record { header = k.header; payload = (s.cell_is j).payload }))

  -- who sends, sends in its turn
  own : (f : From) → out_from d e i ≡ Some f → Sent d e (cell_of f)
  own f left = record { place = i; inside = within; f = f; turn = in_turn (moved_unit u) f (sent_moved d e i f left); left = left; cell_is = refl }

  -- what comes into a queue is one or the other
  queued_from : (v : Unit) → given_of v ≡ given_of u → (p : Part) → out_from d e i ≡ out_by p → Because d e i p → (q : ℕ) (c : Cell) → In c (queued_by d.lines v p q) → CameFrom lines es i q c
  unfolding queued_by out_by
  queued_from v same rests is w q c m = absurd (Memᴰ.not-nil m)
  queued_from v same (arrives x) is w q c m = absurd (Memᴰ.not-nil m)
  queued_from v same (hears x) is w q c m =
      let k = copied d.lines v x.heard x.payload q c m in
      ⊎_elim (of_hand x q c v same k) (from_bus v x q c same k) w
  queued_from v same takes is w q c m = absurd (Memᴰ.not-nil m)
  queued_from v same (hands x) is w q c m = absurd (Memᴰ.not-nil m)
  queued_from v same collects is w q c m = absurd (Memᴰ.not-nil m)
  queued_from v same (sends f) is w q c m =
      let v' = without f v in
      from_bus v' (cell_of f) q c (given_without f v ∙ same) (copied d.lines v' (cell_of f).heard (cell_of f).payload q c m) (own f is)
  queued_from v same (moves p) is w q c m = queued_from (moved_unit v) (unit_moved v ∙ same) p is w q c m

  -- a cell in an outlet beside the queues
  module _ (kind : ℕ → frames.Heard) (fine : (n : ℕ) → kind n ≡ frames.Damaged → ⊥) (no_data : (n : ℕ) (target : T.Target) (class header : ℕ) → kind n ≡ frames.Cell target class header → ⊥) where
    aside_hand : (x : OnBus) → x.heard ≡ kind (number_of (declared_at lines i)) → Handed d e i x → Beside lines es i kind x.bytes
    aside_hand x is s =
        let f = s.f in
        let h : heard f ≡ kind (number_of (declared_at lines i)) = sym (ap (λ o. o.heard) s.cell_is) ∙ is in
        let c : heard f ≡ carried f = sound f s.whole (λ z. fine (number_of (declared_at lines i)) (sym h ∙ z)) in
        let b = ap (λ o. o.bytes) s.cell_is in
        record {
          whole = ap length b ∙ length-take-le 56 f (omega (arith, s.whole));
          kind_is = ap carried b ∙ carried_cell f s.whole ∙ sym c ∙ h;
          origin = from_hand f s.whole (Memᴰ.cast (ap (λ n. hear n f) (sym number) ∙ sym s.event) here.event) b;
        }

    aside_bus : (x : OnBus) → x.heard ≡ kind (number_of (declared_at lines i)) → Sent d e x → Beside lines es i kind x.bytes
    unfolding cell_of of_out control_in loopback_in
    aside_bus x is s = go s.f s.turn s.left s.cell_is
      where
        go : (f : From) → InTurn (moved_unit (unit_at d s.place)) f → out_from d e s.place ≡ Some f → x ≡ cell_of f → Beside lines es i kind x.bytes
        go (from_inlet r rest) turn left same = absurd (no_data (number_of (declared_at lines i)) r.target r.class r.cell.header (sym is ∙ ap (λ o. o.heard) same))
        go (from_control b rest) turn left same =
            let h = sent_handed s.place s.inside b rest turn in
            subst (Beside lines es i kind) (sym (ap (λ o. o.bytes) same))
            (record {
              whole = h.whole;
              kind_is = sym (ap (λ o. o.heard) same) ∙ is;
              origin = from_processor s.place (omega (arith, s.inside, on.many)) h (here.control_sent_lem s.place b (subst (λ o. In b (of_out control_in o)) (sym left) (In.head refl)));
            })
        go (from_loopback b rest) turn left same =
            let t = sent_turned s.place s.inside b rest turn left in
            subst (Beside lines es i kind) (sym (ap (λ o. o.bytes) same))
            (record {
              whole = turning_length lines es s.place b t;
              kind_is = sym (ap (λ o. o.heard) same) ∙ is;
              origin = from_move s.place (omega (arith, s.inside, on.many)) t.turned (here.loopback_sent_lem s.place b (subst (λ o. In b (of_out loopback_in o)) (sym left) (In.head refl)));
            })

    -- whatever the part
    aside_from : (copies : List Line → Unit → frames.Heard → List ℕ → List (List ℕ)) → ((v : Unit) (h : frames.Heard) (bytes b : List ℕ) → In b (copies d.lines v h bytes) → Aside kind v h bytes b) → (v : Unit) → given_of v ≡ given_of u → (x : OnBus) → Handed d e i x ⊎ Sent d e x → (b : List ℕ) → In b (copies d.lines v x.heard x.bytes) → Beside lines es i kind b
    aside_from copies one v same x w b m =
        let k = one v x.heard x.bytes b m in
        let is : x.heard ≡ kind (number_of (declared_at lines i)) = k.0 ∙ ap (λ (g : _). kind g.settings.number) (same ∙ on.given i) in
        subst (Beside lines es i kind) (sym k.1) (⊎_elim (aside_hand x is) (aside_bus x is) w)

  by_control : (v : Unit) → given_of v ≡ given_of u → (x : OnBus) → Handed d e i x ⊎ Sent d e x → (b : List ℕ) → In b (control_copy d.lines v x.heard x.bytes) → Beside lines es i frames.Control b
  by_control = aside_from frames.Control (λ n z. let y : ◌≡◌ {A = ℕ} 0 1 = cc in omega arith) (λ n t l k z. let y : ◌≡◌ {A = ℕ} 0 1 = cc in omega arith) control_copy (control_copied d.lines)

  by_loopback : (v : Unit) → given_of v ≡ given_of u → (x : OnBus) → Handed d e i x ⊎ Sent d e x → (b : List ℕ) → In b (loopback_copy d.lines v x.heard x.bytes) → Beside lines es i frames.Loopback b
  by_loopback = aside_from frames.Loopback (λ n z. let y : ◌≡◌ {A = ℕ} 0 1 = cc in omega arith) (λ n t l k z. let y : ◌≡◌ {A = ℕ} 0 1 = cc in omega arith) loopback_copy (loopback_copied d.lines)

  controls_from : (v : Unit) → given_of v ≡ given_of u → (p : Part) → out_from d e i ≡ out_by p → Because d e i p → (b : List ℕ) → In b (controls_by d.lines v p) → Beside lines es i frames.Control b
  unfolding controls_by out_by
  controls_from v same rests is w b m = absurd (Memᴰ.not-nil m)
  controls_from v same (arrives x) is w b m = absurd (Memᴰ.not-nil m)
  controls_from v same (hears x) is w b m = by_control v same x w b m
  controls_from v same takes is w b m = absurd (Memᴰ.not-nil m)
  controls_from v same (hands x) is w b m = absurd (Memᴰ.not-nil m)
  controls_from v same collects is w b m = absurd (Memᴰ.not-nil m)
  controls_from v same (sends f) is w b m = by_control (without f v) (given_without f v ∙ same) (cell_of f) (inr (own f is)) b m
  controls_from v same (moves p) is w b m = controls_from (moved_unit v) (unit_moved v ∙ same) p is w b m

  loopbacks_from : (v : Unit) → given_of v ≡ given_of u → (p : Part) → out_from d e i ≡ out_by p → Because d e i p → (b : List ℕ) → In b (loopbacks_by d.lines v p) → Beside lines es i frames.Loopback b
  unfolding loopbacks_by out_by
  loopbacks_from v same rests is w b m = absurd (Memᴰ.not-nil m)
  loopbacks_from v same (arrives x) is w b m = absurd (Memᴰ.not-nil m)
  loopbacks_from v same (hears x) is w b m = by_loopback v same x w b m
  loopbacks_from v same takes is w b m = absurd (Memᴰ.not-nil m)
  loopbacks_from v same (hands x) is w b m = absurd (Memᴰ.not-nil m)
  loopbacks_from v same collects is w b m = absurd (Memᴰ.not-nil m)
  loopbacks_from v same (sends f) is w b m = by_loopback (without f v) (given_without f v ∙ same) (cell_of f) (inr (own f is)) b m
  loopbacks_from v same (moves p) is w b m = loopbacks_from (moved_unit v) (unit_moved v ∙ same) p is w b m

  -- so of an event
  pub brought_in_lem : (r : Routed) → In r (brought_in d e i) → Arrived lines es i r
  brought_in_lem r m = brought_from u refl (part_of d e i) (does d e i within).because r m

  pub handed_in : (c : List ℕ) → In c (handed_at d e i) → HandedIn lines es i c
  handed_in c m = handed_from u (part_of d e i) (does d e i within).because c m

  -- of a queue and of the outlets beside them
  pub queued_in_lem : (q : ℕ) (c : Cell) → In c (queued_in d e i q) → CameFrom lines es i q c
  queued_in_lem q c m = queued_from u refl (part_of d e i) refl (does d e i within).because q c m

  pub controls_in_lem : (b : List ℕ) → In b (controls_in d e i) → Beside lines es i frames.Control b
  controls_in_lem b m = controls_from u refl (part_of d e i) refl (does d e i within).because b m

  pub loopbacks_in_lem : (b : List ℕ) → In b (loopbacks_in d e i) → Beside lines es i frames.Loopback b
  loopbacks_in_lem b m = loopbacks_from u refl (part_of d e i) refl (does d e i within).because b m

  -- and of what moves
  pub moved_aside : (b : List ℕ) → In b (moved_at d e i) → Beside lines es i frames.Loopback b
  moved_aside b m =
      ⊎_elim (on.loops i within b) (loopbacks_in_lem b)
      (Memᴰ.append_cases u.side.loopbackout (subst (λ cs. In b cs) (sym (loopbackout_after d e i within)) (Memᴰ.append_left (unit_at (happens_to d e).shelf i).side.loopbackout m)))

  -- what waits afterwards has waited or came in
  waits : (r : Routed) → In r (unit_at (happens_to d e).shelf i).inlet → Arrived lines es i r
  waits r m =
      ⊎_elim (on.waiting i within r) (brought_in_lem r)
      (Memᴰ.append_cases u.inlet (subst (λ rs. In r rs) (sym (inlet_after d e i within)) (Memᴰ.append_right (sent_from d e i) m)))

  waits_control : (c : List ℕ) → In c (unit_at (happens_to d e).shelf i).side.controlin → HandedIn lines es i c
  waits_control c m =
      ⊎_elim (on.handed i within c) (handed_in c)
      (Memᴰ.append_cases u.side.controlin (subst (λ cs. In c cs) (sym (control_after d e i within)) (Memᴰ.append_right (control_from d e i) m)))

  waits_loopback : (c : List ℕ) → In c (unit_at (happens_to d e).shelf i).side.loopbackin → Turning lines es i c
  waits_loopback c m =
      ⊎_elim (on.turned i within c)
      (λ k. let w = in_map returned (moved_at d e i) c k in subst (Turning lines es i) (sym w.2) (turns lines es i w.0 (moved_aside w.0 w.1) (here.moved_here i w.0 w.1)))
      (Memᴰ.append_cases u.side.loopbackin (subst (λ cs. In c cs) (sym (loopback_after d e i within)) (Memᴰ.append_right (loopback_from d e i) m)))

  stands : (b : List ℕ) → In b (unit_at (happens_to d e).shelf i).side.loopbackout → Beside lines es i frames.Loopback b
  stands b m =
      ⊎_elim (on.loops i within b) (loopbacks_in_lem b)
      (Memᴰ.append_cases u.side.loopbackout (subst (λ cs. In b cs) (sym (loopbackout_after d e i within)) (Memᴰ.append_right (moved_at d e i) m)))

-- C. every sequence, of which each event is in these, and what it sends and moves
module _ (lines : List Line) (all : List Event) where
  abbrev start : Shelf
  start = opened lines

  pub record Rest (d : Shelf) (es : List Event) : Type 0 where
    pub events : (e : Event) → In e es → In e all
    pub data_sent : (j : ℕ) (r : Routed) → In r (sent_all d es j) → In r (sent_all (opened lines) all j)
    pub control_sent_lem : (j : ℕ) (c : List ℕ) → In c (control_sent d es j) → In c (control_sent (opened lines) all j)
    pub loopback_sent_lem : (j : ℕ) (c : List ℕ) → In c (loopback_sent d es j) → In c (loopback_sent (opened lines) all j)
    pub moved_there : (j : ℕ) (c : List ℕ) → In c (moved_all d es j) → In c (moved_all (opened lines) all j)

  first : (d : Shelf) (e : Event) (es : List Event) → Rest d (e ∷ es) → Here lines all d e
  unfolding over
  first d e es r =
      let d' = (happens_to d e).shelf in
      record {
        event = r.events e (In.head refl);
        data_sent = λ j x m. r.data_sent j x (Memᴰ.append_left (sent_all d' es j) m);
        control_sent_lem = λ j x m. r.control_sent_lem j x (Memᴰ.append_left (control_sent d' es j) m);
        loopback_sent_lem = λ j x m. r.loopback_sent_lem j x (Memᴰ.append_left (loopback_sent d' es j) m);
        moved_here = λ j x m. r.moved_there j x (Memᴰ.append_left (moved_all d' es j) m);
      }

  later : (d : Shelf) (e : Event) (es : List Event) → Rest d (e ∷ es) → Rest (happens_to d e).shelf es
  unfolding over
  later d e es r =
      record {
        events = λ x m. r.events x (In.tail m);
        data_sent = λ j x m. r.data_sent j x (Memᴰ.append_right (sent_from d e j) m);
        control_sent_lem = λ j x m. r.control_sent_lem j x (Memᴰ.append_right (control_from d e j) m);
        loopback_sent_lem = λ j x m. r.loopback_sent_lem j x (Memᴰ.append_right (loopback_from d e j) m);
        moved_there = λ j x m. r.moved_there j x (Memᴰ.append_right (moved_at d e j) m);
      }

  on_after : (d : Shelf) → On lines all d → (e : Event) → Here lines all d e → 0 < length d.units → On lines all (happens_to d e).shelf
  on_after d on e here any =
      let d' = (happens_to d e).shelf in
      let l = as_many d d' (given_kept d e) in
      record {
        lines_are = (does d e 0 any).lines ∙ on.lines_are;
        many = l ∙ on.many;
        given = λ i. given_at d d' (given_kept d e) i ∙ on.given i;
        four = λ i h. four_after d e i (omega arith) (on.four i (omega arith));
        waiting = λ i h. waits lines all d on e here i (omega arith);
        handed = λ i h. waits_control lines all d on e here i (omega arith);
        turned = λ i h. waits_loopback lines all d on e here i (omega arith);
        loops = λ i h. stands lines all d on e here i (omega arith);
      }

  -- what each event brings is such, so what all bring
  module _ (i : ℕ) {A : Type 0} (f : Shelf → Event → List A) (P : A → Type 0) (one : (d : Shelf) → On lines all d → (e : Event) → Here lines all d e → i < length d.units → (a : A) → In a (f d e) → P a) where
    all_such : (d : Shelf) → On lines all d → i < length d.units → (es : List Event) → Rest d es → (a : A) → In a (over f d es) → P a
    unfolding over
    all_such d on within [] rest a m = absurd (Memᴰ.not-nil m)
    all_such d on within (e ∷ es) rest a m =
        let l = as_many d (happens_to d e).shelf (given_kept d e) in
        let here = first d e es rest in
        ⊎_elim (one d on e here within a) (all_such (happens_to d e).shelf (on_after d on e here (omega arith)) (omega arith) es (later d e es rest) a)
        (Memᴰ.append_cases (f d e) m)

  -- it begins so
  on_first : On lines all (opened lines)
  on_first =
      record {
        lines_are = refl;
        many = refl;
        given = λ i. refl;
        four = λ i h. four_first lines i;
        waiting = λ i h r m. absurd (Memᴰ.not-nil (subst (λ rs. In r rs) (bare lines i).0 m));
        handed = λ i h c m. absurd (Memᴰ.not-nil (subst (λ s. In c s.controlin) (bare lines i).2 m));
        turned = λ i h c m. absurd (Memᴰ.not-nil (subst (λ s. In c s.loopbackin) (bare lines i).2 m));
        loops = λ i h c m. absurd (Memᴰ.not-nil (subst (λ s. In c s.loopbackout) (bare lines i).2 m));
      }

  rest_first : Rest (opened lines) all
  rest_first = record { events = λ e m. m; data_sent = λ j x m. m; control_sent_lem = λ j x m. m; loopback_sent_lem = λ j x m. m; moved_there = λ j x m. m }

-- what left and what is there is what came
module _ (lines : List Line) (es : List Event) (i : ℕ) (within : i < length (units_of lines)) where
  abbrev such : {A : Type 0} (f : Shelf → Event → List A) (P : A → Type 0) → ((d : Shelf) → On lines es d → (e : Event) → Here lines es d e → i < length d.units → (a : A) → In a (f d e) → P a) → (a : A) → In a (over f (opened lines) es) → P a
  such f P one = all_such lines es i f P one (opened lines) (on_first lines es) within es (rest_first lines es)

  all_queued : (q : ℕ) (c : Cell) → In c (queued_all (opened lines) es i q) → CameFrom lines es i q c
  all_queued q = such (λ d e. queued_in d e i q) (CameFrom lines es i q) (λ d on e here h. queued_in_lem lines es d on e here i h q)

  all_brought : (r : Routed) → In r (brought_all (opened lines) es i) → Arrived lines es i r
  all_brought = such (λ d e. brought_in d e i) (Arrived lines es i) (λ d on e here h. brought_in_lem lines es d on e here i h)

  all_handed : (c : List ℕ) → In c (handed_all (opened lines) es i) → HandedIn lines es i c
  all_handed = such (λ d e. handed_at d e i) (HandedIn lines es i) (λ d on e here h. handed_in lines es d on e here i h)

  all_controls : (b : List ℕ) → In b (control_queued (opened lines) es i) → Beside lines es i frames.Control b
  all_controls = such (λ d e. controls_in d e i) (Beside lines es i frames.Control) (λ d on e here h. controls_in_lem lines es d on e here i h)

  all_loopbacks : (b : List ℕ) → In b (loopback_queued (opened lines) es i) → Beside lines es i frames.Loopback b
  all_loopbacks = such (λ d e. loopbacks_in d e i) (Beside lines es i frames.Loopback) (λ d on e here h. loopbacks_in_lem lines es d on e here i h)

-- what is in the first of two lists that make a third, or in the second
module _ {A : Type 0} (P : A → Type 0) (whole left right : List A) (e : whole ≡ left ++ right) (each : (a : A) → In a whole → P a) where
  of_left : (a : A) → In a left → P a
  of_left a m = each a (subst (λ l. In a l) (sym e) (Memᴰ.append_left right m))

  of_right : (a : A) → In a right → P a
  of_right a m = each a (subst (λ l. In a l) (sym e) (Memᴰ.append_right left m))

all_turned : (lines : List Line) (es : List Event) (i : ℕ) (c : List ℕ) → In c (map returned (moved_all (opened lines) es i)) → Turned lines es i c
all_turned lines es i c m = let w = in_map returned (moved_all (opened lines) es i) c m in record { before = w.0; moved_there = w.1; bytes = w.2 }

pub right_street : RightStreet
right_street lines es i within =
    let o = in_order lines es i within in
    record {
      held = λ q. of_right (CameFrom lines es i q) _ (taken_all (opened lines) es i q) _ (o.queues q) (all_queued lines es i within q);
      taken = λ q. of_left (CameFrom lines es i q) _ (taken_all (opened lines) es i q) _ (o.queues q) (all_queued lines es i within q);
      waiting = of_right (Arrived lines es i) _ (sent_all (opened lines) es i) _ o.inlet (all_brought lines es i within);
      sent = of_left (Arrived lines es i) _ (sent_all (opened lines) es i) _ o.inlet (all_brought lines es i within);
      control_held = of_right (Beside lines es i frames.Control) _ (collected_all (opened lines) es i) _ o.controlout (all_controls lines es i within);
      collected = of_left (Beside lines es i frames.Control) _ (collected_all (opened lines) es i) _ o.controlout (all_controls lines es i within);
      loopback_held = of_right (Beside lines es i frames.Loopback) _ (moved_all (opened lines) es i) _ o.loopbackout (all_loopbacks lines es i within);
      turned = of_left (Beside lines es i frames.Loopback) _ (moved_all (opened lines) es i) _ o.loopbackout (all_loopbacks lines es i within);
      control_sent_lem = of_left (HandedIn lines es i) _ (control_sent (opened lines) es i) _ o.controlin (all_handed lines es i within);
      loopback_sent_lem = of_left (Turned lines es i) _ (loopback_sent (opened lines) es i) _ o.loopbackin (all_turned lines es i);
    }

-- what waits, of the two that wait beside the inlet
pub control_waits : (lines : List Line) (es : List Event) (i : ℕ) → i < length (units_of lines) → (c : List ℕ) → In c (unit_at (becomes (opened lines) es) i).side.controlin → HandedIn lines es i c
control_waits lines es i within = of_right (HandedIn lines es i) _ (control_sent (opened lines) es i) _ (in_order lines es i within).controlin (all_handed lines es i within)

pub loopback_waits : (lines : List Line) (es : List Event) (i : ℕ) → i < length (units_of lines) → (c : List ℕ) → In c (unit_at (becomes (opened lines) es) i).side.loopbackin → Turned lines es i c
loopback_waits lines es i within = of_right (Turned lines es i) _ (loopback_sent (opened lines) es i) _ (in_order lines es i within).loopbackin (all_turned lines es i)

-- D. bytes 2 to 55 stay: those of a cell that moved are those of one that its unit heard, and that was no moved one
pub bytes_stay : BytesStay
bytes_stay lines es i within b m = let k = (right_street lines es i within).collected b m in (k.kind_is, from_any k.origin)
  where
    loop : (place : ℕ) → place < length (units_of lines) → (c : List ℕ) → Beside lines es place frames.Loopback c → Supplied lines es (drop 2 c)
    loop place inside c k = go k.origin
      where
        go : HeardFrom lines es place c → Supplied lines es (drop 2 c)
        go (from_processor p h x s) = by_hand_in p c h x refl
        go (from_move p h x s) =
            let y = (right_street lines es p h).turned x.before x.moved_there in
            let z = sym (carried_returned x.before y.whole (names_one x.before _ y.kind_is)) ∙ sym (ap carried x.bytes) ∙ k.kind_is in
            let w : ◌≡◌ {A = ℕ} 0 1 = cc in
            absurd (omega arith)
        go (from_hand f whole event e) = by_frame place f inside event (ap (drop 2) e)

    from_any : HeardFrom lines es i b → Supplied lines es (drop 2 b)
    from_any (from_processor p h x s) = by_hand_in p b h x refl
    from_any (from_move p h x s) =
        let y = (right_street lines es p h).turned x.before x.moved_there in
        subst (Supplied lines es) (sym (ap (drop 2) x.bytes ∙ drop_returned x.before)) (loop p h x.before y)
    from_any (from_hand f whole event e) = by_frame i f within event (ap (drop 2) e)
