-- Over every sequence of events: nothing is lost without a counter, and all leaves in the order in which it came. Assumes nothing.
use Prim.Native.Nat.{ℕ, zero, suc, ◌+◌, ◌<◌}
use native.Mathlib.Omega.{arith}
use mathlib.Core.Path.{◌≡◌, refl, sym, ap, ◌∙◌}
use mathlib.Core.List.{List, [], ◌∷◌, ◌++◌, append-nil, append_assoc, map}
use lib.ListN.{length, get_or, length-map, length-append, get_or-map}
use Rattle.bus.specs.Frame.{returned}
use Rattle.line.specs.declared.Line.{Line}
use Rattle.line.specs.declared.Line.TheVariants.{Bus, Unit as L-as-Unit, Vp, Drop, Page, Vc, Mc}
use Rattle.document.specs.Events.{Event}
use Rattle.paper.specs.Counters.{Counter, arrived, hec, ignored, misrouted, inletfull, sent, queued, full, clp, wide, taken, place_of, occurs}
use Rattle.document.specs.Counters.{times}
use Rattle.document.specs.Shelf.{Cell, Unit, Shelf, in_all, number_of, queue_at, empty_side, blank, unit_at, units_by, units_of, opened}
use Rattle.document.specs.Steps.{happens_to, becomes}
use Rattle.document.proofs.Fixed.{given_of, given, given_kept}
use Rattle.flow.specs.Parts.{part_of, counted_at, arrived_at, addressed_at, brought_in, handed_at, moved_at, sent_from, control_from, loopback_from, queued_in, controls_in, loopbacks_in, taken_from, collected_from}
use Rattle.flow.specs.Lost.{Different, happened, NothingLost}
use Rattle.flow.specs.Counted.{CountersTrue}
use Rattle.flow.specs.Order.{over, queued_all, taken_all, brought_all, sent_all, handed_all, control_sent, moved_all, loopback_sent, control_queued, collected_all, loopback_queued, InOrder}
use Rattle.flow.proofs.Times.{occurs_append}
use Rattle.flow.proofs.Turns.{Because, Does, does}
use Rattle.flow.proofs.Moves.{queued_here, left_here, map_append, queue_step, inlet_step, control_step, loopback_step, control_held, loopback_held, many_step, counts_in, counts_out, counts_come}

-- A. what no event changes
module _ (d d' : Shelf) (kept : given d' ≡ given d) where
  pub given_at : (i : ℕ) → given_of (unit_at d' i) ≡ given_of (unit_at d i)
  given_at i = sym (get_or-map given_of d'.units i blank) ∙ ap (λ l. get_or l i (given_of blank)) kept ∙ get_or-map given_of d.units i blank

  -- nor the number
  pub number_at : (i : ℕ) → number_of (unit_at d' i) ≡ number_of (unit_at d i)
  number_at i = ap (λ g. g.settings.number) (given_at i)

  -- nor how many units there are
  pub as_many : length d'.units ≡ length d.units
  as_many = sym (length-map d'.units given_of) ∙ ap length kept ∙ length-map d.units given_of

  -- so no number is there twice afterwards
  pub still_different : Different d.units → Different d'.units
  still_different once i j h k e = let l = as_many in once i j h (omega arith) (sym (number_at i) ∙ e ∙ number_at j)

-- B. one event
module _ (d : Shelf) (e : Event) (i : ℕ) (within : i < length d.units) where
  abbrev d' : Shelf
  d' = (happens_to d e).shelf

  abbrev w : Does (Because d e i) d.units d d' i (part_of d e i)
  w = does d e i within

  -- four queues
  pub four_after : length (unit_at d i).queues ≡ 4 → length (unit_at d' i).queues ≡ 4
  four_after four = ap (λ u. length u.queues) w.unit ∙ many_step d.lines (unit_at d i) (part_of d e i) ∙ four

  -- a queue
  pub queue_after : length (unit_at d i).queues ≡ 4 → (q : ℕ) → queue_at (unit_at d i) q ++ queued_in d e i q ≡ taken_from d e i q ++ queue_at (unit_at d' i) q
  queue_after four q = queue_step d.lines (unit_at d i) (part_of d e i) q four ∙ ap (λ u. taken_from d e i q ++ queue_at u q) (sym w.unit)

  -- the inlet
  pub inlet_after : (unit_at d i).inlet ++ brought_in d e i ≡ sent_from d e i ++ (unit_at d' i).inlet
  inlet_after = inlet_step d.lines (unit_at d i) (part_of d e i) w.has ∙ ap (λ u. sent_from d e i ++ u.inlet) (sym w.unit)

  -- the places beside them: a control cell and a loopback cell that wait, the control outlet and the loopback outlet
  pub control_after : (unit_at d i).side.controlin ++ handed_at d e i ≡ control_from d e i ++ (unit_at d' i).side.controlin
  control_after = control_step d.lines (unit_at d i) (part_of d e i) w.has ∙ ap (λ u. control_from d e i ++ u.side.controlin) (sym w.unit)

  pub loopback_after : (unit_at d i).side.loopbackin ++ map returned (moved_at d e i) ≡ loopback_from d e i ++ (unit_at d' i).side.loopbackin
  loopback_after = loopback_step d.lines (unit_at d i) (part_of d e i) w.has ∙ ap (λ u. loopback_from d e i ++ u.side.loopbackin) (sym w.unit)

  pub controlout_after : (unit_at d i).side.controlout ++ controls_in d e i ≡ collected_from d e i ++ (unit_at d' i).side.controlout
  controlout_after = control_held d.lines (unit_at d i) (part_of d e i) ∙ ap (λ u. collected_from d e i ++ u.side.controlout) (sym w.unit)

  pub loopbackout_after : (unit_at d i).side.loopbackout ++ loopbacks_in d e i ≡ moved_at d e i ++ (unit_at d' i).side.loopbackout
  loopbackout_after = loopback_held d.lines (unit_at d i) (part_of d e i) ∙ ap (λ u. moved_at d e i ++ u.side.loopbackout) (sym w.unit)

  -- what is counted
  counted : Different d.units → (c : Counter) → times d'.history (number_of (unit_at d' i)) c ≡ occurs (counted_at d e i) (place_of c) + times d.history (number_of (unit_at d i)) c
  counted once c = ap (λ n. times d'.history n c) (number_at d d' (given_kept d e) i) ∙ w.counted once c

-- C. the shelf as it opens
pub each_append : (P : Unit → Type 0) (us vs : List Unit) → ((i : ℕ) → P (get_or us i blank)) → ((i : ℕ) → P (get_or vs i blank)) → (i : ℕ) → P (get_or (us ++ vs) i blank)
each_append P [] vs f g i = g i
each_append P (u ∷ us) vs f g zero = f 0
each_append P (u ∷ us) vs f g (suc i) = each_append P us vs (λ j. f (suc j)) g i

-- no cell anywhere, four queues
abbrev pub Bare : Unit → Type 0
Bare u = (u.inlet ≡ []) × (u.queues ≡ [] ∷ [] ∷ [] ∷ [] ∷ []) × (u.side ≡ empty_side)

-- what a line declares
bare_line : (l : Line) (i : ℕ) → Bare (get_or (units_by l) i blank)
bare_line (Bus bus) i = (refl, refl, refl)
bare_line (L-as-Unit settings limits) zero = (refl, refl, refl)
bare_line (L-as-Unit settings limits) (suc i) = (refl, refl, refl)
bare_line (Vp u v target class outvpi) i = (refl, refl, refl)
bare_line (Drop u v) i = (refl, refl, refl)
bare_line (Page u v top) i = (refl, refl, refl)
bare_line (Vc u v w target class outvpi outvci) i = (refl, refl, refl)
bare_line (Mc u session) i = (refl, refl, refl)

-- what the lines declare
pub bare : (lines : List Line) (i : ℕ) → Bare (get_or (units_of lines) i blank)
unfolding units_of
bare [] i = (refl, refl, refl)
bare (l ∷ lines) i = each_append Bare (units_of lines) (units_by l) (bare lines) (bare_line l) i

-- so each queue is empty
pub bare_queue : (lines : List Line) (i q : ℕ) → queue_at (get_or (units_of lines) i blank) q ≡ []
bare_queue lines i q = ap (λ x. get_or x q []) (bare lines i).1 ∙ go q
  where
    go : (q : ℕ) → get_or {A = List Cell} ([] ∷ [] ∷ [] ∷ [] ∷ []) q [] ≡ []
    go zero = refl
    go (suc zero) = refl
    go (suc (suc zero)) = refl
    go (suc (suc (suc zero))) = refl
    go (suc (suc (suc (suc q)))) = refl

-- and there are four
pub four_first : (lines : List Line) (i : ℕ) → length (get_or (units_of lines) i blank).queues ≡ 4
four_first lines i = ap length (bare lines i).1

-- D. every sequence
-- what was held, what came, what left and what is held, one event after the other
chain : {A : Type 0} (a b c d e f g : List A) → a ++ b ≡ c ++ d → d ++ e ≡ f ++ g → a ++ (b ++ e) ≡ (c ++ f) ++ g
chain a b c d e f g p q = sym (append_assoc a b e) ∙ ap (λ x. x ++ e) p ∙ append_assoc c d e ∙ ap (λ x. c ++ x) q ∙ sym (append_assoc c f g)

-- a shelf on the way
pub record Fit (i : ℕ) (d : Shelf) : Type 0 where
  pub within : i < length d.units
  pub four : length (unit_at d i).queues ≡ 4

-- stays one
pub fit_after : (i : ℕ) (d : Shelf) (e : Event) → Fit i d → Fit i (happens_to d e).shelf
fit_after i d e w =
    let l = as_many d (happens_to d e).shelf (given_kept d e) in
    let h = w.within in
    record { within = omega arith; four = four_after d e i w.within w.four }

-- and begins as one
pub fit_first : (lines : List Line) (i : ℕ) → i < length (units_of lines) → Fit i (opened lines)
fit_first lines i h = record { within = h; four = four_first lines i }

-- a list that grows behind and shrinks before, by each event and so by all
order : {A : Type 0} (i : ℕ) (f g : Shelf → Event → List A) (h : Shelf → List A) → ((d : Shelf) (e : Event) → Fit i d → h d ++ f d e ≡ g d e ++ h (happens_to d e).shelf) → (d : Shelf) (es : List Event) → Fit i d → h d ++ over f d es ≡ over g d es ++ h (becomes d es)
unfolding becomes over
order i f g h one d [] w = append-nil (h d)
order i f g h one d (e ∷ es) w =
    let d' = (happens_to d e).shelf in
    chain (h d) (f d e) (g d e) (h d') (over f d' es) (over g d' es) (h (becomes d' es)) (one d e w) (order i f g h one d' es (fit_after i d e w))

-- cells made anew, one event after the other
over_map : {A B : Type 0} (h : A → B) (f : Shelf → Event → List A) (d : Shelf) (es : List Event) → map h (over f d es) ≡ over (λ x e. map h (f x e)) d es
unfolding over
over_map h f d [] = refl
over_map h f d (e ∷ es) = map_append h (f d e) (over f (happens_to d e).shelf es) ∙ ap (λ l. map h (f d e) ++ l) (over_map h f (happens_to d e).shelf es)

-- each queue, each inlet, and the places beside them
pub in_order : InOrder
in_order lines es i within =
    let w = fit_first lines i within in
    let d = opened lines in
    let aside = (bare lines i).2 in
    record {
      queues = λ q.
          ap (λ x. x ++ queued_all d es i q) (sym (bare_queue lines i q))
          ∙ order i (λ d e. queued_in d e i q) (λ d e. taken_from d e i q) (λ d. queue_at (unit_at d i) q) (λ d e v. queue_after d e i v.within v.four q) d es w;
      inlet =
          ap (λ x. x ++ brought_all d es i) (sym (bare lines i).0)
          ∙ order i (λ d e. brought_in d e i) (λ d e. sent_from d e i) (λ d. (unit_at d i).inlet) (λ d e v. inlet_after d e i v.within) d es w;
      controlin =
          ap (λ x. x.controlin ++ handed_all d es i) (sym aside)
          ∙ order i (λ d e. handed_at d e i) (λ d e. control_from d e i) (λ d. (unit_at d i).side.controlin) (λ d e v. control_after d e i v.within) d es w;
      loopbackin =
          over_map returned (λ d e. moved_at d e i) d es ∙ ap (λ x. x.loopbackin ++ over (λ d e. map returned (moved_at d e i)) d es) (sym aside)
          ∙ order i (λ d e. map returned (moved_at d e i)) (λ d e. loopback_from d e i) (λ d. (unit_at d i).side.loopbackin) (λ d e v. loopback_after d e i v.within) d es w;
      controlout =
          ap (λ x. x.controlout ++ control_queued d es i) (sym aside)
          ∙ order i (λ d e. controls_in d e i) (λ d e. collected_from d e i) (λ d. (unit_at d i).side.controlout) (λ d e v. controlout_after d e i v.within) d es w;
      loopbackout =
          ap (λ x. x.loopbackout ++ loopback_queued d es i) (sym aside)
          ∙ order i (λ d e. loopbacks_in d e i) (λ d e. moved_at d e i) (λ d. (unit_at d i).side.loopbackout) (λ d e v. loopbackout_after d e i v.within) d es w;
    }

-- a number that each event raises
module _ (i : ℕ) (f : Shelf → List Event → ℕ) (one : Shelf → Event → ℕ) (none : (d : Shelf) → f d [] ≡ 0) (next : (d : Shelf) (e : Event) (es : List Event) → f d (e ∷ es) ≡ one d e + f (happens_to d e).shelf es) (g : Shelf → ℕ) (rise : (d : Shelf) (e : Event) → Fit i d → Different d.units → g (happens_to d e).shelf ≡ one d e + g d) where
  total : (d : Shelf) (es : List Event) → Fit i d → Different d.units → g (becomes d es) ≡ f d es + g d
  unfolding becomes
  total d [] w once = let a = none d in omega arith
  total d (e ∷ es) w once =
      let d' = (happens_to d e).shelf in
      let a = total d' es (fit_after i d e w) (still_different d d' (given_kept d e) once) in
      let b = next d e es in
      let c = rise d e w once in
      omega arith

  -- from the shelf that the lines open
  totals : (lines : List Line) → Different (units_of lines) → (es : List Event) → i < length (units_of lines) → g (opened lines) ≡ 0 → g (becomes (opened lines) es) ≡ f (opened lines) es
  totals lines once es h nought = let a = total (opened lines) es (fit_first lines i h) once in omega arith

module _ {A : Type 0} (f : Shelf → Event → List A) where
  over_none : (d : Shelf) → length (over f d []) ≡ 0
  unfolding over
  over_none d = refl

  -- an event more
  over_next : (d : Shelf) (e : Event) (es : List Event) → length (over f d (e ∷ es)) ≡ length (f d e) + length (over f (happens_to d e).shelf es)
  unfolding over
  over_next d e es = length-append (f d e) (over f (happens_to d e).shelf es)

-- of the four queues together
all_next : (f : ℕ → Shelf → Event → List Cell) (d : Shelf) (e : Event) (es : List Event) → in_all (λ q. over (f q) d (e ∷ es)) ≡ in_all (λ q. f q d e) + in_all (λ q. over (f q) (happens_to d e).shelf es)
all_next f d e es = omega (arith, over_next (f 0) d e es, over_next (f 1) d e es, over_next (f 2) d e es, over_next (f 3) d e es)

-- and of a list of them and two more
both_next : (f : ℕ → Shelf → Event → List Cell) (g h : Shelf → Event → List (List ℕ)) (d : Shelf) (e : Event) (es : List Event) → in_all (λ q. over (f q) d (e ∷ es)) + length (over g d (e ∷ es)) + length (over h d (e ∷ es)) ≡ (in_all (λ q. f q d e) + length (g d e) + length (h d e)) + (in_all (λ q. over (f q) (happens_to d e).shelf es) + length (over g (happens_to d e).shelf es) + length (over h (happens_to d e).shelf es))
both_next f g h d e es = let a = all_next f d e es in let b = over_next g d e es in let c = over_next h d e es in sums _ _ _ _ _ _ _ _ _ a b c
  where
    sums : (x y z a b c k l m : ℕ) → x ≡ a + k → y ≡ b + l → z ≡ c + m → x + y + z ≡ (a + b + c) + (k + l + m)
    sums x y z a b c k l m p q r = omega arith

-- of three lists
three_next : {A B C : Type 0} (f : Shelf → Event → List A) (g : Shelf → Event → List B) (h : Shelf → Event → List C) (d : Shelf) (e : Event) (es : List Event) → length (over f d (e ∷ es)) + length (over g d (e ∷ es)) + length (over h d (e ∷ es)) ≡ (length (f d e) + length (g d e) + length (h d e)) + (length (over f (happens_to d e).shelf es) + length (over g (happens_to d e).shelf es) + length (over h (happens_to d e).shelf es))
three_next f g h d e es = let a = over_next f d e es in let b = over_next g d e es in let c = over_next h d e es in omega (arith, a, b, c)

-- what it counts
occurs_next : (i : ℕ) (c : Counter) (d : Shelf) (e : Event) (es : List Event) → occurs (over (λ x e. counted_at x e i) d (e ∷ es)) (place_of c) ≡ occurs (counted_at d e i) (place_of c) + occurs (over (λ x e. counted_at x e i) (happens_to d e).shelf es) (place_of c)
unfolding over
occurs_next i c d e es = occurs_append (counted_at d e i) (over (λ x e. counted_at x e i) (happens_to d e).shelf es) (place_of c)

-- what one event raises each counter by
module _ (i : ℕ) (d : Shelf) (e : Event) (v : Fit i d) (once : Different d.units) where
  abbrev rose : (c : Counter) → happened (happens_to d e).shelf i c ≡ occurs (counted_at d e i) (place_of c) + happened d i c
  rose c = counted d e i v.within once c

  -- what comes to a unit
  rose_come : (happened (happens_to d e).shelf i arrived ≡ length (arrived_at d e i) + happened d i arrived) × (happened (happens_to d e).shelf i wide + happened (happens_to d e).shelf i full + happened (happens_to d e).shelf i clp + happened (happens_to d e).shelf i queued ≡ length (addressed_at d e i) + (happened d i wide + happened d i full + happened d i clp + happened d i queued))
  rose_come =
      let x = counts_come d.lines d.units (unit_at d i) (part_of d e i) in
      (omega (arith, rose arrived, x.0), omega (arith, rose wide, rose full, rose clp, rose queued, x.1))

  -- what it sends
  rose_sent : happened (happens_to d e).shelf i sent ≡ (length (sent_from d e i) + length (control_from d e i) + length (loopback_from d e i)) + happened d i sent
  rose_sent = omega (arith, rose sent, (counts_in d.lines d.units (unit_at d i) (part_of d e i) v.four).1)

  -- what comes into its inlet, of what arrives
  rose_brought : happened (happens_to d e).shelf i arrived + (happened d i hec + happened d i ignored + happened d i misrouted + happened d i inletfull) ≡ length (brought_in d e i) + happened d i arrived + (happened (happens_to d e).shelf i hec + happened (happens_to d e).shelf i ignored + happened (happens_to d e).shelf i misrouted + happened (happens_to d e).shelf i inletfull)
  rose_brought = omega (arith, rose arrived, rose hec, rose ignored, rose misrouted, rose inletfull, (counts_in d.lines d.units (unit_at d i) (part_of d e i) v.four).0)

  -- what goes into its outlets and out of them
  rose_copies : (happened (happens_to d e).shelf i queued ≡ queued_here d.lines (unit_at d i) (part_of d e i) + happened d i queued) × (happened (happens_to d e).shelf i taken ≡ left_here (unit_at d i) (part_of d e i) + happened d i taken)
  rose_copies =
      let x = counts_out d.lines d.units (unit_at d i) (part_of d e i) v.four in
      (omega (arith, rose queued, x.0), omega (arith, rose taken, x.1))

-- over every sequence
pub counters_true : CountersTrue
unfolding times over occurs
counters_true lines once es i within =
    record {
      each = λ c. totals i (λ d es. occurs (over (λ x e. counted_at x e i) d es) (place_of c)) (λ d e. occurs (counted_at d e i) (place_of c)) (λ d. refl) (occurs_next i c) (λ d. happened d i c) (λ d e v o. rose i d e v o c) lines once es within refl;
      arrivals = totals i (λ d es. length (over (λ x e. arrived_at x e i) d es)) (λ d e. length (arrived_at d e i)) (over_none (λ x e. arrived_at x e i)) (over_next (λ x e. arrived_at x e i)) (λ d. happened d i arrived) (λ d e v o. (rose_come i d e v o).0) lines once es within refl;
      frames = totals i (λ d es. length (sent_all d es i) + length (control_sent d es i) + length (loopback_sent d es i)) (λ d e. length (sent_from d e i) + length (control_from d e i) + length (loopback_from d e i)) (λ d. refl) (three_next (λ x e. sent_from x e i) (λ x e. control_from x e i) (λ x e. loopback_from x e i)) (λ d. happened d i sent) (rose_sent i) lines once es within refl;
      copies = totals i (λ d es. in_all (queued_all d es i) + length (control_queued d es i) + length (loopback_queued d es i)) (λ d e. queued_here d.lines (unit_at d i) (part_of d e i)) (λ d. refl) (both_next (λ q x e. queued_in x e i q) (λ x e. controls_in x e i) (λ x e. loopbacks_in x e i)) (λ d. happened d i queued) (λ d e v o. (rose_copies i d e v o).0) lines once es within refl;
      cells = totals i (λ d es. in_all (taken_all d es i) + length (collected_all d es i) + length (moved_all d es i)) (λ d e. left_here (unit_at d i) (part_of d e i)) (λ d. refl) (both_next (λ q x e. taken_from x e i q) (λ x e. collected_from x e i) (λ x e. moved_at x e i)) (λ d. happened d i taken) (λ d e v o. (rose_copies i d e v o).1) lines once es within refl;
      fates = totals i (λ d es. length (over (λ x e. addressed_at x e i) d es)) (λ d e. length (addressed_at d e i)) (over_none (λ x e. addressed_at x e i)) (over_next (λ x e. addressed_at x e i)) (λ d. happened d i wide + happened d i full + happened d i clp + happened d i queued) (λ d e v o. (rose_come i d e v o).1) lines once es within refl;
    }

-- what arrived was lost and counted so, or came into the inlet
module _ (i : ℕ) where
  abbrev lost_at : Shelf → ℕ
  lost_at d = happened d i hec + happened d i ignored + happened d i misrouted + happened d i inletfull

  brought_total : (d : Shelf) (es : List Event) → Fit i d → Different d.units → happened (becomes d es) i arrived + lost_at d ≡ length (brought_all d es i) + happened d i arrived + lost_at (becomes d es)
  unfolding becomes over
  brought_total d [] w once = omega arith
  brought_total d (e ∷ es) w once =
      let d' = (happens_to d e).shelf in
      let a = brought_total d' es (fit_after i d e w) (still_different d d' (given_kept d e) once) in
      let b = length-append (brought_in d e i) (brought_all d' es i) in
      let c = rose_brought i d e w once in
      omega (arith, a, b, c)

-- from the shelf that the lines open: each cell that arrived, was handed in or moved, and each copy
pub nothing_lost : NothingLost
unfolding times
nothing_lost lines once es i within =
    let d = opened lines in
    let d' = becomes d es in
    let u = unit_at d' i in
    let t = counters_true lines once es i within in
    let o = in_order lines es i within in
    let b = brought_total i d es (fit_first lines i within) once in
    let inlet = ap length o.inlet ∙ length-append (sent_all d es i) u.inlet in
    let control = ap length o.controlin ∙ length-append (control_sent d es i) u.side.controlin in
    let loopback = sym (length-map (moved_all d es i) returned) ∙ ap length o.loopbackin ∙ length-append (loopback_sent d es i) u.side.loopbackin in
    let controlout = ap length o.controlout ∙ length-append (collected_all d es i) u.side.controlout in
    let loopbackout = ap length o.loopbackout ∙ length-append (moved_all d es i) u.side.loopbackout in
    let queue : (q : ℕ) → length (queued_all d es i q) ≡ length (taken_all d es i q) + length (queue_at u q) = λ q. ap length (o.queues q) ∙ length-append (taken_all d es i q) (queue_at u q) in
    record {
      arrivals = omega (arith, t.frames, b, inlet, control, loopback);
      copies = omega (arith, t.copies, t.cells, queue 0, queue 1, queue 2, queue 3, controlout, loopbackout);
    }
