-- Without control and loopback cells all is as document 01 has it. Assumes nothing.
use Rattle.std.specs.Prelude.{Some}
use Prim.Native.Nat.{ℕ, suc, ◌+◌, ◌<◌}
use native.Mathlib.Omega.{arith}
use mathlib.Core.Path.{◌≡◌, refl, sym, ap, ap₂, subst, ◌∙◌}
use mathlib.Core.Logic.{◌⊎◌, ⊎_elim}
use mathlib.Core.List.{List, [], ◌∷◌, ◌++◌, map, Memᴰ as In}
use lib.Dec.{ltb}
use lib.ListN.{length, get_or, get_or-eq_default}
use borrow.Author.Tests.{ltb-true, ltb-false}
use Rattle.bus.specs.Frame.{returned}
use Rattle.bus.specs.Heard as frames
use Rattle.line.specs.declared.Line.{Line}
use Rattle.meaning.proofs.Grown.{decide}
use Rattle.paper.specs.Counters.{taken}
use Rattle.document.specs.Counters.{entries}
use Rattle.document.specs.Events.{Event}
use Rattle.document.specs.Shelf.{Routed, Unit, Shelf, Side, number_of, empty_side, blank, unit_at, opened}
use Rattle.document.specs.Hearing.{OnBus}
use Rattle.document.specs.Frame.{moving_from, moving, moved_by, moved_unit, moved_entries, moved}
use Rattle.document.specs.Steps.{happens_to, becomes}
use Rattle.document.proofs.Fixed.{given_kept}
use Rattle.flow.specs.Parts.{From, from_inlet, from_control, from_loopback, cell_of, without, Part, rests, arrives, hears, takes, hands, collects, sends, moves, part_of, handed_by, control_copy, loopback_copy, controls_by, loopbacks_by, handed_at, moved_at, out_by, control_from, loopback_from, controls_in, loopbacks_in, collected_from}
use Rattle.flow.specs.Order.{over, handed_all, moved_all, out_from, InTurn}
use Rattle.flow.specs.Quiet.{Plain, Quiet}
use Rattle.flow.proofs.Turns.{Because, Handed, Sent, does, in_turn}
use Rattle.flow.proofs.Kept.{as_many, bare, control_after, loopback_after, controlout_after, loopbackout_after, nothing_lost}
use Rattle.flow.proofs.Bytes.{sent_moved}

-- A. a unit with nothing beside its queues
abbrev Calm : Shelf → Type 0
Calm d = (i : ℕ) → (unit_at d i).side ≡ empty_side

-- nothing of it moves
calm_moving : (u : Unit) → u.side ≡ empty_side → moving u ≡ []
unfolding moving_from
calm_moving u e = ap (λ (s : Side). moving_from s.loopbackout s.loopbackin) e

calm_moved : (u : Unit) → u.side ≡ empty_side → moved_unit u ≡ u
unfolding moved_by
calm_moved u e = ap (λ cells. moved_by cells u) (calm_moving u e)

-- of all units
all_calm : (us : List Unit) → ((i : ℕ) → (get_or us i blank).side ≡ empty_side) → (map moved_unit us ≡ us) × (moved_entries us ≡ [])
unfolding moved_entries
all_calm [] calm = (refl, refl)
all_calm (u ∷ us) calm =
    let w = all_calm us (λ i. calm (suc i)) in (
      λ t. calm_moved u (calm 0) t ∷ w.0 t,
      λ t. entries (number_of u) (map (λ c. taken) (calm_moving u (calm 0) t)) ++ w.1 t,
    )

calm_shelf : (d : Shelf) → Calm d → moved d ≡ d
calm_shelf d calm =
    let w = all_calm d.units calm in
    λ t. record { lines = d.lines; bus = d.bus; units = w.0 t; arbiter = d.arbiter; granted = d.granted; frame = d.frame; history = w.1 t ++ d.history }

-- and it sends data
data_turn : (u : Unit) → u.side ≡ empty_side → (f : From) → InTurn (moved_unit u) f → (r : Routed) × (rest : List Routed) × (f ≡ from_inlet r rest)
data_turn u e (from_inlet r rest) turn = (r, rest, refl)
data_turn u e (from_control c rest) turn =
    let x : [] ≡ c ∷ rest = sym (ap (λ (s : Side). s.controlin) e) ∙ sym (ap (λ (v : Unit). v.side.controlin) (calm_moved u e)) ∙ turn.1 in
    absurd (omega (arith, ap length x))
data_turn u e (from_loopback c rest) turn =
    let x : [] ≡ c ∷ rest = sym (ap (λ (s : Side). s.loopbackin) e) ∙ sym (ap (λ (v : Unit). v.side.loopbackin) (calm_moved u e)) ∙ turn.2 in
    absurd (omega (arith, ap length x))

-- B. one event
abbrev Data : frames.Heard → Type 0
Data h = (n : ℕ) → (h ≡ frames.Control n → ⊥) × (h ≡ frames.Loopback n → ⊥)

no_control : (lines : List Line) (v : Unit) (h : frames.Heard) (bytes : List ℕ) → Data h → (control_copy lines v h bytes ≡ []) × (loopback_copy lines v h bytes ≡ [])
unfolding control_copy loopback_copy
no_control lines v frames.Length bytes plain = (refl, refl)
no_control lines v frames.Damaged bytes plain = (refl, refl)
no_control lines v (frames.Cell target class header) bytes plain = (refl, refl)
no_control lines v (frames.Control unit) bytes plain = absurd ((plain unit).0 refl)
no_control lines v (frames.Loopback unit) bytes plain = absurd ((plain unit).1 refl)

-- a cell on the bus that has its place in the inlet
data_heard : (f : From) (r : Routed) (rest : List Routed) → f ≡ from_inlet r rest → Data (cell_of f).heard
unfolding cell_of
data_heard f r rest e n =
    let x : (cell_of f).heard ≡ frames.Cell r.target r.class r.cell.header = ap (λ g. (cell_of g).heard) e in
    (λ y. let z : ◌≡◌ {A = ℕ} 0 1 = cc in omega arith, λ y. let z : ◌≡◌ {A = ℕ} 0 1 = cc in omega arith)

module _ (d : Shelf) (calm : Calm d) (e : Event) (plain : Plain e) (i : ℕ) where
  -- what is heard
  data_in : (x : OnBus) → Handed d e i x ⊎ Sent d e x → Data x.heard
  data_in x w =
      ⊎_elim
      (λ s. subst Data (sym (ap (λ (o : OnBus). o.heard) s.cell_is)) (subst Plain s.event plain))
      (λ s.
      let t = data_turn (unit_at d s.place) (calm s.place) s.f s.turn in
      subst Data (sym (ap (λ (o : OnBus). o.heard) s.cell_is)) (data_heard s.f t.0 t.1 t.2))
      w

  data_out : (f : From) → out_from d e i ≡ Some f → (r : Routed) × (rest : List Routed) × (f ≡ from_inlet r rest)
  data_out f left = data_turn (unit_at d i) (calm i) f (in_turn (moved_unit (unit_at d i)) f (sent_moved d e i f left))

  none_handed : (v : Unit) (p : Part) → Because d e i p → handed_by v p ≡ []
  unfolding handed_by
  none_handed v rests w = refl
  none_handed v (arrives c) w = refl
  none_handed v (hears x) w = refl
  none_handed v takes w = refl
  none_handed v (hands c) w = absurd (subst Plain w.0 plain)
  none_handed v collects w = refl
  none_handed v (sends f) w = refl
  none_handed v (moves p) w = none_handed (moved_unit v) p w

  none_queued : (v : Unit) (p : Part) → out_from d e i ≡ out_by p → Because d e i p → (controls_by d.lines v p ≡ []) × (loopbacks_by d.lines v p ≡ [])
  unfolding controls_by loopbacks_by out_by
  none_queued v rests is w = (refl, refl)
  none_queued v (arrives c) is w = (refl, refl)
  none_queued v (hears x) is w = no_control d.lines v x.heard x.bytes (data_in x w)
  none_queued v takes is w = (refl, refl)
  none_queued v (hands c) is w = (refl, refl)
  none_queued v collects is w = (refl, refl)
  none_queued v (sends f) is w = let t = data_out f is in no_control d.lines (without f v) (cell_of f).heard (cell_of f).bytes (data_heard f t.0 t.1 t.2)
  none_queued v (moves p) is w = none_queued (moved_unit v) p is w

  module _ (within : i < length d.units) where
    abbrev u : Unit
    u = unit_at d i

    abbrev u' : Unit
    u' = unit_at (happens_to d e).shelf i

    still_none : handed_at d e i ≡ []
    still_none = none_handed u (part_of d e i) (does d e i within).because

    quiet_queued : (controls_in d e i ≡ []) × (loopbacks_in d e i ≡ [])
    quiet_queued = none_queued u (part_of d e i) refl (does d e i within).because

    -- an empty list is made of empty lists
    nothing_of : {A : Type 0} (a b x y : List A) → a ≡ [] → b ≡ [] → a ++ b ≡ x ++ y → (x ≡ []) × (y ≡ [])
    nothing_of a b [] [] p q e = (refl, refl)
    nothing_of a b [] (y ∷ ys) p q e = let z = sym (ap₂ (λ x y. x ++ y) p q) ∙ e in absurd (omega (arith, ap length z))
    nothing_of a b (x ∷ xs) ys p q e = let z = sym (ap₂ (λ x y. x ++ y) p q) ∙ e in absurd (omega (arith, ap length z))

    none_moved : (moved_at d e i ≡ []) × (u'.side.loopbackout ≡ [])
    none_moved = nothing_of u.side.loopbackout (loopbacks_in d e i) (moved_at d e i) u'.side.loopbackout (ap (λ (s : Side). s.loopbackout) (calm i)) quiet_queued.1 (loopbackout_after d e i within)

    calm_here : u'.side ≡ empty_side
    calm_here =
        let a = (nothing_of u.side.controlin (handed_at d e i) (control_from d e i) u'.side.controlin (ap (λ (s : Side). s.controlin) (calm i)) still_none (control_after d e i within)).1 in
        let b = (nothing_of u.side.loopbackin (map returned (moved_at d e i)) (loopback_from d e i) u'.side.loopbackin (ap (λ (s : Side). s.loopbackin) (calm i)) (ap (map returned) none_moved.0) (loopback_after d e i within)).1 in
        let c = (nothing_of u.side.controlout (controls_in d e i) (collected_from d e i) u'.side.controlout (ap (λ (s : Side). s.controlout) (calm i)) quiet_queued.0 (controlout_after d e i within)).1 in
        let f = none_moved.1 in
        λ t. record { controlin = a t; loopbackin = b t; controlout = c t; loopbackout = f t }

-- every unit
calm_after : (d : Shelf) → Calm d → (e : Event) → Plain e → Calm (happens_to d e).shelf
calm_after d calm e plain i =
    decide (ltb i (length d.units)) (λ t. calm_here d calm e plain i (ltb-true i (length d.units) t))
    (λ f.
    let out = ltb-false i (length d.units) f in
    let l = as_many d (happens_to d e).shelf (given_kept d e) in
    ap (λ (v : Unit). v.side) (get_or-eq_default (happens_to d e).shelf.units blank {n = i} (omega arith)))

-- C. every sequence
abbrev AllPlain : List Event → Type 0
AllPlain es = (e : Event) → In e es → Plain e

calm_all : (d : Shelf) → Calm d → (es : List Event) → AllPlain es → Calm (becomes d es)
unfolding becomes
calm_all d calm [] all = calm
calm_all d calm (e ∷ es) all = calm_all (happens_to d e).shelf (calm_after d calm e (all e (In.head refl))) es (λ x m. all x (In.tail m))

-- nothing is handed in and nothing moves
none_over : (d : Shelf) → Calm d → (es : List Event) → AllPlain es → (i : ℕ) → i < length d.units → (handed_all d es i ≡ []) × (moved_all d es i ≡ [])
unfolding over
none_over d calm [] all i within = (refl, refl)
none_over d calm (e ∷ es) all i within =
    let d' = (happens_to d e).shelf in
    let plain = all e (In.head refl) in
    let l = as_many d d' (given_kept d e) in
    let w = none_over d' (calm_after d calm e plain) es (λ x m. all x (In.tail m)) i (omega arith) in (
      ap₂ (λ x y. x ++ y) (still_none d calm e plain i within) w.0,
      ap₂ (λ x y. x ++ y) (none_moved d calm e plain i within).0 w.1,
    )

-- the shelf as it opens
calm_first : (lines : List Line) → Calm (opened lines)
calm_first lines i = (bare lines i).2

pub quiet : Quiet
quiet lines es all =
    let d = becomes (opened lines) es in
    let calm = calm_all (opened lines) (calm_first lines) es all in (
      record {
        beside = calm;
        unmoved = calm_shelf d calm;
        data_only = λ e i f left. data_turn (unit_at d i) (calm i) f (in_turn (moved_unit (unit_at d i)) f (sent_moved d e i f left));
      },
      λ once i within.
          let a = nothing_lost lines once es i within in
          let n = none_over (opened lines) (calm_first lines) es all i within in
          let s = calm i in
          record {
            arrivals = omega (arith, a.arrivals, ap length n.0, ap length n.1, ap (λ (x : Side). length x.controlin) s, ap (λ (x : Side). length x.loopbackin) s);
            copies = omega (arith, a.copies, ap (λ (x : Side). length x.controlout) s, ap (λ (x : Side). length x.loopbackout) s);
          },
    )
