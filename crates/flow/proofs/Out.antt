-- What the lent bytes hold after a take or a frame came down the right street. Assumes nothing.
use Rattle.std.specs.Prelude.{None, Option, Some}
use Prim.Native.Nat.{ℕ, ◌+◌, ◌%◌, ◌≤◌, ◌<◌}
use native.Mathlib.Omega.{arith}
use mathlib.Core.Path.{◌≡◌, refl, sym, ap, subst, ◌∙◌}
use mathlib.Core.Logic.{◌↔◌, inl, inr, ⊎_elim}
use mathlib.Core.Bool.{Bool, true, false, cond, false≢true}
use mathlib.Core.List.{List, [], ◌∷◌, ◌++◌, append-nil, map, Memᴰ as In}
use lib.Dec.{eqb}
use lib.ListN.{length, get_or, drop, take as first, length-drop}
use lib.Seq.{length-take-le}
use borrow.Author.Tests.{eqb-true, eqb-false}
use Rattle.octets.specs.Octets.{four, part}
use Rattle.octets.proofs.Numbers.{four_be4}
use Rattle.header.specs.Fields.{paths_of, fields}
use Rattle.header.specs.Check.{check}
use Rattle.header.specs.declared.Header as H
use Rattle.header.specs.declared.Link.{Link}
use Rattle.header.specs.declared.Link.TheVariants.{Nni}
use Rattle.bus.specs.Frame.{heard, returned}
use Rattle.bus.specs.Heard as frames
use Rattle.bus.proofs.Laws.{heard_length}
use Rattle.bus.specs.declared.Target.{Target}
use Rattle.outlet.specs.declared.Mode.{Mode}
use Rattle.outlet.specs.declared.Mode.TheVariants.{One, Four}
use Rattle.outlet.proofs.Truth.{le_iff, and_iff, or_iff}
use Rattle.outlet.specs.Hearing.{limit, TooWide}
use Rattle.outlet.proofs.Fates.{limit_in}
use Rattle.outlet.specs.Taking.{marked, marks_cell, outgoing}
use Rattle.outlet.proofs.Headers.{unmarked, marks_cell_iff, outgoing_fields, vpi_kept, outgoing_lt}
use Rattle.document.specs.Take.{line_cell}
use Rattle.arbiter.specs.Arbitration.{nobody}
use Rattle.line.specs.declared.Line.{Line}
use Rattle.meaning.proofs.Grown.{decide}
use Rattle.document.specs.Arrival.{header_of}
use Rattle.document.specs.Events.{Event, take_cell}
use Rattle.document.specs.Shelf.{Cell, Routed, Unit, Shelf, number_of, queue_at, held, unit_at, units_of, opened}
use Rattle.document.specs.Frame.{moved_unit}
use Rattle.document.specs.Take.{leaving, at_limit, congested, marks}
use Rattle.document.proofs.Fixed.{given_stays}
use Rattle.flow.specs.Parts.{From, from_inlet, from_control, from_loopback, Part, rests, arrives, hears, takes, hands, collects, sends, moves, part_of, oldest_in, taken_by}
use Rattle.flow.specs.Order.{HandedOut, InTurn}
use Rattle.flow.specs.Lost.{Different}
use Rattle.flow.specs.Street.{declared_at, Arrived, CameFrom, by_bus, by_hand, by_processor}
use Rattle.paper.specs.Cells.{pt}
use Rattle.paper.specs.Outlets.{Crowded, Marks, MarksCell}
use Rattle.paper.specs.Words.{AllInRange}
use Rattle.flow.specs.Out.{reached, out, link_at, limits_at, held_at, ReadsAs, RightlyTaken, TakenRight, LineDelivered, Spared, PtKept, Origin, SentRight}
use Rattle.flow.proofs.Kept.{given_at, number_at, as_many, still_different}
use Rattle.flow.proofs.Streets.{right_street, control_waits, loopback_waits}
use Rattle.flow.proofs.Follows.{payload_kept, line_followed}
use Rattle.flow.proofs.Bytes.{taken_handed}
use Rattle.flow.proofs.Senders.{backed, backed_first, sends_after, not_both}
use Rattle.flow.proofs.Moves.{moved_by_lem, moved_in}

-- the one cell that leaves a queue was its oldest
abbrev First : List Cell → Cell → Type 0
First cells c = (others : List Cell) × (cells ≡ c ∷ others)

first_of : (cells : List Cell) (c : Cell) → first 1 cells ≡ c ∷ [] → First cells c
first_of [] c e = let z : ◌≡◌ {A = ℕ} 0 1 = cc in absurd (omega arith)
first_of (x ∷ cells) c e = let same : x ≡ c = cc in (cells, ap (λ y. y ∷ cells) same)

was_oldest : (l : Option ℕ) (u : Unit) (q : ℕ) (c : Cell) → oldest_in l u q ≡ c ∷ [] → First (queue_at u q) c
unfolding oldest_in
was_oldest None u q c e = let z : ◌≡◌ {A = ℕ} 0 1 = cc in absurd (omega arith)
was_oldest (Some p) u q c e = go (eqb q p) (λ t. ap (queue_at u) (sym (eqb-true q p t))) e
  where
    go : (b : Bool) → (b ≡ true → queue_at u p ≡ queue_at u q) → cond b (first 1 (queue_at u p)) [] ≡ c ∷ [] → First (queue_at u q) c
    go true t e = subst (λ cs. First cs c) (t refl) (first_of (queue_at u p) c e)
    go false t e = let z : ◌≡◌ {A = ℕ} 0 1 = cc in absurd (omega arith)

-- whatever the part
was_first : (u : Unit) (p : Part) (q : ℕ) (c : Cell) → taken_by u p q ≡ c ∷ [] → First (queue_at u q) c
unfolding taken_by
was_first u rests q c e = let z : ◌≡◌ {A = ℕ} 0 1 = cc in absurd (omega arith)
was_first u (arrives x) q c e = let z : ◌≡◌ {A = ℕ} 0 1 = cc in absurd (omega arith)
was_first u (hears x) q c e = let z : ◌≡◌ {A = ℕ} 0 1 = cc in absurd (omega arith)
was_first u takes q c e = was_oldest (leaving u) u q c e
was_first u (hands x) q c e = let z : ◌≡◌ {A = ℕ} 0 1 = cc in absurd (omega arith)
was_first u collects q c e = let z : ◌≡◌ {A = ℕ} 0 1 = cc in absurd (omega arith)
was_first u (sends f) q c e = let z : ◌≡◌ {A = ℕ} 0 1 = cc in absurd (omega arith)
was_first u (moves p) q c e = subst (λ cells. First cells c) (moved_by_lem (λ v. queue_at v q) u (λ back out. refl)) (was_first (moved_unit u) p q c e)

-- a cell that leaves fits its unit's link
not_wide : (lines : List Line) (es : List Event) (i q : ℕ) (c : Cell) → CameFrom lines es i q c → TooWide (link_at lines i) c.header → ⊥
not_wide lines es i q c (by_bus place r inside a s m e) w = m.narrow (subst (λ x. TooWide (link_at lines i) x.header) e w)
not_wide lines es i q c (by_hand f target class header event h m e) w = m.narrow (subst (λ x. TooWide (link_at lines i) x.header) e w)
not_wide lines es i q c (by_processor place b target class header inside h s k m e) w = m.narrow (subst (λ x. TooWide (link_at lines i) x.header) e w)

-- its payload has 48 bytes
part_length : (b : List ℕ) (k n : ℕ) → k + n ≤ length b → length (part b k n) ≡ n
part_length b k n h = let l = length-drop k b in length-take-le n (drop k b) (omega arith)

-- a frame that carries a cell has 57
frame_length : (f : List ℕ) (target : Target) (class header : ℕ) → heard f ≡ frames.Cell target class header → length f ≡ 57
frame_length f target class header e =
    decide (eqb (length f) 57) (eqb-true (length f) 57)
    (λ t. let x = heard_length f (eqb-false (length f) 57 t) in let z : ◌≡◌ {A = ℕ} 0 1 = cc in absurd (omega arith))

payload_length : (lines : List Line) (es : List Event) (i q : ℕ) (c : Cell) → CameFrom lines es i q c → length c.payload ≡ 48
payload_length lines es i q c (by_bus place r inside a s m e) =
    let w = a.whole in
    ap (λ x. length x.payload) e ∙ ap length (payload_kept lines (declared_at lines place).settings a.bytes r a.way) ∙ part_length a.bytes 5 48 (omega arith)
payload_length lines es i q c (by_hand f target class header event h m e) =
    let w = frame_length f target class header h in
    ap (λ x. length x.payload) e ∙ part_length f 8 48 (omega arith)
payload_length lines es i q c (by_processor place b target class header inside h s k m e) = ap (λ x. length x.payload) e ∙ part_length b 8 48 (omega (arith, h.whole))

-- so its bytes read as it was
reads_back : (link : Link) (mark : Bool) (c : Cell) (bytes : List ℕ) → (TooWide link c.header → ⊥) → length c.payload ≡ 48 → bytes ≡ line_cell (outgoing link mark c.header) c.payload →
    let h = fields Nni c.header in ReadsAs link (marks_cell mark c.header) h.vpi h.vci h c.payload bytes
unfolding line_cell
reads_back link mark c bytes narrow full e =
    let h = fields Nni c.header in
    let w = outgoing link mark c.header in
    let four_is : four bytes 0 ≡ w = ap (λ b. four b 0) e ∙ four_be4 w (check w ∷ c.payload) (outgoing_lt link mark c.header) in
    let kept : h.vpi % paths_of link ≡ h.vpi = sym (ap (λ (x : H.Header). x.vpi) (outgoing_fields link mark c.header)) ∙ vpi_kept link mark c.header narrow in
    record {
      whole = let l = ap length e in omega arith;
      header = ap (fields link) four_is ∙ outgoing_fields link mark c.header ∙ (λ i. record { gfc = 0; vpi = kept i; vci = h.vci; pt = marked (marks_cell mark c.header) h.pt; clp = h.clp });
      checked = ap (λ b. get_or b 4 0) e ∙ ap check (sym four_is);
      payload_is = ap (drop 5) e;
    }

-- a unit marks the cell that leaves it exactly when 01 says so
at_limit_iff : (u : Unit) (q n : ℕ) → limit u.limits q ≡ n → (at_limit u q ≡ true) ↔ (n ≤ held u q)
at_limit_iff u q n e = rw e (le_iff n (held u q))

marks_when : (u : Unit) → (marks u ≡ true) ↔ Marks u.limits (held u)
unfolding congested
marks_when u = and_iff (λ e. e, λ e. e) (go u.limits.mode refl)
  where
    go : (mode : Mode) → u.limits.mode ≡ mode → (congested mode u ≡ true) ↔ Crowded mode u.limits (held u)
    go One e = at_limit_iff u 0 u.limits.vbrlimit (limit_in u.limits 0 One e)
    go Four e =
        or_iff (at_limit_iff u 1 u.limits.cbrlimit (limit_in u.limits 1 Four e))
        (at_limit_iff u 2 u.limits.vbrlimit (limit_in u.limits 2 Four e))

marks_cell_lem : (u : Unit) (header : ℕ) → (marks_cell (marks u) header ≡ true) ↔ MarksCell u.limits (held u) (pt header)
unfolding fields
marks_cell_lem u header = marks_cell_iff (marks u) header (marks_when u)

module _ (lines : List Line) (es : List Event) where
  -- there are as many units as the lines declare, with their numbers
  many : length (reached lines es).units ≡ length (opened lines).units
  many = as_many (opened lines) (reached lines es) (given_stays (opened lines) es)

  -- one is handed out
  handed_right : (unit : ℕ) (buffer : List ℕ) → HandedOut (reached lines es) unit buffer → RightlyTaken lines es unit buffer
  handed_right unit buffer h =
      let d = reached lines es in
      let l = many in
      let k = h.inside in
      let within : h.place < length (opened lines).units = omega arith in
      let o = was_first (unit_at d h.place) (part_of d (take_cell unit buffer) h.place) h.queue h.cell h.left in
      let origin = (right_street lines es h.place within).held h.queue h.cell (subst (λ cs. In h.cell cs) (sym o.1) (In.head refl)) in
      record {
        place = h.place;
        inside = within;
        named = sym (number_at (opened lines) d (given_stays (opened lines) es) h.place) ∙ h.named;
        queue = h.queue;
        cell = h.cell;
        others = o.0;
        oldest = o.1;
        origin = origin;
        bytes = h.bytes;
        mark = marks_cell (marks (unit_at d h.place)) h.cell.header;
        marks_iff = subst (λ g. (marks_cell (marks (unit_at d h.place)) h.cell.header ≡ true) ↔ MarksCell g.limits (held_at lines es h.place) (pt h.cell.header)) (given_at (opened lines) d (given_stays (opened lines) es) h.place) (marks_cell_lem (unit_at d h.place) h.cell.header);
        reads = reads_back (link_at lines h.place) (marks (unit_at d h.place)) h.cell (out lines es unit buffer) (not_wide lines es h.place h.queue h.cell origin) (payload_length lines es h.place h.queue h.cell origin)
            (h.bytes ∙ ap (λ g. line_cell (outgoing g.settings.link (marks (unit_at d h.place)) h.cell.header) h.cell.payload) (given_at (opened lines) d (given_stays (opened lines) es) h.place));
      }

-- every take
pub taken_right : TakenRight
taken_right lines es unit buffer said =
    ⊎_elim (handed_right lines es unit buffer) (λ n. absurd (n.said said)) (taken_handed (reached lines es) unit buffer)

-- every cell that arrived: it has what its line gives it
pub line_delivered : LineDelivered
line_delivered lines good es unit buffer t place r a same =
    let s = (declared_at lines place).settings in
    let f = line_followed lines good s a.bytes r a.way in
    let e : fields Nni t.cell.header ≡ record { gfc = 0; vpi = f.vpi; vci = f.vci; pt = (header_of s a.bytes).pt; clp = (header_of s a.bytes).clp } = ap (λ c. fields Nni c.header) same ∙ f.header in
    record {
      line = f;
      reads =
          record {
            whole = t.reads.whole;
            header = t.reads.header ∙ (λ i. record { gfc = 0; vpi = (e i).vpi; vci = (e i).vci; pt = marked t.mark (e i).pt; clp = (e i).clp });
            checked = t.reads.checked;
            payload_is = t.reads.payload_is ∙ ap (λ c. c.payload) same ∙ f.payload;
          };
    }

-- a PT that no unit marks, or that this one does not: the cell leaves with it
module _ (lines : List Line) (es : List Event) (unit : ℕ) (buffer : List ℕ) (t : RightlyTaken lines es unit buffer) where
  not_marked : Spared (limits_at lines t.place) (pt t.cell.header) → t.mark ≡ false
  not_marked s = decide t.mark (λ e. absurd (never (t.marks_iff.0 e) s)) (λ e. e)
    where
      never : MarksCell (limits_at lines t.place) (held_at lines es t.place) (pt t.cell.header) → Spared (limits_at lines t.place) (pt t.cell.header) → ⊥
      never m (inl high) = let low = m.1 in omega arith
      never m (inr off) = false≢true (sym off ∙ m.0.0)

  held_kept : Spared (limits_at lines t.place) (pt t.cell.header) → pt (four (out lines es unit buffer) 0) ≡ pt t.cell.header
  unfolding fields
  held_kept s = ap (λ (h : H.Header). h.pt) t.reads.header ∙ ap (λ m. marked m (pt t.cell.header)) (not_marked s) ∙ unmarked (pt t.cell.header)

  arrived_kept : AllInRange lines → (place : ℕ) (r : Routed) (a : Arrived lines es place r) → t.cell ≡ r.cell →
      Spared (limits_at lines t.place) (pt (four a.bytes 0)) → pt (four (out lines es unit buffer) 0) ≡ pt (four a.bytes 0)
  unfolding fields
  arrived_kept good place r a same s =
      let f = line_followed lines good (declared_at lines place).settings a.bytes r a.way in
      let e : pt t.cell.header ≡ pt (four a.bytes 0) = ap (λ c. pt c.header) same ∙ ap (λ (h : H.Header). h.pt) f.header in
      held_kept (subst (λ p. Spared (limits_at lines t.place) p) (sym e) s) ∙ e

pub pt_kept : PtKept
pt_kept lines good es unit buffer t = record { held_so = held_kept lines es unit buffer t; arrived_so = arrived_kept lines es unit buffer t good }

-- what a unit sends that the shelf has granted: it arrived, was handed in, or had moved before this frame
module _ (lines : List Line) (once : Different (units_of lines)) (es : List Event) (granted_one : (reached lines es).granted ≡ nobody → ⊥) (place : ℕ) (within : place < length (units_of lines)) (own : number_of (unit_at (reached lines es) place) ≡ (reached lines es).granted) where
  abbrev d : Shelf
  d = reached lines es

  abbrev u : Unit
  u = unit_at d place

  origin_of : (f : From) → InTurn (moved_unit u) f → Origin lines es place f
  origin_of (from_inlet r rest) turn =
      (right_street lines es place within).waiting r (subst (λ rs. In r rs) (sym (sym (moved_by_lem (λ v. v.inlet) u (λ back out. refl)) ∙ turn)) (In.head refl))
  origin_of (from_control c rest) turn =
      control_waits lines es place within c (subst (λ cs. In c cs) (sym (sym (moved_by_lem (λ v. v.side.controlin) u (λ back out. refl)) ∙ turn.1)) (In.head refl))
  origin_of (from_loopback c rest) turn =
      let kept = given_stays (opened lines) es in
      let still = not_both d (backed (opened lines) es (backed_first lines)) (still_different (opened lines) d kept once) place (omega (arith, within, many lines es)) own granted_one c rest turn in
      let there : u.side.loopbackin ≡ c ∷ rest = sym (append-nil u.side.loopbackin) ∙ ap (λ cs. u.side.loopbackin ++ map returned cs) (sym still) ∙ moved_in u ∙ turn.2 in
      loopback_waits lines es place within c (subst (λ cs. In c cs) (sym there) (In.head refl))

-- every frame after a grant
pub sent_right : SentRight
sent_right lines once es granted_one buffer whole =
    let d = reached lines es in
    let kept = given_stays (opened lines) es in
    let s = sends_after lines es (still_different (opened lines) d kept once) granted_one buffer whole in
    let within : s.place < length (opened lines).units = omega (arith, s.inside, many lines es) in
    record {
      place = s.place;
      inside = within;
      named = sym (number_at (opened lines) d kept s.place) ∙ s.named;
      from = s.from;
      oldest = s.oldest;
      origin = origin_of lines once es granted_one s.place within s.named s.from s.oldest;
      bytes = s.bytes;
    }
