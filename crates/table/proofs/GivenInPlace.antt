-- What a line makes of the bytes is what it makes of the shelf that they are; and bytes that are well formed stay so. Assumes nothing.
use Rattle.std.specs.Prelude.{None, Option, Some}
use mathlib.Core.Path.{◌≡◌, refl, sym, ap, ◌∙◌}
use mathlib.Core.Bool.{Bool, true, false, ◌&&◌}
use mathlib.Core.Logic.{◌⊎◌, inl, inr}
use mathlib.Core.List.{List}
use Prim.Native.Nat.{ℕ, ◌+◌, ◌-◌, ◌*◌, ◌/◌, ◌%◌, ◌^◌, ◌≤◌, ◌<◌}
use native.Mathlib.Omega.{arith}
use lib.Bits.{bit_or}
use lib.Dec.{eqb, leb}
use lib.ListN.{length, get_or}
use lib.Seq.{get_or-set_other}
use borrow.Author.Tests.{eqb-true, eqb-false}
use Rattle.header.specs.declared.Link.{Link}
use Rattle.header.specs.declared.Link.TheVariants.{Uni, Nni}
use Rattle.octets.specs.Octets.{part}
use Rattle.outlet.specs.Outlets.{fresh as fresh_outlet}
use Rattle.outlet.specs.declared.Mode.{Mode}
use Rattle.outlet.specs.declared.Mode.TheVariants.{One, Four}
use Rattle.outlet.specs.declared.Limits.{Limits}
use Rattle.shelf.specs.Shelves.{unit, blank, declared, find_in}
use Rattle.shelf.proofs.Finding.{declared_length, find_at}
use Rattle.shelf.specs.declared.Settings.{Settings}
use Rattle.state.specs.Bytes.{col, unit_by, shelf_in, with_unit}
use Rattle.state.specs.Placing.{link_byte, mode_byte, mark_byte, columns_of, fresh_bytes, declared_by, joined}
use Rattle.state.proofs.Kept.{Column}
use Rattle.state.proofs.Laws.{units_length, unit_at_lem, part_at}
use Rattle.state.proofs.Placed.{placed_long, placed_kept, placed_count, placed_here, placed_there, declared_shelf}
use Rattle.state.proofs.Afresh.{fresh_long, fresh_zero, fresh_shelf}
use Rattle.state.proofs.Joined.{session_long, session_kept, joined_shelf}
use Rattle.soundness.specs.Lanes.{formed}
use Rattle.soundness.specs.Soundings.{formed_all}
use Rattle.soundness.proofs.Sounding.{lanes_at, lanes_all}
use Rattle.judge.proofs.Owning.{found_in}
use Rattle.line.specs.declared.Line.{Line}
use Rattle.line.specs.declared.Line.TheVariants.{Bus, Unit as L-as-Unit, Vp, Drop, Page, Vc, Mc}
use Rattle.meaning.specs.Told.{declare, hearing, join_at, shelf_by}
use Rattle.meaning.proofs.Memory.{Ranged}
use Rattle.table.specs.GivenInPlace.{joined_at, state_by}

-- there is a place for a unit that a line declares
abbrev pub Roomy : List ℕ → Line → Type 0
Roomy b (Bus bus) = Unit {0}
Roomy b (L-as-Unit settings limits) = get_or b 805 0 < 32
Roomy b (Vp a v target class outvpi) = Unit {0}
Roomy b (Drop a v) = Unit {0}
Roomy b (Page a v top) = Unit {0}
Roomy b (Vc a v w target class outvpi outvci) = Unit {0}
Roomy b (Mc a session) = Unit {0}

-- a byte of a column: 0 to 767, and 832 to 991
abbrev pub InColumn : ℕ → Type 0
InColumn k = (k < 768) ⊎ ((832 ≤ k) × (k < 992))

-- the bytes that say nothing: those for later requests, the columns and the sessions of the places that are not declared
abbrev pub Spare : List ℕ → ℕ → Type 0
Spare b k =
    (((808 ≤ k) × (k < 832)) ⊎ ((992 ≤ k) × (k < 1024))) ⊎ ((InColumn k × (get_or b 805 0 ≤ k % 32)) ⊎ ((1024 + 32 * get_or b 805 0 ≤ k) × (k < 2048)))

in_column : (k : ℕ) → InColumn k → Column (k / 32)
in_column k (inl h) = omega arith
in_column k (inr h) = omega arith

-- bytes as loading leaves them: as many as there are, well formed, and those that say nothing zero
pub record Well (b : List ℕ) : Type 0 where
  pub long : length b ≡ 2048
  pub formed : formed_all b ≡ true
  pub spare : (k : ℕ) → Spare b k → get_or b k 0 ≡ 0

-- A. a session more
module _ (b : List ℕ) (a session : ℕ) (long : length b ≡ 2048) (small : session < 256) where
  join_decodes : (f : Option ℕ) → find_in (declared (shelf_in b)) a ≡ f → shelf_in (joined_at b f session) ≡ join_at (shelf_in b) f session
  unfolding joined_at join_at
  join_decodes (Some i) e =
      let hi = found_in (shelf_in b) a i (units_length b 0 32) e in
      joined_shelf b i session long hi small ∙ ap (λ u. with_unit (shelf_in b) i (hearing u session)) (sym (unit_at_lem b i blank hi))
  join_decodes None e = refl

-- B. well formed
same_formed : (f g : ℕ → ℕ) → ((k : ℕ) → Column k → f k ≡ g k) → formed f ≡ formed g
same_formed f g e t = leb (e 1 (omega arith) t) 1 && leb (e 5 (omega arith) t) 1 && leb (e 9 (omega arith) t) 1

link_formed : (l : Link) → leb (link_byte l) 1 ≡ true
unfolding link_byte
link_formed Uni = refl
link_formed Nni = refl

mode_formed : (m : Mode) → leb (mode_byte m) 1 ≡ true
unfolding mode_byte
mode_formed One = refl
mode_formed Four = refl

mark_formed : (b : Bool) → leb (mark_byte b) 1 ≡ true
unfolding mark_byte
mark_formed true = refl
mark_formed false = refl

columns_formed : (s : Settings) (l : Limits) (place : ℕ) → formed (λ k. get_or (columns_of s (fresh_outlet l) place) k 0) ≡ true
columns_formed s l place t = link_formed s.link t && mode_formed l.mode t && mark_formed l.mark t

pub fresh_well : (bus : ℕ) → Well (fresh_bytes bus)
fresh_well bus =
    let z = fresh_zero bus 805 (omega arith) (λ a b. absurd (omega arith)) in
    record {
      long = fresh_long bus;
      formed = lanes_all (λ i. formed (col (fresh_bytes bus) i)) (get_or (fresh_bytes bus) 805 0) 0 32 (λ i a l c. absurd (omega (arith, z, c)));
      spare = zero;
    }
  where
    zero : (k : ℕ) → Spare (fresh_bytes bus) k → get_or (fresh_bytes bus) k 0 ≡ 0
    zero k (inl (inl h)) = fresh_zero bus k (omega arith) (λ a b. absurd (omega arith))
    zero k (inl (inr h)) = fresh_zero bus k (omega arith) (λ a b. absurd (omega arith))
    zero k (inr (inl (inl h, past))) = fresh_zero bus k (omega arith) (λ a b. absurd (omega arith))
    zero k (inr (inl (inr h, past))) = fresh_zero bus k (omega arith) (λ a b. absurd (omega arith))
    zero k (inr (inr h)) = fresh_zero bus k h.1 (λ a b. let l = h.0 in absurd (omega arith))

module _ (b : List ℕ) (s : Settings) (l : Limits) (place : ℕ) (w : Well b) (h : get_or b 805 0 < 32) where
  abbrev n : ℕ
  n = get_or b 805 0

  abbrev vs : List ℕ
  vs = columns_of s (fresh_outlet l) place

  abbrev next : List ℕ
  next = declared_by b s (fresh_outlet l) place

  formed_at : (i : ℕ) → i < 32 → i < n + 1 → (t : Bool) → eqb i n ≡ t → formed (col next i) ≡ true
  formed_at i hi m true q =
      ap (λ j. formed (col next j)) (eqb-true i n q) ∙ same_formed (col next n) (λ k. get_or vs k 0) (placed_here b n vs h w.long refl) ∙ columns_formed s l place
  formed_at i hi m false q =
      let ne = eqb-false i n q in
      same_formed (col next i) (col b i) (placed_there b n vs h w.long refl i hi ne)
      ∙ lanes_at (λ j. formed (col b j)) n 0 32 i w.formed (omega arith) (omega arith) (omega arith)

  -- the sessions of the places behind
  sessions_behind : (j : ℕ) → j < 32 → n < j → part next (1024 + 32 * j) 32 ≡ part b (1024 + 32 * j) 32
  unfolding unit_by
  sessions_behind j hj more =
      ap (λ u. u.sessions)
      (sym (unit_at_lem next j blank hj) ∙ ap (λ x. get_or x.units j blank) (declared_shelf b s l place w.long h)
      ∙ get_or-set_other (shelf_in b).units n j (unit s l place) blank (λ e. absurd (omega arith)) ∙ unit_at_lem b j blank hj)

  spare_kept : (k : ℕ) → Spare next k → get_or next k 0 ≡ 0
  spare_kept k (inl (inl x)) = placed_kept b n vs h w.long refl k (λ c hc q. absurd (omega arith)) (omega arith) (λ q. absurd (omega arith)) ∙ w.spare k (inl (inl x))
  spare_kept k (inl (inr x)) = placed_kept b n vs h w.long refl k (λ c hc q. absurd (omega arith)) (omega arith) (λ q. absurd (omega arith)) ∙ w.spare k (inl (inr x))
  spare_kept k (inr (inl x)) =
      let e = placed_count b n vs h w.long refl in
      let past = x.1 in
      let split : k ≡ k / 32 * 32 + k % 32 = omega arith in
      ap (λ i. get_or next i 0) split ∙ placed_there b n vs h w.long refl (k % 32) (omega arith) (λ q. absurd (omega (arith, e, past, q))) (k / 32) (in_column k x.0)
      ∙ ap (λ i. get_or b i 0) (sym split) ∙ w.spare k (inr (inl (x.0, omega (arith, e, past))))
  spare_kept k (inr (inr x)) =
      let e = placed_count b n vs h w.long refl in
      let past = x.0 in
      let k_below = x.1 in
      let j = (k - 1024) / 32 in
      let m = (k - 1024) % 32 in
      let hm : m < 32 = omega arith in
      let hj : j < 32 = omega arith in
      let more : n < j = omega (arith, e, past) in
      let split : k ≡ 1024 + 32 * j + m = omega (arith, e, past) in
      ap (λ i. get_or next i 0) split ∙ sym (part_at next (1024 + 32 * j) 32 m hm) ∙ ap (λ l. get_or l m 0) (sessions_behind j hj more) ∙ part_at b (1024 + 32 * j) 32 m hm
      ∙ ap (λ i. get_or b i 0) (sym split) ∙ w.spare k (inr (inr (omega (arith, e, past), k_below)))

  declared_well : Well next
  declared_well =
      let e = placed_count b n vs h w.long refl in
      record {
        long = placed_long b n vs h w.long refl;
        formed = lanes_all (λ i. formed (col next i)) (get_or next 805 0) 0 32 (λ i a m c. formed_at i (omega arith) (omega (arith, e, c)) (eqb i n) refl);
        spare = spare_kept;
      }

joined_well : (b : List ℕ) (i session : ℕ) → Well b → i < 32 → i < get_or b 805 0 → session < 256 → Well (joined b i session)
joined_well b i session w hi lo small =
    let k : session / 8 < 32 = omega arith in
    let v = bit_or (get_or b (1024 + 32 * i + session / 8) 0) (2 ^ (session % 8)) in
    let count = session_kept b i (session / 8) v hi k w.long 805 (λ e. absurd (omega arith)) in
    record {
      long = session_long b i (session / 8) v hi k w.long;
      formed = lanes_all (λ j. formed (col (joined b i session) j)) (get_or (joined b i session) 805 0) 0 32
          (λ j a m c. same_formed (col (joined b i session) j) (col b j) (λ x hx. session_kept b i (session / 8) v hi k w.long (x * 32 + j) (λ e. absurd (omega arith)))
          ∙ lanes_at (λ x. formed (col b x)) (get_or b 805 0) 0 32 j w.formed a m (omega (arith, count, c)));
      spare = zero;
    }
  where
    hk : session / 8 < 32
    hk = omega arith

    same : (x : ℕ) → (x ≡ 1024 + 32 * i + session / 8 → ⊥) → get_or (joined b i session) x 0 ≡ get_or b x 0
    same = session_kept b i (session / 8) (bit_or (get_or b (1024 + 32 * i + session / 8) 0) (2 ^ (session % 8))) hi hk w.long

    zero : (x : ℕ) → Spare (joined b i session) x → get_or (joined b i session) x 0 ≡ 0
    zero x (inl (inl h)) = same x (λ e. absurd (omega arith)) ∙ w.spare x (inl (inl h))
    zero x (inl (inr h)) = same x (λ e. absurd (omega arith)) ∙ w.spare x (inl (inr h))
    zero x (inr (inl h)) =
        let count = same 805 (λ e. absurd (omega arith)) in
        let column = in_column x h.0 in
        let past = h.1 in
        same x (λ e. absurd (omega arith)) ∙ w.spare x (inr (inl (h.0, omega (arith, count, past))))
    zero x (inr (inr h)) =
        let count = same 805 (λ e. absurd (omega arith)) in
        let past = h.0 in
        same x (λ e. absurd (omega (arith, count, past, e, hk, lo))) ∙ w.spare x (inr (inr (omega (arith, count, past), h.1)))

join_well : (b : List ℕ) (a session : ℕ) (f : Option ℕ) → Well b → session < 256 → find_in (declared (shelf_in b)) a ≡ f → Well (joined_at b f session)
unfolding joined_at
join_well b a session (Some i) w small e =
    let f = (find_at a (declared (shelf_in b)) i).0 e in
    let n = declared_length (shelf_in b) (units_length b 0 32) in
    joined_well b i session w (found_in (shelf_in b) a i (units_length b 0 32) e) (omega (arith, f.inside, n)) small
join_well b a session None w small e = w

pub state_well : (l : Line) (place : ℕ) (b : List ℕ) → Well b → Roomy b l → Ranged l → Well (state_by l place b)
unfolding state_by
state_well (Bus bus) place b w r g = fresh_well bus
state_well (L-as-Unit settings limits) place b w r g = declared_well b settings limits place w r
state_well (Vp a v target class outvpi) place b w r g = w
state_well (Drop a v) place b w r g = w
state_well (Page a v top) place b w r g = w
state_well (Vc a v x target class outvpi outvci) place b w r g = w
state_well (Mc a session) place b w r g = join_well b a session (find_in (declared (shelf_in b)) a) w g refl

pub state_decodes : (l : Line) (place : ℕ) (b : List ℕ) → length b ≡ 2048 → Roomy b l → Ranged l → shelf_in (state_by l place b) ≡ shelf_by l place (shelf_in b)
unfolding state_by shelf_by declare
state_decodes (Bus bus) place b long r g = fresh_shelf bus
state_decodes (L-as-Unit settings limits) place b long r g = declared_shelf b settings limits place long r
state_decodes (Vp a v target class outvpi) place b long r g = refl
state_decodes (Drop a v) place b long r g = refl
state_decodes (Page a v top) place b long r g = refl
state_decodes (Vc a v x target class outvpi outvci) place b long r g = refl
state_decodes (Mc a session) place b long r g = join_decodes b a session long g (find_in (declared (shelf_in b)) a) refl
