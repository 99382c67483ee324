-- What the definitions of the counters say: which field each counter is, which rows change and how. Assumes nothing.
use Rattle.std.proofs.Common.{◌≡◌, ℕ, zero as none, suc, ◌+◌, ◌/◌, ◌%◌, ◌^◌, ◌<◌, ◌≤◌, Bool, true, false, cond, leb, ◌⊎◌, List, [], ◌∷◌, length, get_or, set, replicate, sym, refl, ap, ◌∙◌, ⊎_elim, le_antisymm, eq-or-lt_of_le, add-one, arith, Option, Some, None, length-set, get_or-set_other, get_or-set_same, ne_eqb, le-leb, leb-true}
use lib.ListN.{length-replicate}
use borrow.Author.Tests.{lt-leb}
use Rattle.answer.specs.declared.Rises.{Rises}
use Rattle.answer.specs.declared.Rise.{Rise}
use Rattle.answer.specs.declared.Single.{Single}
use Rattle.answer.specs.Answers.{row, spread, outcome_by}
use Rattle.answer.specs.declared.Counters.{Counters}
use Rattle.answer.specs.Counting.{value, zeros, raised, row_after, rise_at, row_by, settled_to, settled, rises_to, raised_from, place_in, many_in, place_of, many_of}

-- each counter rises by its own bit, and no other
pub raised_value : (c : Counters) (n k : ℕ) → k < 13 → value (raised c n) k ≡ (value c k + n / 2 ^ k % 2) % 2 ^ 32
unfolding raised
raised_value c n none h = refl
raised_value c n (suc none) h = refl
raised_value c n (suc (suc none)) h = refl
raised_value c n (suc (suc (suc none))) h = refl
raised_value c n (suc (suc (suc (suc none)))) h = refl
raised_value c n (suc (suc (suc (suc (suc none))))) h = refl
raised_value c n (suc (suc (suc (suc (suc (suc none)))))) h = refl
raised_value c n (suc (suc (suc (suc (suc (suc (suc none))))))) h = refl
raised_value c n (suc (suc (suc (suc (suc (suc (suc (suc none)))))))) h = refl
raised_value c n (suc (suc (suc (suc (suc (suc (suc (suc (suc none))))))))) h = refl
raised_value c n (suc (suc (suc (suc (suc (suc (suc (suc (suc (suc none)))))))))) h = refl
raised_value c n (suc (suc (suc (suc (suc (suc (suc (suc (suc (suc (suc none))))))))))) h = refl
raised_value c n (suc (suc (suc (suc (suc (suc (suc (suc (suc (suc (suc (suc none)))))))))))) h = refl
raised_value c n (suc (suc (suc (suc (suc (suc (suc (suc (suc (suc (suc (suc (suc k))))))))))))) h = absurd (omega arith)

-- what holds of either way of a choice
chosen : (P : List Counters → Type 0) (b : Bool) (x y : List Counters) → (b ≡ true → P x) → (b ≡ false → P y) → P (cond b x y)
chosen P true x y p q = p refl
chosen P false x y p q = q refl

-- each counter is one of so many
pub record Fitting (c : Counters) : Type 0 where
  pub arrived : c.arrived < 2 ^ 32
  pub hec : c.hec < 2 ^ 32
  pub ignored : c.ignored < 2 ^ 32
  pub misrouted : c.misrouted < 2 ^ 32
  pub inletfull : c.inletfull < 2 ^ 32
  pub sent : c.sent < 2 ^ 32
  pub unheard : c.unheard < 2 ^ 32
  pub damaged : c.damaged < 2 ^ 32
  pub queued : c.queued < 2 ^ 32
  pub full : c.full < 2 ^ 32
  pub clp : c.clp < 2 ^ 32
  pub wide : c.wide < 2 ^ 32
  pub taken : c.taken < 2 ^ 32

same : (x : ℕ) → x < 2 ^ 32 → (x + 0) % 2 ^ 32 ≡ x
same x h = omega arith

-- by the empty set none rises
pub raised_none : (c : Counters) → Fitting c → raised c 0 ≡ c
unfolding raised
raised_none c f =
    λ i. record {
      arrived = same c.arrived f.arrived i;
      hec = same c.hec f.hec i;
      ignored = same c.ignored f.ignored i;
      misrouted = same c.misrouted f.misrouted i;
      inletfull = same c.inletfull f.inletfull i;
      sent = same c.sent f.sent i;
      unheard = same c.unheard f.unheard i;
      damaged = same c.damaged f.damaged i;
      queued = same c.queued f.queued i;
      full = same c.full f.full i;
      clp = same c.clp f.clp i;
      wide = same c.wide f.wide i;
      taken = same c.taken f.taken i;
    }

-- a set of counters has no more than thirteen bits
low_set : (c : Counters) (n : ℕ) → raised c (n % 8192) ≡ raised c n
unfolding raised
low_set c n =
    λ i. record {
      arrived = (c.arrived + bit₀ i) % 2 ^ 32;
      hec = (c.hec + bit₁ i) % 2 ^ 32;
      ignored = (c.ignored + bit₂ i) % 2 ^ 32;
      misrouted = (c.misrouted + bit₃ i) % 2 ^ 32;
      inletfull = (c.inletfull + bit₄ i) % 2 ^ 32;
      sent = (c.sent + bit₅ i) % 2 ^ 32;
      unheard = (c.unheard + bit₆ i) % 2 ^ 32;
      damaged = (c.damaged + bit₇ i) % 2 ^ 32;
      queued = (c.queued + bit₈ i) % 2 ^ 32;
      full = (c.full + bit₉ i) % 2 ^ 32;
      clp = (c.clp + bit₁₀ i) % 2 ^ 32;
      wide = (c.wide + bit₁₁ i) % 2 ^ 32;
      taken = (c.taken + bit₁₂ i) % 2 ^ 32;
    }
  where
    bit₀ : n % 8192 / 1 % 2 ≡ n / 1 % 2
    bit₀ = omega arith

    bit₁ : n % 8192 / 2 % 2 ≡ n / 2 % 2
    bit₁ = omega arith

    bit₂ : n % 8192 / 4 % 2 ≡ n / 4 % 2
    bit₂ = omega arith

    bit₃ : n % 8192 / 8 % 2 ≡ n / 8 % 2
    bit₃ = omega arith

    bit₄ : n % 8192 / 16 % 2 ≡ n / 16 % 2
    bit₄ = omega arith

    bit₅ : n % 8192 / 32 % 2 ≡ n / 32 % 2
    bit₅ = omega arith

    bit₆ : n % 8192 / 64 % 2 ≡ n / 64 % 2
    bit₆ = omega arith

    bit₇ : n % 8192 / 128 % 2 ≡ n / 128 % 2
    bit₇ = omega arith

    bit₈ : n % 8192 / 256 % 2 ≡ n / 256 % 2
    bit₈ = omega arith

    bit₉ : n % 8192 / 512 % 2 ≡ n / 512 % 2
    bit₉ = omega arith

    bit₁₀ : n % 8192 / 1024 % 2 ≡ n / 1024 % 2
    bit₁₀ = omega arith

    bit₁₁ : n % 8192 / 2048 % 2 ≡ n / 2048 % 2
    bit₁₁ = omega arith

    bit₁₂ : n % 8192 / 4096 % 2 ≡ n / 4096 % 2
    bit₁₂ = omega arith

-- the one number of a row says what becomes of it
pub row_by_lem : (c : Counters) (rises : Rises) (i : ℕ) → row_by c (rise_at rises i) ≡ row_after c rises i
unfolding rise_at row_after row_by
row_by_lem c rises i = by_anew rises.anew
  where
    n : ℕ
    n = get_or rises.each i 0

    by_anew : (b : Bool) → row_by c (cond b 8192 (n % 8192)) ≡ cond b zeros (raised c n)
    by_anew true = refl
    by_anew false = rw (ne_eqb (n % 8192) 8192 (omega arith)) (low_set c n)

-- so a row whose number is 0 stays
pub untouched : (c : Counters) (rises : Rises) (i : ℕ) → Fitting c → rise_at rises i ≡ 0 → row_after c rises i ≡ c
unfolding row_by
untouched c rises i f h = sym (row_by_lem c rises i) ∙ rw h (raised_none c f)

module _ (rows : List Counters) (rises : Rises) where
  -- the rows once the places before i are done
  abbrev up_to : ℕ → List Counters
  up_to i = settled_to rows rises i

  abbrev new : ℕ → Counters
  new i = row_after (get_or rows i zeros) rises i

  -- up to the first that changes all are as they were
  pub settled_none : (i : ℕ) → i ≤ rises.from → up_to i ≡ rows
  unfolding settled_to
  settled_none none h = refl
  settled_none (suc i) h = rw (lt-leb rises.from i h) (settled_none i (omega arith))

  -- a place from there on
  pub settled_next : (i : ℕ) → rises.from ≤ i → up_to (i + 1) ≡ set (up_to i) i (new i)
  unfolding settled_to
  settled_next i h = rw (add-one i, le-leb rises.from i h)

  pub length_settled : (i : ℕ) → length (up_to i) ≡ length rows
  unfolding settled_to
  length_settled none = refl
  length_settled (suc i) =
      chosen (λ l. length l ≡ length rows) (leb rises.from i) _ _ (λ _. length-set (up_to i) i (new i) ∙ length_settled i) (λ _. length_settled i)

  -- a row past the places that are done is as it was
  pub settled_ahead : (i k : ℕ) → i ≤ k → get_or (up_to i) k zeros ≡ get_or rows k zeros
  unfolding settled_to
  settled_ahead none k h = refl
  settled_ahead (suc i) k h =
      let old : get_or (up_to i) k zeros ≡ get_or rows k zeros = settled_ahead i k (omega arith) in
      chosen (λ l. get_or l k zeros ≡ get_or rows k zeros) (leb rises.from i) _ _
      (λ _. get_or-set_other (up_to i) i k (new i) zeros (λ e. omega arith) ∙ old) (λ _. old)

  -- so is one before the first that changes
  pub settled_behind : (i k : ℕ) → k < rises.from → get_or (up_to i) k zeros ≡ get_or rows k zeros
  unfolding settled_to
  settled_behind none k h = refl
  settled_behind (suc i) k h =
      chosen (λ l. get_or l k zeros ≡ get_or rows k zeros) (leb rises.from i) _ _
      (λ t. get_or-set_other (up_to i) i k (new i) zeros (λ e. omega (arith, leb-true rises.from i t)) ∙ settled_behind i k h) (λ _. settled_behind i k h)

  -- and one between has changed, once
  pub settled_row : (i k : ℕ) → rises.from ≤ k → k < i → k < length rows → get_or (up_to i) k zeros ≡ new k
  unfolding settled_to
  settled_row none k f h l = absurd (omega arith)
  settled_row (suc i) k f h l =
      ⊎_elim
      (λ (e : k ≡ i).
      let here : get_or (up_to (suc i)) i zeros ≡ new i = rw (le-leb rises.from i (omega arith)) (get_or-set_same (up_to i) i (new i) zeros (omega (arith, length_settled i))) in
      rw e here)
      (λ (less : k < i).
      chosen (λ l. get_or l k zeros ≡ new k) (leb rises.from i) _ _
      (λ _. get_or-set_other (up_to i) i k (new i) zeros (λ e. omega arith) ∙ settled_row i k f less l) (λ _. settled_row i k f less l))
      (eq-or-lt_of_le {n = k} {m = i} (omega arith))

  -- the loop over the places ends where the last is done, also where none was to be
  pub settled_end : (i : ℕ) → rises.to ≤ i → (i ≤ rises.to) ⊎ (i ≤ rises.from) → up_to i ≡ settled rows rises
  settled_end i h w =
      ⊎_elim (λ (e : i ≤ rises.to). ap up_to (le_antisymm e h)) (λ (e : i ≤ rises.from). settled_none i e ∙ sym (settled_none rises.to (omega arith))) w

-- a row of a frame: by its own set, which is in hand
pub rises_own : (c : Counters) (n : ℕ) (each : List ℕ) (i set : ℕ) → get_or each i 0 ≡ set → raised c set ≡ row_after c (rises_to n each) i
unfolding row_after
rises_own c n each i set e = ap (raised c) (sym e)

-- rows raised one after the other, each by its own set
module _ (rows : List Counters) (at : ℕ) (sets : List ℕ) where
  pub raised_start : raised_from rows at sets 0 ≡ rows
  unfolding raised_from
  raised_start = refl

  pub raised_next : (k : ℕ) → raised_from rows at sets (k + 1) ≡ set (raised_from rows at sets k) (at + k) (raised (get_or rows (at + k) zeros) (get_or sets k 0))
  unfolding raised_from
  raised_next k = rw (add-one k)

  pub length_raised : (k : ℕ) → length (raised_from rows at sets k) ≡ length rows
  unfolding raised_from
  length_raised none = refl
  length_raised (suc k) = length-set (raised_from rows at sets k) (at + k) _ ∙ length_raised k

  -- a row past those that are done is as it was
  pub raised_ahead : (k i : ℕ) → at + k ≤ i → get_or (raised_from rows at sets k) i zeros ≡ get_or rows i zeros
  unfolding raised_from
  raised_ahead none i h = refl
  raised_ahead (suc k) i h = get_or-set_other (raised_from rows at sets k) (at + k) i _ zeros (λ e. omega arith) ∙ raised_ahead k i (omega arith)

-- from the first row on: as of a frame
pub raised_all : (rows : List Counters) (sets : List ℕ) (n k : ℕ) → raised_from rows 0 sets k ≡ settled_to rows (rises_to n sets) k
unfolding raised_from settled_to row_after
raised_all rows sets n none = refl
raised_all rows sets n (suc k) =
    let same : 0 + k ≡ k = omega arith in
    rw (le-leb 0 k (omega arith), same) (ap (λ (l : List Counters). set l k (raised (get_or rows k zeros) (get_or sets k 0))) (raised_all rows sets n k))

-- an event at one unit that is counted: one row changes
one_row : (rows : List Counters) (place n : ℕ) → place < 32 → settled rows (row place n) ≡ set rows place (raised (get_or rows place zeros) n)
unfolding row_after
one_row rows place n h =
    settled_next rows (row place n) place (omega arith)
    ∙ (λ i. set (settled_none rows (row place n) place (omega arith) i) place (raised (get_or rows place zeros) (own i)))
  where
    zeroed : List ℕ
    zeroed = replicate 32 0

    own : get_or (set zeroed place n) place 0 ≡ n
    own = get_or-set_same zeroed place n 0 (omega (arith, length-replicate {A = ℕ} 32 0))

-- raised by its one set, the rows are as they are to be
pub raised_one : (rows : List Counters) (rise : Rise) → rise.place < 32 → raised_from rows rise.place (rise.counters ∷ []) 1 ≡ settled rows (spread (Some rise))
unfolding raised_from spread
raised_one rows rise h =
    let here : rise.place + 0 ≡ rise.place = omega arith in
    ap (λ (i : ℕ). set rows i (raised (get_or rows i zeros) rise.counters)) here ∙ sym (one_row rows rise.place rise.counters h)

module _ (done : Single) where
  abbrev rising : Rises
  rising = (outcome_by done).rises

  -- the rows that change end at the last
  pub placed_last : place_of done + many_of done ≡ rising.to
  unfolding place_in many_in spread
  placed_last = by_rise done.rise
    where
      by_rise : (o : Option Rise) → place_in o + many_in o ≡ (spread o).to
      by_rise (Some rise) = refl
      by_rise None = refl
