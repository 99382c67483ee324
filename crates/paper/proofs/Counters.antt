-- What the code's rooms say of counters is what the paper says. Assumes nothing.
use Prim.Native.Nat.{ℕ, zero as none, suc, ◌+◌, ◌/◌, ◌%◌, ◌^◌, ◌<◌, ◌≤◌}
use native.Mathlib.Nat.{mod-lt}
use native.Mathlib.Omega.{arith}
use mathlib.Core.Path.{◌≡◌, refl, sym, ap, ap₂, subst, ◌∙◌}
use mathlib.Core.Logic.{◌≢◌}
use mathlib.Core.Bool.{Bool, true, false, ◌&&◌, false≢true}
use mathlib.Core.List.{List, [], ◌∷◌, ◌++◌}
use lib.Bits.{bit_or, or_zero_l, or_zero_r, or_shr, or_mod}
use lib.Dec.{eqb}
use lib.ListN.{length, get_or, replicate}
use lib.Seq.{get_or-set_same}
use borrow.Author.Tests.{eqb-true, eqb-false}
use Rattle.answer.specs.Answers.{#taken, arrival_rises, hearing_rises, row}
use Rattle.answer.specs.declared.Rises.{Rises}
use Rattle.answer.specs.declared.Arrival as A
use Rattle.answer.specs.declared.Arrival.TheVariants as arrival
use Rattle.answer.specs.declared.Hearing as H
use Rattle.answer.specs.declared.Hearing.TheVariants as hearing
use Rattle.answer.specs.Counting.{value, raised, row_after, settled}
use Rattle.answer.specs.declared.Counters as C
use Rattle.answer.proofs.Settling.{raised_value, length_settled, settled_row, settled_ahead, settled_behind}
use Rattle.store.proofs.Slots.{by_lt}
use Rattle.paper.specs.Counters.{Counter, arrived, hec, ignored, misrouted, inletfull, sent, unheard, damaged, queued, full, clp, wide, taken, place_of, value_of, arrival_counts, hearing_counts, sent_counts, occurs, Risen, row_at, RisenAt, RisenIn}
use Rattle.outlet.proofs.Truth.{decide}

-- there are thirteen
pub placed : (c : Counter) → place_of c < 13
placed arrived = omega arith
placed hec = omega arith
placed ignored = omega arith
placed misrouted = omega arith
placed inletfull = omega arith
placed sent = omega arith
placed unheard = omega arith
placed damaged = omega arith
placed queued = omega arith
placed full = omega arith
placed clp = omega arith
placed wide = omega arith
placed taken = omega arith

-- a test: the places before m
unfoldable pub tallies : ℕ → List Counter → ℕ → Bool
tallies n cs none = true
tallies n cs (suc k) = eqb (n / 2 ^ k % 2) (occurs cs k) && tallies n cs k

-- a test of two tests
pub both : (a b : Bool) → (a && b) ≡ true → (a ≡ true) × (b ≡ true)
both true b e = (refl, e)
both false b e = absurd (false≢true e)

-- what it says of each of them
tallied : (n : ℕ) (cs : List Counter) (m k : ℕ) → tallies n cs m ≡ true → k < m → n / 2 ^ k % 2 ≡ occurs cs k
unfolding tallies
tallied n cs none k e h = absurd (omega arith)
tallied n cs (suc m) k e h =
    let b = both (eqb (n / 2 ^ m % 2) (occurs cs m)) (tallies n cs m) e in
    decide (eqb k m) (λ t. rw (eqb-true k m t) (eqb-true (n / 2 ^ m % 2) (occurs cs m) b.0))
    (λ f. tallied n cs m k b.1 (let d = eqb-false k m f in omega (arith, d)))

-- the set n has just the counters of a list
abbrev pub Agree : ℕ → List Counter → Type 0
Agree n cs = (c : Counter) → n / 2 ^ place_of c % 2 ≡ occurs cs (place_of c)

-- the test of all thirteen says it of each counter
pub agree : (n : ℕ) (cs : List Counter) → tallies n cs 13 ≡ true → Agree n cs
agree n cs e c = tallied n cs 13 (place_of c) e (placed c)

-- an arrival, a hearing, a take
pub agree_arrival : (fate : A.Arrival) → Agree (arrival_rises fate) (arrival_counts fate)
unfolding arrival_rises arrival_counts tallies occurs
agree_arrival arrival.Hec = agree 3 (arrived ∷ hec ∷ []) refl
agree_arrival arrival.Ignored = agree 5 (arrived ∷ ignored ∷ []) refl
agree_arrival arrival.Misrouted = agree 9 (arrived ∷ misrouted ∷ []) refl
agree_arrival arrival.Inletfull = agree 17 (arrived ∷ inletfull ∷ []) refl
agree_arrival arrival.Queued = agree 1 (arrived ∷ []) refl

pub agree_hearing : (fate : H.Hearing) → Agree (hearing_rises fate) (hearing_counts fate)
unfolding hearing_rises hearing_counts tallies occurs
agree_hearing hearing.Damaged = agree 128 (damaged ∷ []) refl
agree_hearing hearing.Other = agree 0 [] refl
agree_hearing hearing.Wide = agree 2048 (wide ∷ []) refl
agree_hearing hearing.Full = agree 512 (full ∷ []) refl
agree_hearing hearing.Clp = agree 1024 (clp ∷ []) refl
agree_hearing hearing.Queued = agree 256 (queued ∷ []) refl

pub agree_taken : Agree #taken (taken ∷ [])
unfolding tallies occurs
agree_taken = agree #taken (taken ∷ []) refl

-- two sets with no counter in common, joined: how often a counter is in two lists, and a bit of two numbers
pub occurs_both : (cs ds : List Counter) (k : ℕ) → occurs (cs ++ ds) k ≡ occurs cs k + occurs ds k
unfolding occurs
occurs_both [] ds k = omega arith
occurs_both (c ∷ cs) ds k =
    let e = occurs_both cs ds k in
    decide (eqb (place_of c) k) (λ t. rw t (omega (arith, e))) (λ f. rw f e)

or_of_bits : (x y : ℕ) → x + y ≤ 1 → bit_or x y ≡ x + y
or_of_bits none y h = or_zero_l y ∙ omega arith
or_of_bits (suc x) y h = let e : y ≡ 0 = omega arith in ap (bit_or (suc x)) e ∙ or_zero_r (suc x) ∙ omega arith

pub agree_both : (a b : ℕ) (cs ds : List Counter) → Agree a cs → Agree b ds → ((c : Counter) → occurs cs (place_of c) + occurs ds (place_of c) ≤ 1) → Agree (bit_or a b) (cs ++ ds)
agree_both a b cs ds agrees agrees' apart c =
    let k = place_of c in
    let x = a / 2 ^ k % 2 in
    let y = b / 2 ^ k % 2 in
    let p = agrees c in
    let q = agrees' c in
    let most = apart c in
    let one : x + y ≤ 1 = omega arith in
    ap (λ n. n % 2) (or_shr a b k) ∙ or_mod (a / 2 ^ k) (b / 2 ^ k) 1 ∙ or_of_bits x y one ∙ ap₂ ◌+◌ p q ∙ sym (occurs_both cs ds k)

-- 02, W1: "leaving either outlet is `taken`": a cell that moves at the start of a frame besides what the frame counts
pub agree_moved : (n : ℕ) (cs : List Counter) → Agree n cs → occurs cs 12 ≡ 0 → Agree (bit_or #taken n) (taken ∷ cs)
unfolding occurs
agree_moved n cs agrees zero_there = agree_both #taken n (taken ∷ []) cs agree_taken agrees apart
  where
    apart : (c : Counter) → occurs (taken ∷ []) (place_of c) + occurs cs (place_of c) ≤ 1
    apart c =
        let few : occurs cs (place_of c) < 2 = subst (λ m. m < 2) (agrees c) (mod-lt (n / 2 ^ place_of c) (omega arith)) in
        decide (eqb 12 (place_of c))
        (λ t. let there : occurs cs (place_of c) ≡ 0 = ap (occurs cs) (sym (eqb-true 12 (place_of c) t)) ∙ zero_there in rw t (omega (arith, there)))
        (λ f. rw f (omega (arith, few)))

-- neither hearing nor sending counts `taken`
pub none_taken_heard : (fate : H.Hearing) → occurs (hearing_counts fate) 12 ≡ 0
unfolding hearing_counts occurs
none_taken_heard hearing.Damaged = refl
none_taken_heard hearing.Other = refl
none_taken_heard hearing.Wide = refl
none_taken_heard hearing.Full = refl
none_taken_heard hearing.Clp = refl
none_taken_heard hearing.Queued = refl

pub none_taken_sent : (heard : Bool) → occurs (sent_counts heard) 12 ≡ 0
unfolding sent_counts occurs
none_taken_sent true = refl
none_taken_sent false = refl

-- a row by a counter's name, and by its place
pub value_is : (x : C.Counters) (c : Counter) → value_of x c ≡ value x (place_of c)
value_is x arrived = refl
value_is x hec = refl
value_is x ignored = refl
value_is x misrouted = refl
value_is x inletfull = refl
value_is x sent = refl
value_is x unheard = refl
value_is x damaged = refl
value_is x queued = refl
value_is x full = refl
value_is x clp = refl
value_is x wide = refl
value_is x taken = refl

-- a row whose counters of a list rise
raised_risen : (x : C.Counters) (n : ℕ) (cs : List Counter) → Agree n cs → Risen x cs (raised x n)
raised_risen x n cs a c =
    value_is (raised x n) c ∙ raised_value x n (place_of c) (placed c) ∙ ap₂ (λ k m. (k + m) % 2 ^ 32) (sym (value_is x c)) (a c)

-- one row
pub risen_at : (rows : List C.Counters) (place n : ℕ) (cs : List Counter) → place < length rows → place < 32 → Agree n cs → RisenAt rows place cs (settled rows (row place n))
unfolding row_after
risen_at rows place n cs inside below a =
    record {
      many = length_settled rows (row place n) (place + 1);
      own = subst (λ x. Risen (row_at rows place) cs x) (sym here) (raised_risen (row_at rows place) n cs a);
      others = λ j d. by_lt j place (λ b. settled_behind rows (row place n) (place + 1) j b) (λ b. settled_ahead rows (row place n) (place + 1) j (omega (arith, d)));
    }
  where
    here : row_at (settled rows (row place n)) place ≡ raised (row_at rows place) n
    here =
        settled_row rows (row place n) (place + 1) place (omega arith) (omega arith) inside
        ∙ ap (raised (row_at rows place)) (get_or-set_same (replicate 32 0) place n 0 below)

-- the rows of the declared units
pub risen_in : (rows : List C.Counters) (n : ℕ) (each : List ℕ) (cs : ℕ → List Counter) → n ≤ length rows → ((j : ℕ) → j < n → Agree (get_or each j 0) (cs j)) →
    RisenIn rows n cs (settled rows (record { from = 0; to = n; anew = false; each = each }))
unfolding row_after
risen_in rows n each cs enough a =
    record {
      many = length_settled rows rises n;
      each = λ j b. subst (λ x. Risen (row_at rows j) (cs j) x) (sym (settled_row rows rises n j (omega arith) b (omega arith))) (raised_risen (row_at rows j) (get_or each j 0) (cs j) (a j b));
      beyond = λ j b. settled_ahead rows rises n j b;
    }
  where
    rises : Rises
    rises = record { from = 0; to = n; anew = false; each = each }
