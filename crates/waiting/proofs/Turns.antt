-- The arbiter alone, over plain lists: a grant to another unit at 3 brings nearer the turn of one that asks at 3. Assumes nothing.
use Prim.Native.Nat.{ℕ, ◌+◌, ◌-◌, ◌<◌, ◌≤◌}
use native.Mathlib.Omega.{arith}
use mathlib.Core.Path.{◌≡◌, refl, sym, subst, ◌∙◌}
use mathlib.Core.Logic.{◌≢◌}
use mathlib.Core.Bool.{Bool, true, false, false≢true}
use mathlib.Core.List.Memᴰ
use mathlib.Core.List.{List, [], ◌∷◌, Memᴰ as In}
use lib.Dec.{eqb, leb}
use lib.ListN.{length, get_or}
use borrow.Author.Tests.{eqb-true, eqb-false, leb-true, le-leb, lt-leb, lt-ltb, le-ltb}
use Rattle.outlet.proofs.Truth.{decide}
use Rattle.store.proofs.Slots.{by_lt}
use Rattle.arbiter.specs.Arbitration.{granted}
use Rattle.arbiter.specs.declared.Grant.{Grant}
use Rattle.paper.specs.Grants.{turn, last_at}
use Rattle.paper.proofs.Grants.{Turns, turns}
use Rattle.paper.proofs.Grants as paper
use Rattle.flow.specs.Parts.{among}
use Rattle.waiting.specs.Waiting.{up_to, InTurn}

-- no more meet a test than there are
pub few_among : (test : ℕ → Bool) (l : List ℕ) → length (among test l) ≤ length l
unfolding among
few_among test [] = omega arith
few_among test (n ∷ l) = let rest = few_among test l in decide (test n) (λ t. rw t (omega arith)) (λ t. rw t (omega arith))

-- of those that meet one test fewer meet another, if whoever meets that one meets it, and one does not
module _ (p q : ℕ → Bool) (less : (n : ℕ) → p n ≡ true → q n ≡ true) where
  as_few : (l : List ℕ) → length (among p l) ≤ length (among q l)
  unfolding among
  as_few [] = omega arith
  as_few (n ∷ l) =
      let rest = as_few l in
      decide (p n) (λ t. rw (t, less n t) (omega arith)) (λ f. rw f (decide (q n) (λ t. rw t (omega arith)) (λ g. rw g rest)))

  fewer : (v : ℕ) (l : List ℕ) → In v l → p v ≡ false → q v ≡ true → length (among p l) < length (among q l)
  unfolding among
  fewer v [] m fails meets = absurd (Memᴰ.not-nil m)
  fewer v (n ∷ l) (In.head e) fails meets = let rest = as_few l in rw (← e, fails, meets) (omega arith)
  fewer v (n ∷ l) (In.tail m) fails meets =
      let rest = fewer v l m fails meets in
      decide (p n) (λ t. rw (t, less n t) (omega arith)) (λ f. rw f (decide (q n) (λ t. rw t (omega arith)) (λ g. rw g rest)))

-- so many steps from the last one granted lead to a unit: up to it, or round the 32
module _ (last n : ℕ) where
  above : last < 32 → last < n → turn last n ≡ n - last - 1
  above low h = rw (lt-ltb last 32 low, lt-ltb last n h)

  round : last < 32 → n ≤ last → turn last n ≡ n + 31 - last
  round low h = rw (lt-ltb last 32 low, le-ltb last n h)

  from_none : 32 ≤ last → turn last n ≡ n
  from_none high = rw (le-ltb last 32 high)

  steps : {P : Type 0} → last < 32 → (turn last n + last + 1 ≡ n → P) → (n ≤ last → turn last n + last ≡ n + 31 → P) → P
  steps low f g = by_lt last n (λ h. let e = above low h in f (omega arith)) (λ h. let e = round low h in g h (omega arith))

-- over a unit on the way it is no shorter
module _ (last v : ℕ) (low : v < 32) where
  over : (n : ℕ) → turn last n ≤ turn last v + turn v n + 1
  over n =
      by_lt last 32
      (λ h. steps last n h (λ a. steps last v h (λ b. steps v n low (λ c. omega arith) (λ o c. omega arith)) (λ p b. steps v n low (λ c. omega arith) (λ o c. omega arith)))
      (λ q a. steps last v h (λ b. steps v n low (λ c. omega arith) (λ o c. omega arith)) (λ p b. steps v n low (λ c. omega arith) (λ o c. omega arith))))
      (λ h. let a = from_none last n h in let b = from_none last v h in steps v n low (λ c. omega arith) (λ o c. omega arith))

  -- and no longer, if that one comes first
  along : (n : ℕ) → n < 32 → v ≢ n → turn last v ≤ turn last n → turn last v + turn v n + 1 ≡ turn last n
  along n few other before =
      by_lt last 32
      (λ h. steps last n h (λ a. steps last v h (λ b. steps v n low (λ c. omega arith) (λ o c. absurd (other (omega arith)))) (λ p b. absurd (omega arith)))
      (λ q a. steps last v h (λ b. steps v n low (λ c. omega arith) (λ o c. omega arith)) (λ p b. steps v n low (λ c. omega arith) (λ o c. absurd (other (omega arith))))))
      (λ h. let a = from_none last n h in let b = from_none last v h in steps v n low (λ c. omega arith) (λ o c. absurd (other (omega arith))))

-- behind the unit that is granted, of those that may ask fewer stand up to one that asks
fewer_up_to : (last v unit : ℕ) → v < 32 → unit < 32 → v ≢ unit → turn last v ≤ turn last unit → (may : List ℕ) → In v may → length (up_to v unit may) < length (up_to last unit may)
fewer_up_to last v unit low few other before may there =
    let way = along last v low unit few other before in
    let own = round v v low (omega arith) in
    fewer (λ n. leb (turn v n) (turn v unit)) (λ n. leb (turn last n) (turn last unit))
    (λ n t. let h = leb-true (turn v n) (turn v unit) t in let o = over last v low n in le-leb (turn last n) (turn last unit) (omega arith))
    v may there (lt-leb (turn v v) (turn v unit) (steps v unit low (λ a. omega arith) (λ p a. by_lt unit v (λ l. omega arith) (λ l. absurd (other (omega arith))))))
    (le-leb (turn last v) (turn last unit) before)

-- what comes of a grant in turn: it is the unit's own, or the unit asks on and is nearer
pub data Turned (may last : List ℕ) (unit : ℕ) (after : Grant) : Type 0 where
  its_own : after.unit ≡ unit → 0 < length (up_to (last_at last 3) unit may) → Turned may last unit after
  asks_on : get_or after.asks unit 0 ≡ 3 → length (up_to (last_at after.last 3) unit may) < length (up_to (last_at last 3) unit may) → Turned may last unit after

pub nearer : (may last asks : List ℕ) (unit : ℕ) (after : Grant) → ((n : ℕ) → get_or asks n 0 ≡ 3 → n < 32) → (get_or asks after.unit 0 ≡ 3 → In after.unit may) → get_or asks unit 0 ≡ 3 → InTurn last asks unit after → Turned may last unit after
nearer may last asks unit after few one ask i =
    let v = after.unit in
    let l = last_at last 3 in
    let there = one i.highest in
    decide (eqb v unit)
    (λ q. its_own (eqb-true v unit q) (omega (arith, fewer (λ n. false) (λ n. leb (turn l n) (turn l unit)) (λ n z. absurd (false≢true z)) v may there refl (le-leb (turn l v) (turn l unit) i.first))))
    (λ q.
    let other = eqb-false v unit q in
    asks_on (i.stand (λ z. other (sym z)))
    (subst (λ x. length (up_to x unit may) < length (up_to l unit may)) (sym i.own) (fewer_up_to l v unit (few v i.highest) (few unit ask) other i.first may there)))

-- the arbiter is one on which the bound can rest
pub in_turn : (last asks : List ℕ) → length last ≡ 3 → (unit : ℕ) → unit < 32 → get_or asks unit 0 ≡ 3 → InTurn last asks unit (granted last asks)
in_turn last asks three unit low ask = go (turns last asks three)
  where
    g : Grant
    g = granted last asks

    go : Turns last asks g → InTurn last asks unit g
    go (paper.none n) = absurd (n.silent unit (low, omega arith, omega arith))
    go (paper.granted t) =
        let top : get_or asks g.unit 0 ≡ 3 = (let h = t.highest unit (low, omega arith, omega arith) in let a = t.asked in omega arith) in
        record {
          highest = top;
          first = rw top at (t.first unit low (ask ∙ sym top));
          own = rw top at t.own;
          stand = λ n. t.stand unit n ∙ ask;
        }
