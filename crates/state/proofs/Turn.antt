-- What a frame's end makes of the bytes: they are the shelf that they were, with that arbiter, grant and frame number. Assumes nothing.
use mathlib.Core.Path.{◌≡◌, refl, sym, ap, ◌∙◌}
use mathlib.Core.Logic.{◌⊎◌, inl, inr, ⊎_elim}
use mathlib.Core.List.{List, [], ◌∷◌}
use Prim.Native.Nat.{ℕ, zero, suc, ◌+◌, ◌-◌, ◌*◌, ◌/◌, ◌%◌, ◌≤◌, ◌<◌}
use native.Mathlib.Nat.{add-zero}
use native.Mathlib.Omega.{arith}
use lib.ListN.{length, get_or, set, take, drop, length-set}
use lib.Seq.{get_or-set_same, get_or-set_other, get_or-take, get_or-drop, take-set-le, drop-set-lt, drop-set-add}
use Rattle.octets.specs.Octets.{part, splice}
use Rattle.octets.proofs.Parts.{length_splice, part_same, part_before, part_after}
use Rattle.arbiter.specs.declared.Arbiter.{Arbiter}
use Rattle.state.specs.Bytes.{col, unit_in, units_from, shelf_in, with_turn, turn_put}
use Rattle.state.proofs.Kept.{Column}
use Rattle.state.proofs.Laws.{apart, by_columns}

units_same : (a b : List ℕ) (k n : ℕ) → ((j : ℕ) → k ≤ j → j < k + n → unit_in a j ≡ unit_in b j) → units_from a k n ≡ units_from b k n
unfolding units_from
units_same a b k zero e = refl
units_same a b k (suc n) e = let r = units_same a b (suc k) n (λ j h l. e j (omega arith) (omega arith)) in let u = e k (omega arith) (omega arith) in (λ t. u t ∷ r t)

-- a part in which no byte is written
part_set : (l : List ℕ) (p v k n : ℕ) → (p < k) ⊎ (k + n ≤ p) → part (set l p v) k n ≡ part l k n
part_set l p v k n (inl h) = ap (take n) (drop-set-lt k l p v h)
part_set l p v k n (inr h) =
    let e : p ≡ k + (p - k) = omega arith in
    ap (λ x. part (set l x v) k n) e ∙ ap (take n) (drop-set-add k l (p - k) v) ∙ take-set-le n (drop k l) (p - k) v (omega arith)

-- a byte is a part
byte : (l m : List ℕ) (k : ℕ) → part l k 1 ≡ part m k 1 → get_or l k 0 ≡ get_or m k 0
byte l m k e = sym (one l) ∙ ap (λ x. get_or x 0 0) e ∙ one m
  where
    one : (x : List ℕ) → get_or (part x k 1) 0 0 ≡ get_or x k 0
    one x = get_or-take 1 (drop k x) 0 0 (omega arith) ∙ get_or-drop k x 0 0 ∙ ap (λ n. get_or x n 0) (add-zero k)

three : (l : List ℕ) → length l ≡ 3 → (get_or l 0 0 ∷ get_or l 1 0 ∷ get_or l 2 0 ∷ []) ≡ l
three [] h = absurd (omega arith)
three (x ∷ []) h = absurd (omega arith)
three (x ∷ y ∷ []) h = absurd (omega arith)
three (x ∷ y ∷ z ∷ []) h = refl
three (x ∷ y ∷ z ∷ w ∷ l) h = absurd (omega arith)

module _ (b : List ℕ) (a : Arbiter) (g n : ℕ) where
  abbrev w₀ : List ℕ
  w₀ = splice b 768 a.asks

  abbrev w₁ : List ℕ
  w₁ = set w₀ 800 (get_or a.last 0 0)

  abbrev w₂ : List ℕ
  w₂ = set w₁ 801 (get_or a.last 1 0)

  abbrev w₃ : List ℕ
  w₃ = set w₂ 802 (get_or a.last 2 0)

  abbrev w₄ : List ℕ
  w₄ = set w₃ 803 g

  abbrev w₅ : List ℕ
  w₅ = set w₄ 806 (n / 256)

  is : with_turn b a g n ≡ set w₅ 807 (n % 256)
  unfolding with_turn
  is = refl

  -- a part beside the bytes written singly
  beside : (k m : ℕ) → ((p : ℕ) → 800 ≤ p → p ≤ 803 → (p < k) ⊎ (k + m ≤ p)) → ((p : ℕ) → 806 ≤ p → p ≤ 807 → (p < k) ⊎ (k + m ≤ p)) → part (with_turn b a g n) k m ≡ part w₀ k m
  beside k m x y =
      ap (λ l. part l k m) is
      ∙ part_set w₅ 807 (n % 256) k m (y 807 (omega arith) (omega arith))
      ∙ part_set w₄ 806 (n / 256) k m (y 806 (omega arith) (omega arith))
      ∙ part_set w₃ 803 g k m (x 803 (omega arith) (omega arith))
      ∙ part_set w₂ 802 (get_or a.last 2 0) k m (x 802 (omega arith) (omega arith))
      ∙ part_set w₁ 801 (get_or a.last 1 0) k m (x 801 (omega arith) (omega arith))
      ∙ part_set w₀ 800 (get_or a.last 0 0) k m (x 800 (omega arith) (omega arith))

  module _ (long : length b ≡ 2048) (all : length a.asks ≡ 32) where
    room : 768 + length a.asks ≤ length b
    room = omega arith

    w₀-long : length w₀ ≡ 2048
    w₀-long = length_splice b 768 a.asks room ∙ long

    pub turn_long : length (with_turn b a g n) ≡ 2048
    turn_long =
        ap length is ∙ length-set w₅ 807 (n % 256) ∙ length-set w₄ 806 (n / 256) ∙ length-set w₃ 803 g ∙ length-set w₂ 802 (get_or a.last 2 0) ∙ length-set w₁ 801 (get_or a.last 1 0)
        ∙ length-set w₀ 800 (get_or a.last 0 0) ∙ w₀-long

    -- all before the requests, the bus and the count, and all behind the frame number is as it was
    before : (k m : ℕ) → k + m ≤ 768 → part (with_turn b a g n) k m ≡ part b k m
    before k m h = beside k m (λ p x y. inr (omega arith)) (λ p x y. inr (omega arith)) ∙ part_before b 768 a.asks room k m h

    between : (k m : ℕ) → 804 ≤ k → k + m ≤ 806 → part (with_turn b a g n) k m ≡ part b k m
    between k m h l = beside k m (λ p x y. inl (omega arith)) (λ p x y. inr (omega arith)) ∙ part_after b 768 a.asks room k m (omega arith)

    behind : (k m : ℕ) → 808 ≤ k → part (with_turn b a g n) k m ≡ part b k m
    behind k m h = beside k m (λ p x y. inl (omega arith)) (λ p x y. inl (omega arith)) ∙ part_after b 768 a.asks room k m (omega arith)

    pub turn_before : (k : ℕ) → k < 768 → get_or (with_turn b a g n) k 0 ≡ get_or b k 0
    turn_before k h = byte (with_turn b a g n) b k (before k 1 (omega arith))

    pub turn_between : (k : ℕ) → 804 ≤ k → k < 806 → get_or (with_turn b a g n) k 0 ≡ get_or b k 0
    turn_between k h l = byte (with_turn b a g n) b k (between k 1 h (omega arith))

    pub turn_behind : (k : ℕ) → 808 ≤ k → get_or (with_turn b a g n) k 0 ≡ get_or b k 0
    turn_behind k h = byte (with_turn b a g n) b k (behind k 1 h)

    -- so are the columns, and the units
    pub turn_column : (c i : ℕ) → Column c → i < 32 → col (with_turn b a g n) i c ≡ col b i c
    turn_column c i l h = ⊎_elim (λ x. turn_before (c * 32 + i) (omega arith)) (λ x. turn_behind (c * 32 + i) (omega arith)) (apart c 24 l.1)

    pub turn_unit : (i : ℕ) → i < 32 → unit_in (with_turn b a g n) i ≡ unit_in b i
    turn_unit i h =
        by_columns (col (with_turn b a g n) i) (col b i) (part (with_turn b a g n) (1024 + 32 * i) 32) (part b (1024 + 32 * i) 32) (λ c l. turn_column c i l h) (behind (1024 + 32 * i) 32 (omega arith))

    -- what is written stands there
    asks_there : part (with_turn b a g n) 768 32 ≡ a.asks
    asks_there = beside 768 32 (λ p x y. inr (omega arith)) (λ p x y. inr (omega arith)) ∙ ap (part w₀ 768) (sym all) ∙ part_same b 768 a.asks room

    l₁ : length w₁ ≡ 2048
    l₁ = length-set w₀ 800 (get_or a.last 0 0) ∙ w₀-long

    l₂ : length w₂ ≡ 2048
    l₂ = length-set w₁ 801 (get_or a.last 1 0) ∙ l₁

    l₃ : length w₃ ≡ 2048
    l₃ = length-set w₂ 802 (get_or a.last 2 0) ∙ l₂

    l₄ : length w₄ ≡ 2048
    l₄ = length-set w₃ 803 g ∙ l₃

    l₅ : length w₅ ≡ 2048
    l₅ = length-set w₄ 806 (n / 256) ∙ l₄

    at_807 : get_or (with_turn b a g n) 807 0 ≡ n % 256
    at_807 = let l = l₅ in ap (λ x. get_or x 807 0) is ∙ get_or-set_same w₅ 807 (n % 256) 0 (omega arith)

    from_5 : (k : ℕ) → k < 807 → get_or (with_turn b a g n) k 0 ≡ get_or w₅ k 0
    from_5 k h = ap (λ x. get_or x k 0) is ∙ get_or-set_other w₅ 807 k (n % 256) 0 (λ e. omega arith)

    at_806 : get_or (with_turn b a g n) 806 0 ≡ n / 256
    at_806 = let l = l₄ in from_5 806 (omega arith) ∙ get_or-set_same w₄ 806 (n / 256) 0 (omega arith)

    from_4 : (k : ℕ) → k < 806 → get_or (with_turn b a g n) k 0 ≡ get_or w₄ k 0
    from_4 k h = from_5 k (omega arith) ∙ get_or-set_other w₄ 806 k (n / 256) 0 (λ e. omega arith)

    at_803 : get_or (with_turn b a g n) 803 0 ≡ g
    at_803 = let l = l₃ in from_4 803 (omega arith) ∙ get_or-set_same w₃ 803 g 0 (omega arith)

    from_3 : (k : ℕ) → k < 803 → get_or (with_turn b a g n) k 0 ≡ get_or w₃ k 0
    from_3 k h = from_4 k (omega arith) ∙ get_or-set_other w₃ 803 k g 0 (λ e. omega arith)

    at_802 : get_or (with_turn b a g n) 802 0 ≡ get_or a.last 2 0
    at_802 = let l = l₂ in from_3 802 (omega arith) ∙ get_or-set_same w₂ 802 (get_or a.last 2 0) 0 (omega arith)

    from_2 : (k : ℕ) → k < 802 → get_or (with_turn b a g n) k 0 ≡ get_or w₂ k 0
    from_2 k h = from_3 k (omega arith) ∙ get_or-set_other w₂ 802 k (get_or a.last 2 0) 0 (λ e. omega arith)

    at_801 : get_or (with_turn b a g n) 801 0 ≡ get_or a.last 1 0
    at_801 = let l = l₁ in from_2 801 (omega arith) ∙ get_or-set_same w₁ 801 (get_or a.last 1 0) 0 (omega arith)

    at_800 : get_or (with_turn b a g n) 800 0 ≡ get_or a.last 0 0
    at_800 =
        let l = w₀-long in
        from_2 800 (omega arith) ∙ get_or-set_other w₁ 801 800 (get_or a.last 1 0) 0 (λ e. omega arith) ∙ get_or-set_same w₀ 800 (get_or a.last 0 0) 0 (omega arith)

    -- the shelf that the bytes are
    pub turn_shelf : length a.last ≡ 3 → n < 65536 → shelf_in (with_turn b a g n) ≡ turn_put (shelf_in b) a g n
    turn_shelf few small =
        let whole : n / 256 * 256 + n % 256 ≡ n = omega arith in
        (λ t.
        record {
          bus = turn_between 804 (omega arith) (omega arith) t;
          count = turn_between 805 (omega arith) (omega arith) t;
          units = units_same (with_turn b a g n) b 0 32 (λ j h l. turn_unit j (omega arith)) t;
          arbiter = record { last = ((λ i. at_800 i ∷ at_801 i ∷ at_802 i ∷ []) ∙ three a.last few) t; asks = asks_there t };
          granted = at_803 t;
          frame = ((λ i. at_806 i * 256 + at_807 i) ∙ whole) t;
        })
