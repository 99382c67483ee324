-- What a splice keeps and what it leaves alone; and a list of things of one size in bytes, one after the other: what stands at a thing's
-- place, and what a splice there makes of it. It holds for any size and any layout. Assumes nothing.
use mathlib.Core.Path.{◌≡◌, refl, sym, ap, ap₂, ◌∙◌}
use mathlib.Core.List.{List, [], ◌∷◌, ◌++◌, append_assoc, append-nil}
use Prim.Native.Nat.{ℕ, zero, suc, ◌+◌, ◌*◌, ◌≤◌, ◌<◌, ◌-◌}
use native.Mathlib.Nat.{le_of_suc-le-suc, not-suc-le-zero, mul-suc, mul-zero, add_comm, add_assoc, zero-add, add-zero}
use native.Mathlib.Omega.{arith}
use lib.ListN.{length, get_or, take, drop, set, length-append, length-drop, drop_of_length-le, take-append-drop}
use lib.Seq.{take_all, take_at, drop_at, take-append-add, drop-append-add, take-append-le, drop-append-le, length-take-le, drop-drop}
use Rattle.octets.specs.Octets.{splice, part, cat}

module _ {A : Type 0} (b : List A) (k : ℕ) (v : List A) (fits : k + length v ≤ length b) where
  front : length (take k b) ≡ k
  front = length-take-le k b (omega arith)

  -- a splice keeps the length
  pub length_splice : length (splice b k v) ≡ length b
  length_splice = simp (length-append, front, length-drop) (omega arith)

  -- what was spliced in stands there
  pub part_same : part (splice b k v) k (length v) ≡ v
  part_same =
      ap (λ l. part l k (length v)) (append_assoc (take k b) v (drop (k + length v) b))
      ∙ ap (take (length v)) (drop_at (take k b) (v ++ drop (k + length v) b) k front) ∙ take_at v (drop (k + length v) b) (length v) refl

  -- a part of the front does not see what follows
  in_front : (j n : ℕ) (r : List A) → j + n ≤ k → part (take k b ++ r) j n ≡ part (take k b) j n
  in_front j n r h =
      ap (take n) (drop-append-le j (take k b) r (omega (arith, front)))
      ∙ take-append-le n (drop j (take k b)) r (simp (length-drop, front) (omega arith))

  -- a part before it is as it was
  pub part_before : (j n : ℕ) → j + n ≤ k → part (splice b k v) j n ≡ part b j n
  part_before j n h =
      ap (λ l. part l j n) (append_assoc (take k b) v (drop (k + length v) b))
      ∙ in_front j n (v ++ drop (k + length v) b) h ∙ sym (in_front j n (drop k b) h) ∙ ap (λ l. part l j n) (take-append-drop k b)

  -- and so is one after it
  pub part_after : (j n : ℕ) → k + length v ≤ j → part (splice b k v) j n ≡ part b j n
  part_after j n h =
      let m = j - (k + length v) in
      let p = take k b ++ v in
      let e : length p ≡ k + length v = length-append (take k b) v ∙ ap (λ x. x + length v) front in
      let s : j ≡ length p + m = omega arith in
      let t : k + length v + m ≡ j = omega arith in
      ap (take n)
      (ap (λ x. drop x (splice b k v)) s ∙ drop-append-add p (drop (k + length v) b) m ∙ drop-drop m (k + length v) b
      ∙ ap (λ x. drop x b) t)

-- a splice at the front, and behind a part
splice_front : {A : Type 0} (p q v : List A) → length p ≡ length v → splice (p ++ q) 0 v ≡ v ++ q
splice_front p q v e = rw zero-add (ap (λ x. v ++ x) (drop_at p q (length v) e))

splice_behind : {A : Type 0} (p q v : List A) (n : ℕ) → splice (p ++ q) (length p + n) v ≡ p ++ splice q n v
splice_behind p q v n =
    rw (add_assoc, take-append-add, drop-append-add)
    (append_assoc (p ++ take n q) v (drop (n + length v) q) ∙ append_assoc p (take n q) (v ++ drop (n + length v) q)
    ∙ ap (λ x. p ++ x) (sym (append_assoc (take n q) v (drop (n + length v) q))))

-- a list that is copied over one of its length
pub copied : {A : Type 0} (n : ℕ) (b v : List A) → length b ≡ n → length v ≡ n → splice b 0 (take n v) ≡ v
copied n b v lb lv =
    ap (splice b 0) (take_all n v (omega (arith, lv)))
    ∙ rw zero-add (ap (λ x. v ++ x) (drop_of_length-le b {i = length v} (omega (arith, lb, lv))) ∙ append-nil v)

-- a list written from the front: what stands in b up to place k, then v
pub written : {A : Type 0} (b p q v : List A) (k : ℕ) → b ≡ p ++ q → length p ≡ k → splice b k v ≡ (p ++ v) ++ drop (length v) q
written b p q v k e l =
    ap₂ (λ x n. splice x n v) e (sym l ∙ sym (add-zero (length p))) ∙ splice_behind p q v 0
    ∙ ap (λ x. p ++ x) (ap (λ n. v ++ drop n q) (zero-add (length v))) ∙ sym (append_assoc p v (drop (length v) q))

module _ {A : Type 0} (size : ℕ) (f : A → List ℕ) (len : (a : A) → length (f a) ≡ size) where
  -- the place of the next thing
  next : (i : ℕ) (x : A) → size * suc i ≡ length (f x) + size * i
  next i x = mul-suc size i ∙ add_comm (size * i) size ∙ ap (λ n. n + size * i) (sym (len x))

  pub put_at : (rs : List A) (i : ℕ) (r : A) (rest : List ℕ) → i < length rs → splice (cat f rs ++ rest) (size * i) (f r) ≡ cat f (set rs i r) ++ rest
  unfolding cat
  put_at [] i r rest h = absurd (not-suc-le-zero h)
  put_at (x ∷ rs) zero r rest h =
      rw mul-zero
      (ap (λ m. splice m 0 (f r)) (append_assoc (f x) (cat f rs) rest) ∙ splice_front (f x) (cat f rs ++ rest) (f r) (len x ∙ sym (len r))
      ∙ sym (append_assoc (f r) (cat f rs) rest))
  put_at (x ∷ rs) (suc i) r rest h =
      rw (next i x)
      (ap (λ m. splice m (length (f x) + size * i) (f r)) (append_assoc (f x) (cat f rs) rest)
      ∙ splice_behind (f x) (cat f rs ++ rest) (f r) (size * i) ∙ ap (λ m. f x ++ m) (put_at rs i r rest (le_of_suc-le-suc h))
      ∙ sym (append_assoc (f x) (cat f (set rs i r)) rest))

  pub get_at : (rs : List A) (i : ℕ) (d : A) (rest : List ℕ) → i < length rs → part (cat f rs ++ rest) (size * i) size ≡ f (get_or rs i d)
  unfolding cat
  get_at [] i d rest h = absurd (not-suc-le-zero h)
  get_at (x ∷ rs) zero d rest h = rw (mul-zero, append_assoc) (take_at (f x) (cat f rs ++ rest) size (len x))
  get_at (x ∷ rs) (suc i) d rest h = rw (next i x, append_assoc, drop-append-add) (get_at rs i d rest (le_of_suc-le-suc h))

  pub cat_length : (rs : List A) → length (cat f rs) ≡ size * length rs
  unfolding cat
  cat_length [] = sym (mul-zero size)
  cat_length (x ∷ rs) = length-append (f x) (cat f rs) ∙ ap (λ n. length (f x) + n) (cat_length rs) ∙ sym (next (length rs) x)

  -- there is room for the thing
  pub room : (rs : List A) (i : ℕ) (rest : List ℕ) → i < length rs → size * i + size ≤ length (cat f rs ++ rest)
  unfolding cat
  room [] i rest h = absurd (not-suc-le-zero h)
  room (x ∷ rs) zero rest h = rw (mul-zero, append_assoc, length-append, len) (omega arith)
  room (x ∷ rs) (suc i) rest h = let k = room rs i rest (le_of_suc-le-suc h) in rw (next i x, append_assoc, length-append, len x) (omega arith)

-- inside a list it does not matter what stands outside
pub get_d_any : {A : Type 0} (l : List A) (i : ℕ) (d e : A) → i < length l → get_or l i d ≡ get_or l i e
get_d_any [] i d e h = absurd (not-suc-le-zero h)
get_d_any (x ∷ l) zero d e h = refl
get_d_any (x ∷ l) (suc i) d e h = get_d_any l i d e (le_of_suc-le-suc h)
