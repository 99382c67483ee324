-- One text written behind another. Assumes nothing.
use mathlib.Core.Path.{◌≡◌, refl, sym, ap, ap₂, ◌∙◌}
use mathlib.Core.List.{List, [], ◌∷◌, ◌++◌, append_assoc, append-nil}
use Prim.Native.Nat.{ℕ, suc, ◌+◌, ◌≤◌, ◌<◌}
use native.Mathlib.Nat.{add_assoc}
use native.Mathlib.Numerals.{add-one}
use native.Mathlib.Omega.{arith}
use lib.ListN.{length, get_or, drop, take, set, length-append}
use lib.Seq.{length-take-le, drop-drop, paste, paste-zero, paste-suc, take-length}
use Rattle.octets.specs.Octets.{splice, cat}
use Rattle.octets.proofs.Parts.{written}
use Rattle.text.specs.Writing.{Wrote}

-- a text and then another behind it are the two as one text
pub splice_on : {A : Type 0} (b : List A) (k : ℕ) (v w : List A) → k + length v ≤ length b → splice (splice b k v) (k + length v) w ≡ splice b k (v ++ w)
splice_on b k v w fits =
    let p = take k b ++ v in
    let e : length p ≡ k + length v = length-append (take k b) v ∙ ap (λ n. n + length v) (length-take-le k b (omega arith)) in
    let n : k + length v + length w ≡ k + length (v ++ w) = rw (length-append v w) (add_assoc k (length v) (length w)) in
    written (splice b k v) p (drop (k + length v) b) w (k + length v) refl e
    ∙ ap₂ (λ x y. x ++ y) (append_assoc (take k b) v w) (drop-drop (length w) (k + length v) b ∙ ap (λ m. drop m b) n)

-- nothing is written
pub nothing : (b : List ℕ) (k : ℕ) → Wrote b k [] k b
nothing b k = (omega arith, paste-zero b k [])

-- and so goes a line, piece by piece
pub then : (b b₁ b₂ t v : List ℕ) (k p q : ℕ) → Wrote b k t p b₁ → Wrote b₁ p v q b₂ → p ≤ length b → Wrote b k (t ++ v) q b₂
then b b₁ b₂ t v k p q w x room =
    let l : q ≡ k + length (t ++ v) = rw length-append (omega arith) in
    (l, x.1 ∙ ap₂ (λ m n. splice m n v) w.1 w.0 ∙ splice_on b k t v (omega arith))

-- two bytes of a text more
pub paste_two : (d : List ℕ) (at : ℕ) (s : List ℕ) (j : ℕ) → at + (j + 1) < length d → j + 1 < length s → set (set (paste d at s j) (at + j) (get_or s j 0)) (at + j + 1) (get_or s (j + 1) 0) ≡ paste d at s (j + 2)
paste_two d at s j h k =
    let two : suc (j + 1) ≡ j + 2 = omega arith in
    ap (λ m. set m (at + j + 1) (get_or s (j + 1) 0)) (paste-suc d at s j 0 (omega arith) (omega arith) ∙ ap (paste d at s) (sym (add-one j)))
    ∙ ap (λ m. set (paste d at s (j + 1)) m (get_or s (j + 1) 0)) (add_assoc at j 1)
    ∙ paste-suc d at s (j + 1) 0 h k ∙ ap (paste d at s) two

-- all bytes of a text
pub paste_whole : (d : List ℕ) (at : ℕ) (t : List ℕ) (n : ℕ) → n ≡ length t → paste d at t n ≡ splice d at t
paste_whole d at t n e = rw (e, take-length)

-- the bytes of one thing more
pub cat_snoc : {A : Type 0} (f : A → List ℕ) (xs : List A) (x : A) → cat f (xs ++ x ∷ []) ≡ cat f xs ++ f x
unfolding cat
cat_snoc f [] x = append-nil (f x)
cat_snoc f (y ∷ xs) x = ap (λ m. f y ++ m) (cat_snoc f xs x) ∙ sym (append_assoc (f y) (cat f xs) (f x))
