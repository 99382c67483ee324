-- The laws of `split`: at one byte, at the end, and of its first field and the others. Assumes nothing.
use mathlib.Core.Path.{◌≡◌, refl, sym, ap, ◌∙◌}
use mathlib.Core.Bool.{Bool, true, false, cond, not}
use mathlib.Core.List.{List, [], ◌∷◌, tail}
use Prim.Native.Nat.{ℕ, zero, suc, ◌+◌, ◌-◌, ◌≤◌, ◌<◌}
use native.Mathlib.Nat.{le_of_suc-le-suc}
use native.Mathlib.Numerals.{add-one, sub-one}
use native.Mathlib.Omega.{arith}
use lib.Dec.{eqb, leb}
use Rattle.std.proofs.lemmas.List.{get_or-drop}
use lib.ListN.{length, get_or, take, drop, drop_of_length-le, length-drop}
use lib.Seq.{drop-cons, drop-drop, take_all}
use denote.Ref.{Bor}
use Rattle.std.specs.Prelude.{Option, None, Some}
use Rattle.std.specs.Option.{option_map, unwrap_or}
use Rattle.std.specs.List.{slice_split, onto_first, position, position_or_len}
use Rattle.std.proofs.lemmas.Option.{cond_some, none-some}
use Rattle.std.proofs.lemmas.List.Sums.{prefix_len-le-length}
use Rattle.std.proofs.lemmas.List.Recursion.{is_position_or_len}
use borrow.Author.Tests.{eq-eqb, ne_eqb, leb-true, leb-false, ltb-true, ltb-false}
use Rattle.text.specs.Text.{split, push, at, line_from, after_of}

-- what the library's `split` and `position` say
onto_push : (b : ℕ) (fs : List (List ℕ)) → onto_first b fs ≡ push b fs
onto_push b [] = refl
onto_push b (f ∷ fs) = refl

pub split_is : (tab : ℕ) (s : List ℕ) → slice_split (λ b. eqb b tab) s ≡ split tab s
unfolding split
split_is tab [] = refl
split_is tab (b ∷ r) = simp (split_is tab r, onto_push b (split tab r))

pub end_is : (tab : ℕ) (s : List ℕ) → position_or_len (λ b. eqb b tab) s ≡ length (at (split tab s) 0)
unfolding split
end_is tab s = sym (is_position_or_len (λ s. length (at (split tab s) 0)) (λ b. eqb b tab) refl (λ b r. go (eqb b tab) b (split tab r)) s)
  where
    go : (t : Bool) (b : ℕ) (fs : List (List ℕ)) → length (at (cond t ([] ∷ fs) (push b fs)) 0) ≡ cond t 0 (1 + length (at fs 0))
    go true b fs = refl
    go false b fs = omega arith

no_some : {A : Type 0} (t : Bool) (x : A) → cond t (Some x) None ≡ None → t ≡ false
no_some true x e = absurd (none-some x (sym e))
no_some false x e = refl

-- where the field that starts at from ends, by what `position` answers over what stands from there on
module _ (tab : ℕ) (s : List ℕ) (from : ℕ) (h : from ≤ length s) (r : Option ℕ) (p : r ≡ position (λ b. eqb b tab) (take (length s - from) (drop from s))) where
  rest : take (length s - from) (drop from s) ≡ drop from s
  rest = take_all (length s - from) (drop from s) (rw length-drop (omega arith))

  pub found : {n : ℕ} → r ≡ Some n → (from + n ≡ from + length (at (split tab (drop from s)) 0)) × (from + n ≤ length s)
  found e =
      let w = cond_some _ _ _ (sym (rw rest at p) ∙ e) in
      let m = ltb-true _ _ w.0 in
      omega (arith, end_is tab (drop from s), length-drop from s, w.1)

  pub found_none : r ≡ None → (length s ≡ from + length (at (split tab (drop from s)) 0)) × (length s ≤ length s)
  found_none e =
      let m = ltb-false _ _ (no_some _ _ (sym (rw rest at p) ∙ e)) in
      omega (arith, end_is tab (drop from s), length-drop from s, prefix_len-le-length (λ b. not (eqb b tab)) (drop from s))

-- what `unwrap_or` reads where nothing was found
pub now_or : {A : Type 0} (o : Option (Bor A)) (d : Bor A) → (unwrap_or o d).now ≡ unwrap_or (option_map (λ x. x.now) o) d.now
now_or None d = refl
now_or (Some x) d = refl

-- one byte
module _ (tab : ℕ) (s : List ℕ) (i : ℕ) (h : i < length s) where
  pub split_tab : get_or s i 0 ≡ tab → split tab (drop i s) ≡ [] ∷ split tab (drop (i + 1) s)
  unfolding split
  split_tab e = rw (add-one, drop-cons s i 0, eq-eqb _ _ e)

  pub split_byte : (get_or s i 0 ≡ tab → ⊥) → split tab (drop i s) ≡ push (get_or s i 0) (split tab (drop (i + 1) s))
  unfolding split
  split_byte e = rw (add-one, drop-cons s i 0, ne_eqb _ _ e)

-- the end
pub split_end : (tab : ℕ) (s : List ℕ) (i : ℕ) → length s ≤ i → split tab (drop i s) ≡ [] ∷ []
unfolding split
split_end tab s i h = rw (drop_of_length-le s h)

-- there is a first field
pub split_some : (tab : ℕ) (l : List ℕ) → 0 < length (split tab l)
unfolding split
split_some tab [] = omega arith
split_some tab (b ∷ r) = go (eqb b tab)
  where
    go : (t : Bool) → 0 < length (cond t ([] ∷ split tab r) (push b (split tab r)))
    go true = omega arith
    go false = omega arith

length_tail : (l : List (List ℕ)) → 0 < length l → suc (length (tail l)) ≡ length l
length_tail [] h = absurd (omega arith)
length_tail (f ∷ fs) h = refl

pub length_push : (b : ℕ) (tab : ℕ) (l : List ℕ) → length (push b (split tab l)) ≡ length (split tab l)
length_push b tab l = length_tail (split tab l) (split_some tab l)

at_tail : (l : List (List ℕ)) (k : ℕ) → at (tail l) k ≡ at l (suc k)
at_tail [] k = refl
at_tail (f ∷ fs) k = refl

-- the first field is the text up to its end
pub first_field : (tab : ℕ) (l : List ℕ) → take (length (at (split tab l) 0)) l ≡ at (split tab l) 0
unfolding split
first_field tab [] = refl
first_field tab (b ∷ r) = go (eqb b tab) (first_field tab r)
  where
    go : (t : Bool) → take (length (at (split tab r) 0)) r ≡ at (split tab r) 0 → take (length (at (cond t ([] ∷ split tab r) (push b (split tab r))) 0)) (b ∷ r) ≡ at (cond t ([] ∷ split tab r) (push b (split tab r))) 0
    go true ih = refl
    go false ih = ap (λ x. b ∷ x) ih

-- the others are those of what stands behind the tab
next_fields : (tab : ℕ) (l : List ℕ) → length (at (split tab l) 0) < length l → tail (split tab l) ≡ split tab (drop (suc (length (at (split tab l) 0))) l)
unfolding split
next_fields tab [] h = absurd (omega arith)
next_fields tab (b ∷ r) h = go (eqb b tab) (next_fields tab r) h
  where
    go : (t : Bool) → (length (at (split tab r) 0) < length r → tail (split tab r) ≡ split tab (drop (suc (length (at (split tab r) 0))) r)) → length (at (cond t ([] ∷ split tab r) (push b (split tab r))) 0) < suc (length r) → tail (cond t ([] ∷ split tab r) (push b (split tab r))) ≡ split tab (drop (length (at (cond t ([] ∷ split tab r) (push b (split tab r))) 0)) r)
    go true ih h = refl
    go false ih h = ih (le_of_suc-le-suc h)

-- and there are none behind a field that reaches the end
no_fields : (tab : ℕ) (l : List ℕ) → length l ≤ length (at (split tab l) 0) → tail (split tab l) ≡ []
unfolding split
no_fields tab [] h = refl
no_fields tab (b ∷ r) h = go (eqb b tab) (no_fields tab r) h
  where
    go : (t : Bool) → (length r ≤ length (at (split tab r) 0) → tail (split tab r) ≡ []) → suc (length r) ≤ length (at (cond t ([] ∷ split tab r) (push b (split tab r))) 0) → tail (cond t ([] ∷ split tab r) (push b (split tab r))) ≡ []
    go true ih h = absurd (omega arith)
    go false ih h = ih (le_of_suc-le-suc h)

head_tail : (fs : List (List ℕ)) → 0 < length fs → fs ≡ at fs 0 ∷ tail fs
head_tail [] h = absurd (omega arith)
head_tail (f ∷ fs) h = refl

-- the lengths of the first field, and how many fields there are, byte by byte
module _ (tab : ℕ) (s : List ℕ) (i : ℕ) (h : i < length s) where
  pub end_tab : get_or s i 0 ≡ tab → length (at (split tab (drop i s)) 0) ≡ 0
  end_tab e = rw (split_tab tab s i h e)

  pub end_byte : (get_or s i 0 ≡ tab → ⊥) → length (at (split tab (drop i s)) 0) ≡ suc (length (at (split tab (drop (i + 1) s)) 0))
  end_byte e = rw (split_byte tab s i h e)

  pub count_tab : get_or s i 0 ≡ tab → length (split tab (drop i s)) ≡ suc (length (split tab (drop (i + 1) s)))
  count_tab e = rw (split_tab tab s i h e)

  pub count_byte : (get_or s i 0 ≡ tab → ⊥) → length (split tab (drop i s)) ≡ length (split tab (drop (i + 1) s))
  count_byte e = rw (split_byte tab s i h e) (length_push (get_or s i 0) tab (drop (i + 1) s))

pub end_end : (tab : ℕ) (s : List ℕ) (i : ℕ) → length s ≤ i → length (at (split tab (drop i s)) 0) ≡ 0
end_end tab s i h = rw (split_end tab s i h)

pub count_end : (tab : ℕ) (s : List ℕ) (i : ℕ) → length s ≤ i → length (split tab (drop i s)) ≡ 1
count_end tab s i h = rw (split_end tab s i h)

-- how many fields the line from here on has, byte by byte
module _ (s : List ℕ) (i : ℕ) (h : i < length s) where
  pub line_ended : get_or s i 0 ≡ 10 → length (split 9 (line_from s i)) ≡ 1
  unfolding split
  line_ended e = rw (split_tab 10 s i h e)

  pub line_tab : get_or s i 0 ≡ 9 → length (split 9 (line_from s i)) ≡ suc (length (split 9 (line_from s (i + 1))))
  unfolding split
  line_tab e = rw (split_byte 10 s i h (λ t. absurd (omega arith)), e)

  pub line_byte : (get_or s i 0 ≡ 10 → ⊥) → (get_or s i 0 ≡ 9 → ⊥) → length (split 9 (line_from s i)) ≡ length (split 9 (line_from s (i + 1)))
  unfolding split
  line_byte n t = rw (split_byte 10 s i h n, ne_eqb _ _ t) (length_push (get_or s i 0) 9 (line_from s (i + 1)))

pub line_none : (s : List ℕ) (i : ℕ) → length s ≤ i → length (split 9 (line_from s i)) ≡ 1
unfolding split
line_none s i h = rw (split_end 10 s i h)

-- a byte of what stands from here on
pub byte_from : (s : List ℕ) (from n : ℕ) → n < length (take (length s - from) (drop from s)) → (from + n < length s) × (get_or (take (length s - from) (drop from s)) n 0 ≡ get_or s (from + n) 0)
byte_from s from n h =
    let r : take (length s - from) (drop from s) ≡ drop from s = take_all (length s - from) (drop from s) (rw length-drop (omega arith)) in
    let k = rw r at h in
    (omega (arith, length-drop from s), ap (λ l. get_or l n 0) r ∙ get_or-drop from s n 0)

pub none_from : (s : List ℕ) (from n : ℕ) → length (take (length s - from) (drop from s)) ≤ n → length s ≤ from + n
none_from s from n h =
    let r : take (length s - from) (drop from s) ≡ drop from s = take_all (length s - from) (drop from s) (rw length-drop (omega arith)) in
    let k = rw r at h in
    omega (arith, length-drop from s)

-- the same of a field that starts at from and ends at e
module _ (tab : ℕ) (s : List ℕ) (from e : ℕ) (q : e ≡ from + length (at (split tab (drop from s)) 0)) where
  pub field_is : take (e - from) (drop from s) ≡ at (split tab (drop from s)) 0
  field_is = rw (sub_of e from (length (at (split tab (drop from s)) 0)) q) (first_field tab (drop from s))
    where
      sub_of : (e from n : ℕ) → e ≡ from + n → e - from ≡ n
      sub_of e from n q = omega arith

  next_tail : e < length s → tail (split tab (drop from s)) ≡ split tab (drop (e + 1) s)
  next_tail h = next_fields tab (drop from s) (rw length-drop (omega arith)) ∙ rw (drop-drop, sums)
    where
      sums : from + suc (length (at (split tab (drop from s)) 0)) ≡ e + 1
      sums = omega arith

  last_tail : length s ≤ e → tail (split tab (drop from s)) ≡ []
  last_tail h = no_fields tab (drop from s) (rw length-drop (omega arith))

  pub split_first : split tab (drop from s) ≡ take (e - from) (drop from s) ∷ tail (split tab (drop from s))
  split_first = head_tail _ (split_some tab (drop from s)) ∙ ap (λ f. f ∷ tail (split tab (drop from s))) (sym field_is)

  -- the fields from here on: this one and those from the next on, or this one alone
  pub split_more : e < length s → split tab (drop from s) ≡ take (e - from) (drop from s) ∷ split tab (drop (e + 1) s)
  split_more h = split_first ∙ ap (λ fs. take (e - from) (drop from s) ∷ fs) (next_tail h)

  pub split_last : length s ≤ e → split tab (drop from s) ≡ take (e - from) (drop from s) ∷ []
  split_last h = split_first ∙ ap (λ fs. take (e - from) (drop from s) ∷ fs) (last_tail h)

  pub field_next : (k : ℕ) → 0 < k → e < length s → at (split tab (drop from s)) k ≡ at (split tab (drop (e + 1) s)) (k - 1)
  field_next zero g h = absurd (omega arith)
  field_next (suc k) g h = sym (at_tail (split tab (drop from s)) k) ∙ rw (next_tail h, sub-one)

  pub field_none : (k : ℕ) → 0 < k → length s ≤ e → at (split tab (drop from s)) k ≡ []
  field_none zero g h = absurd (omega arith)
  field_none (suc k) g h = sym (at_tail (split tab (drop from s)) k) ∙ rw (last_tail h)

-- what stands after the first field, as the code lends it, where the field ends in a tab and where it ends the text
module _ (s : List ℕ) (e : ℕ) (q : e ≡ 0 + length (at (split 9 (drop 0 s)) 0)) where
  pub after_tab : take (length s - (e + 1)) (drop (e + 1) s) ≡ after_of s
  unfolding after_of
  after_tab = take_all (length s - (e + 1)) (drop (e + 1) s) (rw length-drop (omega arith)) ∙ ap (λ n. drop n s) sums
    where
      sums : e + 1 ≡ suc (length (at (split 9 s) 0))
      sums = omega arith

  pub after_end : length s ≤ e → [] ≡ after_of s
  unfolding after_of
  after_end h = sym (drop_of_length-le s {i = suc (length (at (split 9 s) 0))} (omega arith))

-- its fields are those of the whole from the second on
after_tail : (s : List ℕ) (k : ℕ) → at (split 9 (after_of s)) k ≡ at (tail (split 9 s)) k
unfolding after_of
after_tail s k = by (leb (length s) (length (at (split 9 s) 0))) refl
  where
    none : (k : ℕ) → at ([] ∷ []) k ≡ []
    none zero = refl
    none (suc k) = refl

    by : (t : Bool) → leb (length s) (length (at (split 9 s) 0)) ≡ t → at (split 9 (drop (suc (length (at (split 9 s) 0))) s)) k ≡ at (tail (split 9 s)) k
    by true t =
        let h = leb-true _ _ t in
        ap (λ fs. at fs k) (split_end 9 s (suc (length (at (split 9 s) 0))) (omega arith)) ∙ none k ∙ ap (λ fs. at fs k) (sym (no_fields 9 s h))
    by false t = ap (λ fs. at fs k) (sym (next_fields 9 s (leb-false _ _ t)))

pub after_fields : (t s : List ℕ) → t ≡ after_of s → (k : ℕ) → at (split 9 t) k ≡ at (split 9 s) (suc k)
after_fields t s e k = ap (λ t. at (split 9 t) k) e ∙ after_tail s k ∙ at_tail (split 9 s) k
