-- A list made of a function, and options. Assumes nothing.
use Rattle.std.specs.Prelude.{None, Option, Some}
use mathlib.Core.Path.{◌≡◌, refl, sym, ap, ap₂, ◌∙◌}
use mathlib.Core.Bool.{Bool, true, false}
use mathlib.Core.List.{List, [], ◌∷◌, ◌++◌}
use Prim.Native.Nat.{ℕ, zero, suc, ◌+◌, ◌<◌}
use native.Mathlib.Nat.{not-suc-le-zero, zero-add, suc-add}
use native.Mathlib.Omega.{arith}
use lib.Dec.{eqb}
use lib.ListN.{length, get_or, set, length-append, get_or-append}
use lib.Seq.{get_or_at, set_at, set-append_left}
use borrow.Author.Tests.{eqb-true, eqb-false, ne_eqb}
use Rattle.meaning.specs.Told.{tabulate, only, either}

-- options
pub some_inj : {A : Type 0} {a b : A} → Some a ≡ Some b → a ≡ b
some_inj e = cc

pub none_some : {A : Type 0} {a : A} → None ≡ Some a → ⊥
none_some e = let z : ◌≡◌ {A = ℕ} 0 1 = cc in omega arith

pub only_true : {A : Type 0} (b : Bool) (a c : A) → only b a ≡ Some c → b ≡ true
only_true true a c e = refl
only_true false a c e = absurd (none_some e)

pub only_is : {A : Type 0} (b : Bool) (a c : A) → only b a ≡ Some c → a ≡ c
only_is true a c e = some_inj e
only_is false a c e = absurd (none_some e)

pub only_false : {A : Type 0} (b : Bool) (a : A) → only b a ≡ None → b ≡ false
only_false true a e = absurd (none_some (sym e))
only_false false a e = refl

pub either_left : {A : Type 0} (x y : Option A) → either x y ≡ None → x ≡ None
either_left None y e = refl
either_left (Some a) y e = e

pub either_right : {A : Type 0} (x y : Option A) → either x y ≡ None → y ≡ None
either_right None y e = e
either_right (Some a) y e = absurd (none_some (sym e))

-- writing behind a part
pub set_behind : {A : Type 0} (xs ys : List A) (i : ℕ) (a : A) → set (xs ++ ys) (length xs + i) a ≡ xs ++ set ys i a
set_behind [] ys i a = ap (λ k. set ys k a) (zero-add i)
set_behind (x ∷ xs) ys i a = ap (λ k. set (x ∷ (xs ++ ys)) k a) (suc-add (length xs) i) ∙ ap (λ l. x ∷ l) (set_behind xs ys i a)

module _ {A : Type 0} where
  pub tabulate_length : (f : ℕ → A) (n : ℕ) → length (tabulate f n) ≡ n
  unfolding tabulate
  tabulate_length f zero = refl
  tabulate_length f (suc n) = let h = tabulate_length f n in simp length-append (omega arith)

  pub tabulate_at : (f : ℕ → A) (n i : ℕ) (d : A) → i < n → get_or (tabulate f n) i d ≡ f i
  unfolding tabulate
  tabulate_at f zero i d h = absurd (not-suc-le-zero h)
  tabulate_at f (suc n) i d h = go (tabulate_at f n i d) (eqb i n) refl
    where
      go : (i < n → get_or (tabulate f n) i d ≡ f i) → (b : Bool) → eqb i n ≡ b → get_or (tabulate f n ++ (f n ∷ [])) i d ≡ f i
      go ih true e = get_or_at (tabulate f n) (f n) [] d i (tabulate_length f n ∙ sym (eqb-true i n e)) ∙ ap f (sym (eqb-true i n e))
      go ih false e =
          let k : i < n = omega (arith, eqb-false i n e) in
          let l = tabulate_length f n in
          get_or-append (tabulate f n) (f n ∷ []) d i (omega arith) ∙ ih k

  pub tabulate_same : (f g : ℕ → A) (n : ℕ) → ((i : ℕ) → i < n → f i ≡ g i) → tabulate f n ≡ tabulate g n
  unfolding tabulate
  tabulate_same f g zero h = refl
  tabulate_same f g (suc n) h = ap₂ ◌++◌ (tabulate_same f g n (λ i k. h i (omega arith))) (ap (λ a. a ∷ []) (h n (omega arith)))

  pub tabulate_put : (f g : ℕ → A) (n i : ℕ) (a : A) → ((j : ℕ) → eqb j i ≡ false → g j ≡ f j) → g i ≡ a → i < n → tabulate g n ≡ set (tabulate f n) i a
  unfolding tabulate
  tabulate_put f g zero i a other here h = absurd (not-suc-le-zero h)
  tabulate_put f g (suc n) i a other here h = go (tabulate_put f g n i a other here) (eqb n i) refl
    where
      go : (i < n → tabulate g n ≡ set (tabulate f n) i a) → (b : Bool) → eqb n i ≡ b → tabulate g n ++ (g n ∷ []) ≡ set (tabulate f n ++ (f n ∷ [])) i a
      go ih true e =
          let s = eqb-true n i e in
          ap₂ (λ l x. l ++ (x ∷ [])) (tabulate_same g f n (λ j k. other j (ne_eqb j i (omega arith)))) (ap g s ∙ here)
          ∙ sym (set_at (tabulate f n) (f n) [] a i (tabulate_length f n ∙ s))
      go ih false e =
          let k : i < n = omega (arith, eqb-false n i e) in
          let l = tabulate_length f n in
          ap₂ (λ l x. l ++ (x ∷ [])) (ih k) (other n e)
          ∙ sym (set-append_left (tabulate f n) (f n ∷ []) i a (omega arith))
