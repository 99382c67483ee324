-- The fields of a text and the text of fields. Assumes nothing.
use Prim.Native.Nat.{ℕ, ◌<◌}
use native.Mathlib.Omega.{arith}
use mathlib.Core.Path.{◌≡◌, refl, sym, ap, ◌∙◌}
use mathlib.Core.Bool.{Bool, true, false, ◌&&◌}
use mathlib.Core.List.Memᴰ
use mathlib.Core.List.{List, [], ◌∷◌, ◌++◌, Memᴰ as In}
use mathlib.Core.Logic.{◌⊎◌, inl, inr, ⊎_elim}
use lib.Dec.{eqb, leb}
use lib.ListN.{length}
use borrow.Author.Tests.{eq-eqb, ne_eqb, eqb-true, eqb-false, leb-true, le-leb}
use Rattle.text.specs.Text.{split, push}
use Rattle.text.specs.Digits.{digit, digits}
use Rattle.text.proofs.Split.{split_some}
use Rattle.text.proofs.Numbers.{first, second, at_least}
use Rattle.header.specs.declared.Link.{Link}
use Rattle.header.specs.declared.Link.TheVariants.{Uni, Nni}
use Rattle.bus.specs.declared.Target.{Target}
use Rattle.bus.specs.declared.Target.TheVariants as target
use Rattle.outlet.specs.declared.Mode.{Mode}
use Rattle.outlet.specs.declared.Mode.TheVariants.{One, Four}
use Rattle.line.specs.declared.Line.{Line}
use Rattle.line.specs.declared.Line.TheVariants.{Bus, Unit as L-as-Unit, Vp, Drop, Page, Vc, Mc}
use Rattle.paper.specs.Words.{numeral, link_word, mode_word, mark_word, target_word, parted, fields_of, words_of}
use Rattle.paper.proofs.Numerals.{decide, numeral_said}

-- A. a text is parted where its parting byte stands
abbrev pub Without : ℕ → List ℕ → Type 0
Without b s = In b s → ⊥

without_rest : (b x : ℕ) (s : List ℕ) → Without b (x ∷ s) → Without b s
without_rest b x s h m = h (In.tail m)

pub split_last : (b : ℕ) (s : List ℕ) → Without b s → split b s ≡ s ∷ []
unfolding split
split_last b [] h = refl
split_last b (x ∷ s) h = rw (ne_eqb x b (λ e. h (In.head (sym e)))) (ap (push x) (split_last b s (without_rest b x s h)))

pub split_front : (b : ℕ) (s r : List ℕ) → Without b s → split b (s ++ (b ∷ r)) ≡ s ∷ split b r
unfolding split
split_front b [] r h = rw (eq-eqb b b refl)
split_front b (x ∷ s) r h = rw (ne_eqb x b (λ e. h (In.head (sym e)))) (ap (push x) (split_front b s r (without_rest b x s h)))

abbrev pub AllWithout : ℕ → List (List ℕ) → Type 0
AllWithout b [] = Unit {0}
AllWithout b (f ∷ fs) = Without b f × AllWithout b fs

pub split_parted : (f : List ℕ) (fs : List (List ℕ)) → AllWithout 9 (f ∷ fs) → split 9 (parted (f ∷ fs)) ≡ f ∷ fs
unfolding parted
split_parted f [] h = split_last 9 f h.0
split_parted f (g ∷ fs) h = split_front 9 f (parted (g ∷ fs)) h.0 ∙ ap (λ x. f ∷ x) (split_parted g fs h.1)

-- and put together again
tab_first : (fs : List (List ℕ)) → 0 < length fs → parted ([] ∷ fs) ≡ 9 ∷ parted fs
unfolding parted
tab_first [] h = absurd (omega arith)
tab_first (f ∷ fs) h = refl

byte_first : (x : ℕ) (fs : List (List ℕ)) → 0 < length fs → parted (push x fs) ≡ x ∷ parted fs
unfolding parted
byte_first x [] h = absurd (omega arith)
byte_first x (f ∷ []) h = refl
byte_first x (f ∷ g ∷ fs) h = refl

pub parted_split : (s : List ℕ) → parted (split 9 s) ≡ s
unfolding split parted
parted_split [] = refl
parted_split (x ∷ s) =
    decide (eqb x 9)
    (λ t. rw t (tab_first (split 9 s) (split_some 9 s) ∙ (λ i. sym (eqb-true x 9 t) i ∷ parted_split s i)))
    (λ t. rw t (byte_first x (split 9 s) (split_some 9 s) ∙ ap (λ r. x ∷ r) (parted_split s)))

-- a text has no such byte, or one that comes first
pub record Cut (b : ℕ) (s : List ℕ) : Type 0 where
  pub front : List ℕ
  pub rest : List ℕ
  pub all : s ≡ front ++ (b ∷ rest)
  pub none : Without b front

without_more : (b x : ℕ) (s : List ℕ) → eqb b x ≡ false → Without b s → Without b (x ∷ s)
without_more b x s t n m = ⊎_elim (eqb-false b x t) n (Memᴰ.cases_cons m)

pub cut : (b : ℕ) (s : List ℕ) → Without b s ⊎ Cut b s
cut b [] = inl Memᴰ.not-nil
cut b (x ∷ s) =
    decide (eqb b x)
    (λ t. inr (record { front = []; rest = s; all = ap (λ y. y ∷ s) (sym (eqb-true b x t)); none = Memᴰ.not-nil }))
    (λ t.
    ⊎_elim (λ n. inl (without_more b x s t n))
    (λ c. inr (record { front = x ∷ c.front; rest = c.rest; all = ap (λ y. x ∷ y) c.all; none = without_more b x c.front t c.none })) (cut b s))

-- B. no field of a line has a tab, and no line a newline: all their bytes are from 48 on
high : List ℕ → Bool
high [] = true
high (x ∷ s) = leb 48 x && high s

high_without : (b : ℕ) → b < 48 → (s : List ℕ) → high s ≡ true → Without b s
unfolding high
high_without b h [] e m = Memᴰ.not-nil m
high_without b h (x ∷ s) e m =
    ⊎_elim (λ k. let r = leb-true 48 x (first (leb 48 x) (high s) e) in omega arith) (high_without b h s (second (leb 48 x) (high s) e)) (Memᴰ.cases_cons m)

digits_high : (s : List ℕ) → digits s ≡ true → high s ≡ true
unfolding digits high
digits_high [] d = refl
digits_high (x ∷ s) d = rw (le-leb 48 x (at_least x (first (digit x) (digits s) d)).0) (digits_high s (second (digit x) (digits s) d))

numeral_high : (n : ℕ) → high (numeral n) ≡ true
numeral_high n = digits_high (numeral n) (numeral_said n).digits_all

link_high : (link : Link) → high (link_word link) ≡ true
unfolding high
link_high Uni = refl
link_high Nni = refl

mode_high : (mode : Mode) → high (mode_word mode) ≡ true
unfolding high
mode_high One = refl
mode_high Four = refl

mark_high : (mark : Bool) → high (mark_word mark) ≡ true
unfolding high
mark_high true = refl
mark_high false = refl

target_high : (t : Target) → high (target_word t) ≡ true
unfolding high
target_high (target.Unit unit) = numeral_high unit
target_high (target.Session session) = numeral_high session
target_high target.All = refl

abbrev AllHigh : List (List ℕ) → Type 0
AllHigh [] = Unit {0}
AllHigh (f ∷ fs) = (high f ≡ true) × AllHigh fs

fields_high : (l : Line) → AllHigh (fields_of l)
unfolding fields_of high
fields_high (Bus units) = (refl, (numeral_high _, tt))
fields_high (L-as-Unit settings limits) =
    (refl, (numeral_high _, (link_high settings.link, (numeral_high _, (numeral_high _, (mode_high limits.mode, (numeral_high _, (numeral_high _, (numeral_high _, (mark_high limits.mark, tt))))))))))
fields_high (Vp unit vpi target class outvpi) = (refl, (numeral_high _, (numeral_high _, (target_high target, (numeral_high _, (numeral_high _, tt))))))
fields_high (Drop unit vpi) = (refl, (numeral_high _, (numeral_high _, tt)))
fields_high (Page unit vpi top) = (refl, (numeral_high _, (numeral_high _, (numeral_high _, tt))))
fields_high (Vc unit vpi vci target class outvpi outvci) =
    (refl, (numeral_high _, (numeral_high _, (numeral_high _, (target_high target, (numeral_high _, (numeral_high _, (numeral_high _, tt))))))))
fields_high (Mc unit session) = (refl, (numeral_high _, (numeral_high _, tt)))

high_all : (fs : List (List ℕ)) → AllHigh fs → AllWithout 9 fs
high_all [] h = tt
high_all (f ∷ fs) h = (high_without 9 (omega arith) f h.0, high_all fs h.1)

no_newline : (fs : List (List ℕ)) → AllHigh fs → Without 10 (parted fs)
unfolding parted
no_newline [] h m = Memᴰ.not-nil m
no_newline (f ∷ []) h m = high_without 10 (omega arith) f h.0 m
no_newline (f ∷ g ∷ fs) h m =
    ⊎_elim (high_without 10 (omega arith) f h.0)
    (λ k. ⊎_elim (λ e. omega arith) (no_newline (g ∷ fs) h.1) (Memᴰ.cases_cons k)) (Memᴰ.append_cases f m)

pub words_without : (l : Line) → In 10 (words_of l) → ⊥
unfolding words_of
words_without l = no_newline (fields_of l) (fields_high l)

-- C. so the fields of a line's words are the line's, and of no other text
some_fields : (l : Line) → 0 < length (fields_of l)
unfolding fields_of
some_fields (Bus units) = omega arith
some_fields (L-as-Unit settings limits) = omega arith
some_fields (Vp unit vpi target class outvpi) = omega arith
some_fields (Drop unit vpi) = omega arith
some_fields (Page unit vpi top) = omega arith
some_fields (Vc unit vpi vci target class outvpi outvci) = omega arith
some_fields (Mc unit session) = omega arith

parted_back : (fs : List (List ℕ)) → 0 < length fs → AllHigh fs → split 9 (parted fs) ≡ fs
parted_back [] h k = absurd (omega arith)
parted_back (f ∷ fs) h k = split_parted f fs (high_all (f ∷ fs) k)

pub words_fields : (l : Line) → split 9 (words_of l) ≡ fields_of l
unfolding words_of
words_fields l = parted_back (fields_of l) (some_fields l) (fields_high l)

pub fields_words : (text : List ℕ) (l : Line) → split 9 text ≡ fields_of l → text ≡ words_of l
unfolding words_of
fields_words text l e = sym (parted_split text) ∙ ap parted e
