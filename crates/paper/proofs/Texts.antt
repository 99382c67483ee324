-- A text is that of one list of lines only. Assumes nothing.
use Prim.Native.Nat.{ℕ, ◌+◌}
use native.Mathlib.Omega.{arith}
use mathlib.Core.Path.{◌≡◌, refl, sym, ap, ◌∙◌}
use mathlib.Core.List.{List, [], ◌∷◌, ◌++◌, append_assoc}
use lib.ListN.{length}
use Rattle.text.specs.Text.{split}
use Rattle.line.specs.declared.Line.{Line}
use Rattle.paper.specs.Words.{words_of, text_of, AllInRange}
use Rattle.paper.specs.Reads.{TextsApart}
use Rattle.paper.proofs.Fields.{split_front, words_without}
use Rattle.paper.proofs.Readings.{words_only}

-- the words of lines, the latest first, in front of other texts
behind : List Line → List (List ℕ) → List (List ℕ)
behind [] ps = ps
behind (l ∷ told) ps = behind told (words_of l ∷ ps)

-- a text is parted into the words of its lines
text_parts : (told : List Line) (rest : List ℕ) → split 10 (text_of told ++ rest) ≡ behind told (split 10 rest)
unfolding text_of behind
text_parts [] rest = refl
text_parts (l ∷ told) rest =
    ap (split 10) (append_assoc (text_of told) (words_of l ++ (10 ∷ [])) rest ∙ ap (λ x. text_of told ++ x) (append_assoc (words_of l) (10 ∷ []) rest))
    ∙ text_parts told (words_of l ++ (10 ∷ rest)) ∙ ap (behind told) (split_front 10 (words_of l) rest (words_without l))

behind_length : (told : List Line) (ps : List (List ℕ)) → length (behind told ps) ≡ length told + length ps
unfolding behind
behind_length [] ps = omega arith
behind_length (l ∷ told) ps = behind_length told (words_of l ∷ ps) ∙ omega arith

first_part : {p q : List ℕ} {ps qs : List (List ℕ)} → p ∷ ps ≡ q ∷ qs → p ≡ q
first_part e = cc

other_parts : {p q : List ℕ} {ps qs : List (List ℕ)} → p ∷ ps ≡ q ∷ qs → ps ≡ qs
other_parts e = cc

-- as many lines, and the same words: the same lines
behind_only : (told other : List Line) (ps qs : List (List ℕ)) → length told ≡ length other → AllInRange told → AllInRange other → behind told ps ≡ behind other qs → (told ≡ other) × (ps ≡ qs)
unfolding behind
behind_only [] [] ps qs n h k e = (refl, e)
behind_only [] (m ∷ other) ps qs n h k e = absurd (omega arith)
behind_only (l ∷ told) [] ps qs n h k e = absurd (omega arith)
behind_only (l ∷ told) (m ∷ other) ps qs n h k e =
    let r = behind_only told other (words_of l ∷ ps) (words_of m ∷ qs) (omega arith) h.1 k.1 e in
    let same = words_only l m h.0 k.0 (first_part r.1) in
    (λ i. same i ∷ r.0 i, other_parts r.1)

pub texts_apart : TextsApart
texts_apart told other h k e = (behind_only told other (split 10 []) (split 10 []) many h k same).0
  where
    same : behind told (split 10 []) ≡ behind other (split 10 [])
    same = sym (text_parts told []) ∙ ap (λ x. split 10 (x ++ [])) e ∙ text_parts other []

    many : length told ≡ length other
    many = let a = behind_length told (split 10 []) in let b = behind_length other (split 10 []) in let c = ap length same in omega arith
