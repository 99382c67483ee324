-- A text and its lines: which lines it is read as. Assumes nothing.
use Rattle.std.specs.Prelude.{Ok, Err}
use Prim.Native.Nat.{ℕ, ◌<◌}
use native.Mathlib.Omega.{arith}
use mathlib.Core.Path.{◌≡◌, refl, sym, ap, subst, ◌∙◌}
use mathlib.Core.Bool.{Bool, true, false, cond}
use mathlib.Core.List.Memᴰ
use mathlib.Core.List.{List, [], ◌∷◌, ◌++◌, append_assoc, append-nil, Memᴰ as In}
use mathlib.Core.Logic.{◌⊎◌, inl, inr, ⊎_elim}
use lib.Dec.{eqb}
use lib.ListN.{length, length-append}
use borrow.Author.Tests.{eqb-true, eqb-false, ne_eqb}
use Rattle.text.specs.Text.{split}
use Rattle.text.proofs.Split.{split_some}
use Rattle.line.specs.declared.Wrong.{Wrong}
use Rattle.line.specs.declared.Wrong.TheVariants.{Newline}
use Rattle.line.specs.Lines.{Reading, reading_of}
use Rattle.line.specs.declared.Line.{Line}
use Rattle.table.specs.Load.{readings_of}
use Rattle.meaning.proofs.Grown.{decide}
use Rattle.paper.specs.Words.{words_of, text_of, AllInRange}
use Rattle.promise.specs.Refusals.{Ends, newline, no_newline, empty_text}
use Rattle.paper.proofs.Fields.{Cut, cut, split_last, split_front, words_without}
use Rattle.paper.proofs.Readings.{reads_iff}
use Rattle.promise.specs.Readings.{lines_of, read_then, AllReadIff, ReadAt, LineReadIff}

abbrev lines : List ℕ → List Reading
lines text = readings_of (split 10 text)

-- A. one line of a text
-- up to a newline
with_more : (p : List ℕ) (ps : List (List ℕ)) → 0 < length ps → readings_of (p ∷ ps) ≡ reading_of p true ∷ readings_of ps
unfolding readings_of
with_more p [] h = absurd (omega arith)
with_more p (q ∷ ps) h = refl

line_ended : (bytes rest : List ℕ) → (In 10 bytes → ⊥) → lines (bytes ++ (10 ∷ rest)) ≡ reading_of bytes true ∷ lines rest
line_ended bytes rest h = ap readings_of (split_front 10 bytes rest h) ∙ with_more bytes (split 10 rest) (split_some 10 rest)

-- up to the end
line_last : (bytes : List ℕ) → (In 10 bytes → ⊥) → lines bytes ≡ cond (eqb (length bytes) 0) [] (reading_of bytes false ∷ [])
unfolding readings_of
line_last bytes h = ap readings_of (split_last 10 bytes h)

no_lines : lines [] ≡ []
unfolding readings_of split
no_lines = refl

line_left : (bytes : List ℕ) → (In 10 bytes → ⊥) → 0 < length bytes → lines bytes ≡ reading_of bytes false ∷ []
line_left bytes h k = line_last bytes h ∙ rw (ne_eqb (length bytes) 0 (λ e. omega arith))

-- B. lines that could be read, in front of a text
lines_front : (told : List Line) (rest : List ℕ) → AllInRange told → lines (text_of told ++ rest) ≡ read_then told (lines rest)
unfolding text_of read_then
lines_front [] rest h = refl
lines_front (l ∷ told) rest h =
    ap lines (append_assoc (text_of told) (words_of l ++ (10 ∷ [])) rest ∙ ap (λ x. text_of told ++ x) (append_assoc (words_of l) (10 ∷ []) rest))
    ∙ lines_front told (words_of l ++ (10 ∷ rest)) h.1
    ∙ ap (read_then told) (line_ended (words_of l) rest (words_without l) ∙ ap (λ r. r ∷ lines rest) ((reads_iff (words_of l) l).1 (h.0, refl)))

-- what is read in front of others stands in front of a text
pub record Front (text : List ℕ) (told : List Line) (rs : List Reading) : Type 0 where
  pub ranged : AllInRange told
  pub rest : List ℕ
  pub all : text ≡ text_of told ++ rest
  pub left : lines rest ≡ rs

nil_cons : {r : Reading} {rs : List Reading} → [] ≡ r ∷ rs → ⊥
nil_cons e = let z : ◌≡◌ {A = ℕ} 0 1 = cc in omega arith

nil_line : {l : Line} {told : List Line} → [] ≡ l ∷ told → ⊥
nil_line e = let z : ◌≡◌ {A = ℕ} 0 1 = cc in omega arith

cons_head : {r s : Reading} {rs ss : List Reading} → r ∷ rs ≡ s ∷ ss → r ≡ s
cons_head e = cc

cons_tail : {r s : Reading} {rs ss : List Reading} → r ∷ rs ≡ s ∷ ss → rs ≡ ss
cons_tail e = cc

bad_read : {wrong : Wrong} {l : Line} → Err wrong ≡ Ok l → ⊥
bad_read e = let z : ◌≡◌ {A = ℕ} 0 1 = cc in omega arith

-- the first line of a text
pub record First (text : List ℕ) (it : Reading) (rs : List Reading) : Type 0 where
  pub bytes : List ℕ
  pub ended : Bool
  pub rest : List ℕ
  pub all : text ≡ bytes ++ rest
  pub one : In 10 bytes → ⊥
  pub read : reading_of bytes ended ≡ it
  pub ends : ((after : List ℕ) × (rest ≡ 10 ∷ after) × (ended ≡ true) × (lines after ≡ rs)) ⊎ ((rest ≡ []) × (0 < length bytes) × (ended ≡ false) × ([] ≡ rs))

first_line : (text : List ℕ) (it : Reading) (rs : List Reading) → lines text ≡ it ∷ rs → First text it rs
first_line text it rs e = ⊎_elim last ended (cut 10 text)
  where
    ended : Cut 10 text → First text it rs
    ended c =
        let k = sym (ap lines c.all ∙ line_ended c.front c.rest c.none) ∙ e in
        record {
          bytes = c.front;
          ended = true;
          rest = 10 ∷ c.rest;
          all = c.all;
          one = c.none;
          read = cons_head k;
          ends = inl (c.rest, refl, refl, cons_tail k);
        }

    last : (In 10 text → ⊥) → First text it rs
    last n =
        decide (eqb (length text) 0)
        (λ t. absurd (nil_cons (sym (line_last text n ∙ rw t) ∙ e)))
        (λ t.
        let some : 0 < length text = let d = eqb-false (length text) 0 t in omega arith in
        let k = sym (line_left text n some) ∙ e in
        record {
          bytes = text;
          ended = false;
          rest = [];
          all = sym (append-nil text);
          one = n;
          read = cons_head k;
          ends = inr (refl, some, refl, cons_tail k);
        })

unended : (bytes : List ℕ) → reading_of bytes false ≡ Err Newline
unfolding reading_of
unended bytes = refl

-- a line more in front
front_more : (text : List ℕ) (l : Line) (told : List Line) (rs : List Reading) → Front text told (Ok l ∷ rs) → Front text (l ∷ told) rs
unfolding text_of
front_more text l told rs f = ⊎_elim by_newline (λ e. absurd (bad_read (sym (unended g.bytes) ∙ ap (reading_of g.bytes) (sym e.2) ∙ g.read))) g.ends
  where
    g : First f.rest (Ok l) rs
    g = first_line f.rest (Ok l) rs f.left

    by_newline : (after : List ℕ) × (g.rest ≡ 10 ∷ after) × (g.ended ≡ true) × (lines after ≡ rs) → Front text (l ∷ told) rs
    by_newline e =
        let r = (reads_iff g.bytes l).0 (ap (reading_of g.bytes) (sym e.2) ∙ g.read) in
        record {
          ranged = (r.0, f.ranged);
          rest = e.0;
          all =
              f.all ∙ ap (λ x. text_of told ++ x) (g.all ∙ (λ i. r.1 i ++ e.1 i) ∙ sym (append_assoc (words_of l) (10 ∷ []) e.0))
              ∙ sym (append_assoc (text_of told) (words_of l ++ (10 ∷ [])) e.0);
          left = e.3;
        }

front_lines : (text : List ℕ) (told : List Line) (rs : List Reading) → lines text ≡ read_then told rs → Front text told rs
unfolding read_then text_of
front_lines text [] rs e = record { ranged = tt; rest = text; all = refl; left = e }
front_lines text (l ∷ told) rs e = front_more text l told rs (front_lines text told (Ok l ∷ rs) e)

-- C. a whole text
empty_is : (text : List ℕ) → length text ≡ 0 → text ≡ []
empty_is [] e = refl
empty_is (b ∷ s) e = absurd (omega arith)

-- no line is left only behind the last newline
none_left : (rest : List ℕ) → lines rest ≡ [] → rest ≡ []
none_left rest e =
    ⊎_elim
    (λ n.
    decide (eqb (length rest) 0) (λ t. empty_is rest (eqb-true (length rest) 0 t))
    (λ t. absurd (nil_cons (sym e ∙ line_left rest n (let d = eqb-false (length rest) 0 t in omega arith)))))
    (λ c. absurd (nil_cons (sym e ∙ ap lines c.all ∙ line_ended c.front c.rest c.none))) (cut 10 rest)

lines_empty : lines_of [] ≡ Err Newline ∷ []
unfolding lines_of
lines_empty = refl

lines_some : (text : List ℕ) → 0 < length text → lines_of text ≡ lines text
unfolding lines_of
lines_some text h = rw (ne_eqb (length text) 0 (λ e. omega arith))

-- a line has bytes
text_some : (told : List Line) → (told ≡ [] → ⊥) → 0 < length (text_of told)
unfolding text_of
text_some [] h = absurd (h refl)
text_some (l ∷ told) h = simp length-append (omega arith)

-- one line that cannot be read is read behind none that can
bad_alone : (told : List Line) (wrong : Wrong) (rest : List Reading) → Err wrong ∷ [] ≡ read_then told rest → (told ≡ []) × (rest ≡ Err wrong ∷ [])
unfolding read_then
bad_alone [] wrong rest e = (refl, sym e)
bad_alone (l ∷ told) wrong rest e = absurd (bad_read (sym (cons_head (bad_alone told wrong (Ok l ∷ rest) e).1)))

no_text : (told : List Line) → told ≡ [] → 0 < length (text_of told) → ⊥
unfolding text_of
no_text told e h = let z = ap (λ x. length (text_of x)) e in omega arith

pub all_read_iff : AllReadIff
all_read_iff text told = (forth, back)
  where
    back : (told ≡ [] → ⊥) × AllInRange told × (text ≡ text_of told) → lines_of text ≡ read_then told []
    back h =
        lines_some text (subst (λ x. 0 < length x) (sym h.2) (text_some told h.0))
        ∙ ap lines (h.2 ∙ sym (append-nil (text_of told))) ∙ lines_front told [] h.1 ∙ ap (read_then told) no_lines

    forth : lines_of text ≡ read_then told [] → (told ≡ [] → ⊥) × AllInRange told × (text ≡ text_of told)
    forth e =
        decide (eqb (length text) 0)
        (λ t.
        let z = empty_is text (eqb-true (length text) 0 t) in
        absurd (nil_cons (bad_alone told Newline [] (sym (ap lines_of z ∙ lines_empty) ∙ e)).1))
        (λ t.
        let some : 0 < length text = let d = eqb-false (length text) 0 t in omega arith in
        let f = front_lines text told [] (sym (lines_some text some) ∙ e) in
        let same = f.all ∙ ap (λ x. text_of told ++ x) (none_left f.rest f.left) ∙ append-nil (text_of told) in
        (λ n. absurd (no_text told n (subst (λ x. 0 < length x) same some)), f.ranged, same))

-- a line behind others
module _ (text : List ℕ) (before : List Line) (it : Reading) where
  -- of the empty text
  of_empty : (after : List Reading) → text ≡ [] → lines_of text ≡ read_then before (it ∷ after) → ReadAt text before it
  unfolding text_of
  of_empty after z e =
      let a = bad_alone before Newline (it ∷ after) (sym (ap lines_of z ∙ lines_empty) ∙ e) in
      record {
        ranged = subst AllInRange (sym a.0) tt;
        bytes = [];
        ended = false;
        here = record { rest = []; all = z ∙ ap (λ x. text_of x ++ []) (sym a.0); one = Memᴰ.not-nil; ends = empty_text z refl };
        read = unended [] ∙ sym (cons_head a.1);
      }

  -- of any other
  of_some : (after : List Reading) → 0 < length text → lines_of text ≡ read_then before (it ∷ after) → ReadAt text before it
  of_some after some e =
      record {
        ranged = f.ranged;
        bytes = g.bytes;
        ended = g.ended;
        here = record {
          rest = g.rest;
          all = f.all ∙ ap (λ x. text_of before ++ x) g.all;
          one = g.one;
          ends = ⊎_elim (λ k. newline k.0 k.1 k.2) (λ k. no_newline k.0 (omega (arith, k.1)) k.2) g.ends;
        };
        read = g.read;
      }
    where
      f : Front text before (it ∷ after)
      f = front_lines text before (it ∷ after) (sym (lines_some text some) ∙ e)

      g : First f.rest it after
      g = first_line f.rest it after f.left

  -- and back
  back_some : AllInRange before → (rest : List ℕ) (after : List Reading) → text ≡ text_of before ++ rest → lines rest ≡ it ∷ after → lines_of text ≡ read_then before (it ∷ after)
  back_some h rest after all left = lines_some text some ∙ ap lines all ∙ lines_front before rest h ∙ ap (read_then before) left
    where
      some : 0 < length text
      some =
          decide (eqb (length rest) 0)
          (λ t. absurd (nil_cons (sym no_lines ∙ ap lines (sym (empty_is rest (eqb-true (length rest) 0 t))) ∙ left)))
          (λ t.
          let d = eqb-false (length rest) 0 t in
          let n = ap length all ∙ length-append (text_of before) rest in
          omega arith)

  back_empty : text ≡ [] → (bytes rest : List ℕ) → text ≡ text_of before ++ (bytes ++ rest) → reading_of bytes false ≡ it → lines_of text ≡ read_then before (it ∷ [])
  unfolding read_then
  back_empty z bytes rest all read = ap lines_of z ∙ lines_empty ∙ ap (λ r. r ∷ []) (sym (unended bytes) ∙ read) ∙ ap (λ b. read_then b (it ∷ [])) (sym (none before refl))
    where
      none : (b : List Line) → before ≡ b → before ≡ []
      none [] e = e
      none (l ∷ told) e =
          let some = text_some before (λ n. nil_line (sym n ∙ e)) in
          let n = ap length (sym z ∙ all) ∙ length-append (text_of before) (bytes ++ rest) in
          absurd (omega arith)

pub line_read_iff : LineReadIff
line_read_iff text before it = (forth, λ r. back r r.here.ends)
  where
    forth : (after : List Reading) × (lines_of text ≡ read_then before (it ∷ after)) → ReadAt text before it
    forth e =
        decide (eqb (length text) 0)
        (λ t. of_empty text before it e.0 (empty_is text (eqb-true (length text) 0 t)) e.1)
        (λ t. of_some text before it e.0 (let d = eqb-false (length text) 0 t in omega arith) e.1)

    back : (r : ReadAt text before it) → Ends text r.bytes r.here.rest r.ended → (after : List Reading) × (lines_of text ≡ read_then before (it ∷ after))
    back r (newline after e t) = (
      lines after,
      back_some text before it r.ranged (r.bytes ++ (10 ∷ after)) (lines after) (r.here.all ∙ ap (λ x. text_of before ++ (r.bytes ++ x)) e)
          (line_ended r.bytes after r.here.one ∙ ap (λ x. x ∷ lines after) (ap (reading_of r.bytes) (sym t) ∙ r.read)),
    )
    back r (no_newline e h t) = (
      [],
      back_some text before it r.ranged r.bytes [] (r.here.all ∙ ap (λ x. text_of before ++ (r.bytes ++ x)) e ∙ ap (λ x. text_of before ++ x) (append-nil r.bytes))
          (line_left r.bytes r.here.one h ∙ ap (λ x. x ∷ []) (ap (reading_of r.bytes) (sym t) ∙ r.read)),
    )
    back r (empty_text z t) = ([], back_empty text before it z r.bytes r.here.rest r.here.all (ap (reading_of r.bytes) (sym t) ∙ r.read))
