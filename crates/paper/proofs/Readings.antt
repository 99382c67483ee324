-- A line is read exactly if it is the words of a line in range. Assumes nothing.
use Prim.Native.Nat.{ℕ, zero, suc, ◌+◌, ◌≤◌}
use native.Mathlib.Omega.{arith}
use mathlib.Core.Path.{◌≡◌, refl, sym, ap, subst, ◌∙◌}
use mathlib.Core.Bool.{Bool, true, false, cond, ◌&&◌, false≢true}
use mathlib.Core.List.{List, [], ◌∷◌}
use mathlib.Core.Logic.{◌⊎◌, ◌↔◌, inl, inr, ⊎_elim}
use lib.Dec.{eqb, leb}
use lib.ListN.{length, drop, drop_of_length-le}
use lib.Seq.{drop-cons}
use borrow.Author.Tests.{eqb-true, leb-true}
use Rattle.header.specs.Fields.{highest}
use Rattle.header.specs.declared.Link.{Link}
use Rattle.header.specs.declared.Link.TheVariants.{Uni, Nni}
use Rattle.bus.specs.declared.Target.{Target}
use Rattle.bus.specs.declared.Target.TheVariants as target
use Rattle.outlet.specs.declared.Mode.{Mode}
use Rattle.outlet.specs.declared.Mode.TheVariants.{One, Four}
use Rattle.outlet.specs.declared.Limits.{Limits}
use Rattle.shelf.specs.declared.Settings.{Settings}
use Rattle.text.specs.Text.{fields_of as parts, field_of, at, same}
use Rattle.text.specs.Digits.{decimal_of, value}
use Rattle.text.proofs.Same.{same_eq}
use Rattle.text.proofs.Numbers.{first, second}
use Rattle.line.specs.Words.{w_b, w_uni, w_nni, w_one, w_four, w_bus, w_unit, w_vp, w_drop, w_page, w_vc, w_mc}
use Rattle.std.specs.Prelude.{Option, Some, None, Result, Ok, Err}
use Rattle.line.specs.Ranged.{◌>>=◌, ranged, aim_of}
use Rattle.line.specs.declared.Wrong.{Wrong}
use Rattle.line.specs.declared.Wrong.TheVariants.{Number, Range, Newline}
use Rattle.line.proofs.Numbers.{in_range}
use Rattle.line.proofs.Ranges.{Sound, by_part, chosen}
use Rattle.line.specs.Units.{settings_on, settings_of, least, most_length, most_limit, most_vbr, limits_in, limits_of}
use Rattle.line.specs.Lines.{Reading, bus_line, unit_line, key_of, way_of, vp_line, drop_line, page_line, vc_on, vc_line, mc_line, line_of, count_of, word_of, spoken, reading_of}
use Rattle.line.specs.declared.Key.{Key}
use Rattle.line.specs.declared.Way.{Way}
use Rattle.line.specs.declared.Kind.{Kind}
use Rattle.line.specs.declared.Kind.TheVariants as kind
use Rattle.line.specs.declared.Line.{Line}
use Rattle.line.specs.declared.Line.TheVariants.{Bus, Unit as L-as-Unit, Vp, Drop, Page, Vc, Mc}
use Rattle.paper.specs.Outlets.{GivenIn}
use Rattle.paper.specs.Words.{numeral_to, numeral, link_word, mode_word, mark_word, target_word, fields_of, words_of, TopIn, TargetIn, InRange}
use Rattle.paper.specs.Reads.{ReadsIff, WordsApart, FormIff}
use Rattle.paper.proofs.Numerals.{decimal_numeral, numeral_decimal, numeral_value}
use Rattle.paper.proofs.Ranges.{top_iff}
use Rattle.paper.proofs.Fields.{words_fields, fields_words}

-- A. a number, a word and a target in a field
-- a number in its range is read from its numeral
read_number : (f lo hi n : ℕ) → lo ≤ n → n ≤ hi → ranged f lo hi (numeral n) ≡ Ok n
read_number f lo hi n h k = sym (in_range f lo hi (numeral n) n (numeral_decimal n) (numeral_value n) h k)

-- and from nothing else
module _ (f lo hi : ℕ) (s : List ℕ) where
  number_read : (n : ℕ) → ranged f lo hi s ≡ Ok n → (s ≡ numeral n) × (lo ≤ n) × (n ≤ hi)
  unfolding ranged
  number_read n e = go (decimal_of s) refl (leb lo (value 0 s) && leb (value 0 s) hi) refl e
    where
      go : (d : Bool) → decimal_of s ≡ d → (t : Bool) → leb lo (value 0 s) && leb (value 0 s) hi ≡ t → cond d (cond t (Ok (value 0 s)) (Err (Range f))) (Err (Number f)) ≡ Ok n → (s ≡ numeral n) × (lo ≤ n) × (n ≤ hi)
      go true d true t q =
          let z : value 0 s ≡ n = cc in (
            decimal_numeral s d ∙ ap numeral z,
            rw z at (leb-true lo (value 0 s) (first (leb lo (value 0 s)) (leb (value 0 s) hi) t)),
            rw z at (leb-true (value 0 s) hi (second (leb lo (value 0 s)) (leb (value 0 s) hi) t)),
          )
      go true d false t q = absurd (let z : ◌≡◌ {A = ℕ} 0 1 = cc in omega arith)
      go false d t p q = absurd (let z : ◌≡◌ {A = ℕ} 0 1 = cc in omega arith)

  -- what follows of each number in its range whose numeral this is follows of what is read
  by_num : {B : Type 0} (Q : B → Type 0) (good : ℕ → Result B Wrong) → ((n : ℕ) → s ≡ numeral n → lo ≤ n → n ≤ hi → Sound Q (good n)) → Sound Q (ranged f lo hi s >>= good)
  by_num Q good g = go (ranged f lo hi s) refl
    where
      go : (m : Result ℕ Wrong) → ranged f lo hi s ≡ m → Sound Q (m >>= good)
      go (Ok n) e = let r = number_read n e in g n r.0 r.1 r.2
      go (Err wrong) e = tt

-- a target
abbrev AimReads : List ℕ → Target → Type 0
AimReads s t = (s ≡ target_word t) × TargetIn t

aim_reads : (f : ℕ) (s : List ℕ) → Sound (AimReads s) (aim_of f s)
unfolding aim_of
aim_reads f [] = tt
aim_reads f (b ∷ r) =
    chosen (Sound (AimReads (b ∷ r))) (eqb b 117) (λ t. by_num f 0 31 r (AimReads (b ∷ r)) _ λ n e _ h. ((λ i. eqb-true b 117 t i ∷ e i), h)) λ _.
    chosen (Sound (AimReads (b ∷ r))) (eqb b 109) (λ t. by_num f 0 255 r (AimReads (b ∷ r)) _ λ n e _ h. ((λ i. eqb-true b 109 t i ∷ e i), h)) λ _.
    chosen (Sound (AimReads (b ∷ r))) (same (b ∷ r) w_b) (λ t. (same_eq (b ∷ r) w_b t, tt)) (λ _. tt)

read_aim : (f : ℕ) (t : Target) → TargetIn t → aim_of f (target_word t) ≡ Ok t
unfolding aim_of same
read_aim f (target.Unit unit) h = rw (read_number f 0 31 unit (omega arith) h)
read_aim f (target.Session session) h = rw (read_number f 0 255 session (omega arith) h)
read_aim f target.All h = refl

-- B. the parts of a line: what is read stands in the fields, in its range
abbrev KeyReads : List (List ℕ) → Key → Type 0
KeyReads fs key = (field_of 2 fs ≡ numeral key.unit) × (field_of 3 fs ≡ numeral key.vpi) × (key.unit ≤ 31) × (key.vpi ≤ 4095)

key_reads : (fs : List (List ℕ)) → Sound (KeyReads fs) (key_of fs)
unfolding key_of
key_reads fs =
    by_num 2 0 31 (field_of 2 fs) (KeyReads fs) _ λ unit d _ h.
    by_num 3 0 4095 (field_of 3 fs) (KeyReads fs) _ λ vpi e _ k.
    (d, e, h, k)

abbrev WayReads : List (List ℕ) → (a b c : ℕ) → Way → Type 0
WayReads fs a b c way =
    (field_of a fs ≡ target_word way.target) × (field_of b fs ≡ numeral way.class) × (field_of c fs ≡ numeral way.outvpi)
    × TargetIn way.target × (way.class ≤ 3) × (way.outvpi ≤ 4095)

way_reads : (fs : List (List ℕ)) (a b c : ℕ) → Sound (WayReads fs a b c) (way_of fs a b c)
unfolding way_of
way_reads fs a b c =
    by_part (AimReads (field_of a fs)) (WayReads fs a b c) (aim_of a (field_of a fs)) _ (aim_reads a (field_of a fs)) λ t r.
    by_num b 0 3 (field_of b fs) (WayReads fs a b c) _ λ class d _ h.
    by_num c 0 4095 (field_of c fs) (WayReads fs a b c) _ λ outvpi e _ k.
    (r.0, d, e, r.1, h, k)

abbrev SettingsIn : Settings → Type 0
SettingsIn settings = (settings.number ≤ 31) × TopIn settings.link settings.top × (1 ≤ settings.priority) × (settings.priority ≤ 3)

abbrev FrontReads : List (List ℕ) → Settings → Type 0
FrontReads fs settings =
    (field_of 2 fs ≡ numeral settings.number) × (field_of 3 fs ≡ link_word settings.link) × (field_of 4 fs ≡ numeral settings.top)
    × (field_of 5 fs ≡ numeral settings.priority) × SettingsIn settings

front_reads : (fs : List (List ℕ)) → Sound (FrontReads fs) (settings_of fs)
unfolding settings_of settings_on
front_reads fs =
    by_num 2 0 31 (field_of 2 fs) (FrontReads fs) _ λ number d _ h.
    chosen (Sound (FrontReads fs)) (same (field_of 3 fs) w_uni) (λ t. on number d h Uni (same_eq (field_of 3 fs) w_uni t)) λ _.
    chosen (Sound (FrontReads fs)) (same (field_of 3 fs) w_nni) (λ t. on number d h Nni (same_eq (field_of 3 fs) w_nni t)) λ _.
    tt
  where
    on : (number : ℕ) → field_of 2 fs ≡ numeral number → number ≤ 31 → (link : Link) → field_of 3 fs ≡ link_word link → Sound (FrontReads fs) (settings_on fs number link)
    on number d h link e =
        by_num 4 0 (highest link) (field_of 4 fs) (FrontReads fs) _ λ top f _ k.
        by_num 5 1 3 (field_of 5 fs) (FrontReads fs) _ λ priority g l m.
        (d, e, f, g, (h, (top_iff link top).0 k, l, m))

-- "mark 0 or 1"
mark_is : (n : ℕ) → n ≤ 1 → numeral n ≡ mark_word (eqb n 1)
unfolding numeral numeral_to
mark_is zero h = refl
mark_is (suc zero) h = refl
mark_is (suc (suc n)) h = absurd (omega arith)

-- the ranges that limits are read in, by the mode, are 01's
abbrev Limited : Mode → ℕ → ℕ → ℕ → Type 0
Limited mode l c v = (least mode ≤ l) × (l ≤ most_length mode) × (least mode ≤ c) × (c ≤ most_limit mode l) × (1 ≤ v) × (v ≤ most_vbr mode l)

limits_iff : (mode : Mode) (l c v : ℕ) → Limited mode l c v ↔ GivenIn mode l c v
limits_iff One l c v = (λ r. (omega arith, omega arith, r.4, r.5), λ g. (omega arith, omega arith, omega arith, omega arith, g.2, g.3))
limits_iff Four l c v = (λ r. r, λ g. g)

abbrev BackReads : List (List ℕ) → Limits → Type 0
BackReads fs limits =
    (field_of 6 fs ≡ mode_word limits.mode) × (field_of 7 fs ≡ numeral limits.cbrlength) × (field_of 8 fs ≡ numeral limits.cbrlimit)
    × (field_of 9 fs ≡ numeral limits.vbrlimit) × (field_of 10 fs ≡ mark_word limits.mark) × GivenIn limits.mode limits.cbrlength limits.cbrlimit limits.vbrlimit

back_reads : (fs : List (List ℕ)) → Sound (BackReads fs) (limits_of fs)
unfolding limits_of limits_in
back_reads fs =
    chosen (Sound (BackReads fs)) (same (field_of 6 fs) w_one) (λ t. on One (same_eq (field_of 6 fs) w_one t)) λ _.
    chosen (Sound (BackReads fs)) (same (field_of 6 fs) w_four) (λ t. on Four (same_eq (field_of 6 fs) w_four t)) λ _.
    tt
  where
    on : (mode : Mode) → field_of 6 fs ≡ mode_word mode → Sound (BackReads fs) (limits_in fs mode)
    on mode d =
        by_num 7 (least mode) (most_length mode) (field_of 7 fs) (BackReads fs) _ λ cbrlength e h i.
        by_num 8 (least mode) (most_limit mode cbrlength) (field_of 8 fs) (BackReads fs) _ λ cbrlimit f j k.
        by_num 9 1 (most_vbr mode cbrlength) (field_of 9 fs) (BackReads fs) _ λ vbrlimit g l m.
        by_num 10 0 1 (field_of 10 fs) (BackReads fs) _ λ mark n _ o.
        (d, e, f, g, n ∙ mark_is mark o, (limits_iff mode cbrlength cbrlimit vbrlimit).0 (h, i, j, k, l, m))

-- C. a line: its fields are these, from a place on
abbrev From : ℕ → List (List ℕ) → List (List ℕ) → Type 0
From k fs [] = length fs ≡ k
From k fs (g ∷ gs) = (at fs k ≡ g) × From (suc k) fs gs

from_length : (k : ℕ) (fs gs : List (List ℕ)) → From k fs gs → length fs ≡ k + length gs
from_length k fs [] h = omega arith
from_length k fs (g ∷ gs) h = let e = from_length (suc k) fs gs h.1 in omega arith

from_is : (k : ℕ) (fs gs : List (List ℕ)) → From k fs gs → drop k fs ≡ gs
from_is k fs [] h = drop_of_length-le fs {i = k} (omega arith)
from_is k fs (g ∷ gs) h =
    let e = from_length k fs (g ∷ gs) h in
    drop-cons fs k [] (omega arith) ∙ (λ i. h.0 i ∷ from_is (suc k) fs gs h.1 i)

-- its word
abbrev word_for : Kind → List ℕ
word_for kind.Bus = w_bus
word_for kind.Unit = w_unit
word_for kind.Vp = w_vp
word_for kind.Drop = w_drop
word_for kind.Page = w_page
word_for kind.Vc = w_vc
word_for kind.Mc = w_mc

known_is : {j k : Kind} → ◌≡◌ {A = Option Kind} (Some j) (Some k) → j ≡ k
known_is e = cc

word_is : (w : List ℕ) (k : Kind) → word_of w ≡ Some k → w ≡ word_for k
unfolding word_of
word_is w k =
    chosen P (same w w_bus) (λ t e. same_eq w w_bus t ∙ ap word_for (known_is e)) λ _.
    chosen P (same w w_unit) (λ t e. same_eq w w_unit t ∙ ap word_for (known_is e)) λ _.
    chosen P (same w w_vp) (λ t e. same_eq w w_vp t ∙ ap word_for (known_is e)) λ _.
    chosen P (same w w_drop) (λ t e. same_eq w w_drop t ∙ ap word_for (known_is e)) λ _.
    chosen P (same w w_page) (λ t e. same_eq w w_page t ∙ ap word_for (known_is e)) λ _.
    chosen P (same w w_vc) (λ t e. same_eq w w_vc t ∙ ap word_for (known_is e)) λ _.
    chosen P (same w w_mc) (λ t e. same_eq w w_mc t ∙ ap word_for (known_is e)) λ _ e.
    absurd (let z : ◌≡◌ {A = ℕ} 0 1 = cc in omega arith)
  where
    P : Option Kind → Type 0
    P x = x ≡ Some k → w ≡ word_for k

abbrev Reads : List (List ℕ) → Line → Type 0
Reads fs l = (fs ≡ fields_of l) × InRange l

by_key : (fs : List (List ℕ)) (good : Key → Reading) → ((key : Key) → KeyReads fs key → Sound (Reads fs) (good key)) → Sound (Reads fs) (key_of fs >>= good)
by_key fs good g = by_part (KeyReads fs) (Reads fs) (key_of fs) good (key_reads fs) g

by_way : (fs : List (List ℕ)) (x y z : ℕ) (good : Way → Reading) → ((way : Way) → WayReads fs x y z way → Sound (Reads fs) (good way)) → Sound (Reads fs) (way_of fs x y z >>= good)
by_way fs x y z good g = by_part (WayReads fs x y z) (Reads fs) (way_of fs x y z) good (way_reads fs x y z) g

line_reads : (k : Kind) (fs : List (List ℕ)) → length fs ≡ count_of k → at fs 0 ≡ word_for k → Sound (Reads fs) (line_of k fs)
unfolding line_of bus_line unit_line vp_line drop_line page_line vc_on vc_line mc_line fields_of
line_reads kind.Bus fs n w =
    by_num 2 16 32 (field_of 2 fs) (Reads fs) _ λ units e _ _.
    let all = from_is 0 fs (w_bus ∷ numeral units ∷ []) (w, (e, n)) in
    chosen (Sound (Reads fs)) (eqb units 16) (λ t. (all, inl (eqb-true units 16 t))) λ _.
    chosen (Sound (Reads fs)) (eqb units 32) (λ t. (all, inr (eqb-true units 32 t))) λ _.
    tt
line_reads kind.Unit fs n w =
    by_part (FrontReads fs) (Reads fs) (settings_of fs) _ (front_reads fs) λ settings p.
    by_part (BackReads fs) (Reads fs) (limits_of fs) _ (back_reads fs) λ limits q. (
      from_is 0 fs (fields_of (L-as-Unit settings limits)) (w, (p.0, (p.1, (p.2, (p.3, (q.0, (q.1, (q.2, (q.3, (q.4, n)))))))))),
      (p.4.0, p.4.1, p.4.2, p.4.3, q.5),
    )
line_reads kind.Vp fs n w =
    by_key fs _ λ key k.
    by_way fs 4 5 6 _ λ way r. (
      from_is 0 fs (w_vp ∷ numeral key.unit ∷ numeral key.vpi ∷ target_word way.target ∷ numeral way.class ∷ numeral way.outvpi ∷ []) (w, (k.0, (k.1, (r.0, (r.1, (r.2, n)))))),
      (k.2, k.3, r.3, r.4, r.5),
    )
line_reads kind.Drop fs n w =
    by_key fs _ λ key k. (from_is 0 fs (w_drop ∷ numeral key.unit ∷ numeral key.vpi ∷ []) (w, (k.0, (k.1, n))), (k.2, k.3))
line_reads kind.Page fs n w =
    by_key fs _ λ key k.
    by_num 4 0 65535 (field_of 4 fs) (Reads fs) _ λ top e _ h.
    (from_is 0 fs (w_page ∷ numeral key.unit ∷ numeral key.vpi ∷ numeral top ∷ []) (w, (k.0, (k.1, (e, n)))), (k.2, k.3, h))
line_reads kind.Vc fs n w =
    by_key fs _ λ key k.
    by_num 4 0 65535 (field_of 4 fs) (Reads fs) _ λ vci d _ h.
    by_way fs 5 6 7 _ λ way r.
    by_num 8 0 65535 (field_of 8 fs) (Reads fs) _ λ outvci e _ i. (
      from_is 0 fs (w_vc ∷ numeral key.unit ∷ numeral key.vpi ∷ numeral vci ∷ target_word way.target ∷ numeral way.class ∷ numeral way.outvpi ∷ numeral outvci ∷ []) (w, (k.0, (k.1, (d, (r.0, (r.1, (r.2, (e, n)))))))),
      (k.2, k.3, h, r.3, r.4, r.5, i),
    )
line_reads kind.Mc fs n w =
    by_num 2 0 31 (field_of 2 fs) (Reads fs) _ λ unit d _ h.
    by_num 3 0 255 (field_of 3 fs) (Reads fs) _ λ session e _ i.
    (from_is 0 fs (w_mc ∷ numeral unit ∷ numeral session ∷ []) (w, (d, (e, n))), (h, i))

spoken_reads : (w : Option Kind) (fs : List (List ℕ)) → word_of (at fs 0) ≡ w → Sound (Reads fs) (spoken w fs)
unfolding spoken
spoken_reads None fs e = tt
spoken_reads (Some k) fs e =
    chosen (Sound (Reads fs)) (eqb (length fs) (count_of k)) (λ t. line_reads k fs (eqb-true (length fs) (count_of k) t) (word_is (at fs 0) k e)) (λ _. tt)

-- D. and back: a line in range is read from its fields
read_settings : (number : ℕ) (link : Link) (top priority : ℕ) (limits : Limits) → let settings : Settings = record { number = number; link = link; top = top; priority = priority } in SettingsIn settings → settings_of (fields_of (L-as-Unit settings limits)) ≡ Ok settings
unfolding settings_of settings_on fields_of same
read_settings number Uni top priority limits h =
    rw (read_number 2 0 31 number (omega arith) h.0, read_number 4 0 255 top (omega arith) h.1, read_number 5 1 3 priority h.2 h.3)
read_settings number Nni top priority limits h =
    rw (read_number 2 0 31 number (omega arith) h.0, read_number 4 0 4095 top (omega arith) h.1, read_number 5 1 3 priority h.2 h.3)

-- the mark
read_mark : (mark : Bool) → ranged 10 0 1 (mark_word mark) ≡ Ok (cond mark 1 0)
unfolding numeral numeral_to
read_mark true = read_number 10 0 1 1 (omega arith) (omega arith)
read_mark false = read_number 10 0 1 0 (omega arith) (omega arith)

mark_back : (mark : Bool) → eqb (cond mark 1 0) 1 ≡ mark
mark_back true = refl
mark_back false = refl

abbrev limits_by : Mode → (cbrlength cbrlimit vbrlimit : ℕ) → Bool → Limits
limits_by mode cbrlength cbrlimit vbrlimit mark = record { mode = mode; cbrlength = cbrlength; cbrlimit = cbrlimit; vbrlimit = vbrlimit; mark = mark }

read_held : (settings : Settings) (mode : Mode) (l c v : ℕ) (mark : Bool) → GivenIn mode l c v → limits_in (fields_of (L-as-Unit settings (limits_by mode l c v mark))) mode ≡ Ok (limits_by mode l c v mark)
unfolding limits_in fields_of
read_held settings mode l c v mark h =
    let r = (limits_iff mode l c v).1 h in
    rw (read_number 7 (least mode) (most_length mode) l r.0 r.1, read_number 8 (least mode) (most_limit mode l) c r.2 r.3, read_number 9 1 (most_vbr mode l) v r.4 r.5, read_mark mark)
    (ap (λ m. Ok (limits_by mode l c v m)) (mark_back mark))

read_limits : (settings : Settings) (mode : Mode) (cbrlength cbrlimit vbrlimit : ℕ) (mark : Bool) → GivenIn mode cbrlength cbrlimit vbrlimit → let limits : Limits = record { mode = mode; cbrlength = cbrlength; cbrlimit = cbrlimit; vbrlimit = vbrlimit; mark = mark } in limits_of (fields_of (L-as-Unit settings limits)) ≡ Ok limits
unfolding limits_of fields_of same
read_limits settings One l c v mark h = read_held settings One l c v mark h
read_limits settings Four l c v mark h = read_held settings Four l c v mark h

read_line : (l : Line) → InRange l → spoken (word_of (at (fields_of l) 0)) (fields_of l) ≡ Ok l
unfolding spoken word_of line_of bus_line unit_line vp_line drop_line page_line vc_on vc_line mc_line key_of way_of fields_of same
read_line (Bus units) (inl e) = rw (e, read_number 2 16 32 16 (omega arith) (omega arith))
read_line (Bus units) (inr e) = rw (e, read_number 2 16 32 32 (omega arith) (omega arith))
read_line (L-as-Unit settings limits) h = rw (read_settings settings.number settings.link settings.top settings.priority limits (h.0, h.1, h.2, h.3), read_limits settings limits.mode limits.cbrlength limits.cbrlimit limits.vbrlimit limits.mark h.4)
read_line (Vp unit vpi target class outvpi) h =
    rw (read_number 2 0 31 unit (omega arith) h.0, read_number 3 0 4095 vpi (omega arith) h.1, read_aim 4 target h.2, read_number 5 0 3 class (omega arith) h.3, read_number 6 0 4095 outvpi (omega arith) h.4)
read_line (Drop unit vpi) h = rw (read_number 2 0 31 unit (omega arith) h.0, read_number 3 0 4095 vpi (omega arith) h.1)
read_line (Page unit vpi top) h =
    rw (read_number 2 0 31 unit (omega arith) h.0, read_number 3 0 4095 vpi (omega arith) h.1, read_number 4 0 65535 top (omega arith) h.2)
read_line (Vc unit vpi vci target class outvpi outvci) h =
    rw (read_number 2 0 31 unit (omega arith) h.0, read_number 3 0 4095 vpi (omega arith) h.1, read_number 4 0 65535 vci (omega arith) h.2, read_aim 5 target h.3, read_number 6 0 3 class (omega arith) h.4, read_number 7 0 4095 outvpi (omega arith) h.5, read_number 8 0 65535 outvci (omega arith) h.6)
read_line (Mc unit session) h = rw (read_number 2 0 31 unit (omega arith) h.0, read_number 3 0 255 session (omega arith) h.1)

-- E. what reading comes to
good_is : {l m : Line} → ◌≡◌ {A = Reading} (Ok l) (Ok m) → l ≡ m
good_is e = cc

good_bad : {l : Line} {wrong : Wrong} → ◌≡◌ {A = Reading} (Ok l) (Err wrong) → ⊥
good_bad e = let z : ◌≡◌ {A = ℕ} 0 1 = cc in omega arith

read_words : (l : Line) → InRange l → reading_of (words_of l) true ≡ Ok l
unfolding reading_of
read_words l h = rw (words_fields l) (read_line l h)

words_read : (text : List ℕ) (l : Line) → reading_of text true ≡ Ok l → InRange l × (text ≡ words_of l)
unfolding reading_of
words_read text l e = let r = subst (Sound (Reads (parts text))) e (spoken_reads (word_of (at (parts text) 0)) (parts text) refl) in (r.1, fields_words text l r.0)

pub reads_iff : ReadsIff
reads_iff text l = (words_read text l, λ h. ap (λ t. reading_of t true) h.1 ∙ read_words l h.0)

-- no two lines in range have the same words
pub words_only : WordsApart
words_only l m h k e = good_is (sym (read_words l h) ∙ ap (λ t. reading_of t true) e ∙ read_words m k)

pub form_iff : FormIff
unfolding reading_of
form_iff text ended = (forth ended, back ended)
  where
    forth : (ended : Bool) → ((wrong : Wrong) × (reading_of text ended ≡ Err wrong)) → (ended ≡ false) ⊎ ((l : Line) → InRange l → text ≡ words_of l → ⊥)
    forth false w = inl refl
    forth true w = inr (λ l h e. good_bad (sym ((reads_iff text l).1 (h, e)) ∙ w.1))

    back : (ended : Bool) → (ended ≡ false) ⊎ ((l : Line) → InRange l → text ≡ words_of l → ⊥) → ((wrong : Wrong) × (reading_of text ended ≡ Err wrong))
    back false w = (Newline, refl)
    back true w = go (reading_of text true) refl
      where
        go : (r : Reading) → reading_of text true ≡ r → (wrong : Wrong) × (reading_of text true ≡ Err wrong)
        go (Err wrong) e = (wrong, e)
        go (Ok l) e = ⊎_elim (λ f. absurd (false≢true (sym f))) (λ n. let h = (reads_iff text l).0 e in absurd (n l h.0 h.1)) w
