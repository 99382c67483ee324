-- The numbers of a good line are in their ranges. Assumes nothing.
use mathlib.Core.Path.{◌≡◌, refl, subst}
use mathlib.Core.Bool.{Bool, true, false, cond}
use mathlib.Core.List.{List, [], ◌∷◌}
use mathlib.Core.Logic.{◌↔◌, inl, inr}
use Prim.Native.Nat.{ℕ, ◌≤◌}
use native.Mathlib.Omega.{arith}
use lib.Dec.{eqb}
use lib.ListN.{length}
use borrow.Author.Tests.{eqb-true}
use Rattle.header.specs.Fields.{highest}
use Rattle.header.specs.declared.Link.{Link}
use Rattle.header.specs.declared.Link.TheVariants.{Uni, Nni}
use Rattle.bus.specs.Routing.{Sayable}
use Rattle.outlet.specs.Outlets.{GivenIn, Given as LimitsGiven}
use Rattle.outlet.specs.declared.Mode.{Mode}
use Rattle.outlet.specs.declared.Mode.TheVariants.{One, Four}
use Rattle.outlet.specs.declared.Limits.{Limits}
use Rattle.shelf.specs.declared.Settings.{Settings}
use Rattle.line.specs.declared.Wrong.{Wrong}
use Rattle.line.specs.declared.Key.{Key}
use Rattle.line.specs.declared.Way.{Way}
use Rattle.line.specs.declared.Kind.{Kind}
use Rattle.line.specs.declared.Kind.TheVariants.{Bus as K-as-Bus, Unit as K-as-Unit, Vp as K-as-Vp, Drop as K-as-Drop, Page as K-as-Page, Vc as K-as-Vc, Mc as K-as-Mc}
use Rattle.line.specs.declared.Line.{Line}
use Rattle.line.specs.declared.Line.TheVariants.{Unit as U·}
use Rattle.std.specs.Prelude.{Option, Some, None, Result, Ok, Err, IfOk}
use Rattle.line.specs.Words.{w_b, w_uni, w_nni, w_one, w_four}
use Rattle.text.specs.Text.{fields_of, field_of, same}
use Rattle.line.specs.Ranged.{◌>>=◌, ranged, aim_of}
use Rattle.line.specs.Units.{settings_on, settings_of, least, most_length, most_limit, most_vbr, limits_in, limits_of}
use Rattle.line.specs.Lines.{bus_line, unit_line, key_of, way_of, vp_line, drop_line, page_line, vc_on, vc_line, mc_line, line_of, count_of, word_of, spoken, reading_of}
use Rattle.line.specs.Ranges.{SettingsIn, Given, KeyIn, WayIn, InRange}
use Rattle.line.proofs.Numbers.{ranged_in}

-- what holds of both choices, each where it is taken, holds of the choice
pub chosen : {R : Type 0} (P : R → Type 0) (b : Bool) {x y : R} → (b ≡ true → P x) → (b ≡ false → P y) → P (cond b x y)
chosen P true f g = f refl
chosen P false f g = g refl

-- what is known of what is read, unless it is faulty
abbrev pub Sound : {A : Type 0} → (A → Type 0) → Result A Wrong → Type 0
Sound P r = IfOk r P

-- what follows from what is known of what is read, by a step more
pub by_part : {A B : Type 0} (P : A → Type 0) (Q : B → Type 0) (r : Result A Wrong) (f : A → Result B Wrong) → Sound P r → ((x : A) → P x → Sound Q (f x)) → Sound Q (r >>= f)
by_part P Q (Ok x) f p g = g x p
by_part P Q (Err wrong) f p g = tt

-- by a number in its range
by_num : {B : Type 0} (Q : B → Type 0) (f lo hi : ℕ) (s : List ℕ) (good : ℕ → Result B Wrong) → ((n : ℕ) → lo ≤ n → n ≤ hi → Sound Q (good n)) → Sound Q (ranged f lo hi s >>= good)
by_num Q f lo hi s good g = go (ranged f lo hi s) refl
  where
    go : (m : Result ℕ Wrong) → ranged f lo hi s ≡ m → Sound Q (m >>= good)
    go (Ok n) e = g n (ranged_in f lo hi s e).0 (ranged_in f lo hi s e).1
    go (Err wrong) e = tt

aim_sound : (f : ℕ) (s : List ℕ) → Sound Sayable (aim_of f s)
unfolding aim_of
aim_sound f [] = tt
aim_sound f (b ∷ r) =
    chosen (Sound Sayable) (eqb b 117) (λ _. by_num Sayable f 0 31 r _ λ n _ h. h) λ _.
    chosen (Sound Sayable) (eqb b 109) (λ _. by_num Sayable f 0 255 r _ λ n _ h. omega arith) λ _.
    chosen (Sound Sayable) (same (b ∷ r) w_b) (λ _. tt) (λ _. tt)

-- what is known of the unit and the VPI, and of the way out
abbrev InKey : Key → Type 0
InKey key = KeyIn key.unit key.vpi

abbrev InWay : Way → Type 0
InWay way = WayIn way.target way.class way.outvpi

key_sound : (fs : List (List ℕ)) → Sound InKey (key_of fs)
unfolding key_of
key_sound fs =
    by_num InKey 2 0 31 _ _ λ unit _ u.
    by_num InKey 3 0 4095 _ _ λ vpi _ v.
    record { unit_most = u; vpi_most = v }

way_sound : (fs : List (List ℕ)) (a b c : ℕ) → Sound InWay (way_of fs a b c)
unfolding way_of
way_sound fs a b c =
    by_part Sayable InWay _ _ (aim_sound a (field_of a fs)) λ target t.
    by_num InWay b 0 3 _ _ λ class _ q.
    by_num InWay c 0 4095 _ _ λ outvpi _ v.
    record { sayable = t; class_most = q; outvpi_most = v }

on_sound : (fs : List (List ℕ)) (number : ℕ) (link : Link) → number ≤ 31 → Sound SettingsIn (settings_on fs number link)
unfolding settings_on
on_sound fs number link n =
    by_num SettingsIn 4 0 (highest link) _ _ λ top _ t.
    by_num SettingsIn 5 1 3 _ _ λ priority p q.
    record { number_most = n; top_most = t; priority_least = p; priority_most = q }

front_sound : (fs : List (List ℕ)) → Sound SettingsIn (settings_of fs)
unfolding settings_of
front_sound fs =
    by_num SettingsIn 2 0 31 _ _ λ number _ n.
    chosen (Sound SettingsIn) (same (field_of 3 fs) w_uni) (λ _. on_sound fs number Uni n) λ _.
    chosen (Sound SettingsIn) (same (field_of 3 fs) w_nni) (λ _. on_sound fs number Nni n) λ _.
    tt

-- the ranges that limits are read in, by the mode, are those that the outlet asks for
abbrev Limited : Mode → ℕ → ℕ → ℕ → Type 0
Limited mode l c v =
    (least mode ≤ l) × (l ≤ most_length mode) × (least mode ≤ c) × (c ≤ most_limit mode l) × (1 ≤ v) × (v ≤ most_vbr mode l)

pub limits_iff : (mode : Mode) (l c v : ℕ) → Limited mode l c v ↔ GivenIn mode l c v
limits_iff One l c v = (λ r. (omega arith, omega arith, r.4, r.5), λ g. (omega arith, omega arith, omega arith, omega arith, g.2, g.3))
limits_iff Four l c v = (λ r. r, λ g. g)

in_sound : (fs : List (List ℕ)) (mode : Mode) → Sound LimitsGiven (limits_in fs mode)
unfolding limits_in
in_sound fs mode =
    by_num LimitsGiven 7 (least mode) (most_length mode) _ _ λ cbrlength a b.
    by_num LimitsGiven 8 (least mode) (most_limit mode cbrlength) _ _ λ cbrlimit c d.
    by_num LimitsGiven 9 1 (most_vbr mode cbrlength) _ _ λ vbrlimit e f.
    by_num LimitsGiven 10 0 1 _ _ λ mark _ _.
    (limits_iff mode cbrlength cbrlimit vbrlimit).0 (a, b, c, d, e, f)

back_sound : (fs : List (List ℕ)) → Sound LimitsGiven (limits_of fs)
unfolding limits_of
back_sound fs =
    chosen (Sound LimitsGiven) (same (field_of 6 fs) w_one) (λ _. in_sound fs One) λ _.
    chosen (Sound LimitsGiven) (same (field_of 6 fs) w_four) (λ _. in_sound fs Four) λ _.
    tt

-- by the unit and the VPI, and by the way out
by_key : (fs : List (List ℕ)) (good : Key → Result Line Wrong) → ((key : Key) → InKey key → Sound InRange (good key)) → Sound InRange (key_of fs >>= good)
by_key fs good g = by_part InKey InRange (key_of fs) good (key_sound fs) g

by_way : (fs : List (List ℕ)) (x y z : ℕ) (good : Way → Result Line Wrong) → ((way : Way) → InWay way → Sound InRange (good way)) → Sound InRange (way_of fs x y z >>= good)
by_way fs x y z good g = by_part InWay InRange (way_of fs x y z) good (way_sound fs x y z) g

line_sound : (kind : Kind) (fs : List (List ℕ)) → Sound InRange (line_of kind fs)
unfolding line_of bus_line unit_line vp_line drop_line page_line vc_on vc_line mc_line
line_sound K-as-Bus fs =
    by_num InRange 2 16 32 _ _ λ n _ _.
    chosen (Sound InRange) (eqb n 16) (λ e. inl (eqb-true n 16 e)) λ _.
    chosen (Sound InRange) (eqb n 32) (λ e. inr (eqb-true n 32 e)) λ _.
    tt
line_sound K-as-Unit fs =
    by_part SettingsIn InRange (settings_of fs) _ (front_sound fs) λ settings p.
    by_part LimitsGiven InRange (limits_of fs) _ (back_sound fs) λ limits q.
    record { settings_in = p; limits_in_lem = q }
line_sound K-as-Vp fs = by_key fs _ λ key k. by_way fs 4 5 6 _ λ way w. record { key = k; way = w }
line_sound K-as-Drop fs = by_key fs _ λ key k. k
line_sound K-as-Page fs = by_key fs _ λ key k. by_num InRange 4 0 65535 _ _ λ top _ t. record { key = k; top_most = t }
line_sound K-as-Vc fs =
    by_key fs _ λ key k.
    by_num InRange 4 0 65535 _ _ λ vci _ i.
    by_way fs 5 6 7 _ λ way w.
    by_num InRange 8 0 65535 _ _ λ outvci _ o.
    record { key = k; vci_most = i; way = w; outvci_most = o }
line_sound K-as-Mc fs =
    by_num InRange 2 0 31 _ _ λ unit _ u.
    by_num InRange 3 0 255 _ _ λ session _ s.
    record { unit_most = u; session_most = s }

spoken_sound : (w : Option Kind) (fs : List (List ℕ)) → Sound InRange (spoken w fs)
unfolding spoken
spoken_sound None fs = tt
spoken_sound (Some kind) fs = chosen (Sound InRange) (eqb (length fs) (count_of kind)) (λ _. line_sound kind fs) (λ _. tt)

reading_sound : (text : List ℕ) (ended : Bool) → Sound InRange (reading_of text ended)
unfolding reading_of
reading_sound text true = spoken_sound (word_of (field_of 1 (fields_of text))) (fields_of text)
reading_sound text false = tt

-- the numbers of a good line are in their ranges
pub read_in_range : (text : List ℕ) (ended : Bool) {line : Line} → reading_of text ended ≡ Ok line → InRange line
read_in_range text ended e = subst (Sound InRange) e (reading_sound text ended)

pub read_unit_given : (text : List ℕ) (ended : Bool) {settings : Settings} {limits : Limits} → reading_of text ended ≡ Ok (U· settings limits) → Given settings limits
read_unit_given text ended e = read_in_range text ended e
