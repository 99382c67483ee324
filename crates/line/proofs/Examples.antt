-- Lines that antt reads: document 01's own and one of each fault, tabs shown as blanks. Assumes nothing.
use mathlib.Core.Path.{◌≡◌, refl}
use mathlib.Core.Bool.{true, false}
use mathlib.Core.List.{[], ◌∷◌}
use Rattle.header.specs.declared.Link.TheVariants.{Uni, Nni}
use Rattle.bus.specs.declared.Target.TheVariants.{Unit, Session, All}
use Rattle.outlet.specs.declared.Mode.TheVariants.{One, Four}
use Rattle.line.specs.declared.Line.TheVariants.{Bus, Unit as U·, Vp, Drop, Page, Vc, Mc}
use Rattle.line.specs.declared.Wrong.TheVariants.{Newline, Word as Unspoken, Fields, Number, Range}
use Rattle.std.specs.Prelude.{Ok, Err}
use Rattle.text.specs.Text.{split, same}
use Rattle.text.specs.Digits.{digit, digits, plain, decimal_of, value}
use Rattle.line.specs.Ranged.{ranged, aim_of}
use Rattle.line.specs.Units.{settings_on, settings_of, limits_in, limits_of}
use Rattle.line.specs.Lines.{bus_line, unit_line, key_of, way_of, vp_line, drop_line, page_line, vc_on, vc_line, mc_line, line_of, word_of, spoken, reading_of}

-- bus 16
bus : reading_of (98 ∷ 117 ∷ 115 ∷ 9 ∷ 49 ∷ 54 ∷ []) true ≡ Ok (Bus 16)
unfolding split same digit digits plain decimal_of value ranged line_of word_of spoken reading_of bus_line
bus = refl

-- unit 0 uni 5 2 one 0 0 100 0
unit_one : reading_of (117 ∷ 110 ∷ 105 ∷ 116 ∷ 9 ∷ 48 ∷ 9 ∷ 117 ∷ 110 ∷ 105 ∷ 9 ∷ 53 ∷ 9 ∷ 50 ∷ 9 ∷ 111 ∷ 110 ∷ 101 ∷ 9 ∷ 48 ∷ 9 ∷ 48 ∷ 9 ∷ 49 ∷ 48 ∷ 48 ∷ 9 ∷ 48 ∷ []) true ≡ Ok (U· (record { number = 0; link = Uni; top = 5; priority = 2 }) (record { mode = One; cbrlength = 0; cbrlimit = 0; vbrlimit = 100; mark = false }))
unfolding split same digit digits plain decimal_of value ranged line_of word_of spoken reading_of settings_on settings_of limits_in limits_of unit_line
unit_one = refl

-- unit 3 nni 4095 1 four 40 30 49 1
unit_four : reading_of (117 ∷ 110 ∷ 105 ∷ 116 ∷ 9 ∷ 51 ∷ 9 ∷ 110 ∷ 110 ∷ 105 ∷ 9 ∷ 52 ∷ 48 ∷ 57 ∷ 53 ∷ 9 ∷ 49 ∷ 9 ∷ 102 ∷ 111 ∷ 117 ∷ 114 ∷ 9 ∷ 52 ∷ 48 ∷ 9 ∷ 51 ∷ 48 ∷ 9 ∷ 52 ∷ 57 ∷ 9 ∷ 49 ∷ []) true ≡ Ok (U· (record { number = 3; link = Nni; top = 4095; priority = 1 }) (record { mode = Four; cbrlength = 40; cbrlimit = 30; vbrlimit = 49; mark = true }))
unfolding split same digit digits plain decimal_of value ranged line_of word_of spoken reading_of settings_on settings_of limits_in limits_of unit_line
unit_four = refl

-- vp 31 4095 m255 3 256
vp : reading_of (118 ∷ 112 ∷ 9 ∷ 51 ∷ 49 ∷ 9 ∷ 52 ∷ 48 ∷ 57 ∷ 53 ∷ 9 ∷ 109 ∷ 50 ∷ 53 ∷ 53 ∷ 9 ∷ 51 ∷ 9 ∷ 50 ∷ 53 ∷ 54 ∷ []) true ≡ Ok (Vp 31 4095 (Session 255) 3 256)
unfolding split same digit digits plain decimal_of value ranged line_of word_of spoken reading_of aim_of key_of way_of vp_line
vp = refl

-- drop 17 255
drop : reading_of (100 ∷ 114 ∷ 111 ∷ 112 ∷ 9 ∷ 49 ∷ 55 ∷ 9 ∷ 50 ∷ 53 ∷ 53 ∷ []) true ≡ Ok (Drop 17 255)
unfolding split same digit digits plain decimal_of value ranged line_of word_of spoken reading_of key_of drop_line
drop = refl

-- page 0 5 33
page : reading_of (112 ∷ 97 ∷ 103 ∷ 101 ∷ 9 ∷ 48 ∷ 9 ∷ 53 ∷ 9 ∷ 51 ∷ 51 ∷ []) true ≡ Ok (Page 0 5 33)
unfolding split same digit digits plain decimal_of value ranged line_of word_of spoken reading_of key_of page_line
page = refl

-- vc 0 5 33 u3 2 9 40
vc : reading_of (118 ∷ 99 ∷ 9 ∷ 48 ∷ 9 ∷ 53 ∷ 9 ∷ 51 ∷ 51 ∷ 9 ∷ 117 ∷ 51 ∷ 9 ∷ 50 ∷ 9 ∷ 57 ∷ 9 ∷ 52 ∷ 48 ∷ []) true ≡ Ok (Vc 0 5 33 (Unit 3) 2 9 40)
unfolding split same digit digits plain decimal_of value ranged line_of word_of spoken reading_of aim_of key_of way_of vc_on vc_line
vc = refl

-- vc 0 5 65535 b 0 0 65535
vc_all : reading_of (118 ∷ 99 ∷ 9 ∷ 48 ∷ 9 ∷ 53 ∷ 9 ∷ 54 ∷ 53 ∷ 53 ∷ 51 ∷ 53 ∷ 9 ∷ 98 ∷ 9 ∷ 48 ∷ 9 ∷ 48 ∷ 9 ∷ 54 ∷ 53 ∷ 53 ∷ 51 ∷ 53 ∷ []) true ≡ Ok (Vc 0 5 65535 All 0 0 65535)
unfolding split same digit digits plain decimal_of value ranged line_of word_of spoken reading_of aim_of key_of way_of vc_on vc_line
vc_all = refl

-- mc 3 255
mc : reading_of (109 ∷ 99 ∷ 9 ∷ 51 ∷ 9 ∷ 50 ∷ 53 ∷ 53 ∷ []) true ≡ Ok (Mc 3 255)
unfolding split same digit digits plain decimal_of value ranged line_of word_of spoken reading_of mc_line
mc = refl

-- bus 16
no_newline : reading_of (98 ∷ 117 ∷ 115 ∷ 9 ∷ 49 ∷ 54 ∷ []) false ≡ Err Newline
unfolding reading_of
no_newline = refl

--
empty_line : reading_of ([]) true ≡ Err Unspoken
unfolding split same word_of spoken reading_of
empty_line = refl

-- buss 16 7
unknown_word : reading_of (98 ∷ 117 ∷ 115 ∷ 115 ∷ 9 ∷ 49 ∷ 54 ∷ 9 ∷ 55 ∷ []) true ≡ Err Unspoken
unfolding split same word_of spoken reading_of
unknown_word = refl

-- drop 017
too_few : reading_of (100 ∷ 114 ∷ 111 ∷ 112 ∷ 9 ∷ 48 ∷ 49 ∷ 55 ∷ []) true ≡ Err Fields
unfolding split same word_of spoken reading_of
too_few = refl

-- drop 1  2
two_tabs : reading_of (100 ∷ 114 ∷ 111 ∷ 112 ∷ 9 ∷ 49 ∷ 9 ∷ 9 ∷ 50 ∷ []) true ≡ Err Fields
unfolding split same word_of spoken reading_of
two_tabs = refl

-- drop 1 07
needless_zero : reading_of (100 ∷ 114 ∷ 111 ∷ 112 ∷ 9 ∷ 49 ∷ 9 ∷ 48 ∷ 55 ∷ []) true ≡ Err (Number 3)
unfolding split same digit digits plain decimal_of value ranged line_of word_of spoken reading_of key_of drop_line
needless_zero = refl

-- drop 1 4096
out_of_range : reading_of (100 ∷ 114 ∷ 111 ∷ 112 ∷ 9 ∷ 49 ∷ 9 ∷ 52 ∷ 48 ∷ 57 ∷ 54 ∷ []) true ≡ Err (Range 3)
unfolding split same digit digits plain decimal_of value ranged line_of word_of spoken reading_of key_of drop_line
out_of_range = refl

-- drop 32 x
first_fault : reading_of (100 ∷ 114 ∷ 111 ∷ 112 ∷ 9 ∷ 51 ∷ 50 ∷ 9 ∷ 120 ∷ []) true ≡ Err (Range 2)
unfolding split same digit digits plain decimal_of value ranged line_of word_of spoken reading_of key_of drop_line
first_fault = refl

-- drop 99x 7
number_first : reading_of (100 ∷ 114 ∷ 111 ∷ 112 ∷ 9 ∷ 57 ∷ 57 ∷ 120 ∷ 9 ∷ 55 ∷ []) true ≡ Err (Number 2)
unfolding split same digit digits plain decimal_of value ranged line_of word_of spoken reading_of key_of drop_line
number_first = refl

-- mc 123456789012345678901234567890 0
thirty_digits : reading_of (109 ∷ 99 ∷ 9 ∷ 49 ∷ 50 ∷ 51 ∷ 52 ∷ 53 ∷ 54 ∷ 55 ∷ 56 ∷ 57 ∷ 48 ∷ 49 ∷ 50 ∷ 51 ∷ 52 ∷ 53 ∷ 54 ∷ 55 ∷ 56 ∷ 57 ∷ 48 ∷ 49 ∷ 50 ∷ 51 ∷ 52 ∷ 53 ∷ 54 ∷ 55 ∷ 56 ∷ 57 ∷ 48 ∷ 9 ∷ 48 ∷ []) true ≡ Err (Range 2)
unfolding split same digit digits plain decimal_of value ranged line_of word_of spoken reading_of mc_line
thirty_digits = refl

-- vp 0 5 u 0 0
u_alone : reading_of (118 ∷ 112 ∷ 9 ∷ 48 ∷ 9 ∷ 53 ∷ 9 ∷ 117 ∷ 9 ∷ 48 ∷ 9 ∷ 48 ∷ []) true ≡ Err (Number 4)
unfolding split same digit digits plain decimal_of value ranged line_of word_of spoken reading_of aim_of key_of way_of vp_line
u_alone = refl

-- vp 0 5 m256 0 0
m_too_great : reading_of (118 ∷ 112 ∷ 9 ∷ 48 ∷ 9 ∷ 53 ∷ 9 ∷ 109 ∷ 50 ∷ 53 ∷ 54 ∷ 9 ∷ 48 ∷ 9 ∷ 48 ∷ []) true ≡ Err (Range 4)
unfolding split same digit digits plain decimal_of value ranged line_of word_of spoken reading_of aim_of key_of way_of vp_line
m_too_great = refl

-- vp 0 5 b3 0 0
b_and_more : reading_of (118 ∷ 112 ∷ 9 ∷ 48 ∷ 9 ∷ 53 ∷ 9 ∷ 98 ∷ 51 ∷ 9 ∷ 48 ∷ 9 ∷ 48 ∷ []) true ≡ Err (Range 4)
unfolding split same digit digits plain decimal_of value ranged line_of word_of spoken reading_of aim_of key_of way_of vp_line
b_and_more = refl

-- unit 3 uni 0 1 four 40 30 50 1
vbr_too_great : reading_of (117 ∷ 110 ∷ 105 ∷ 116 ∷ 9 ∷ 51 ∷ 9 ∷ 117 ∷ 110 ∷ 105 ∷ 9 ∷ 48 ∷ 9 ∷ 49 ∷ 9 ∷ 102 ∷ 111 ∷ 117 ∷ 114 ∷ 9 ∷ 52 ∷ 48 ∷ 9 ∷ 51 ∷ 48 ∷ 9 ∷ 53 ∷ 48 ∷ 9 ∷ 49 ∷ []) true ≡ Err (Range 9)
unfolding split same digit digits plain decimal_of value ranged line_of word_of spoken reading_of settings_on settings_of limits_in limits_of unit_line
vbr_too_great = refl

-- unit 3 uni 256 1 four 40 30 20 1
uni_top : reading_of (117 ∷ 110 ∷ 105 ∷ 116 ∷ 9 ∷ 51 ∷ 9 ∷ 117 ∷ 110 ∷ 105 ∷ 9 ∷ 50 ∷ 53 ∷ 54 ∷ 9 ∷ 49 ∷ 9 ∷ 102 ∷ 111 ∷ 117 ∷ 114 ∷ 9 ∷ 52 ∷ 48 ∷ 9 ∷ 51 ∷ 48 ∷ 9 ∷ 50 ∷ 48 ∷ 9 ∷ 49 ∷ []) true ≡ Err (Range 4)
unfolding split same digit digits plain decimal_of value ranged line_of word_of spoken reading_of settings_on settings_of limits_in limits_of unit_line
uni_top = refl
