-- What the planner's tool says of a table on a card: each message as bytes, a line with its newline. Assumes nothing.
use Rattle.std.specs.Prelude.{ℕ, cond, ◌&&◌, List, [], ◌∷◌, ◌++◌, eqb, leb, ltb, length, take, Option, Some, None}
use Rattle.octets.specs.Octets.{cat}
use Rattle.text.specs.Text.{split, field_of}
use Rattle.text.specs.Decimals.{decimal}
use Rattle.text.specs.Slips.{slip_of}
use Rattle.text.specs.declared.Slip.{Slip}
use Rattle.text.specs.declared.Slip.TheVariants.{Blanks, Return, Both}
use Rattle.card.specs.declared.Card.{Card}
use Rattle.card.specs.declared.Card.TheVariants.{Narrow, Wide}
use Rattle.card.specs.declared.Ask.{Ask}
use Rattle.card.specs.declared.Ask.TheVariants.{Bus, On, Out}
use Rattle.report.specs.MessageBytes.{w_narrow, w_wide, t_ok, t_bytes, t_unit, t_units, t_colon, t_refused, t_cut, t_path, t_above, t_bus, t_nni, t_long, t_empty, t_blanks, t_return, t_both, t_form, t_order, t_twice, t_asks, t_room, t_store}

abbrev pub newline : List ℕ
newline = 10 ∷ []

unfoldable pub card_word : Card → List ℕ
card_word Narrow = w_narrow
card_word Wide = w_wide

-- `narrow ok, 328 bytes of memory, 2 units`
unfoldable pub units_word : ℕ → List ℕ
units_word units = cond (eqb units 1) t_unit t_units

abbrev pub ok_line : Card → ℕ → ℕ → List ℕ
ok_line card used units = (((((card_word card ++ t_ok) ++ decimal used) ++ t_bytes) ++ decimal units) ++ units_word units) ++ newline

-- a line of the table as it is shown: its tabs as blanks, what is no printable ASCII as `?`, and cut behind 80 bytes
unfoldable pub shown_byte : ℕ → ℕ
shown_byte b = cond (eqb b 9) 32 (cond (leb 32 b && leb b 126) b 63)

abbrev pub one_shown : ℕ → List ℕ
one_shown b = shown_byte b ∷ []

unfoldable pub cut_mark : List ℕ → List ℕ
cut_mark line = cond (ltb 80 (length line)) t_cut []

abbrev pub shown : List ℕ → List ℕ
shown line = cat one_shown (take 80 line) ++ cut_mark line

-- and a colon behind it; an empty line is not shown
unfoldable pub showing : List ℕ → List ℕ
showing line = cond (eqb (length line) 0) [] (shown line ++ t_colon)

-- the line with this number, counted from 1
abbrev pub line_in : List ℕ → ℕ → List ℕ
line_in text line = field_of line (split 10 text)

-- `376: narrow refused 5: `; "line 0" is none
unfoldable pub place : ℕ → List ℕ
place line = cond (eqb line 0) [] (decimal line ++ t_colon)

abbrev pub head : Card → ℕ → ℕ → List ℕ
head card number line = (((place line ++ card_word card) ++ t_refused) ++ decimal number) ++ t_colon

-- what a line asks that a narrow card does not hold
unfoldable pub ask_words : Ask → List ℕ
ask_words (Bus units) = t_bus
ask_words (On link) = t_nni
ask_words (Out vpi) = (t_path ++ decimal vpi) ++ t_above

-- `376: narrow refused 5: vp 7 9 u8 1 261: outgoing path 261 is above 255`
abbrev pub wide_line : ℕ → List ℕ → Ask → List ℕ
wide_line line bytes ask = ((head Narrow 5 line ++ showing bytes) ++ ask_words ask) ++ newline

-- a table's line has no blank and no carriage return; what else may be wrong in its form where it has neither
unfoldable pub slip_words : Option Slip → List ℕ
slip_words (Some Blanks) = t_blanks
slip_words (Some Return) = t_return
slip_words (Some Both) = t_both
slip_words None = t_form

unfoldable pub form_words : List ℕ → ℕ → List ℕ
form_words text line = cond (eqb (length text) 0) t_empty (slip_words (slip_of (line_in text line)))

-- what is wrong, as far as 01's number and the line say it
unfoldable pub why : List ℕ → ℕ → ℕ → List ℕ
why text line number =
    cond (eqb number 1) t_long
    (cond (eqb number 2) (form_words text line)
    (cond (eqb number 3) t_order
    (cond (eqb number 4) t_twice
    (cond (eqb number 5) t_asks
    (cond (eqb number 6) t_room t_store)))))

-- the line that is refused; none where the whole table is
unfoldable pub shown_in : List ℕ → ℕ → List ℕ
shown_in text line = cond (eqb line 0) [] (showing (line_in text line))

-- `12: wide refused 4: unit 3 uni 5 2 one 0 0 100 0: this unit, path, channel or session is given twice`
abbrev pub refused_line : Card → ℕ → ℕ → List ℕ → List ℕ
refused_line card number line text = ((head card number line ++ shown_in text line) ++ why text line number) ++ newline
