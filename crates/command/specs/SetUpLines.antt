-- The lines of docs/CONSOLE.md that choose a card, lend, poke and show. Assumes nothing.
use Rattle.std.specs.Prelude.{ℕ, cond, codes, List, eqb, length, Option, Some, None, option_map}
use Rattle.card.specs.declared.Card.TheVariants.{Narrow, Wide}
use Rattle.text.specs.Text.{fields_of, field_of, same}
use Rattle.command.specs.declared.Bank.{Bank}
use Rattle.command.specs.declared.Command.{Command}
use Rattle.command.specs.declared.Command.TheVariants as command
use Rattle.command.specs.Fields.{◌>>=◌, number_in, unit_in, byte_in, bank_of, place_and_span}

-- `card narrow`, `card wide`
unfoldable pub card_line : List (List ℕ) → Option Command
card_line fs =
    cond (same (field_of 2 fs) (codes "narrow")) (Some (command.Card Narrow))
    (cond (same (field_of 2 fs) (codes "wide")) (Some (command.Card Wide)) None)

-- `lend memory LENGTH BYTE`, `lend store LENGTH BYTE`: to 300,000; `lend rows COUNT VALUE`: to 40, below 4,294,967,296
unfoldable pub lend_bank : List (List ℕ) → Bank → Option Command
lend_bank fs bank = do
  bytes ← number_in fs 3 300000
  byte ← byte_in fs 4
  Some (command.Lend bank bytes byte)

unfoldable pub lend_rows : List (List ℕ) → Option Command
lend_rows fs = do
  count ← number_in fs 3 40
  value ← number_in fs 4 4294967295
  Some (command.LendRows count value)

unfoldable pub lend_line : List (List ℕ) → Option Command
lend_line fs = cond (same (field_of 2 fs) (codes "rows")) (lend_rows fs) (bank_of (field_of 2 fs) >>= lend_bank fs)

-- `poke memory AT HEX`, `poke store AT HEX`, `poke state AT HEX`
unfoldable pub poke_line : List ℕ → Option Command
poke_line text = do
  place ← place_and_span text
  cond (same (field_of 2 (fields_of text)) (codes "state")) (Some (command.PokeState place.0 place.1))
      (option_map (λ bank. command.Poke bank place.0 place.1) (bank_of (field_of 2 (fields_of text))))

-- `show memory`, `show store`, `show rows`, `show state`
unfoldable pub show_lent : List (List ℕ) → Option Command
show_lent fs =
    cond (same (field_of 2 fs) (codes "rows")) (Some command.ShowRows)
    (cond (same (field_of 2 fs) (codes "state")) (Some command.ShowState) (option_map command.Show (bank_of (field_of 2 fs))))

-- `show unit UNIT`
unfoldable pub show_unit : List (List ℕ) → Option Command
show_unit fs = cond (same (field_of 2 fs) (codes "unit")) (option_map command.ShowUnit (unit_in fs 3)) None

-- those have two fields, this has three
unfoldable pub show_line : List (List ℕ) → Option Command
show_line fs = cond (eqb (length fs) 2) (show_lent fs) (cond (eqb (length fs) 3) (show_unit fs) None)
