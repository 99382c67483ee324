-- What is listed of a table that the wide card takes: exactly its lines of 01's Wide, in order. Assumes nothing.
use Rattle.std.specs.Prelude.{ℕ, ◌+◌, ◌-◌, ◌<◌, ◌≡◌, true, List, [], ◌∷◌, ◌++◌, map, ◌↔◌, length, take, drop, Ok, Err, Option, Some, None}
use Rattle.header.specs.declared.Link.TheVariants.{Nni}
use Rattle.card.specs.declared.Ask.{Ask}
use Rattle.card.specs.declared.Ask.TheVariants.{Bus as A-as-Bus, On, Out}
use Rattle.card.specs.declared.Card.TheVariants.{Narrow, Wide as W}
use Rattle.line.specs.Lines.{Reading, reading_of}
use Rattle.line.specs.declared.Line.{Line}
use Rattle.line.specs.declared.Line.TheVariants.{Bus, Unit as L-as-Unit, Vp, Drop, Page, Vc, Mc}
use Rattle.table.specs.Load.{load}
use Rattle.promise.specs.Refusals.{Accepts}
use Rattle.promise.specs.Says.{IsWide}
use Rattle.toowide.specs.Asks.{ask_of, beyond}
use Rattle.toowide.specs.Listing.{Wide, wide_lines, following}

-- who asks for the next one until there is none gets the list
abbrev pub NextByNext : Type 0
NextByNext = (text : List ℕ) (k : ℕ) → length text < k → following k text 0 0 ≡ wide_lines text

-- a line's number, how it reads, and what it asks
pub record Asks : Type 0 where
  pub number : ℕ
  pub reading : Reading
  pub ask : Ask

-- those of a line that is listed: it reads as the text's part between its places does
abbrev pub asks_at : List ℕ → Wide → Asks
asks_at text w = record { number = w.number; reading = reading_of (take (w.end - w.start) (drop w.start text)) true; ask = w.ask }

-- of lines, the latest first, those that ask for too much, in their order, counted from 1
unfoldable pub asked_at : ℕ → Reading → Option Ask → List Asks
asked_at number reading (Some ask) = record { number = number; reading = reading; ask = ask } ∷ []
asked_at number reading None = []

unfoldable pub wide_of : List Line → List Asks
wide_of [] = []
wide_of (l ∷ told) = wide_of told ++ asked_at (length told + 1) (Ok l) (beyond (ask_of l))

-- a line asks for too much exactly if it is one of 01's Wide: "`bus` 32, `nni`, or outgoing VPI above 255"
abbrev pub WideIff : Type 0
WideIff = (l : Line) → ((ask : Ask) × (beyond (ask_of l) ≡ Some ask)) ↔ IsWide l

-- and what it asks is what 01's Wide names of it
abbrev pub Names : Line → Ask → Type 0
Names (Bus bus) ask = (bus ≡ 32) × (ask ≡ A-as-Bus 32)
Names (L-as-Unit settings limits) ask = (settings.link ≡ Nni) × (ask ≡ On Nni)
Names (Vp a b target class outvpi) ask = (255 < outvpi) × (ask ≡ Out outvpi)
Names (Drop a b) ask = ⊥
Names (Page a b top) ask = ⊥
Names (Vc a b c target class outvpi outvci) ask = (255 < outvpi) × (ask ≡ Out outvpi)
Names (Mc a session) ask = ⊥

abbrev pub AsksIff : Type 0
AsksIff = (l : Line) (ask : Ask) → (beyond (ask_of l) ≡ Some ask) ↔ Names l ask

-- of a text that the wide card takes
module _ (text memory : List ℕ) (store rows : ℕ) (told : List Line) where
  -- these lines are listed, each where it stands, and no others
  abbrev pub EveryLine : Type 0
  EveryLine = Accepts W text memory store rows told → map (asks_at text) (wide_lines text) ≡ wide_of told

  -- the first of them is the line that loading on the narrow card names
  abbrev pub FirstNamed : Type 0
  FirstNamed =
      Accepts W text memory store rows told → (line : ℕ) →
      ((load Narrow text memory store rows).outcome ≡ Err (record { number = 5; line = line })) ↔ ((w : Wide) × (rest : List Wide) × (wide_lines text ≡ w ∷ rest) × (w.number ≡ line))

  -- and there is none exactly if the narrow card takes it too
  abbrev pub NoneIfTaken : Type 0
  NoneIfTaken =
      Accepts W text memory store rows told →
      (wide_lines text ≡ []) ↔ ((used : ℕ) × ((load Narrow text memory store rows).outcome ≡ Ok used))

-- also where the wide card does not take it: what the narrow card names for 5 is the first line of the list
abbrev pub NamedFirst : Type 0
NamedFirst =
    (text memory : List ℕ) (store rows line : ℕ) → (load Narrow text memory store rows).outcome ≡ Err (record { number = 5; line = line }) →
    (w : Wide) × (rest : List Wide) × (wide_lines text ≡ w ∷ rest) × (w.number ≡ line)
