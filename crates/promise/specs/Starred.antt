-- The starred values of document 01, "Values on each side of a line": one table of cases. Assumes nothing.
use Rattle.std.specs.Prelude.{ℕ, Bool, true, false, ◌&&◌, List, [], ◌∷◌, ◌++◌, eqb, replicate, Ok, Err}
use Rattle.header.specs.Fields.{fields}
use Rattle.header.specs.Check.{check}
use Rattle.header.specs.declared.Link.{Link}
use Rattle.header.specs.declared.Link.TheVariants.{Uni, Nni}
use Rattle.bus.specs.Routing.{routing}
use Rattle.bus.specs.declared.Target.{Target}
use Rattle.bus.specs.declared.Target.TheVariants.{Unit as unit, Session as session}
use Rattle.card.specs.declared.Card.{Card}
use Rattle.card.specs.declared.Card.TheVariants.{Narrow}
use Rattle.table.specs.Load.{load}
use Rattle.table.specs.Loading.{LoadOutcome}

-- a case, and the value that the document gives
pub data Case : Type 0 where
  check_of : (header value : ℕ) → Case
  vpi_of : (link : Link) (header value : ℕ) → Case
  routing_of : (class : ℕ) (target : Target) (value : ℕ) → Case
  load_of : (card : Card) (text : List ℕ) (value : LoadOutcome) → Case

unfoldable pub same : LoadOutcome → LoadOutcome → Bool
same (Ok a) (Ok b) = eqb a b
same (Ok a) (Err q) = false
same (Err r) (Ok b) = false
same (Err r) (Err q) = eqb r.number q.number && eqb r.line q.line

-- a table of one unit with one record, which a `vp` line gives this outgoing VPI, in decimal digits; it needs 8 bytes
--   bus 16 / unit 0 uni 0 1 one 0 0 1 0 / vp 0 0 b 0 ..
unfoldable pub path : List ℕ → List ℕ
path digits =
    (98 ∷ 117 ∷ 115 ∷ 9 ∷ 49 ∷ 54 ∷ 10 ∷
    117 ∷ 110 ∷ 105 ∷ 116 ∷ 9 ∷ 48 ∷ 9 ∷ 117 ∷ 110 ∷ 105 ∷ 9 ∷ 48 ∷ 9 ∷ 49 ∷ 9 ∷ 111 ∷ 110 ∷ 101 ∷ 9 ∷ 48 ∷ 9 ∷ 48 ∷ 9 ∷ 49 ∷ 9 ∷ 48 ∷ 10 ∷
    118 ∷ 112 ∷ 9 ∷ 48 ∷ 9 ∷ 48 ∷ 9 ∷ 98 ∷ 9 ∷ 48 ∷ 9 ∷ [])
    ++ digits ++ (10 ∷ [])

unfoldable pub holds : Case → Bool
holds (check_of header value) = eqb (check header) value
holds (vpi_of link header value) = eqb (fields link header).vpi value
holds (routing_of class target value) = eqb (routing target class) value
holds (load_of card text value) = same (load card text (replicate 8 0) 8192 1).outcome value

unfoldable pub all_hold : List Case → Bool
all_hold [] = true
all_hold (c ∷ cs) = holds c && all_hold cs

unfoldable pub starred : List Case
starred =
    -- "Check of 00 00 00 00 is 55; of 00 00 00 01 is 52; of 00 50 02 10 is 2B; of 00 90 02 80 is 5F; of 10 50 02 10 is 4C."
    check_of 0x00000000 0x55 ∷
    check_of 0x00000001 0x52 ∷
    check_of 0x00500210 0x2b ∷
    check_of 0x00900280 0x5f ∷
    check_of 0x10500210 0x4c ∷
    -- "10 50 02 10 is VPI 261 on NNI, VPI 5 on UNI."
    vpi_of Nni 0x10500210 261 ∷
    vpi_of Uni 0x10500210 5 ∷
    -- "Routing headers: class 1 to unit 5, 1050; class 2 to unit 3, 2038; class 3 to session 17, 711D."
    routing_of 1 (unit 5) 0x1050 ∷
    routing_of 2 (unit 3) 0x2038 ∷
    routing_of 3 (session 17) 0x711d ∷
    -- "Outgoing VPI 255 is good on the narrow card; 256 is Wide."
    load_of Narrow (path (50 ∷ 53 ∷ 53 ∷ [])) (Ok 8) ∷
    load_of Narrow (path (50 ∷ 53 ∷ 54 ∷ [])) (Err (record { number = 5; line = 3 })) ∷
    []
