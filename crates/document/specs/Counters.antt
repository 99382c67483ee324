-- The history, and the counters that it makes. Assumes nothing.
use Rattle.std.specs.Prelude.{ℕ, suc, ◌%◌, ◌^◌, Bool, cond, ◌&&◌, List, [], ◌∷◌, map, eqb}
use Rattle.answer.specs.declared.Counters as C
use Rattle.paper.specs.Counters.{Counter, arrived, hec, ignored, misrouted, inletfull, sent, unheard, damaged, queued, full, clp, wide, taken, place_of}

-- a line of the history: at the unit with this number something happened that this counter counts
pub record Entry : Type 0 where
  pub unit : ℕ
  pub counter : Counter

abbrev pub entries : ℕ → List Counter → List Entry
entries unit cs = map (λ c. record { unit = unit; counter = c }) cs

-- how often a thing that a counter counts happened at a unit
abbrev pub matches : ℕ → Counter → Entry → Bool
matches unit c e = eqb e.unit unit && eqb (place_of e.counter) (place_of c)

unfoldable pub times : List Entry → ℕ → Counter → ℕ
times [] unit c = 0
times (e ∷ es) unit c = cond (matches unit c e) (suc (times es unit c)) (times es unit c)

-- "each modulo 4,294,967,296"
abbrev pub counter_of : List Entry → ℕ → Counter → ℕ
counter_of history unit c = times history unit c % 2 ^ 32

abbrev pub counters_of : List Entry → ℕ → C.Counters
counters_of history unit =
    record {
      arrived = counter_of history unit arrived;
      hec = counter_of history unit hec;
      ignored = counter_of history unit ignored;
      misrouted = counter_of history unit misrouted;
      inletfull = counter_of history unit inletfull;
      sent = counter_of history unit sent;
      unheard = counter_of history unit unheard;
      damaged = counter_of history unit damaged;
      queued = counter_of history unit queued;
      full = counter_of history unit full;
      clp = counter_of history unit clp;
      wide = counter_of history unit wide;
      taken = counter_of history unit taken;
    }
