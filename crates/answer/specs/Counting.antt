-- The thirteen counters of a unit, and what an event does to the rows of them. Assumes nothing.
use Rattle.std.specs.Prelude.{ℕ, zero as none, suc, ◌+◌, ◌/◌, ◌%◌, ◌^◌, false, cond, List, [], ◌∷◌, ◌==◌, nat_le, slice_index, slice_index_or, slice_set, Option, Some, None}
use Rattle.answer.specs.Answers.{#arrived, #hec, #ignored, #misrouted, #inletfull, #sent, #unheard, #damaged, #queued, #full, #clp, #wide, #taken}
use Rattle.answer.specs.declared.Rises.{Rises}
use Rattle.answer.specs.declared.Rise.{Rise}
use Rattle.answer.specs.declared.Single.{Single}
use Rattle.answer.specs.declared.Counters.{Counters}

-- "Thirteen counters a unit, each modulo 4,294,967,296: arrived, hec, ignored, misrouted, inletfull, sent, unheard, damaged, queued (outlet), full, clp, wide, taken."
abbrev pub listed : Counters → List ℕ
listed c =
    c.arrived ∷ c.hec ∷ c.ignored ∷ c.misrouted ∷ c.inletfull ∷ c.sent ∷ c.unheard ∷ c.damaged ∷ c.queued ∷ c.full ∷ c.clp ∷ c.wide ∷ c.taken ∷ []

-- the counter at a place of that order
abbrev pub value : Counters → ℕ → ℕ
value c k = slice_index (listed c) k

abbrev pub zeros : Counters
zeros =
    record {
      arrived = 0;
      hec = 0;
      ignored = 0;
      misrouted = 0;
      inletfull = 0;
      sent = 0;
      unheard = 0;
      damaged = 0;
      queued = 0;
      full = 0;
      clp = 0;
      wide = 0;
      taken = 0;
    }

-- a counter one up if its bit is in the set n
abbrev pub tick : ℕ → ℕ → ℕ → ℕ
tick bit n x = (x + n / bit % 2) % 2 ^ 32

unfoldable pub raised : Counters → ℕ → Counters
raised c n =
    record {
      arrived = tick #arrived n c.arrived;
      hec = tick #hec n c.hec;
      ignored = tick #ignored n c.ignored;
      misrouted = tick #misrouted n c.misrouted;
      inletfull = tick #inletfull n c.inletfull;
      sent = tick #sent n c.sent;
      unheard = tick #unheard n c.unheard;
      damaged = tick #damaged n c.damaged;
      queued = tick #queued n c.queued;
      full = tick #full n c.full;
      clp = tick #clp n c.clp;
      wide = tick #wide n c.wide;
      taken = tick #taken n c.taken;
    }

-- the row at place i: "A good load zeroes its rows", another event raises what it counts
unfoldable pub row_after : Counters → Rises → ℕ → Counters
row_after c rises i = cond rises.anew zeros (raised c (slice_index rises.each i))

-- the same in one number: the set of counters that rise, or 8,192, above every such set; 0 where the row stays
unfoldable pub rise_at : Rises → ℕ → ℕ
rise_at rises i = cond rises.anew 8192 (slice_index rises.each i % 8192)

unfoldable pub row_by : Counters → ℕ → Counters
row_by c n = cond (n == 8192) zeros (raised c n)

-- the rows before place n, from the first that changes, are done; the others are as they were
unfoldable pub settled_to : List Counters → Rises → ℕ → List Counters
settled_to rows rises none = rows
settled_to rows rises (suc i) = cond (nat_le rises.from i) (slice_set (settled_to rows rises i) i (row_after (slice_index_or rows i zeros) rises i)) (settled_to rows rises i)

-- "The counters of the units are a lent row of records, in `unit` line order; rows beyond the declared units are untouched."
abbrev pub settled : List Counters → Rises → List Counters
settled rows rises = settled_to rows rises rises.to

-- of a frame: from the first row up to one, each by its own
abbrev pub rises_to : ℕ → List ℕ → Rises
rises_to to each = record { from = 0; to = to; anew = false; each = each }

-- the row at place at + k, for the first n of k, has its own set raised
unfoldable pub raised_from : List Counters → ℕ → List ℕ → ℕ → List Counters
raised_from rows at sets none = rows
raised_from rows at sets (suc k) = slice_set (raised_from rows at sets k) (at + k) (raised (slice_index_or rows (at + k) zeros) (slice_index sets k))

-- of an event at one unit: the set of counters that rise, the place of the row that changes, and how many do; none where it is not counted
unfoldable pub set_in : Option Rise → ℕ
set_in (Some rise) = rise.counters
set_in None = 0

unfoldable pub place_in : Option Rise → ℕ
place_in (Some rise) = rise.place
place_in None = 0

unfoldable pub many_in : Option Rise → ℕ
many_in (Some rise) = 1
many_in None = 0

abbrev pub set_of : Single → ℕ
set_of done = set_in done.rise

abbrev pub place_of : Single → ℕ
place_of done = place_in done.rise

abbrev pub many_of : Single → ℕ
many_of done = many_in done.rise
