-- The arbiter alone, to be computed: the bound on runs of a few frames, which holds of the arbiter as it stands and fails of wrong ones. Assumes nothing.
use Rattle.std.specs.Prelude.{ℕ, suc, ◌-◌, ◌≡◌, Bool, true, false, not, ◌&&◌, ◌||◌, List, [], ◌∷◌, ◌++◌, map, eqb, ltb, length, get_or, take, replicate}
use Rattle.arbiter.specs.Arbitration.{nobody, units, cyclic, first, last_at, turn, renewed_from, grant_to, granted}
use Rattle.arbiter.specs.declared.Grant.{Grant}

-- how requests are renewed: on this bus, in the frame of this number, by what the units ask now; and who is granted, after these last units granted
pub record Rules : Type 0 where
  pub renew : ℕ → ℕ → List ℕ → List ℕ → List ℕ
  pub grant : List ℕ → List ℕ → Grant

-- wrong ones. The last unit granted is never kept; the order begins with it; the highest number is first; the lowest priority is first; a request that is not renewed is dropped; one that
-- is granted is not cleared; a grant clears all
abbrev pub arbiter_never_kept : Rules
arbiter_never_kept =
    record {
      renew = λ bus frame now asks. renewed_from bus frame now 0 asks;
      grant = λ last asks. record { unit = (granted last asks).unit; last = last; asks = (granted last asks).asks };
    }

abbrev pub arbiter_from_last : Rules
arbiter_from_last =
    record { renew = λ bus frame now asks. renewed_from bus frame now 0 asks; grant = λ last asks. grant_to last asks 3 (first asks 3 (last_at last 3 ∷ cyclic (last_at last 3))) }

abbrev pub arbiter_by_number : Rules
arbiter_by_number = record { renew = λ bus frame now asks. renewed_from bus frame now 0 asks; grant = λ last asks. grant_to last asks 3 (first asks 3 (map (λ n. 31 - n) units)) }

abbrev pub arbiter_lowest_first : Rules
arbiter_lowest_first = record { renew = λ bus frame now asks. renewed_from bus frame now 0 asks; grant = λ last asks. grant_to last asks 1 (turn last asks 1) }

abbrev pub dropping : Rules
dropping = record { renew = λ bus frame now asks. renewed_from bus frame now 0 (replicate 32 0); grant = granted }

abbrev pub uncleared : Rules
uncleared =
    record {
      renew = λ bus frame now asks. renewed_from bus frame now 0 asks;
      grant = λ last asks. record { unit = (granted last asks).unit; last = (granted last asks).last; asks = asks };
    }

abbrev pub clearing : Rules
clearing =
    record {
      renew = λ bus frame now asks. renewed_from bus frame now 0 asks;
      grant = λ last asks. record { unit = (granted last asks).unit; last = (granted last asks).last; asks = replicate 32 0 };
    }

-- "Prove of the arbiter as it stands"
abbrev pub standing : Rules
standing = record { renew = λ bus frame now asks. renewed_from bus frame now 0 asks; grant = granted }

-- the frames of a run: what is asked in each once requests are renewed, and who is granted
pub record Turn : Type 0 where
  pub asks : List ℕ
  pub unit : ℕ

unfoldable pub played : Rules → ℕ → ℕ → List ℕ → List ℕ → List (List ℕ) → List Turn
played r bus frame last asks [] = []
played r bus frame last asks (now ∷ later) =
    let renewed = r.renew bus frame now asks in
    let g = r.grant last renewed in
    record { asks = renewed; unit = g.unit } ∷ played r bus (suc frame) g.last g.asks later

-- from before any grant, with what units 0 and 1 ask now in each frame
abbrev pub fresh : Rules → ℕ → List (List ℕ) → List Turn
fresh r bus now = played r bus 0 (replicate 3 nobody) (replicate 32 0) now

abbrev pub ask : ℕ → ℕ → List ℕ
ask p q = (p ∷ q ∷ []) ++ replicate 30 0

-- the bound: who asks at 3 in a frame is granted in one of n frames, that frame counted as first, where so many are played
unfoldable pub is_among : ℕ → List Turn → Bool
is_among unit [] = false
is_among unit (t ∷ ts) = eqb t.unit unit || is_among unit ts

unfoldable pub every : (ℕ → Bool) → List ℕ → Bool
every f [] = true
every f (n ∷ ns) = f n && every f ns

unfoldable pub bounded : ℕ → List Turn → Bool
bounded n [] = true
bounded n (t ∷ ts) = (ltb (length (t ∷ ts)) n || every (λ u. not (eqb (get_or t.asks u 0) 3) || is_among u (take n (t ∷ ts))) units) && bounded n ts

-- two units at priority 3 that have cells all the time; one at 3 beside one at 1; and on a 32 bus two at 3 with a cell each, which are renewed in even frames only
abbrev pub busy : Rules → Bool
busy r = bounded 2 (fresh r 16 (ask 3 3 ∷ ask 3 3 ∷ []))

abbrev pub beside : Rules → Bool
beside r = bounded 1 (fresh r 16 (ask 3 1 ∷ []))

abbrev pub halves : Rules → Bool
halves r = bounded 2 (fresh r 32 (ask 3 3 ∷ ask 0 3 ∷ ask 0 0 ∷ []))

pub record Arbiters : Type 0 where
  pub busy_holds : busy standing ≡ true
  pub beside_holds : beside standing ≡ true
  pub halves_hold : halves standing ≡ true
  pub never_kept : busy arbiter_never_kept ≡ false
  pub from_last : busy arbiter_from_last ≡ false
  pub by_number : busy arbiter_by_number ≡ false
  pub lowest_first : beside arbiter_lowest_first ≡ false
  pub drops : halves dropping ≡ false
  pub not_cleared : halves uncleared ≡ false
  pub all_cleared : halves clearing ≡ false
