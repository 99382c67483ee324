-- Sound states that no load gives, and for each item of State one that is refused for it. Assumes nothing.
use Rattle.std.specs.Prelude.{◌≡◌, ℕ, Bool, true, false, not, List, [], ◌∷◌, ◌++◌, replicate, slice_set}
use Rattle.header.specs.declared.Link.{Link}
use Rattle.header.specs.declared.Link.TheVariants.{Uni, Nni}
use Rattle.card.specs.declared.Card.{Card}
use Rattle.card.specs.declared.Card.TheVariants.{Narrow, Wide}
use Rattle.outlet.specs.declared.Mode.TheVariants.{One, Four}
use Rattle.outlet.specs.declared.Ring.{Ring}
use Rattle.arbiter.specs.Arbitration.{nobody}
use Rattle.shelf.specs.Shelves.{blank, empty_side, fresh}
use Rattle.shelf.specs.declared.Settings.{Settings}
use Rattle.shelf.specs.declared.Unit as U
use Rattle.shelf.specs.Shelf.{Shelf}
use Rattle.soundness.specs.Admission.{with_side}
use Rattle.soundness.specs.State.{every, sound_of}

abbrev ring : ℕ → ℕ → Ring
ring head count = record { head = head; count = count }

abbrev settings : ℕ → Link → ℕ → ℕ → Settings
settings number link top priority = record { number = number; link = link; top = top; priority = priority }

-- a unit in mode one with this VBR limit, its first two queues and its inlet
abbrev one : Settings → ℕ → Ring → Ring → Ring → U.Unit
one s limit first second inlet =
    record {
      settings = s;
      outlet = record {
        limits = record { mode = One; cbrlength = 0; cbrlimit = 0; vbrlimit = limit; mark = true };
        queues = first ∷ second ∷ ring 0 0 ∷ ring 0 0 ∷ [];
      };
      inlet = inlet;
      side = empty_side;
      place = 1000000000;
      sessions = 7 ∷ 0 ∷ 0 ∷ 9 ∷ [];
    }

-- unit 5, priority 2, and unit 14, priority 3, in mode four with each queue full but the last
abbrev five : U.Unit
five = one (settings 5 Uni 255 2) 123 (ring 122 123) (ring 0 0) (ring 3 2)

abbrev fourteen : U.Unit
fourteen =
    record {
      settings = settings 14 Uni 0 3;
      outlet = record {
        limits = record { mode = Four; cbrlength = 40; cbrlimit = 40; vbrlimit = 49; mark = false };
        queues = ring 1 2 ∷ ring 39 40 ∷ ring 0 49 ∷ ring 31 0 ∷ [];
      };
      inlet = ring 0 1;
      side = empty_side;
      place = 0;
      sessions = replicate 32 0;
    }

-- unit 5 with so many data cells in its inlet, and with these places beside its data queues: control and loopback cell in the inlet, control outlet,
-- loopback cell in the outlet
abbrev with : ℕ → ℕ → ℕ → Ring → ℕ → U.Unit
with cells controlin loopbackin controlout loopbackout =
    with_side (one (settings 5 Uni 255 2) 123 (ring 122 123) (ring 0 0) (ring 3 cells))
    (record { controlin = controlin; loopbackin = loopbackin; controlout = controlout; loopbackout = loopbackout })

-- requests: of one more unit; of both
abbrev ask : ℕ → ℕ → List ℕ → List ℕ
ask number priority asks = slice_set asks number priority

abbrev both : List ℕ
both = ask 5 2 (ask 14 3 (replicate 32 0))

-- a shelf with these declared units before thirty others that are not declared
abbrev shelf : ℕ → ℕ → List U.Unit → ℕ → List ℕ → List ℕ → Shelf
shelf bus count units granted last asks =
    record { bus = bus; count = count; units = units ++ replicate 30 blank; arbiter = record { last = last; asks = asks }; granted = granted; frame = 65535 }

-- the last units granted at each priority: none at the first
abbrev lasts : List ℕ
lasts = nobody ∷ 5 ∷ 14 ∷ []

-- with these units, unit 5 granted
abbrev units : List U.Unit → Shelf
units us = shelf 16 2 us 5 lasts both

abbrev sound : Card → Shelf → Bool
sound card s = sound_of card s 16384 2

abbrev refused : Shelf → Bool
refused s = not (sound_of Narrow s 16384 2)

abbrev itself : Bool → Bool
itself b = b

unfoldable pub examples : List Bool
examples =
    -- a fresh bus, of either size on either card, without a store and a row
    sound_of Narrow (fresh 16) 0 0
    ∷ sound_of Narrow (fresh 32) 0 0
    ∷ sound_of Wide (fresh 16) 0 0
    ∷ sound_of Wide (fresh 32) 0 0
    -- cells in the queues, a grant and requests; what stands past the declared units is not judged
    ∷ sound Narrow (units (five ∷ fourteen ∷ []))
    ∷ sound Wide (shelf 32 2 (five ∷ fourteen ∷ []) nobody lasts both)
    ∷ sound Narrow (shelf 16 1 (five ∷ five ∷ []) 5 (5 ∷ 5 ∷ 5 ∷ []) (ask 5 2 (replicate 32 0)))
    -- "bus not 16 or 32", more than 32 units
    ∷ refused (shelf 17 2 (five ∷ fourteen ∷ []) 5 lasts both)
    ∷ not (sound_of Wide (shelf 32 33 (five ∷ fourteen ∷ []) 5 lasts both) 1000000 100)
    -- "a unit repeated or not below the bus number"
    ∷ refused (shelf 16 2 (five ∷ five ∷ []) 5 (5 ∷ 5 ∷ 5 ∷ []) (ask 5 2 (replicate 32 0)))
    ∷ refused (shelf 16 1 (one (settings 16 Uni 0 1) 1 (ring 0 0) (ring 0 0) (ring 0 0) ∷ five ∷ []) nobody (replicate 3 nobody) (replicate 32 0))
    -- "a setting that its `unit` line on this card could not give": nni on the narrow card, top VPI, priority, VBR limit
    ∷ refused (units (one (settings 5 Nni 255 2) 123 (ring 122 123) (ring 0 0) (ring 3 2) ∷ fourteen ∷ []))
    ∷ sound Wide (units (one (settings 5 Nni 4095 2) 123 (ring 122 123) (ring 0 0) (ring 3 2) ∷ fourteen ∷ []))
    ∷ refused (units (one (settings 5 Uni 256 2) 123 (ring 122 123) (ring 0 0) (ring 3 2) ∷ fourteen ∷ []))
    ∷ not (sound Wide (units (one (settings 5 Nni 4096 2) 123 (ring 122 123) (ring 0 0) (ring 3 2) ∷ fourteen ∷ [])))
    ∷ refused (shelf 16 1 (one (settings 5 Uni 255 4) 123 (ring 122 123) (ring 0 0) (ring 3 2) ∷ five ∷ []) 5 (replicate 3 5) (replicate 32 0))
    ∷ refused (shelf 16 1 (one (settings 5 Uni 255 0) 123 (ring 122 123) (ring 0 0) (ring 3 2) ∷ five ∷ []) 5 (replicate 3 5) (replicate 32 0))
    ∷ refused (units (one (settings 5 Uni 255 2) 124 (ring 122 123) (ring 0 0) (ring 3 2) ∷ fourteen ∷ []))
    -- "a count or queue position past its capacity": of a queue, of one that mode one does not use, of an inlet
    ∷ refused (units (one (settings 5 Uni 255 2) 123 (ring 123 123) (ring 0 0) (ring 3 2) ∷ fourteen ∷ []))
    ∷ refused (units (one (settings 5 Uni 255 2) 123 (ring 122 124) (ring 0 0) (ring 3 2) ∷ fourteen ∷ []))
    ∷ refused (units (one (settings 5 Uni 255 2) 123 (ring 122 123) (ring 1 0) (ring 3 2) ∷ fourteen ∷ []))
    ∷ refused (units (one (settings 5 Uni 255 2) 123 (ring 122 123) (ring 0 1) (ring 3 2) ∷ fourteen ∷ []))
    ∷ refused (units (one (settings 5 Uni 255 2) 123 (ring 122 123) (ring 0 0) (ring 4 2) ∷ fourteen ∷ []))
    ∷ refused (units (one (settings 5 Uni 255 2) 123 (ring 122 123) (ring 0 0) (ring 3 5) ∷ fourteen ∷ []))
    -- 02, W1: of the control outlet, of each single place
    ∷ sound Narrow (units (with 2 1 1 (ring 3 4) 1 ∷ fourteen ∷ []))
    ∷ refused (units (with 2 0 0 (ring 4 0) 0 ∷ fourteen ∷ []))
    ∷ refused (units (with 2 0 0 (ring 0 5) 0 ∷ fourteen ∷ []))
    ∷ refused (units (with 2 2 0 (ring 0 0) 0 ∷ fourteen ∷ []))
    ∷ refused (units (with 2 0 2 (ring 0 0) 0 ∷ fourteen ∷ []))
    ∷ refused (units (with 2 0 0 (ring 0 0) 2 ∷ fourteen ∷ []))
    -- "an open grant at a unit without a cell", and at one that is not declared
    ∷ refused (shelf 16 2 (one (settings 5 Uni 255 2) 123 (ring 122 123) (ring 0 0) (ring 3 0) ∷ fourteen ∷ []) 5 lasts (ask 14 3 (replicate 32 0)))
    ∷ refused (shelf 16 2 (five ∷ fourteen ∷ []) 6 lasts both)
    ∷ refused (shelf 16 2 (five ∷ fourteen ∷ []) 37 lasts both)
    -- 02, W1: one with a control cell alone, one with a loopback cell alone, one with cells in its outlets alone
    ∷ sound Narrow (shelf 16 2 (with 0 1 0 (ring 0 0) 0 ∷ fourteen ∷ []) 5 lasts (ask 14 3 (replicate 32 0)))
    ∷ sound Narrow (shelf 16 2 (with 0 0 1 (ring 0 0) 0 ∷ fourteen ∷ []) 5 lasts (ask 14 3 (replicate 32 0)))
    ∷ refused (shelf 16 2 (with 0 0 0 (ring 0 4) 1 ∷ fourteen ∷ []) 5 lasts (ask 14 3 (replicate 32 0)))
    -- "a request at one without a cell besides a granted one", at another priority, at a number that is not declared
    ∷ refused (units (one (settings 5 Uni 255 2) 123 (ring 122 123) (ring 0 0) (ring 3 1) ∷ fourteen ∷ []))
    ∷ refused (shelf 16 2 (one (settings 5 Uni 255 2) 123 (ring 122 123) (ring 0 0) (ring 3 0) ∷ fourteen ∷ []) nobody lasts both)
    ∷ refused (shelf 16 2 (five ∷ fourteen ∷ []) 5 lasts (ask 5 3 both))
    ∷ refused (shelf 16 2 (five ∷ fourteen ∷ []) 5 lasts (ask 6 2 both))
    -- 02, W1: a control cell or a loopback cell besides a granted one, and alone
    ∷ sound Narrow (units (with 1 1 0 (ring 0 0) 0 ∷ fourteen ∷ []))
    ∷ sound Narrow (units (with 1 0 1 (ring 0 0) 0 ∷ fourteen ∷ []))
    ∷ sound Narrow (units (with 0 1 1 (ring 0 0) 0 ∷ fourteen ∷ []))
    ∷ sound Narrow (shelf 16 2 (with 0 1 0 (ring 0 0) 0 ∷ fourteen ∷ []) nobody lasts both)
    ∷ refused (units (with 0 1 0 (ring 0 0) 0 ∷ fourteen ∷ []))
    ∷ refused (units (with 0 0 1 (ring 0 0) 0 ∷ fourteen ∷ []))
    -- "a last granted unit not declared"
    ∷ refused (shelf 16 2 (five ∷ fourteen ∷ []) 5 (nobody ∷ 6 ∷ 14 ∷ []) both)
    ∷ refused (shelf 16 2 (five ∷ fourteen ∷ []) 5 (32 ∷ 5 ∷ 14 ∷ []) both)
    -- "store or counter rows smaller than Store asks"
    ∷ not (sound_of Narrow (units (five ∷ fourteen ∷ [])) 16383 2)
    ∷ not (sound_of Narrow (units (five ∷ fourteen ∷ [])) 16384 1)
    ∷ []

-- each of them is so
abbrev pub Examples : Type 0
Examples = every itself examples ≡ true
