-- A shelf with its store, its memory and its rows is alike to the document's shelf. Assumes nothing.
use Prim.Native.Nat.{ℕ, ◌+◌, ◌<◌, ◌≤◌, ◌^◌}
use native.Mathlib.Omega.{arith}
use mathlib.Core.Path.{◌≡◌, ap, ◌∙◌}
use mathlib.Core.Logic.{◌≢◌, ◌⊎◌, inl, inr, ⊎_elim}
use mathlib.Core.Bool.{true}
use mathlib.Core.List.{List, [], ◌∷◌, map}
use lib.ListN.{length, get_or}
use Rattle.octets.specs.Octets.{four, part}
use Rattle.bus.specs.Routing.{routing}
use Rattle.bus.specs.Routing.{Sayable}
use Rattle.card.specs.declared.Card.{Card}
use Rattle.bus.specs.Frame.{cell}
use Rattle.outlet.specs.Outlets.{queue, RingFits}
use Rattle.outlet.specs.declared.Ring.{Ring}
use Rattle.store.specs.Places.{Inside, put_at, inlet_cells, outlet_cells, control_cells, single, single_cells, control_in_slot, loopback_in_slot, loopback_out_slot}
use Rattle.store.proofs.Queues.{inlet_elsewhere, outlet_elsewhere, outlet_behind, cells_kept, single_fits}
use Rattle.shelf.specs.Sessions.{hears}
use Rattle.shelf.specs.Shelves as S
use Rattle.shelf.specs.declared.Side.{Side}
use Rattle.shelf.specs.declared.Unit as U
use Rattle.shelf.specs.Shelf.{Shelf}
use Rattle.line.specs.declared.Line.{Line}
use Rattle.meaning.specs.Told.{hears_in}
use Rattle.promise.specs.Served.{lookup_at, said_by}
use Rattle.promise.proofs.Runs.{AllInRange}
use Rattle.answer.specs.Counting.{value, zeros}
use Rattle.answer.specs.declared.Counters as C
use Rattle.soundness.specs.State.{SideFits}
use Rattle.soundness.specs.Admission.{unit_at, with_side, Housed}
use Rattle.paper.specs.Counters.{Counter, place_of}
use Rattle.document.specs.Counters.{counter_of}
use Rattle.document.specs.Shelf as D
use Rattle.running.specs.Events.{World}
use Rattle.running.specs.Keeping.{sound_in}

-- a routed cell as a line gives it, and its bytes on the bus before parity
pub record Sendable (r : D.Routed) : Type 0 where
  pub target : Sayable r.target
  pub class : r.class < 4
  pub header : r.cell.header < 2 ^ 32
  pub payload : length r.cell.payload ≡ 48

abbrev pub AllSendable : List D.Routed → Type 0
AllSendable [] = Unit {0}
AllSendable (r ∷ rs) = Sendable r × AllSendable rs

abbrev pub on_bus : D.Routed → List ℕ
on_bus r = cell (routing r.target r.class) 0 r.cell.header r.cell.payload

-- a cell of an outlet, read from its bytes; its routing header is of no use any more
abbrev pub off_bus : List ℕ → D.Cell
off_bus bytes = record { header = four bytes 4; payload = part bytes 8 48 }

-- what a unit's settings, place and sessions mean in this memory is what the lines say
pub record Known (card : Card) (memory : List ℕ) (lines : List Line) (u : U.Unit) : Type 0 where
  pub looks : (header : ℕ) → lookup_at card memory u header ≡ said_by lines u.settings.number u header
  pub hearing : (s : ℕ) → s < 256 → hears u.sessions s ≡ hears_in lines u.settings.number s

-- the cells in the places beside the data queues
pub record SideAlike (store : List ℕ) (place : ℕ) (s : Side) (d : D.Side) : Type 0 where
  pub controlin : single_cells store place control_in_slot s.controlin ≡ d.controlin
  pub loopbackin : single_cells store place loopback_in_slot s.loopbackin ≡ d.loopbackin
  pub controlout : control_cells store place s.controlout ≡ d.controlout
  pub loopbackout : single_cells store place loopback_out_slot s.loopbackout ≡ d.loopbackout

-- the unit in a place of the store, and the document's unit
pub record UnitAlike (store : List ℕ) (place : ℕ) (u : U.Unit) (d : D.Unit) : Type 0 where
  pub settings : u.settings ≡ d.settings
  pub limits : u.outlet.limits ≡ d.limits
  pub sendable : AllSendable d.inlet
  pub inlet : inlet_cells store place u.inlet ≡ map on_bus d.inlet
  pub rings : length u.outlet.queues ≡ 4
  pub four : length d.queues ≡ 4
  pub queues : (q : ℕ) → q < 4 → map off_bus (outlet_cells store place u.outlet.limits q (queue u.outlet q)) ≡ D.queue_at d q
  pub side : SideAlike store place u.side d.side

-- the counters of a unit
abbrev pub RowAlike : List C.Counters → D.Shelf → ℕ → Type 0
RowAlike rows d i = (c : Counter) → value (get_or rows i zeros) (place_of c) ≡ counter_of d.history (D.number_of (D.unit_at d i)) c

-- everything but the counters
pub record Alike (card : Card) (shelf : Shelf) (memory store : List ℕ) (d : D.Shelf) : Type 0 where
  pub many : length (S.declared shelf) ≡ length d.units
  pub counted : shelf.count ≡ length d.units
  pub units : (i : ℕ) → i < length d.units → UnitAlike store i (unit_at shelf i) (D.unit_at d i)
  pub known : (i : ℕ) → i < length d.units → Known card memory d.lines (unit_at shelf i)
  pub ranged : AllInRange d.lines
  pub bus : shelf.bus ≡ d.bus
  pub arbiter : shelf.arbiter ≡ d.arbiter
  pub granted : shelf.granted ≡ d.granted
  pub frame : shelf.frame ≡ d.frame

pub record WorldAlike (card : Card) (w : World) (d : D.Shelf) : Type 0 where
  pub sound : sound_in card w ≡ true
  pub shelf : Alike card w.shelf w.memory w.store d
  pub rows : (i : ℕ) → i < length d.units → RowAlike w.rows d i

-- a cell written into another slot than those of a ring, or into another unit's part of the store
abbrev Beyond : ℕ → ℕ → ℕ → ℕ → ℕ → Type 0
Beyond i j slot base cap = (j ≢ i) ⊎ ((slot < base) ⊎ (base + cap ≤ slot))

module _ (store : List ℕ) (i j slot : ℕ) (bytes : List ℕ) (whole : length bytes ≡ 56) (few : slot < 146) (inside : Inside j (length store)) where
  -- a single place, and the control outlet
  pub single_kept : (at count : ℕ) → at < 146 → count ≤ 1 → Beyond i j slot at 1 → single_cells (put_at store j slot bytes) i at count ≡ single_cells store i at count
  single_kept at count low fits away = cells_kept i at 1 (omega arith) (single count) (single_fits count fits) store bytes whole j slot few inside away

  pub control_kept : (ring : Ring) → RingFits ring 4 → Beyond i j slot 129 4 → control_cells (put_at store j slot bytes) i ring ≡ control_cells store i ring
  control_kept ring fits away = cells_kept i 129 4 (omega arith) ring fits store bytes whole j slot few inside away

  -- none of the places beside the data queues is written
  pub side_kept : (s : Side) (d : D.Side) → SideFits s → (j ≢ i) ⊎ ((slot < 127) ⊎ (134 ≤ slot)) → SideAlike store i s d → SideAlike (put_at store j slot bytes) i s d
  side_kept s d fits away a =
      record {
        controlin = single_kept control_in_slot s.controlin (omega arith) fits.controlin (far 127 1 (omega arith) (omega arith)) ∙ a.controlin;
        loopbackin = single_kept loopback_in_slot s.loopbackin (omega arith) fits.loopbackin (far 128 1 (omega arith) (omega arith)) ∙ a.loopbackin;
        controlout = control_kept s.controlout fits.controlout (far 129 4 (omega arith) (omega arith)) ∙ a.controlout;
        loopbackout = single_kept loopback_out_slot s.loopbackout (omega arith) fits.loopbackout (far 133 1 (omega arith) (omega arith)) ∙ a.loopbackout;
      }
    where
      far : (base cap : ℕ) → 127 ≤ base → base + cap ≤ 134 → Beyond i j slot base cap
      far base cap low high = ⊎_elim (λ n. inl n) (λ w. ⊎_elim (λ a. inr (inl (omega arith))) (λ a. inr (inr (omega arith))) w) away

-- a cell written into the place of one of them: the data queues are as they were
pub side_written : (store : List ℕ) (i : ℕ) (u : U.Unit) (d : D.Unit) (slot : ℕ) (bytes : List ℕ) → length bytes ≡ 56 → 127 ≤ slot → slot < 146 → Housed i u (length store) → UnitAlike store i u d →
    (s : Side) (e : D.Side) → SideAlike (put_at store i slot bytes) i s e → UnitAlike (put_at store i slot bytes) i (with_side u s) (D.with_side d e)
side_written store i u d slot bytes whole least few housed a s e beside =
    record {
      settings = a.settings;
      limits = a.limits;
      sendable = a.sendable;
      inlet = cells_kept i 123 4 (omega arith) u.inlet housed.inlet store bytes whole i slot few housed.inside (inr (inr (omega arith))) ∙ a.inlet;
      rings = a.rings;
      four = a.four;
      queues = λ q h. ap (map off_bus) (outlet_behind i u.outlet.limits housed.limits q h (queue u.outlet q) (housed.queues.each q h) store bytes whole housed.inside slot (omega arith) few) ∙ a.queues q h;
      side = beside;
    }

-- a cell written into another unit's part of the store
pub elsewhere : (store : List ℕ) (i j slot : ℕ) (bytes : List ℕ) (u : U.Unit) (d : D.Unit) → length bytes ≡ 56 → slot < 146 → Inside j (length store) → (j ≢ i) → Housed i u (length store) → UnitAlike store i u d → UnitAlike (put_at store j slot bytes) i u d
elsewhere store i j slot bytes u d whole few inside apart housed a =
    record {
      settings = a.settings;
      limits = a.limits;
      sendable = a.sendable;
      inlet = inlet_elsewhere i u.inlet housed.inlet store bytes whole j slot few inside apart ∙ a.inlet;
      rings = a.rings;
      four = a.four;
      queues = λ q h. ap (map off_bus) (outlet_elsewhere i u.outlet.limits housed.limits q h (queue u.outlet q) (housed.queues.each q h) store bytes whole j slot few inside apart) ∙ a.queues q h;
      side = side_kept store i j slot bytes whole few inside u.side d.side housed.side (inl apart) a.side;
    }
