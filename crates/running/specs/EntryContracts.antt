-- The contracts of the eight entry points, as `entry` has them, and that each is the step that the promises speak of. Assumes nothing.
use Rattle.std.specs.Prelude.{ℕ, ◌≡◌, List, [], length, Result}
use seplogic.Ra.Ura.{Ura}
use base.Logic.{SProp, emp}
use prog.Memory.{Memory}
use prog.Routine.{Routine}
use types.Logic.{Logic}
use contract.Monad.{Fun, fact}
use contract.Lifetimes.{Lfts}
use denote.Triple.Entry.{Args, Res}
use denote.Triple.Clauses.{AtExit}
use Rattle.card.specs.declared.Card.{Card}
use Rattle.answer.specs.declared.Answer.{Answer}
use Rattle.answer.specs.declared.Counters as C
use Rattle.entry.specs.Outcomes.{arrives, frames, hears, takes, hands, collects, counts_of, loads, LeavesStore, LeavesAll, LeavesBytes, LeavesCell, LeavesMemory}
use Rattle.entry.specs.contracts.arrive as entry_arrive
use Rattle.entry.specs.contracts.frame as entry_frame
use Rattle.entry.specs.contracts.hear as entry_hear
use Rattle.entry.specs.contracts.take as entry_take
use Rattle.entry.specs.contracts.hand as entry_hand
use Rattle.entry.specs.contracts.collect as entry_collect
use Rattle.entry.specs.contracts.count as entry_count
use Rattle.entry.specs.contracts.load as entry_load
use Rattle.document.specs.Events.{arrive, frame, hear, take_cell, count, hand, collect, answers}
use Rattle.entry.proofs.arrive.Statement as code_arrive
use Rattle.entry.proofs.frame.Statement as code_frame
use Rattle.entry.proofs.hear.Statement as code_hear
use Rattle.entry.proofs.take.Statement as code_take
use Rattle.entry.proofs.hand.Statement as code_hand
use Rattle.entry.proofs.collect.Statement as code_collect
use Rattle.entry.proofs.count.Statement as code_count
use Rattle.entry.proofs.load.Statement as code_load
use Rattle.running.specs.Events.{count_said}
use Rattle.running.specs.Lent.{Lent, Came, does, loaded_in}

-- what is ensured of the answer, and of what was lent, as it is afterwards
abbrev pub Arrives : Card → Lent → ℕ → List ℕ → Answer → List ℕ → List ℕ → List C.Counters → Type 0
Arrives card l unit cell r state store rows = LeavesStore (arrives card l.state l.memory l.store l.rows (length l.rows) unit cell) r state store rows

abbrev pub Frames : Card → Lent → List ℕ → Answer → List ℕ → List ℕ → List C.Counters → List ℕ → Type 0
Frames card l buffer r state store rows bytes = LeavesAll (frames card l.state l.store l.rows (length l.rows) buffer) r state store bytes rows

abbrev pub Hears : Card → Lent → ℕ → List ℕ → Answer → List ℕ → List ℕ → List C.Counters → Type 0
Hears card l unit heard r state store rows = LeavesStore (hears card l.state l.store l.rows (length l.rows) unit heard) r state store rows

abbrev pub Takes : Card → Lent → ℕ → List ℕ → Answer → List ℕ → List C.Counters → List ℕ → Type 0
Takes card l unit buffer r state rows bytes = LeavesBytes (takes card l.state l.store l.rows (length l.rows) unit buffer) r state bytes rows

abbrev pub Hands : Card → Lent → ℕ → List ℕ → Answer → List ℕ → List ℕ → Type 0
Hands card l unit cell r state store = LeavesCell (hands card l.state l.store l.rows (length l.rows) unit cell) r state store

abbrev pub Collects : Card → Lent → ℕ → List ℕ → Answer → List ℕ → List C.Counters → List ℕ → Type 0
Collects card l unit buffer r state rows bytes = LeavesBytes (collects card l.state l.store l.rows (length l.rows) unit buffer) r state bytes rows

abbrev pub Counts : Card → Lent → ℕ → Result C.Counters ℕ → Type 0
Counts card l unit r = r ≡ counts_of card l.state l.store l.rows (length l.rows) unit

abbrev pub Loads : Card → List ℕ → List ℕ → List ℕ → List C.Counters → Answer → List ℕ → List ℕ → List C.Counters → Type 0
Loads card text memory store rows r memory' state' rows' = LeavesMemory (loads card text memory store rows (length rows)) r memory' state' rows'

-- The `ensures` of each function in crates/entry/src/lib.rt, as Rattle has it, of the arguments a, the result r and the arguments e as they are afterwards: it is the fact
-- above. An argument is in the order of the function's parameters; the memory m is whatever there is where it is not lent
pub record Says {M : Type 1} {𝓤 : Ura M} (𝓛 : Logic 𝓤) (mem : Memory → SProp 𝓤) (run : Routine → Fun 𝓤) : Type 2 where
  pub arrives : (κs : Lfts (entry_arrive.ended).signature.lifetimes) (a : Args (entry_arrive.ended).signature κs) (r : Res (entry_arrive.ended).signature κs) (e : AtExit entry_arrive.ended κs) →
      (entry_arrive.clauses 𝓛 mem run κs a).ensures tt r e
      ≡ fact 𝓤 (Arrives a.0 (record { state = a.1.0.now; memory = a.1.1.0.now; store = a.1.1.1.0.now; rows = a.1.1.1.1.0.now }) a.1.1.1.1.1.0 a.1.1.1.1.1.1.0.now r e.1.0.now e.1.1.1.0.now e.1.1.1.1.0.now)
  pub frames : (m : List ℕ) (κs : Lfts (entry_frame.ended).signature.lifetimes) (a : Args (entry_frame.ended).signature κs) (r : Res (entry_frame.ended).signature κs) (e : AtExit entry_frame.ended κs) →
      (entry_frame.clauses 𝓛 mem run κs a).ensures tt r e
      ≡ fact 𝓤 (Frames a.0 (record { state = a.1.0.now; memory = m; store = a.1.1.0.now; rows = a.1.1.1.0.now }) a.1.1.1.1.0.now r e.1.0.now e.1.1.0.now e.1.1.1.0.now e.1.1.1.1.0.now)
  pub hears : (m : List ℕ) (κs : Lfts (entry_hear.ended).signature.lifetimes) (a : Args (entry_hear.ended).signature κs) (r : Res (entry_hear.ended).signature κs) (e : AtExit entry_hear.ended κs) →
      (entry_hear.clauses 𝓛 mem run κs a).ensures tt r e
      ≡ fact 𝓤 (Hears a.0 (record { state = a.1.0.now; memory = m; store = a.1.1.0.now; rows = a.1.1.1.0.now }) a.1.1.1.1.0 a.1.1.1.1.1.0.now r e.1.0.now e.1.1.0.now e.1.1.1.0.now)
  pub takes : (m : List ℕ) (κs : Lfts (entry_take.ended).signature.lifetimes) (a : Args (entry_take.ended).signature κs) (r : Res (entry_take.ended).signature κs) (e : AtExit entry_take.ended κs) →
      (entry_take.clauses 𝓛 mem run κs a).ensures tt r e
      ≡ fact 𝓤 (Takes a.0 (record { state = a.1.0.now; memory = m; store = a.1.1.0.now; rows = a.1.1.1.0.now }) a.1.1.1.1.0 a.1.1.1.1.1.0.now r e.1.0.now e.1.1.1.0.now e.1.1.1.1.1.0.now)
  pub hands : (m : List ℕ) (κs : Lfts (entry_hand.ended).signature.lifetimes) (a : Args (entry_hand.ended).signature κs) (r : Res (entry_hand.ended).signature κs) (e : AtExit entry_hand.ended κs) →
      (entry_hand.clauses 𝓛 mem run κs a).ensures tt r e
      ≡ fact 𝓤 (Hands a.0 (record { state = a.1.0.now; memory = m; store = a.1.1.0.now; rows = a.1.1.1.0.now }) a.1.1.1.1.0 a.1.1.1.1.1.0.now r e.1.0.now e.1.1.0.now)
  pub collects : (m : List ℕ) (κs : Lfts (entry_collect.ended).signature.lifetimes) (a : Args (entry_collect.ended).signature κs) (r : Res (entry_collect.ended).signature κs) (e : AtExit entry_collect.ended κs) →
      (entry_collect.clauses 𝓛 mem run κs a).ensures tt r e
      ≡ fact 𝓤 (Collects a.0 (record { state = a.1.0.now; memory = m; store = a.1.1.0.now; rows = a.1.1.1.0.now }) a.1.1.1.1.0 a.1.1.1.1.1.0.now r e.1.0.now e.1.1.1.0.now e.1.1.1.1.1.0.now)
  pub counts : (m : List ℕ) (κs : Lfts (entry_count.ended).signature.lifetimes) (a : Args (entry_count.ended).signature κs) (r : Res (entry_count.ended).signature κs) (e : AtExit entry_count.ended κs) →
      (entry_count.clauses 𝓛 mem run κs a).ensures tt r e
      ≡ fact 𝓤 (Counts a.0 (record { state = a.1.0.now; memory = m; store = a.1.1.0.now; rows = a.1.1.1.0.now }) a.1.1.1.1.0 r)
  pub loads : (κs : Lfts (entry_load.ended).signature.lifetimes) (a : Args (entry_load.ended).signature κs) (r : Res (entry_load.ended).signature κs) (e : AtExit entry_load.ended κs) →
      (entry_load.clauses 𝓛 mem run κs a).ensures tt r e
      ≡ fact 𝓤 (Loads a.0 a.1.0.now a.1.1.0.now a.1.1.1.1.0.now a.1.1.1.1.1.0.now r e.1.1.0.now e.1.1.1.0.now e.1.1.1.1.1.0.now)

-- its `requires`: there is none
pub record AsksNothing {M : Type 1} {𝓤 : Ura M} (𝓛 : Logic 𝓤) (mem : Memory → SProp 𝓤) (run : Routine → Fun 𝓤) : Type 2 where
  pub arrives : (κs : Lfts (entry_arrive.ended).signature.lifetimes) (a : Args (entry_arrive.ended).signature κs) → (entry_arrive.clauses 𝓛 mem run κs a).requires tt ≡ emp 𝓤
  pub frames : (κs : Lfts (entry_frame.ended).signature.lifetimes) (a : Args (entry_frame.ended).signature κs) → (entry_frame.clauses 𝓛 mem run κs a).requires tt ≡ emp 𝓤
  pub hears : (κs : Lfts (entry_hear.ended).signature.lifetimes) (a : Args (entry_hear.ended).signature κs) → (entry_hear.clauses 𝓛 mem run κs a).requires tt ≡ emp 𝓤
  pub takes : (κs : Lfts (entry_take.ended).signature.lifetimes) (a : Args (entry_take.ended).signature κs) → (entry_take.clauses 𝓛 mem run κs a).requires tt ≡ emp 𝓤
  pub hands : (κs : Lfts (entry_hand.ended).signature.lifetimes) (a : Args (entry_hand.ended).signature κs) → (entry_hand.clauses 𝓛 mem run κs a).requires tt ≡ emp 𝓤
  pub collects : (κs : Lfts (entry_collect.ended).signature.lifetimes) (a : Args (entry_collect.ended).signature κs) → (entry_collect.clauses 𝓛 mem run κs a).requires tt ≡ emp 𝓤
  pub counts : (κs : Lfts (entry_count.ended).signature.lifetimes) (a : Args (entry_count.ended).signature κs) → (entry_count.clauses 𝓛 mem run κs a).requires tt ≡ emp 𝓤
  pub loads : (κs : Lfts (entry_load.ended).signature.lifetimes) (a : Args (entry_load.ended).signature κs) → (entry_load.clauses 𝓛 mem run κs a).requires tt ≡ emp 𝓤

-- both in whatever memory and under whatever rules a program runs
abbrev pub EntrySays : Type 2
EntrySays = (M : Type 1) (𝓤 : Ura M) (𝓛 : Logic 𝓤) (mem : Memory → SProp 𝓤) (run : Routine → Fun 𝓤) → Says 𝓛 mem run

abbrev pub EntryAsksNothing : Type 2
EntryAsksNothing = (M : Type 1) (𝓤 : Ura M) (𝓛 : Logic 𝓤) (mem : Memory → SProp 𝓤) (run : Routine → Fun 𝓤) → AsksNothing 𝓛 mem run

-- and Rattle's own theorem of each of the eight: its code is safe, ends, and meets that contract
pub record EntryMeets (M : Type 1) : Type 2 where
  pub arrives : code_arrive.statement M
  pub frames : code_frame.statement M
  pub hears : code_hear.statement M
  pub takes : code_take.statement M
  pub hands : code_hand.statement M
  pub collects : code_collect.statement M
  pub counts : code_count.statement M
  pub loads : code_load.statement M

-- what comes of an event with this answer, these lent bytes and rows, and these bytes lent with it, all as they are afterwards
abbrev pub came_to : Lent → Answer → List ℕ → List ℕ → List C.Counters → List ℕ → Came
came_to l r state store rows bytes = record { said = answers r; lent = record { state = state; memory = l.memory; store = store; rows = rows }; bytes = bytes }

-- whatever meets a contract is the step that the promises speak of
pub record Steps (card : Card) : Type 0 where
  pub arrives : (l : Lent) (unit : ℕ) (cell : List ℕ) (r : Answer) (state store : List ℕ) (rows : List C.Counters) →
      Arrives card l unit cell r state store rows → came_to l r state store rows cell ≡ does card l (arrive unit cell)
  pub frames : (l : Lent) (buffer : List ℕ) (r : Answer) (state store : List ℕ) (rows : List C.Counters) (bytes : List ℕ) →
      Frames card l buffer r state store rows bytes → came_to l r state store rows bytes ≡ does card l (frame buffer)
  pub hears : (l : Lent) (unit : ℕ) (heard : List ℕ) (r : Answer) (state store : List ℕ) (rows : List C.Counters) →
      Hears card l unit heard r state store rows → came_to l r state store rows heard ≡ does card l (hear unit heard)
  pub takes : (l : Lent) (unit : ℕ) (buffer : List ℕ) (r : Answer) (state : List ℕ) (rows : List C.Counters) (bytes : List ℕ) →
      Takes card l unit buffer r state rows bytes → came_to l r state l.store rows bytes ≡ does card l (take_cell unit buffer)
  pub hands : (l : Lent) (unit : ℕ) (cell : List ℕ) (r : Answer) (state store : List ℕ) →
      Hands card l unit cell r state store → came_to l r state store l.rows cell ≡ does card l (hand unit cell)
  pub collects : (l : Lent) (unit : ℕ) (buffer : List ℕ) (r : Answer) (state : List ℕ) (rows : List C.Counters) (bytes : List ℕ) →
      Collects card l unit buffer r state rows bytes → came_to l r state l.store rows bytes ≡ does card l (collect unit buffer)
  pub counts : (l : Lent) (unit : ℕ) (r : Result C.Counters ℕ) →
      Counts card l unit r → record { said = count_said r; lent = l; bytes = [] } ≡ does card l (count unit)
  pub loads : (text memory store : List ℕ) (rows : List C.Counters) (r : Answer) (memory' state' : List ℕ) (rows' : List C.Counters) →
      Loads card text memory store rows r memory' state' rows' → record { state = state'; memory = memory'; store = store; rows = rows' } ≡ loaded_in card text memory store rows

-- "any two results that satisfy it are shown equal"
abbrev pub Only : {X : Type 0} → (X → Type 0) → Type 0
Only {X} P = (x y : X) → P x → P y → x ≡ y

pub record Determined (card : Card) : Type 0 where
  pub arrives : (l : Lent) (unit : ℕ) (cell : List ℕ) → Only (λ (x : Answer × List ℕ × List ℕ × List C.Counters). Arrives card l unit cell x.0 x.1 x.2 x.3)
  pub frames : (l : Lent) (buffer : List ℕ) → Only (λ (x : Answer × List ℕ × List ℕ × List C.Counters × List ℕ). Frames card l buffer x.0 x.1 x.2 x.3 x.4)
  pub hears : (l : Lent) (unit : ℕ) (heard : List ℕ) → Only (λ (x : Answer × List ℕ × List ℕ × List C.Counters). Hears card l unit heard x.0 x.1 x.2 x.3)
  pub takes : (l : Lent) (unit : ℕ) (buffer : List ℕ) → Only (λ (x : Answer × List ℕ × List C.Counters × List ℕ). Takes card l unit buffer x.0 x.1 x.2 x.3)
  pub hands : (l : Lent) (unit : ℕ) (cell : List ℕ) → Only (λ (x : Answer × List ℕ × List ℕ). Hands card l unit cell x.0 x.1 x.2)
  pub collects : (l : Lent) (unit : ℕ) (buffer : List ℕ) → Only (λ (x : Answer × List ℕ × List C.Counters × List ℕ). Collects card l unit buffer x.0 x.1 x.2 x.3)
  pub counts : (l : Lent) (unit : ℕ) → Only (λ r. Counts card l unit r)
  pub loads : (text memory store : List ℕ) (rows : List C.Counters) → Only (λ (x : Answer × List ℕ × List ℕ × List C.Counters). Loads card text memory store rows x.0 x.1 x.2 x.3)
