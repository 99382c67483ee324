-- The first so many of 40 rows are lent: what comes of an event is what comes of it with all of them, and the rows behind are as they were. Assumes nothing.
--     loads_few, arrives_few, ..     what the entry point leaves, of the rows that are lent, is what a method of the shelf ensures, of all of them.        hands_few, counts_few     and what a hand leaves, which changes none; what a count answers
use Rattle.std.specs.Prelude.{Err, Ok, Result}
use Prim.Native.Nat.{ℕ, zero, suc, ◌*◌, ◌≤◌, ◌<◌, min}
use native.Mathlib.Omega.{arith}
use mathlib.Core.Path.{◌≡◌, refl, sym, ap, subst, ◌∙◌}
use mathlib.Core.Bool.{Bool, true, false, ◌&&◌, ◌||◌}
use mathlib.Core.List.{List, ◌++◌}
use lib.Dec.{eqb, leb, ltb}
use lib.ListN.{length, take, drop, get_or, set, length-take, take-append-drop}
use lib.Seq.{set-append_left, get_or-take}
use borrow.Author.Tests.{leb-true, leb-false, le-leb, lt-leb, ltb-true, ltb-false, lt-ltb, le-ltb}
use Rattle.outlet.proofs.Truth.{decide}
use Rattle.outlet.specs.Taking.{leaving}
use Rattle.card.specs.declared.Card.{Card}
use Rattle.shelf.specs.Shelf.{Shelf}
use Rattle.state.specs.Bytes.{shelf_in}
use Rattle.answer.specs.Answers.{refused, refused_with}
use Rattle.answer.specs.Done.{Done, outcome_of}
use Rattle.answer.specs.declared.Outcome.{Outcome}
use Rattle.answer.specs.declared.Rises.{Rises}
use Rattle.answer.specs.declared.Answer.{Answer}
use Rattle.answer.specs.declared.Counters.{Counters}
use Rattle.answer.specs.Counting.{zeros, row_after, settled_to, settled}
use Rattle.answer.proofs.Settling.{length_settled}
use Rattle.soundness.specs.State.{roomy, sound_of}
use Rattle.soundness.specs.Soundings.{sound_in, formed_all}
use Rattle.soundness.specs.Admission.{admitted, admitted_in, decided, formed_or, counted_in, unit_at}
use Rattle.soundness.proofs.Facts.{sound_iff}
use Rattle.soundness.proofs.InPlace.{in_place, came_in, kept_out, row_there}
use Rattle.lookup.specs.Record.{usable}
use Rattle.meaning.specs.Told.{shelf_of}
use Rattle.meaning.specs.Lines.{Ran, done, stopped}
use Rattle.meaning.proofs.Shelved.{shelved}
use Rattle.table.specs.Load.{ran_of, too_little, loading_of, memory_ran, load, loaded}
use Rattle.table.specs.Loading.{Loading}
use Rattle.table.specs.Loads.{done_of}
use Rattle.table.specs.EventInPlace.{load_out}
use Rattle.table.specs.InPlace.{state_ran, state_loaded}
use Rattle.table.proofs.Laws.{load_rows}
use Rattle.table.proofs.Cleared.{Sound, ran_sound}
use Rattle.arriving.specs.Arriving as arrival
use Rattle.arriving.specs.InPlace.{arrive_out}
use Rattle.arriving.proofs.InPlace as arriving
use Rattle.hearing.specs.Hearings as hearing
use Rattle.hearing.specs.InPlace.{hear_out}
use Rattle.taking.specs.Takes as taken
use Rattle.taking.specs.InPlace.{take_out}
use Rattle.taking.proofs.InPlace as taking
use Rattle.handing.specs.Collects.{collect_at}
use Rattle.handing.specs.InPlace.{collect_out}
use Rattle.handing.proofs.InPlace.{collect_fits}
use Rattle.framing.specs.Frames.{checked}
use Rattle.framing.specs.InPlace.{frame_out}
use Rattle.framing.proofs.Moves.{moved_count}
use Rattle.entry.specs.Counts.{count_of}
use Rattle.entry.specs.Outcomes.{Left, arrives, frames, hears, takes, hands, collects, counts_of, loads, LeavesStore, LeavesAll, LeavesBytes, LeavesCell, LeavesMemory}

-- ---- the rows: those that are lent are settled, and the others stand behind them
settled_first : (rows : List Counters) (rises : Rises) (n i : ℕ) → n ≤ length rows → i ≤ n → settled_to (take n rows) rises i ++ drop n rows ≡ settled_to rows rises i
unfolding settled_to
settled_first rows rises n zero h k = take-append-drop n rows
settled_first rows rises n (suc i) h k =
    let e = settled_first rows rises n i h (omega arith) in
    let inside : i < length (settled_to (take n rows) rises i) = omega (arith, length_settled (take n rows) rises i, length-take n rows) in
    decide (leb rises.from i)
    (λ t. rw t (sym (set-append_left (settled_to (take n rows) rises i) (drop n rows) i (row_after (get_or (take n rows) i zeros) rises i) inside) ∙ (λ j. set (e j) i (row_after (get_or-take n rows i zeros (omega arith) j) rises i))))
    (λ t. rw t e)

-- ---- the tests: no shelf has more than 32 units, so 40 rows are as good as any number above
tests : (a b c d e : Bool) → (b ≡ true → d ≡ e) → (a && b && c && d) ≡ (a && b && c && e)
tests a true c d e h = ap (λ t. a && true && c && t) (h refl)
tests true false c d e h = refl
tests false false c d e h = refl

module _ (lent n : ℕ) (few : n ≡ min lent 40) where
  leb_few : (count : ℕ) → count ≤ 32 → leb count n ≡ leb count lent
  leb_few count h =
      decide (leb count lent) (λ t. le-leb count n (let z = leb-true count lent t in omega (arith, few)) ∙ sym t) (λ t. lt-leb count n (let z = leb-false count lent t in omega (arith, few)) ∙ sym t)

  ltb_few : (count : ℕ) → count ≤ 32 → ltb n count ≡ ltb lent count
  ltb_few count h =
      decide (ltb lent count) (λ t. lt-ltb n count (let z = ltb-true lent count t in omega (arith, few)) ∙ sym t) (λ t. le-ltb n count (let z = ltb-false lent count t in omega (arith, few)) ∙ sym t)

  roomy_few : (bus count store : ℕ) → roomy bus count store n ≡ roomy bus count store lent
  unfolding roomy
  roomy_few bus count store = tests (eqb bus 16 || eqb bus 32) (leb count 32) (leb (8192 * count) store) (leb count n) (leb count lent) (λ t. leb_few count (leb-true count 32 t))

  sound_few : (card : Card) (shelf : Shelf) (store : ℕ) → sound_of card shelf store n ≡ sound_of card shelf store lent
  unfolding sound_of
  sound_few card shelf store = rw (roomy_few shelf.bus shelf.count store)

  admitted_few : (card : Card) (shelf : Shelf) (store unit : ℕ) (right : Bool) → admitted card shelf store n unit right ≡ admitted card shelf store lent unit right
  unfolding admitted
  admitted_few card shelf store unit right = rw (sound_few card shelf store)

  admitted_in_few : (card : Card) (b : List ℕ) (store unit : ℕ) (right : Bool) → admitted_in card b store n unit right ≡ admitted_in card b store lent unit right
  unfolding admitted_in
  admitted_in_few card b store unit right = rw (admitted_few card (shelf_in b) store unit right)

  sound_in_few : (card : Card) (b : List ℕ) (store : ℕ) → sound_in card b store n ≡ sound_in card b store lent
  unfolding sound_in
  sound_in_few card b store = rw (sound_few card (shelf_in b) store)

  module _ (card : Card) (store : ℕ) where
    little_few : (shelf : Shelf) → shelf.count ≤ 32 → too_little shelf store n ≡ too_little shelf store lent
    little_few shelf h = ap (λ t. ltb store (8192 * shelf.count) || t) (ltb_few shelf.count h)

    -- of a table that was read to its end
    told_few : (room : ℕ) (ran : Ran) → Sound card room ran → (memory : List ℕ) →
        (loading_of ran store n ≡ loading_of ran store lent) × (memory_ran card memory ran store n ≡ memory_ran card memory ran store lent) × (state_ran ran store n ≡ state_ran ran store lent)
    unfolding loading_of memory_ran state_ran
    told_few room (stopped told k verdict) s memory = (refl, refl, refl)
    told_few room (done told) s memory =
        let e = little_few (shelf_of told) (let c = (shelved card room told s.good s.ranges).counted in omega arith) in (rw e, rw e, rw e)

    load_few : (text memory : List ℕ) → (load card text memory store n ≡ load card text memory store lent) × (loaded card text memory store n ≡ loaded card text memory store lent) × (state_loaded card text memory store n ≡ state_loaded card text memory store lent)
    unfolding load loaded state_loaded
    load_few text memory =
        let e = told_few (usable memory) (ran_of card (usable memory) text) (ran_sound card (usable memory) text) memory in (rw e.0, rw e.1, rw e.2)

-- ---- how many rows change: not more than are lent
module _ (n : ℕ) (card : Card) (b : List ℕ) where
  at_unit : (store unit : ℕ) (right : Bool) (inside : ℕ → Done) → ((i : ℕ) → i < 32 → i < n → (inside i).rises.to ≤ n)
      → (formed_or b (outcome_of (decided (admitted card (shelf_in b) store n unit right) inside (refused (shelf_in b)))) (refused_with 8)).rises.to ≤ n
  at_unit store unit right inside h = pick (admitted_in card b store n unit right) refl
    where
      pick : (a : Result ℕ ℕ) → admitted_in card b store n unit right ≡ a → (formed_or b (outcome_of (decided (admitted card (shelf_in b) store n unit right) inside (refused (shelf_in b)))) (refused_with 8)).rises.to ≤ n
      pick (Ok i) e =
          let w = in_place card b store n unit right i e in
          subst (λ (o : Outcome). o.rises.to ≤ n) (came_in outcome_of inside (refused (shelf_in b)) (refused_with 8) card b store n unit right i e) (h i w.below w.row)
      pick (Err m) e = subst (λ (o : Outcome). o.rises.to ≤ n) (kept_out outcome_of inside (refused (shelf_in b)) (refused_with 8) card b store n unit right m e refl) (omega arith)

  arrive_most : (memory : List ℕ) (store unit : ℕ) (cell : List ℕ) → (arrive_out card b memory store n unit cell).rises.to ≤ n
  arrive_most memory store unit cell =
      at_unit store unit (eqb (length cell) 53) (λ i. arrival.done_at card (shelf_in b) i memory cell) (λ i h k. (arriving.out_fits (arrival.way_of card (unit_at (shelf_in b) i) memory cell) b i n h k).1)

  hear_most : (store unit : ℕ) (heard : List ℕ) → (hear_out card b store n unit heard).rises.to ≤ n
  hear_most store unit heard = at_unit store unit (eqb (length heard) 57) (λ i. hearing.done_at (shelf_in b) i heard) (λ i h k. omega arith)

  take_most : (store unit lent : ℕ) → (take_out card b store n unit lent).rises.to ≤ n
  take_most store unit lent = at_unit store unit (eqb lent 53) (taken.done_at (shelf_in b)) (λ i h k. (taking.out_fits (leaving (unit_at (shelf_in b) i).outlet) b i n h k).1)

  collect_most : (store unit lent : ℕ) → (collect_out card b store n unit lent).rises.to ≤ n
  collect_most store unit lent = at_unit store unit (eqb lent 56) (collect_at (shelf_in b)) (λ i h k. (collect_fits (shelf_in b) i n h k).1)

  frame_most : (store : List ℕ) (lent : ℕ) → (frame_out card b store n lent).rises.to ≤ n
  unfolding checked
  frame_most store lent =
      decide (formed_all b)
      (λ f. rw f (decide (sound_of card (shelf_in b) (length store) n)
      (λ s. rw s (decide (eqb lent 57) (λ t. rw t (subst (λ (k : ℕ). k ≤ n) (sym (moved_count (shelf_in b))) ((sound_iff card (shelf_in b) (length store) n).0 s).rows)) (λ t. rw t (omega arith))))
      (λ s. rw s (omega arith))))
      (λ f. rw f (omega arith))

-- ---- the contracts
module _ (rows : List Counters) (lent n : ℕ) (long : length rows ≡ 40) (few : n ≡ min lent 40) where
  abbrev lot : List Counters
  lot = take n rows

  abbrev others : List Counters
  others = drop n rows

  many : length lot ≡ n
  many = omega (arith, length-take n rows, long, few)

  behind : (rises : Rises) (zs : List Counters) → zs ≡ settled lot rises → rises.to ≤ n → zs ++ others ≡ settled rows rises
  behind rises zs e h = ap (λ (l : List Counters). l ++ others) e ∙ settled_first rows rises n rises.to (omega (arith, long, few)) h

  module _ (card : Card) (r : Answer) (zs : List Counters) where
    pub loads_few : (text memory store m s : List ℕ) → LeavesMemory (loads card text memory store lot (length lot)) r m s zs → LeavesMemory (loads card text memory store rows lent) r m s (zs ++ others)
    loads_few text memory store m s h =
        let g = subst (λ (k : ℕ). LeavesMemory (loads card text memory store lot k) r m s zs) many h in
        let e = load_few lent n few card (length store) text memory in
        let most = load_rows card text memory (length store) n in (
          g.0 ∙ ap (λ (l : Loading). (done_of l).reply.answer) e.0,
          (g.1.0 ∙ e.1, (g.1.1.0 ∙ e.2, behind (load_out card text memory (length store) n).rises zs g.1.1.1 (omega arith) ∙ ap (λ (l : Loading). settled rows (done_of l).rises) e.0)),
        )

    module _ (b : List ℕ) (store : List ℕ) (s : List ℕ) where
      pub arrives_few : (memory : List ℕ) (unit : ℕ) (cell t : List ℕ) → LeavesStore (arrives card b memory store lot (length lot) unit cell) r s t zs → LeavesStore (arrives card b memory store rows lent unit cell) r s t (zs ++ others)
      arrives_few memory unit cell t h =
          let g = subst (λ (k : ℕ). LeavesStore (arrives card b memory store lot k unit cell) r s t zs) many h in
          subst (λ (l : Left). LeavesStore l r s t (zs ++ others)) same (g.0, (g.1.0, (g.1.1.0, behind (arrive_out card b memory (length store) n unit cell).rises zs g.1.1.1 (arrive_most n card b memory (length store) unit cell))))
        where
          same : arrives card b memory store rows n unit cell ≡ arrives card b memory store rows lent unit cell
          same = rw (admitted_few lent n few card (shelf_in b) (length store) unit (eqb (length cell) 53), admitted_in_few lent n few card b (length store) unit (eqb (length cell) 53))

      pub hears_few : (unit : ℕ) (heard t : List ℕ) → LeavesStore (hears card b store lot (length lot) unit heard) r s t zs → LeavesStore (hears card b store rows lent unit heard) r s t (zs ++ others)
      hears_few unit heard t h =
          let g = subst (λ (k : ℕ). LeavesStore (hears card b store lot k unit heard) r s t zs) many h in
          subst (λ (l : Left). LeavesStore l r s t (zs ++ others)) same (g.0, (g.1.0, (g.1.1.0, behind (hear_out card b (length store) n unit heard).rises zs g.1.1.1 (hear_most n card b (length store) unit heard))))
        where
          same : hears card b store rows n unit heard ≡ hears card b store rows lent unit heard
          same = rw (admitted_few lent n few card (shelf_in b) (length store) unit (eqb (length heard) 57), admitted_in_few lent n few card b (length store) unit (eqb (length heard) 57))

      pub takes_few : (unit : ℕ) (buffer t : List ℕ) → LeavesBytes (takes card b store lot (length lot) unit buffer) r s t zs → LeavesBytes (takes card b store rows lent unit buffer) r s t (zs ++ others)
      takes_few unit buffer t h =
          let g = subst (λ (k : ℕ). LeavesBytes (takes card b store lot k unit buffer) r s t zs) many h in
          subst (λ (l : Left). LeavesBytes l r s t (zs ++ others)) same (g.0, (g.1.0, (g.1.1.0, behind (take_out card b (length store) n unit (length buffer)).rises zs g.1.1.1 (take_most n card b (length store) unit (length buffer)))))
        where
          same : takes card b store rows n unit buffer ≡ takes card b store rows lent unit buffer
          same = rw (admitted_few lent n few card (shelf_in b) (length store) unit (eqb (length buffer) 53), admitted_in_few lent n few card b (length store) unit (eqb (length buffer) 53))

      pub collects_few : (unit : ℕ) (buffer t : List ℕ) → LeavesBytes (collects card b store lot (length lot) unit buffer) r s t zs → LeavesBytes (collects card b store rows lent unit buffer) r s t (zs ++ others)
      collects_few unit buffer t h =
          let g = subst (λ (k : ℕ). LeavesBytes (collects card b store lot k unit buffer) r s t zs) many h in
          subst (λ (l : Left). LeavesBytes l r s t (zs ++ others)) same (g.0, (g.1.0, (g.1.1.0, behind (collect_out card b (length store) n unit (length buffer)).rises zs g.1.1.1 (collect_most n card b (length store) unit (length buffer)))))
        where
          same : collects card b store rows n unit buffer ≡ collects card b store rows lent unit buffer
          same = rw (admitted_few lent n few card (shelf_in b) (length store) unit (eqb (length buffer) 56), admitted_in_few lent n few card b (length store) unit (eqb (length buffer) 56))

      pub frames_few : (buffer t u : List ℕ) → LeavesAll (frames card b store lot (length lot) buffer) r s t u zs → LeavesAll (frames card b store rows lent buffer) r s t u (zs ++ others)
      frames_few buffer t u h =
          let g = subst (λ (k : ℕ). LeavesAll (frames card b store lot k buffer) r s t u zs) many h in
          subst (λ (l : Left). LeavesAll l r s t u (zs ++ others)) same (g.0, (g.1.0, (g.1.1.0, (g.1.1.1.0, behind (frame_out card b store n (length buffer)).rises zs g.1.1.1.1 (frame_most n card b store (length buffer))))))
        where
          same : frames card b store rows n buffer ≡ frames card b store rows lent buffer
          same = rw (sound_few lent n few card (shelf_in b) (length store), sound_in_few lent n few card b (length store))

  -- a hand changes no row
  pub hands_few : (card : Card) (b store : List ℕ) (unit : ℕ) (cell : List ℕ) (r : Answer) (s t : List ℕ) → LeavesCell (hands card b store lot (length lot) unit cell) r s t → LeavesCell (hands card b store rows lent unit cell) r s t
  hands_few card b store unit cell r s t h = subst (λ (l : Left). LeavesCell l r s t) same (subst (λ (k : ℕ). LeavesCell (hands card b store lot k unit cell) r s t) many h)
    where
      same : hands card b store lot n unit cell ≡ hands card b store lot lent unit cell
      same = rw (admitted_few lent n few card (shelf_in b) (length store) unit (eqb (length cell) 56), admitted_in_few lent n few card b (length store) unit (eqb (length cell) 56))

  pub counts_few : (card : Card) (b store : List ℕ) (unit : ℕ) (r : Result Counters ℕ) → r ≡ counts_of card b store lot (length lot) unit → r ≡ counts_of card b store rows lent unit
  unfolding count_of
  counts_few card b store unit r h =
      h ∙ ap (λ (k : ℕ). counts_of card b store lot k unit) many ∙ pick (counted_in card b (length store) n unit) refl ∙ ap (λ (a : Result ℕ ℕ). count_of a rows) (admitted_in_few lent n few card b (length store) unit true)
    where
      pick : (a : Result ℕ ℕ) → counted_in card b (length store) n unit ≡ a → count_of a lot ≡ count_of a rows
      pick (Ok i) e = let there = row_there card b (length store) n unit i e in ap Ok (get_or-take n rows i zeros there.1)
      pick (Err number) e = refl
