-- A take. Assumes nothing.
use Rattle.std.specs.Prelude.{None, Option, Some}
use Prim.Native.Nat.{ℕ, zero, suc, ◌+◌, ◌<◌, ◌≤◌}
use native.Mathlib.Omega.{arith}
use mathlib.Core.Path.{◌≡◌, refl, sym, ap, ap₂, subst, ◌∙◌}
use mathlib.Core.Bool.{cond, ◌&&◌, ◌||◌}
use mathlib.Core.List.{List, [], ◌∷◌, map}
use lib.Dec.{eqb, leb, ltb}
use lib.ListN.{length, length-set, get_or, set}
use lib.Seq.{get_or-set_same, get_or-set_other}
use borrow.Author.Tests.{eqb-true, eqb-false}
use Rattle.octets.specs.Octets.{four, part}
use Rattle.card.specs.declared.Card.{Card}
use Rattle.outlet.specs.Outlets.{queue, capacity, empty}
use Rattle.outlet.specs.declared.Mode.{Mode}
use Rattle.outlet.specs.declared.Mode.TheVariants.{One, Four}
use Rattle.outlet.specs.declared.Ring.{Ring}
use Rattle.outlet.specs.Hearing.{limit, held, at_limit}
use Rattle.outlet.specs.Taking.{lowest, leaving, queues, marks, outgoing}
use Rattle.outlet.proofs.Leaves.{leaving_iff}
use Rattle.store.specs.Places.{Cell, start, outlet_cells}
use Rattle.store.specs.Rings.{popped}
use Rattle.store.proofs.Queues.{length_cells, outlet_popped}
use Rattle.shelf.specs.declared.Unit as U
use Rattle.shelf.specs.Shelf.{Shelf}
use Rattle.meaning.proofs.Grown.{decide}
use Rattle.answer.specs.Answers.{#taken}
use Rattle.answer.specs.declared.Answer.TheVariants.{Empty}
use Rattle.soundness.specs.Admission.{unit_at, with_queue}
use Rattle.taking.specs.Takes as taking
use Rattle.paper.specs.Counters.{taken}
use Rattle.document.specs.Counters.{entries}
use Rattle.document.specs.Shelf as D
use Rattle.document.specs.Take as T
use Rattle.answer.specs.Counting.{settled_to, settled}
use Rattle.answer.specs.declared.Counters as C
use Rattle.refining.proofs.Alike.{UnitAlike, Alike, RowAlike, off_bus}
use Rattle.refining.proofs.Finds.{length_map}
use Rattle.refining.proofs.Changes.{changed}
use Rattle.paper.proofs.Counters.{agree_taken}
use Rattle.refining.proofs.Rows.{Different, row_alike}

-- what is held is what the document's queue holds
module _ (store : List ℕ) (i : ℕ) (u : U.Unit) (d : D.Unit) (a : UnitAlike store i u d) where
  pub held_alike : (q : ℕ) → q < 4 → held u.outlet q ≡ D.held d q
  held_alike q h =
      sym (length_cells store i (start u.outlet.limits q) (capacity u.outlet.limits q) (queue u.outlet q))
      ∙ sym (length_map off_bus (outlet_cells store i u.outlet.limits q (queue u.outlet q))) ∙ ap length (a.queues q h)

  limit_alike : (q : ℕ) → q < 4 → at_limit u.outlet q ≡ T.at_limit d q
  unfolding at_limit
  limit_alike q h = ap₂ (λ l n. leb (limit l q) n) a.limits (held_alike q h)

  congested_alike : (mode : Mode) → Rattle.outlet.specs.Taking.congested_in mode u.outlet ≡ T.congested mode d
  unfolding T.congested
  congested_alike One = limit_alike 0 (omega arith)
  congested_alike Four = ap₂ (λ x y. x || y) (limit_alike 1 (omega arith)) (limit_alike 2 (omega arith))

  pub marks_alike : marks u.outlet ≡ T.marks d
  unfolding marks
  marks_alike =
      ap (λ l. l.mark && Rattle.outlet.specs.Taking.congested_in l.mode u.outlet) a.limits ∙ ap (λ b. d.limits.mark && b) (congested_alike d.limits.mode)

lowest_same : (f g : ℕ → ℕ) (q n : ℕ) → ((p : ℕ) → p < q + n → f p ≡ g p) → lowest f q n ≡ lowest g q n
unfolding lowest
lowest_same f g q zero h = refl
lowest_same f g q (suc n) h =
    ap₂ (λ b l. cond b (Some q) l) (ap (ltb 0) (h q (omega arith))) (lowest_same f g (q + 1) n (λ p k. h p (omega arith)))

few_queues : (mode : Mode) → queues mode ≤ 4
few_queues One = omega arith
few_queues Four = omega arith

pub leaving_alike : (store : List ℕ) (i : ℕ) (u : U.Unit) (d : D.Unit) → UnitAlike store i u d → leaving u.outlet ≡ T.leaving d
unfolding leaving
leaving_alike store i u d a =
    ap (λ l. lowest (held u.outlet) 0 (queues l.mode)) a.limits
    ∙ lowest_same (held u.outlet) (D.held d) 0 (queues d.limits.mode) (λ p h. let f = few_queues d.limits.mode in held_alike store i u d a p (omega arith))

-- the unit without the oldest cell of a queue
module _ (store : List ℕ) (i : ℕ) (u : U.Unit) (d : D.Unit) (a : UnitAlike store i u d) (q : ℕ) (few : q < 4) (some : 0 < held u.outlet q) where
  abbrev ring : Ring
  ring = popped (queue u.outlet q) (capacity u.outlet.limits q)

  abbrev oldest : Cell
  oldest = taking.oldest u q i store

  abbrev rest : List D.Cell
  rest = map off_bus (outlet_cells store i u.outlet.limits q ring)

  pub queue_is : D.queue_at d q ≡ off_bus oldest ∷ rest
  queue_is = sym (a.queues q few) ∙ ap (map off_bus) (outlet_popped store i u.outlet.limits q (queue u.outlet q) some)

  queues_left : (p : ℕ) → p < 4 → map off_bus (outlet_cells store i u.outlet.limits p (get_or (set u.outlet.queues q ring) p empty)) ≡ get_or (set d.queues q rest) p []
  queues_left p h =
      decide (eqb p q)
      (λ t.
      let e = eqb-true p q t in
      subst (λ k. map off_bus (outlet_cells store i u.outlet.limits k (get_or (set u.outlet.queues q ring) k empty)) ≡ get_or (set d.queues q rest) k []) (sym e)
      (ap (λ r. map off_bus (outlet_cells store i u.outlet.limits q r)) (get_or-set_same u.outlet.queues q ring empty (omega (arith, few, a.rings)))
      ∙ sym (get_or-set_same d.queues q rest [] (omega (arith, few, a.four)))))
      (λ t.
      let e = eqb-false p q t in
      ap (λ r. map off_bus (outlet_cells store i u.outlet.limits p r)) (get_or-set_other u.outlet.queues q p ring empty e) ∙ a.queues p h
      ∙ sym (get_or-set_other d.queues q p rest [] e))

  pub unit_left : UnitAlike store i (taking.without u q) (D.with_queue d q rest)
  unit_left =
      record {
        settings = a.settings;
        limits = a.limits;
        sendable = a.sendable;
        inlet = a.inlet;
        rings = length-set u.outlet.queues q ring ∙ a.rings;
        four = length-set d.queues q rest ∙ a.four;
        queues = queues_left;
        side = a.side;
      }

  -- what it hands out
  pub handed_alike : taking.handed u oldest ≡ T.handed d (off_bus oldest)
  unfolding taking.line_cell T.line_cell
  handed_alike =
      λ t. taking.line_cell (outgoing (a.settings t).link (marks_alike store i u d a t) (four oldest 4)) (part oldest 8 48)

-- the whole take
module _ (card : Card) (shelf : Shelf) (memory store : List ℕ) (d : D.Shelf) (a : Alike card shelf memory store d) (i : ℕ) (here : i < length d.units) (buffer : List ℕ) where
  abbrev u : U.Unit
  u = unit_at shelf i

  abbrev e : D.Unit
  e = D.unit_at d i

  pub record TakeAlike (l : Option ℕ) (t : T.Took) : Type 0 where
    pub answer : (taking.done_by l shelf i).reply.answer ≡ t.answer
    pub bytes : taking.buffer_by l u i store buffer ≡ t.bytes
    pub after : Alike card (taking.done_by l shelf i).reply.shelf memory store t.shelf
    pub rows : (rows : List C.Counters) → Different d.units → length d.units ≤ length rows → i < 32 → ((j : ℕ) → j < length d.units → RowAlike rows d j) → (j : ℕ) → j < length d.units → RowAlike (settled rows (taking.done_by l shelf i).rises) t.shelf j

  by_queue : (q : ℕ) → q < 4 → 0 < held u.outlet q → TakeAlike (Some q) (T.takes_from (D.queue_at e q) d i q buffer)
  unfolding T.takes_from taking.done_by taking.buffer_by
  by_queue q few some =
      let x = a.units i here in
      subst (λ cells. TakeAlike (Some q) (T.takes_from cells d i q buffer)) (sym (queue_is store i u e x q few some))
      (record {
        answer = refl;
        bytes = handed_alike store i u e x q few some;
        after = changed card shelf memory store d a i here (taking.without u q) (D.with_queue e q (rest store i u e x q few some)) store (entries (D.number_of e) (taken ∷ []))
            (unit_left store i u e x q few some) (record { looks = (a.known i here).looks; hearing = (a.known i here).hearing }) (λ j h n. a.units j h);
        rows = λ rows once enough low alike.
            row_alike rows d once enough alike i #taken (D.with_queue e q (rest store i u e x q few some)) (taken ∷ []) here low refl agree_taken;
      })

  by_leaving : (l : Option ℕ) → leaving u.outlet ≡ l → TakeAlike l (T.takes_by l d i buffer)
  unfolding T.takes_by taking.done_by taking.buffer_by settled_to
  by_leaving (Some q) m =
      let f = (leaving_iff u.outlet (Some q)).0 m in
      let n = few_queues u.outlet.limits.mode in
      by_queue q (omega (arith, n, f.0)) f.1
  by_leaving None m = record { answer = refl; bytes = refl; after = a; rows = λ rows once enough low alike. alike }

  pub take_alike : TakeAlike (leaving u.outlet) (T.takes d i buffer)
  take_alike = subst (λ l. TakeAlike (leaving u.outlet) (T.takes_by l d i buffer)) (leaving_alike store i u e (a.units i here)) (by_leaving (leaving u.outlet) refl)
