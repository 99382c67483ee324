-- Hand and collect, on both. Assumes nothing.
use Prim.Native.Nat.{ℕ, ◌+◌, ◌<◌, ◌≤◌}
use native.Mathlib.Omega.{arith}
use mathlib.Core.Path.{◌≡◌, refl, sym, ap, ◌∙◌}
use mathlib.Core.Logic.{inl, inr}
use mathlib.Core.List.{List, [], ◌∷◌}
use lib.ListN.{length, length-set, get_or}
use borrow.Author.Tests.{eq-eqb, ne_eqb, le-leb, lt-leb}
use Rattle.card.specs.declared.Card.{Card}
use Rattle.store.specs.Rings.{popped}
use Rattle.store.specs.Places.{control_in_slot, loopback_in_slot, loopback_out_slot, control_out_slot, cell_at, put_at, control_cells, single}
use Rattle.store.proofs.Queues.{length_cells, cells_popped, single_put}
use Rattle.shelf.specs.declared.Unit as U
use Rattle.shelf.specs.Shelf.{Shelf}
use Rattle.soundness.specs.Admission.{unit_at, Housed}
use Rattle.answer.specs.Answers.{#taken, row}
use Rattle.answer.specs.Done.{Done}
use Rattle.answer.specs.Counting.{settled_to, settled, zeros}
use Rattle.answer.specs.declared.Counters as C
use Rattle.answer.proofs.Settling.{settled_ahead}
use Rattle.handing.specs.Hands as handing
use Rattle.handing.specs.Collects as collecting
use Rattle.paper.specs.Counters.{taken}
use Rattle.paper.proofs.Counters.{agree_taken}
use Rattle.document.specs.Counters.{counter_of, entries}
use Rattle.document.specs.Shelf as D
use Rattle.document.specs.Take as T
use Rattle.document.specs.Processor as processor
use Rattle.refining.proofs.Alike.{UnitAlike, Alike, RowAlike, single_kept, control_kept, side_written, elsewhere}
use Rattle.refining.proofs.Changes.{changed}
use Rattle.refining.proofs.Rows.{Different, same_numbers, row_alike}

module _ (card : Card) (shelf : Shelf) (memory store : List ℕ) (d : D.Shelf) (a : Alike card shelf memory store d) (housed : (j : ℕ) → j < length d.units → Housed j (unit_at shelf j) (length store))
    (i : ℕ) (here : i < length d.units) where
  abbrev u : U.Unit
  u = unit_at shelf i

  abbrev e : D.Unit
  e = D.unit_at d i

  abbrev x : UnitAlike store i u e
  x = a.units i here

  -- what is done, the store and the lent bytes afterwards, beside what the document's shelf has
  pub record DoneAlike (done : Done) (then bytes : List ℕ) (t : T.Took) : Type 0 where
    pub answer : done.reply.answer ≡ t.answer
    pub lent : bytes ≡ t.bytes
    pub many : length t.shelf.units ≡ length d.units
    pub after : Alike card done.reply.shelf memory then t.shelf
    pub rows : (rows : List C.Counters) → Different d.units → length d.units ≤ length rows → i < 32 → ((j : ℕ) → j < length d.units → RowAlike rows d j) → (j : ℕ) → j < length d.units → RowAlike (settled rows done.rises) t.shelf j
    pub beyond : (rows : List C.Counters) (j : ℕ) → i < j → get_or (settled rows done.rises) j zeros ≡ get_or rows j zeros

  -- 1. hand: the place is free, or taken
  module _ (c : List ℕ) (whole : length c ≡ 56) where
    abbrev handed : D.Unit
    handed = D.with_control_in e (c ∷ [])

    unit_handed : UnitAlike (put_at store i control_in_slot c) i (handing.handed_to u) handed
    unit_handed =
        let h = housed i here in
        let kept = single_kept store i i control_in_slot c whole (omega arith) h.inside in
        side_written store i u e control_in_slot c whole (omega arith) (omega arith) h x (handing.handed_to u).side handed.side
        (record {
          controlin = single_put store i control_in_slot c (omega arith) h.inside whole;
          loopbackin = kept loopback_in_slot u.side.loopbackin (omega arith) h.side.loopbackin (inr (inl (omega arith))) ∙ x.side.loopbackin;
          controlout = control_kept store i i control_in_slot c whole (omega arith) h.inside u.side.controlout h.side.controlout (inr (inl (omega arith))) ∙ x.side.controlout;
          loopbackout = kept loopback_out_slot u.side.loopbackout (omega arith) h.side.loopbackout (inr (inl (omega arith))) ∙ x.side.loopbackout;
        })

    by_place : (m : List (List ℕ)) → e.side.controlin ≡ m → DoneAlike (handing.hand_at shelf i) (handing.hand_store_at shelf i store c) c (processor.hands_into m d i c)
    unfolding processor.hands_into settled_to
    by_place [] first =
        let n = sym (length_cells store i control_in_slot 1 (single u.side.controlin)) ∙ ap length (x.side.controlin ∙ first) in
        rw (lt-leb 1 u.side.controlin (omega arith))
        (record {
          answer = refl;
          lent = refl;
          many = length-set d.units i handed;
          after = changed card shelf memory store d a i here (handing.handed_to u) handed (put_at store i control_in_slot c) [] unit_handed
              (record { looks = (a.known i here).looks; hearing = (a.known i here).hearing })
              (λ j h apart. elsewhere store j i control_in_slot c (unit_at shelf j) (D.unit_at d j) whole (omega arith) (housed i here).inside (λ q. apart (sym q)) (housed j h) (a.units j h));
          rows = λ rows once enough low alike j h k. alike j h k ∙ ap (λ n. counter_of d.history n k) (sym (same_numbers d.units i handed refl j));
          beyond = λ rows j h. refl;
        })
    by_place (b ∷ others) first =
        let n = sym (length_cells store i control_in_slot 1 (single u.side.controlin)) ∙ ap length (x.side.controlin ∙ first) in
        rw (le-leb 1 u.side.controlin (omega arith))
        (record { answer = refl; lent = refl; many = refl; after = a; rows = λ rows once enough low alike. alike; beyond = λ rows j h. refl })

    pub hand_alike : DoneAlike (handing.hand_at shelf i) (handing.hand_store_at shelf i store c) c (processor.hands d i c)
    hand_alike = by_place e.side.controlin refl

  -- 2. collect: the outlet is empty, or its oldest cell leaves
  module _ (buffer : List ℕ) where
    by_outlet : (m : List (List ℕ)) → e.side.controlout ≡ m → DoneAlike (collecting.collect_at shelf i) store (collecting.collect_buffer_at shelf i store buffer) (processor.collects_from m d i buffer)
    unfolding processor.collects_from settled_to
    by_outlet [] first =
        let n = sym (length_cells store i 129 4 u.side.controlout) ∙ ap length (x.side.controlout ∙ first) in
        rw (eq-eqb u.side.controlout.count 0 n)
        (record { answer = refl; lent = refl; many = refl; after = a; rows = λ rows once enough low alike. alike; beyond = λ rows j h. refl })
    by_outlet (c ∷ rest) first =
        let n = sym (length_cells store i 129 4 u.side.controlout) ∙ ap length (x.side.controlout ∙ first) in
        let oldest : cell_at store i (control_out_slot u.side.controlout.head) ∷ control_cells store i (popped u.side.controlout 4) ≡ c ∷ rest = sym (cells_popped store i 129 4 u.side.controlout (omega arith)) ∙ x.side.controlout ∙ first in
        let it : cell_at store i (control_out_slot u.side.controlout.head) ≡ c = cc in
        let others : control_cells store i (popped u.side.controlout 4) ≡ rest = cc in
        let left = D.with_control_out e rest in
        rw (ne_eqb u.side.controlout.count 0 (λ z. omega arith))
        (record {
          answer = refl;
          lent = it;
          many = length-set d.units i left;
          after = changed card shelf memory store d a i here (collecting.collected_from u) left store (entries (D.number_of e) (taken ∷ []))
              (record {
                settings = x.settings;
                limits = x.limits;
                sendable = x.sendable;
                inlet = x.inlet;
                rings = x.rings;
                four = x.four;
                queues = x.queues;
                side = record { controlin = x.side.controlin; loopbackin = x.side.loopbackin; controlout = others; loopbackout = x.side.loopbackout };
              })
              (record { looks = (a.known i here).looks; hearing = (a.known i here).hearing }) (λ j h apart. a.units j h);
          rows = λ rows once enough low alike. row_alike rows d once enough alike i #taken left (taken ∷ []) here low refl agree_taken;
          beyond = λ rows j h. settled_ahead rows (row i #taken) (i + 1) j (omega arith);
        })

    pub collect_alike : DoneAlike (collecting.collect_at shelf i) store (collecting.collect_buffer_at shelf i store buffer) (processor.collects d i buffer)
    collect_alike = by_outlet e.side.controlout refl
