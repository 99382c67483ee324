-- What the walks of `firmware` share: its three calls. A number becomes a card, the entry point is called with it and with all that was lent, its answer becomes a number.
--     cards, codes     the calls of `card_of` and of `code`
--     asks             the call of an entry point: the tokens and what it says of the last values come back as they are
-- Assumes `Logic`, and that the table of calls is monotone under a frame.
pub use Rattle.entry.proofs.Walking.{refl, none, ℕ, List, [], ◌∷◌, ◌++◌, length, Ura, named, imm, mut, w8, ty_ref, Val, vptr, SProp, ent, emp, id⊢, via, fst∗, Lft, Share, Memory, Routine, Heap, Env, WpFn, Tables, Atoms, Fun, tables, Item, ‵, raw, runs, at_ret, Sq, ◌$◌, ◌∵◌, !, qed, by, move, look, init, stop, hop, fld, from, load, addr, and_then, no_more, assigns, land, returns, enter, alloc1, alloc0, params1, pass1, pass0, agg, whole, sub, look_in, fm_of, owns, Is, u8, slice_ty, shr_slice_vals, mut_slice_vals, mut_slice_Tells, shr_slice_Tells, shr_vals, mut_vals, mut_Tells, shr_Tells, uint_vals, uint_Tells, on_entry, Meets, triple_of, Contract, Triple, entered, cited}
pub use Rattle.entry.proofs.Arguments.{Got, Lent, taken, val, byte, word, row, shared, lent, again, Arg, the_card, the_state, state_read, rows_read, the_unit, State, Whole, all_of, bytes, is_read, is_written, kinds, args, valss, machine, tokens_of, lifetimes, shares, cells, passed, card_typed, byte_typed, answer_typed, the_rows}
pub use Rattle.entry.proofs.Entering.{all, tokens, held, living, lived, freed, unasked, places}
pub use Rattle.entry.proofs.Ending.{GotCard, card_mir, answer_mir, owning, binding, exits, meets}
unfoldable pub use contract.Running.{tables_of}
pub use Rattle.answer.proofs.Calls.{Of}
use mathlib.Core.Path.{◌≡◌, subst}
use mir.Syntax.{w64, Ty, Callee, Place, Opd as Operand, Body, seq, call}
use base.Logic.{sep}
use prog.Model.{Model}
use prog.Routine.{Env as Names}
use prog.Wp.{Calls}
use types.Logic.{Logic, sem}
use contract.Monad.{fact}
use contract.Running.{Running, within as in_names}
use prog.Wired.{Wired}
use types.Kit.{Goal, mean, Post, lands, Seq, Step, step, use1, join, fsplit, fjoin, drop, frame, done}
use types.Run.{Opds}
use denote.Laws.{shows}
use denote.Plain.{uint_Makes, uint_Lawful}
use denote.Builtin.{u64}
use denote.Enum.Laws as EL
use denote.Signature.{type_at}
use denote.Steps.{owned, facts, heard, nothing}
use denote.Triple.Entry.{Res, alive}
use denote.Triple.Clauses.{Ended, Clauses, Lasts, at_exit, lasts}
use Rattle.card.specs.declared.Card.{Card}
use Rattle.card.specs.contracts.Card as C
use Rattle.card.proofs.Card.TheLaws as C'
use Rattle.answer.specs.declared.Answer.{Answer}
use Rattle.answer.specs.contracts.Answer as N
use Rattle.answer.proofs.Calls.{calls_of, calls_plain}
use Rattle.entry.proofs.Arguments.{Typed}
use Rattle.entry.proofs.Entering.{answer_owned}
use Rattle.entry.proofs.Ending.{tokened}
use Rattle.firmware.specs.Codes.{card_of, code}
use Rattle.firmware.specs.contracts.card_of as card_of_code
use Rattle.firmware.proofs.card_of.Symbol as card_of_def
use Rattle.firmware.proofs.card_of.Symbol.{name as #card-of}
use Rattle.firmware.proofs.card_of.Met as card_of_thm
use Rattle.firmware.specs.contracts.code as coded
use Rattle.firmware.proofs.code.Symbol as coded_def
use Rattle.firmware.proofs.code.Symbol.{name as #coded}
use Rattle.firmware.proofs.code.Met as coded_thm

-- the type of rows that are only read
abbrev pub rows_shared : ℕ → Ty
rows_shared j = slice_ty (ty_ref (named j) imm row)

module _ {M : Type 1} {𝓤 : Ura M} (𝓛 : Logic 𝓤) (mem : Memory → SProp 𝓤) (run : Routine → Fun 𝓤) where
  open 𝓛 use {H}

  abbrev pub CardOf : Contract 𝓤
  CardOf = Of 𝓛 card_of_code.ended (card_of_code.clauses 𝓛 mem run)

  abbrev pub Coded : Contract 𝓤
  Coded = Of 𝓛 coded.ended (coded.clauses 𝓛 mem run)

  -- each is proved of the routine that a table of calls has for it
  abbrev pub Card-known : Calls 𝓤 H → Type 1
  Card-known C = Triple 𝓤 (C #card-of) CardOf

  abbrev pub Code-known : Calls 𝓤 H → Type 1
  Code-known C = Triple 𝓤 (C #coded) Coded

  abbrev pub to_card : Got u8 → CardOf.Ghost
  to_card n = ((tt, tt, tt, (n.x, tt), (n.v ∷ [], tt)), tt)

  abbrev pub to_code : Answer → Val → Coded.Ghost
  to_code a av = ((tt, tt, tt, (a, tt), (av ∷ [], tt)), tt)

  goes_card : (n : Got u8) → ent 𝓤 (emp 𝓤) (CardOf.pre (to_card n))
  goes_card n = qed 𝓛 [] ∵ nothing ! $ owned ! u8 (Is u8) (uint_Makes 𝓛 w8) n.x _ n.ok $ fjoin ! $ nothing ! $ join ! $ frame ! $ done !

  goes_code : (a : Answer) (av : Val) → Is N.the_row a (av ∷ []) → ent 𝓤 (emp 𝓤) (Coded.pre (to_code a av))
  goes_code a av ok = qed 𝓛 [] ∵ nothing ! $ answer_owned ! a _ ok $ fjoin ! $ nothing ! $ join ! $ frame ! $ done !

module _ {M : Type 1} {𝓤 : Ura M} {𝓛 : Logic 𝓤} {K : Type 0} {Γ : List (Item 𝓤)} {E : Env 𝓤 𝓛.H} {ops : List Operand} {q : Post 𝓤 𝓛.H} {d : Place} {on : Body} where
  open 𝓛 use {H}

  pub cards : K → (𝓣 : Tables 𝓤 H) (mem : Memory → SProp 𝓤) (run : Routine → Fun 𝓤) → Card-known 𝓛 mem run 𝓣.C → (n : Got u8) → Opds K 𝓛 (raw ((CardOf 𝓛 mem run).pre (to_card 𝓛 mem run n)) ∷ Γ) E ops (n.v ∷ [])
      → ((v : Val) → Is C.the_row (card_of n.x) (v ∷ []) → Seq K 𝓛 Γ (lands 𝓣.C 𝓣.Λ E d v on q)) → Seq K 𝓛 Γ (runs 𝓣.C 𝓣.Λ E (seq (call #card-of ops d) on) q)
  cards t 𝓣 mem run known n os k =
      calls_plain t (fm_of 𝓤 H 𝓛.laws 𝓣) card_of_code.ended (card_of_code.clauses 𝓛 mem run) known (to_card 𝓛 mem run n) (goes_card 𝓛 mem run n) (λ r. r ≡ card_of n.x) (λ r _. id⊢ 𝓤 _) os
      (λ v r e ok. k v (subst (λ (h : Card). Is C.the_row h (v ∷ [])) e ok))

  pub codes : K → (𝓣 : Tables 𝓤 H) (mem : Memory → SProp 𝓤) (run : Routine → Fun 𝓤) → Code-known 𝓛 mem run 𝓣.C → (a : Answer) (av : Val) → Is N.the_row a (av ∷ []) → Opds K 𝓛 (raw ((Coded 𝓛 mem run).pre (to_code 𝓛 mem run a av)) ∷ Γ) E ops (av ∷ [])
      → ((v : Val) → Is u64 (code a) (v ∷ []) → Seq K 𝓛 Γ (lands 𝓣.C 𝓣.Λ E d v on q)) → Seq K 𝓛 Γ (runs 𝓣.C 𝓣.Λ E (seq (call #coded ops d) on) q)
  codes t 𝓣 mem run known a av a_ok os k =
      calls_plain t (fm_of 𝓤 H 𝓛.laws 𝓣) coded.ended (coded.clauses 𝓛 mem run) known (to_code 𝓛 mem run a av) (goes_code 𝓛 mem run a av a_ok) (λ r. r ≡ code a) (λ r _. id⊢ 𝓤 _) os
      (λ v r e ok. k v (subst (λ (h : ℕ). Is u64 h (v ∷ [])) e ok))

module _ {M : Type 1} {𝓤 : Ura M} {𝓛 : Logic 𝓤} {K : Type 0} {Γ : List (Item 𝓤)} {G : Goal 𝓤 𝓛.H} where
  pub card_owned : K → (which : GotCard) → Step K 𝓛 (‵ ((C.the_row).own_val which.x (which.v ∷ [])) ∷ Γ) G Γ G
  card_owned t which = owned t C.the_row (Is C.the_row) (EL.makes C.the_type C'.the_plain 𝓛) which.x (which.v ∷ []) which.ok

-- ---- the call of an entry point with the card in place of its number, and with all the other arguments
module _ (number : Got u8) (which : GotCard) (others : List Arg) where
  abbrev ts : List (Lft × Share)
  ts = tokens_of others

  module _ {M : Type 1} {𝓤 : Ura M} {𝓛 : Logic 𝓤} {K : Type 0} {Γ : List (Item 𝓤)} {E : Env 𝓤 𝓛.H} {f : Callee} {ops : List Operand} {q : Post 𝓤 𝓛.H} {d : Place} {on : Body} where
    open 𝓛 use {H}

    pub asks : K → (𝓣 : Tables 𝓤 H) (G : Ended) (c : Clauses 𝓤 G) → Triple 𝓤 (𝓣.C f) (Of 𝓛 G c) → (y : (Of 𝓛 G c).Ghost)
        → ent 𝓤 (sep 𝓤 (tokened 𝓛 ts) (sem 𝓛 (all (owning (the_card which ∷ others))))) ((Of 𝓛 G c).pre y)
        → ent 𝓤 (alive 𝓛 G.signature y.0.0 y.0.1) (mean 𝓛 (tokens ts))
        → (φ : Res G.signature y.0.0 → Lasts G y.0.0 y.0.3 → Type 0) → ((r : Res G.signature y.0.0) (ws : Lasts G y.0.0 y.0.3) → ent 𝓤 ((c y.0.0 y.0.3).ensures y.1 r (at_exit G y.0.0 y.0.3 ws)) (fact 𝓤 (φ r ws)))
        → Opds K 𝓛 (raw ((Of 𝓛 G c).pre y) ∷ Γ) E ops ((Of 𝓛 G c).args y)
        → ((v : Val) (r : Res G.signature y.0.0) (ws : Lasts G y.0.0 y.0.3) → φ r ws → Is (type_at G.signature.result y.0.0) r (v ∷ [])
        → Seq K 𝓛 (tokens ts ∷ ‵ (lasts G y.0.0 y.0.3 ws) ∷ Γ) (lands 𝓣.C 𝓣.Λ E d v on q))
        → Seq K 𝓛 (tokens ts ∷ ‵ (all (owning (the_unit number ∷ others))) ∷ Γ) (runs 𝓣.C 𝓣.Λ E (seq (call f ops d) on) q)
    asks t 𝓣 G c known y goes back φ said os k =
        move t (1 ∷ []) $ fsplit t $ drop t $ card_owned t which $ fjoin t $
        move t (1 ∷ []) $ use1 𝓛 (raw (tokened 𝓛 ts)) (living 𝓛 ts) $ join t $ calls_of t (fm_of 𝓤 H 𝓛.laws 𝓣) G c known y goes os (λ v r ws.
        -- [the tokens; the result; what is said of the last values; the `ensures`]
        use1 𝓛 (tokens ts) back $ move t (3 ∷ []) $ use1 𝓛 (raw (fact 𝓤 (φ r ws))) (said r ws) $ heard t (φ r ws) (λ told. move t (1 ∷ []) $
        facts t (type_at G.signature.result y.0.0) (Is (type_at G.signature.result y.0.0)) (shows 𝓛 (type_at G.signature.result y.0.0)) r (v ∷ []) (λ is. k v r ws told is)))

module _ {M : Type 1} {𝓤 : Ura M} (𝓛 : Logic 𝓤) where
  pub code_typed : (n : ℕ) (v : Val) → Is u64 n (v ∷ []) → Typed word v
  code_typed n v ok = ((uint_Lawful 𝓛 w64).typed n (v ∷ []) ok).0

  pub code_owned : (n : ℕ) (v : Val) → Is u64 n (v ∷ []) → ent 𝓤 (emp 𝓤) (sem 𝓛 (u64.own_val n (v ∷ [])))
  code_owned n v ok = uint_Makes 𝓛 w64 n (v ∷ []) ok

module _ {M : Type 1} {𝓤 : Ura M} (𝓛 : Logic 𝓤) (𝓜 : Model 𝓤 𝓛.H) (𝓡 : Running 𝓤 𝓛.H 𝓜) (γ : Names) where
  open 𝓛 use {H}

  pub knows_card : Wired γ card_of_def.code → Card-known 𝓛 𝓜.mem 𝓡.run (tables 𝓤 H 𝓜 𝓡 γ).C
  knows_card w = cited 𝓤 H (CardOf 𝓛 𝓜.mem 𝓡.run) 𝓜 𝓡 γ #card-of (γ #card-of) refl (card_of_thm.met 𝓤 𝓛 𝓜 (in_names 𝓤 H 𝓜 𝓡 γ) w)

  pub knows_code : Wired γ coded_def.code → Code-known 𝓛 𝓜.mem 𝓡.run (tables 𝓤 H 𝓜 𝓡 γ).C
  knows_code w = cited 𝓤 H (Coded 𝓛 𝓜.mem 𝓡.run) 𝓜 𝓡 γ #coded (γ #coded) refl (coded_thm.met 𝓤 𝓛 𝓜 (in_names 𝓤 H 𝓜 𝓡 γ) w)
