-- What the walks of `owned` share: the first so many of 40 rows in a local array are lent to an entry point, and the array is whole again afterwards.
--     to_write, to_read     how they are lent and come back, as a `&mut` slice and as a `&` one.        lends_to     the call of an entry point with them
--     withins, joins     the other two calls
-- Assumes `Logic`, and that the table of calls is monotone under a frame.
pub use Rattle.entry.proofs.Walking.{◌≡◌, refl, none, ℕ, List, [], ◌∷◌, ◌++◌, length, Ura, full_share, named, imm, mut, w8, w64, ty_ref, Val, vint, vptr, SProp, ent, emp, id⊢, via, fst∗, Lft, Share, Memory, Routine, Heap, Env, WpFn, Tables, Atoms, Fun, tables, Item, ‵, raw, runs, at_ret, Sq, ◌$◌, ◌∵◌, !, qed, by, move, look, init, stop, hop, fld, from, load, addr, of_opd, and_then, no_more, assigns, land, returns, enter, alloc1, alloc0, params1, pass1, pass0, agg, whole, sub, look_in, fm_of, owns, Is, u8, usize, slice_ty, shr_slice_vals, mut_slice_vals, mut_slice_Tells, shr_slice_Tells, shr_vals, mut_vals, mut_Tells, shr_Tells, uint_vals, uint_Tells, on_entry, Meets, triple_of, Contract, Triple, entered, cited}
unfoldable pub use contract.Running.{tables_of}
pub use Rattle.entry.proofs.Arguments.{Got, Lent, taken, val, byte, word, row, shared, lent, again, Arg, the_card, the_state, state_read, rows_read, the_unit, State, Whole, all_of, finally_state, bytes, is_read, is_written, kinds, args, valss, machine, tokens_of, lifetimes, shares, cells, passed, card_vals, card_tells, card_typed, byte_typed, answer_typed}
pub use Rattle.entry.proofs.Entering.{all, tokens, held, living, lived, freed, unasked, places}
pub use Rattle.entry.proofs.Ending.{GotCard, card_mir, answer_mir, binding, exits, meets}
pub use base.Fml.{Fml, GName, ftrue}
pub use denote.Slice.{slice_val}
pub use Rattle.answer.specs.declared.Counters.{Counters}
pub use Rattle.answer.proofs.Row.{Row40, vals40, tells40, typed40}
pub use Rattle.answer.proofs.Calls.{Of}
use mathlib.Core.Path.{sym, ◌∙◌, ap, subst}
use Prim.Native.Nat.{min, ◌<◌, ◌^◌}
use lib.Dec.{lit<}
use lib.ListN.{take, drop as dropped, length-take, length-drop, length-append}
use native.Mathlib.Omega.{arith}
use mir.Syntax.{Ty, Callee, Place, Opd as Operand, Body, ty_array, erased, seq, call}
use base.Logic.{sep}
use base.Fml.{fat, feq, fsep, flft, flent, fdead, fhide}
use prog.Model.{Model}
use prog.Routine.{Env as Names}
use prog.Wp.{Calls}
use types.Logic.{Logic, sem}
use contract.Monad.{fact}
use contract.Running.{Running, within as in_names}
use prog.Wired.{Wired}
use types.Kit.{Goal, Soaks, mean, ◌⊛◌, some, later, Post, lands, Seq, Step, step, use1, use3, await, pick, split, join, fsplit, fjoin, feq_l, feq_i, drop, frame, done}
use types.Run.{Opds}
use types.Tokens.{lft_new, lft_end, lent_back}
use types.SemTy.{cells as elements, Arr}
use types.Share.{arr_parts}
use denote.Laws.{shows}
use denote.Plain.{uint_Makes, uint_Lawful}
use denote.Struct.Laws as LL
use denote.Struct.Laws.{copied}
use denote.Memory.{mem as lies, shares as parts, pointee}
use denote.Slice.{MutSlice, ShrSlice, finally, shr_slice_at, elements_shared}
use denote.Shadow.{pure_i}
use denote.Lend.{Held, lends_slice, slice_back}
use denote.Index.{row as Cells-of, whole_in, whole_out}
use denote.Signature.{type_at}
use denote.Steps.{only, owned, facts, heard, nothing, said}
use denote.Triple.Entry.{Res, alive}
use denote.Triple.Clauses.{Ended, Clauses, Lasts, at_exit, lasts}
use borrow.Rule.Array.Share.{Room-take}
use Rattle.answer.specs.declared.Answer.{Answer}
use Rattle.answer.specs.contracts.Answer as N
use Rattle.answer.specs.contracts.Counters as T
use Rattle.answer.proofs.Counters.TheLaws as T'
use Rattle.answer.proofs.Row.{makes40}
use Rattle.answer.proofs.Arrays.{behind, lent_all, cuts_array, joins_array}
use Rattle.answer.proofs.Calls.{calls_of, calls_plain}
use Rattle.entry.proofs.Arguments.{the_array, the_number, the_rows, ref, shown, Typed}
use Rattle.entry.proofs.Entering.{answer_owned}
use Rattle.entry.proofs.Ending.{owning, tokened}
use Rattle.owned.specs.declared.After.{After}
use Rattle.owned.specs.contracts.After as F
use Rattle.owned.proofs.After.TheLaws as F'
use Rattle.owned.specs.contracts.within as within
use Rattle.owned.proofs.within.Symbol as within_def
use Rattle.owned.proofs.within.Symbol.{name as #within}
use Rattle.owned.proofs.within.Met as within_thm
use Rattle.owned.specs.contracts.joined as joined
use Rattle.owned.proofs.joined.Symbol as joined_def
use Rattle.owned.proofs.joined.Symbol.{name as #joined}
use Rattle.owned.proofs.joined.Met as joined_thm

-- ---- of what parameters own, or of what is said of their last values: the rows in place of the array and the number, and two that say nothing in place of the rows. Likewise of tokens
module _ {M : Type 1} {𝓤 : Ura M} {𝓛 : Logic 𝓤} {K : Type 0} where
  open 𝓛 use {H}

  rows_in : K → (Ps Qs : List Fml) (P₁ P₂ : Fml) {P : Fml} {Γ : List (Item 𝓤)} {G : Goal 𝓤 H} → Step K 𝓛 (‵ (all (Ps ++ P ∷ Qs)) ∷ Γ) G (‵ P ∷ ‵ (all (Ps ++ P₁ ∷ P₂ ∷ Qs)) ∷ Γ) G
  rows_in t [] Qs P₁ P₂ = step (λ s. move t (1 ∷ []) $ fsplit t $ drop t $ fsplit t $ drop t $ move t (1 ∷ 0 ∷ []) $ fjoin t $ s)
  rows_in t (Q ∷ Ps) Qs P₁ P₂ = step (λ s. move t (1 ∷ []) $ fsplit t $ move t (2 ∷ 1 ∷ []) $ rows_in t Ps Qs P₁ P₂ $ move t (1 ∷ 0 ∷ []) $ fjoin t $ s)

  rows_out : K → (Ps Qs : List Fml) (P : Fml) {Γ : List (Item 𝓤)} {G : Goal 𝓤 H} → Step K 𝓛 (‵ P ∷ ‵ (all (Ps ++ ftrue ∷ ftrue ∷ Qs)) ∷ Γ) G (‵ (all (Ps ++ P ∷ Qs)) ∷ Γ) G
  rows_out t [] Qs P = step (λ s. fsplit t $ move t (1 ∷ []) $ nothing t $ fjoin t $ nothing t $ fjoin t $ move t (1 ∷ 0 ∷ []) $ s)
  rows_out t (Q ∷ Ps) Qs P = step (λ s. fsplit t $ move t (1 ∷ []) $ rows_out t Ps Qs P $ move t (2 ∷ 1 ∷ []) $ fjoin t $ move t (1 ∷ 0 ∷ []) $ s)

  token_in : K → (ts us : List (Lft × Share)) (u : Lft × Share) {Γ : List (Item 𝓤)} {G : Goal 𝓤 H} → Step K 𝓛 (tokens (ts ++ u ∷ us) ∷ Γ) G (‵ (flft u.0 u.1) ∷ tokens (ts ++ us) ∷ Γ) G
  token_in t [] us u = join t
  token_in t (v ∷ ts) us u = step (λ s. move t (1 ∷ []) $ split t $ move t (2 ∷ 1 ∷ []) $ token_in t ts us u $ move t (1 ∷ 0 ∷ []) $ join t $ s)

  token_out : K → (ts us : List (Lft × Share)) (u : Lft × Share) {Γ : List (Item 𝓤)} {G : Goal 𝓤 H} → Step K 𝓛 (‵ (flft u.0 u.1) ∷ tokens (ts ++ us) ∷ Γ) G (tokens (ts ++ u ∷ us) ∷ Γ) G
  token_out t [] us u = split t
  token_out t (v ∷ ts) us u = step (λ s. split t $ move t (1 ∷ []) $ token_out t ts us u $ move t (2 ∷ 1 ∷ []) $ join t $ move t (1 ∷ 0 ∷ []) $ s)

-- the types of locals
abbrev pub array : Ty
array = ty_array T'.mir 40

abbrev pub array_again : Ty
array_again = again (pointee Row40.written)

abbrev pub after_mir : Ty
after_mir = F'.mir

-- the arguments of `owned`: those before the rows, the rows and how many are lent, those after
abbrev pub had : List Arg → Got Row40 → Got usize → List Arg → List Arg
had before rows lent after = before ++ the_array rows ∷ the_number lent ∷ after

-- the rows that are lent, and those behind
abbrev pub few : List Counters → ℕ → List Counters
few rows lent = take (min lent 40) rows

abbrev pub rest : List Counters → ℕ → List Counters
rest rows lent = dropped (min lent 40) rows

pub All-there : (rows : List Counters) (lent : ℕ) → length rows ≡ 40 → (zs : List Counters) → length zs ≡ length (few rows lent) → length (zs ++ rest rows lent) ≡ 40
All-there rows lent long zs e = omega (arith, length-append zs (rest rows lent), length-drop (min lent 40) rows, length-take (min lent 40) rows, long, e)

many : (rows : List Counters) (lent : ℕ) → length rows ≡ 40 → length (few rows lent) ≡ min lent 40
many rows lent long = omega (arith, length-take (min lent 40) rows, long)

abbrev pub after_with : Got Row40 → Got usize → Answer → List Counters → After
after_with rows lent r zs = record { answer = r; rows = zs ++ rest rows.x lent.x }

-- ---- the rows that are lent, of an array of rows at l: the first so many
module _ (rows : Got Row40) (lent : Got usize) (l : ℕ) where
  abbrev lot : List Counters
  lot = few rows.x lent.x

  abbrev others : List Counters
  others = rest rows.x lent.x

  abbrev pub out : GName → Lent T.the_row
  out γ = record { b = l; o = 0; γ = γ; at = lot; room = Room-take T.the_row 40 (min lent.x 40) rows.x rows.ok.1.0.1 (lit< tt, lit< tt) }

  abbrev lying : Val → Fml
  lying v = fat full_share array l 0 v

  -- a loan for α under γ: as what they are lent, what the lender keeps, what the callee says of the last rows zs, which rows these are then; how they are lent, and come back
  pub record Loan {M : Type 1} {𝓤 : Ura M} (𝓛 : Logic 𝓤) : Type 3 where
    pub lent_as : ℕ → GName → Fml
    pub keeps : ℕ → GName → Fml
    pub says : GName → List Counters → Fml
    pub last : List Counters → List Counters
    pub goes : {K : Type 0} {Γ : List (Item 𝓤)} {G : Goal 𝓤 𝓛.H} → K → Soaks G → (α : ℕ) → ((γ : GName) → Seq K 𝓛 (‵ (lent_as α γ) ∷ ‵ (keeps α γ) ∷ Γ) G) → Seq K 𝓛 (‵ (lying rows.v) ∷ Γ) G
    pub back : {K : Type 0} {Γ : List (Item 𝓤)} {G : Goal 𝓤 𝓛.H} → K → Soaks G → (α : ℕ) (γ : GName) (zs : List Counters) → ((v : Val) → Is Row40 (last zs ++ others) (v ∷ []) → Seq K 𝓛 (‵ (lying v) ∷ Γ) G)
        → Seq K 𝓛 (‵ (fdead (α ∷ [])) ∷ ‵ (keeps α γ) ∷ ‵ (says γ zs) ∷ Γ) G

  module _ {M : Type 1} {𝓤 : Ura M} (𝓛 : Logic 𝓤) where
    -- as a `&mut [Counters]`
    abbrev pub to_write : Loan 𝓛
    to_write = record {
      lent_as = λ α γ. (MutSlice erased (α ∷ []) T.the_row).own_val (ref (out γ)) (val (out γ) ∷ []);
      keeps = λ α γ. fsep (flent (α ∷ []) (Held T.the_row (length lot) l 0 γ)) (behind T.the_row lot others l);
      says = λ γ zs. fsep (finally T.the_row γ zs) (feq ℕ (length zs) (length lot));
      last = λ zs. zs;
      goes = λ t z α on. cuts_array t T.the_row tt 40 (makes40 𝓛) rows.x (min lent.x 40) rows.v l rows.ok $
          use1 𝓛 (later (some (λ (γ : GName). ‵ ((MutSlice erased (α ∷ []) T.the_row).own_val (ref (out γ)) (val (out γ) ∷ [])) ⊛ ‵ (flent (α ∷ []) (Held T.the_row (length lot) l 0 γ))))) (lends_slice 𝓛 T.the_row erased (α ∷ []) lot l 0 (out 0).room) $
          await t z $ pick t (λ γ. split t $ move t (1 ∷ 2 ∷ []) $ fjoin t $ move t (1 ∷ 0 ∷ []) $ on γ);
      back = λ t z α γ zs on. move t (2 ∷ []) $ fsplit t $ move t (1 ∷ []) $ drop t $ move t (2 ∷ []) $ fsplit t $ move t (3 ∷ 0 ∷ 2 ∷ []) $
          use3 𝓛 (later (‵ ((Arr (lies T.the_row) (length lot)).own_at zs l 0))) (slice_back 𝓛 T.the_row (α ∷ []) γ zs (length lot) l 0) $ await t z $ fsplit t $ feq_l t (λ m.
          joins_array t T.the_row 40 lot others zs l m (All-there rows.x lent.x rows.ok.1.0.1 zs m) on);
    }

    -- as a `&[Counters]`
    abbrev pub to_read : Loan 𝓛
    to_read = record {
      lent_as = λ α γ. (ShrSlice erased (α ∷ []) T.the_row).own_val (shown (out γ)) (val (out γ) ∷ []);
      keeps = λ α γ. fsep (flent (α ∷ []) ((arr_parts (parts T.the_row) (length lot)).part full_share lot l 0)) (behind T.the_row lot others l);
      says = λ γ zs. ftrue;
      last = λ zs. lot;
      goes = λ t z α on. cuts_array t T.the_row tt 40 (makes40 𝓛) rows.x (min lent.x 40) rows.v l rows.ok $
          use1 𝓛 (‵ (Cells-of T.the_row full_share lot l 0)) (whole_out 𝓛 T.the_row lot l 0) $ feq_i t ℕ (length lot) (length lot) refl $ fjoin t $
          use1 𝓛 (later (‵ (fhide (elements_shared T.the_row lot l 0 (α ∷ []))) ⊛ ‵ (flent (α ∷ []) ((arr_parts (parts T.the_row) (length lot)).part full_share lot l 0)))) (lent_all 𝓛 T.the_row (copied T.the_type T'.the_copy 𝓛) lot l 0 (α ∷ [])) $
          await t z $ split t $ pure_i t (shr_slice_at T.the_row (shown (out 0)) (val (out 0) ∷ [])) (tt, (tt, tt)) (refl, (out 0).room) $ fjoin t $ move t (1 ∷ 2 ∷ []) $ fjoin t $ move t (1 ∷ 0 ∷ []) $ on 0;
      back = λ t z α γ zs on. move t (2 ∷ []) $ drop t $ move t (1 ∷ []) $ fsplit t $ move t (2 ∷ 0 ∷ []) $ lent_back t z $ fsplit t $ feq_l t (λ _.
          use1 𝓛 (‵ (elements (lies T.the_row) lot l 0)) (whole_in 𝓛 T.the_row lot l 0) $ joins_array t T.the_row 40 lot others lot l refl (All-there rows.x lent.x rows.ok.1.0.1 lot refl) on);
    }

  -- ---- the call of an entry point, with arguments before and after the rows
  module _ (before after : List Arg) where
    abbrev pub lending : ℕ → GName → List Arg
    lending α γ = before ++ the_rows (α ∷ []) full_share (out γ) ∷ after

    abbrev ts : List (Lft × Share)
    ts = tokens_of before ++ tokens_of after

    abbrev ts' : ℕ → List (Lft × Share)
    ts' α = tokens_of before ++ (α ∷ [], full_share) ∷ tokens_of after

    module _ {M : Type 1} {𝓤 : Ura M} {𝓛 : Logic 𝓤} {K : Type 0} {Γ : List (Item 𝓤)} {E : Env 𝓤 𝓛.H} {f : Callee} {ops : List Operand} {q : Post 𝓤 𝓛.H} {d : Place} {on : Body} where
      open 𝓛 use {H}

      pub lends_to : K → (o : Loan 𝓛) (𝓣 : Tables 𝓤 H) (G : Ended) (c : Clauses 𝓤 G) → Triple 𝓤 (𝓣.C f) (Of 𝓛 G c) → (y : ℕ → GName → (Of 𝓛 G c).Ghost)
          → ((α : ℕ) (γ : GName) → ent 𝓤 (sep 𝓤 (tokened 𝓛 (ts' α)) (sem 𝓛 (all (owning before ++ o.lent_as α γ ∷ owning after)))) ((Of 𝓛 G c).pre (y α γ)))
          → ((α : ℕ) (γ : GName) → ent 𝓤 (alive 𝓛 G.signature (y α γ).0.0 (y α γ).0.1) (mean 𝓛 (tokens (ts' α))))
          → (Ps : (α : ℕ) (γ : GName) → Lasts G (y α γ).0.0 (y α γ).0.3 → List Fml) (zs : (α : ℕ) (γ : GName) → Lasts G (y α γ).0.0 (y α γ).0.3 → List Counters) (Qs : (α : ℕ) (γ : GName) → Lasts G (y α γ).0.0 (y α γ).0.3 → List Fml)
          → ((α : ℕ) (γ : GName) (ws : Lasts G (y α γ).0.0 (y α γ).0.3) → ent 𝓤 (sem 𝓛 (lasts G (y α γ).0.0 (y α γ).0.3 ws)) (sem 𝓛 (all (Ps α γ ws ++ o.says γ (zs α γ ws) ∷ Qs α γ ws))))
          → ((α : ℕ) (γ : GName) → Opds K 𝓛 (raw ((Of 𝓛 G c).pre (y α γ)) ∷ ‵ (o.keeps α γ) ∷ Γ) E ops ((Of 𝓛 G c).args (y α γ)))
          → ((α : ℕ) (γ : GName) (nv : Val) (r : Res G.signature (y α γ).0.0) (ws : Lasts G (y α γ).0.0 (y α γ).0.3) (v : Val) → Is Row40 (o.last (zs α γ ws) ++ others) (v ∷ [])
          → Seq K 𝓛 (raw ((c (y α γ).0.0 (y α γ).0.3).ensures (y α γ).1 r (at_exit G (y α γ).0.0 (y α γ).0.3 ws)) ∷ ‵ ((type_at G.signature.result (y α γ).0.0).own_val r (nv ∷ [])) ∷ ‵ (lying v) ∷ tokens ts ∷ ‵ (all (Ps α γ ws ++ ftrue ∷ ftrue ∷ Qs α γ ws)) ∷ Γ) (lands 𝓣.C 𝓣.Λ E d nv on q))
          → Seq K 𝓛 (tokens ts ∷ ‵ (all (owning before ++ Row40.own_val rows.x (rows.v ∷ []) ∷ usize.own_val lent.x (lent.v ∷ []) ∷ owning after)) ∷ ‵ (lying rows.v) ∷ Γ) (runs 𝓣.C 𝓣.Λ E (seq (call f ops d) on) q)
      lends_to t o 𝓣 G c known y goes back Ps zs Qs said os k =
          lft_new t tt (λ α. move t (3 ∷ []) $ o.goes t tt α (λ γ.
          -- [the rows that are lent; what the lender keeps; the new token; the tokens; what the parameters own]
          move t (0 ∷ 4 ∷ []) $ rows_in t (owning before) (owning after) (Row40.own_val rows.x (rows.v ∷ [])) (usize.own_val lent.x (lent.v ∷ [])) $
          move t (2 ∷ 3 ∷ []) $ token_in t (tokens_of before) (tokens_of after) (α ∷ [], full_share) $ use1 𝓛 (raw (tokened 𝓛 (ts' α))) (living 𝓛 (ts' α)) $ join t $
          calls_of t (fm_of 𝓤 H 𝓛.laws 𝓣) G c known (y α γ) (goes α γ) (os α γ) (λ nv r ws.
          -- [the tokens; the result; what is said of the last values; the `ensures`; what the lender keeps]
          use1 𝓛 (tokens (ts' α)) (back α γ) $ token_out t (tokens_of before) (tokens_of after) (α ∷ [], full_share) $ lft_end t tt $
          move t (3 ∷ []) $ use1 𝓛 (‵ (all (Ps α γ ws ++ o.says γ (zs α γ ws) ∷ Qs α γ ws))) (said α γ ws) $ rows_out t (Ps α γ ws) (Qs α γ ws) (o.says γ (zs α γ ws)) $
          -- [what is said of the rows, and of the others; the lifetime is over; the tokens; the result; the `ensures`; what the lender keeps]
          move t (2 ∷ 6 ∷ 0 ∷ []) $ o.back t tt α γ (zs α γ ws) (λ v is. move t (4 ∷ 3 ∷ 0 ∷ 2 ∷ 1 ∷ []) $ k α γ nv r ws v is))))

pub fits : (rows : Got Row40) (lent : Got usize) → length (few rows.x lent.x) < 2 ^ 64
fits rows lent = (out rows lent 0 0).room.0

-- what is said of the last bytes of a lent slice
abbrev pub written : Lent u8 → List ℕ → Fml
written x zs = fsep (finally u8 x.γ zs) (feq ℕ (length zs) (length x.at))

-- ---- the other two calls
module _ {M : Type 1} {𝓤 : Ura M} (𝓛 : Logic 𝓤) (mem : Memory → SProp 𝓤) (run : Routine → Fun 𝓤) where
  open 𝓛 use {H}

  abbrev pub Within : Contract 𝓤
  Within = Of 𝓛 within.ended (within.clauses 𝓛 mem run)

  abbrev pub Joined : Contract 𝓤
  Joined = Of 𝓛 joined.ended (joined.clauses 𝓛 mem run)

  -- each is proved of the routine that a table of calls has for it
  abbrev pub Within-known : Calls 𝓤 H → Type 1
  Within-known C = Triple 𝓤 (C #within) Within

  abbrev pub Joined-known : Calls 𝓤 H → Type 1
  Joined-known C = Triple 𝓤 (C #joined) Joined

  abbrev pub to_within : Got usize → Within.Ghost
  to_within n = ((tt, tt, tt, (n.x, tt), (n.v ∷ [], tt)), tt)

  abbrev pub to_joined : Answer → List Counters → Val → Val → Joined.Ghost
  to_joined r zs nv rv = ((tt, tt, tt, (r, (zs, tt)), (nv ∷ [], (rv ∷ [], tt))), tt)

  goes_within : (n : Got usize) → ent 𝓤 (emp 𝓤) (Within.pre (to_within n))
  goes_within n = qed 𝓛 [] ∵ nothing ! $ owned ! usize (Is usize) (uint_Makes 𝓛 w64) n.x _ n.ok $ fjoin ! $ nothing ! $ join ! $ frame ! $ done !

  goes_joined : (r : Answer) (zs : List Counters) (nv rv : Val) → Is N.the_row r (nv ∷ []) → Is Row40 zs (rv ∷ []) → ent 𝓤 (emp 𝓤) (Joined.pre (to_joined r zs nv rv))
  goes_joined r zs nv rv n_ok r_ok =
      qed 𝓛 [] ∵ nothing ! $ owned ! Row40 (Is Row40) (makes40 𝓛) zs _ r_ok $ fjoin ! $ answer_owned ! r _ n_ok $ fjoin ! $ nothing ! $ join ! $ frame ! $ done !

module _ {M : Type 1} {𝓤 : Ura M} {𝓛 : Logic 𝓤} {K : Type 0} {Γ : List (Item 𝓤)} {G : Goal 𝓤 𝓛.H} where
  -- what an entry point that answers has told
  pub answered : K → (φ : Type 0) (r : Answer) (v : Val) → (φ → Is N.the_row r (v ∷ []) → Seq K 𝓛 Γ G) → Seq K 𝓛 (raw (fact 𝓤 φ) ∷ ‵ ((N.the_row).own_val r (v ∷ [])) ∷ Γ) G
  answered t φ r v k = heard t φ (λ told. facts t N.the_row (Is N.the_row) (shows 𝓛 N.the_row) r (v ∷ []) (λ ok. k told ok))

module _ {M : Type 1} {𝓤 : Ura M} {𝓛 : Logic 𝓤} {K : Type 0} {Γ : List (Item 𝓤)} {E : Env 𝓤 𝓛.H} {ops : List Operand} {q : Post 𝓤 𝓛.H} {d : Place} {on : Body} where
  open 𝓛 use {H}

  pub withins : K → (𝓣 : Tables 𝓤 H) (mem : Memory → SProp 𝓤) (run : Routine → Fun 𝓤) → Within-known 𝓛 mem run 𝓣.C → (rows : Got Row40) (lent : Got usize)
      → Opds K 𝓛 (raw ((Within 𝓛 mem run).pre (to_within 𝓛 mem run lent)) ∷ Γ) E ops (lent.v ∷ [])
      → Step K 𝓛 Γ (lands 𝓣.C 𝓣.Λ E d (vint w64 (length (few rows.x lent.x))) on q) Γ (runs 𝓣.C 𝓣.Λ E (seq (call #within ops d) on) q)
  withins t 𝓣 mem run known rows lent os =
      step (λ k. calls_plain t (fm_of 𝓤 H 𝓛.laws 𝓣) within.ended (within.clauses 𝓛 mem run) known (to_within 𝓛 mem run lent) (goes_within 𝓛 mem run lent) (λ r. r ≡ min lent.x 40) (λ r e. id⊢ 𝓤 _) os
      (λ v r e ok. subst (λ (u : Val). Seq K 𝓛 Γ (lands 𝓣.C 𝓣.Λ E d u on q)) (sym (ap only ok.0 ∙ ap (vint w64) (e ∙ sym (many rows.x lent.x rows.ok.1.0.1)))) k))

  pub joins : K → (𝓣 : Tables 𝓤 H) (mem : Memory → SProp 𝓤) (run : Routine → Fun 𝓤) → Joined-known 𝓛 mem run 𝓣.C
      → (r : Answer) (zs : List Counters) (nv rv : Val) → Is N.the_row r (nv ∷ []) → Is Row40 zs (rv ∷ []) → Opds K 𝓛 (raw ((Joined 𝓛 mem run).pre (to_joined 𝓛 mem run r zs nv rv)) ∷ Γ) E ops (nv ∷ rv ∷ [])
      → ((v : Val) → Is F.the_row (record { answer = r; rows = zs }) (v ∷ []) → Seq K 𝓛 Γ (lands 𝓣.C 𝓣.Λ E d v on q)) → Seq K 𝓛 Γ (runs 𝓣.C 𝓣.Λ E (seq (call #joined ops d) on) q)
  joins t 𝓣 mem run known r zs nv rv n_ok r_ok os k =
      calls_plain t (fm_of 𝓤 H 𝓛.laws 𝓣) joined.ended (joined.clauses 𝓛 mem run) known (to_joined 𝓛 mem run r zs nv rv) (goes_joined 𝓛 mem run r zs nv rv n_ok r_ok) (λ h. (h.answer ≡ r) × (h.rows ≡ zs)) (λ h _. id⊢ 𝓤 _) os
      (λ v h e ok. k v (subst (λ (x : After). Is F.the_row x (v ∷ [])) (λ i. record { answer = e.0 i; rows = e.1 i }) ok))

module _ {M : Type 1} {𝓤 : Ura M} (𝓛 : Logic 𝓤) where
  pub number_typed : (n : Got usize) → Typed word n.v
  number_typed n = ((uint_Lawful 𝓛 w64).typed n.x (n.v ∷ []) n.ok).0

  pub after_owned : (x : After) (v : Val) → Is F.the_row x (v ∷ []) → ent 𝓤 (emp 𝓤) (sem 𝓛 ((F.the_row).own_val x (v ∷ [])))
  after_owned x v ok = LL.makes F.the_type F'.the_plain 𝓛 x (v ∷ []) ok

  pub after_typed : (x : After) (v : Val) → Is F.the_row x (v ∷ []) → Typed F'.mir v
  after_typed x v ok = ((LL.lawful F.the_type F'.the_laws 𝓛).typed x _ ok).0

module _ {M : Type 1} {𝓤 : Ura M} (𝓛 : Logic 𝓤) (𝓜 : Model 𝓤 𝓛.H) (𝓡 : Running 𝓤 𝓛.H 𝓜) (γ : Names) where
  open 𝓛 use {H}

  pub knows_within : Wired γ within_def.code → Within-known 𝓛 𝓜.mem 𝓡.run (tables 𝓤 H 𝓜 𝓡 γ).C
  knows_within w = cited 𝓤 H (Within 𝓛 𝓜.mem 𝓡.run) 𝓜 𝓡 γ #within (γ #within) refl (within_thm.met 𝓤 𝓛 𝓜 (in_names 𝓤 H 𝓜 𝓡 γ) w)

  pub knows_joined : Wired γ joined_def.code → Joined-known 𝓛 𝓜.mem 𝓡.run (tables 𝓤 H 𝓜 𝓡 γ).C
  knows_joined w = cited 𝓤 H (Joined 𝓛 𝓜.mem 𝓡.run) 𝓜 𝓡 γ #joined (γ #joined) refl (joined_thm.met 𝓤 𝓛 𝓜 (in_names 𝓤 H 𝓜 𝓡 γ) w)
