-- The arguments of an entry point, and what its walk says of them: types, values, tokens, locals. All of it computes from the list of the arguments.
--     Got, Lent, Whole    plain data with its machine value; a slice, where it lies and what it holds; the state likewise
--     Arg              an argument: plain data, the state, bytes that are read or written, the rows that are written or read, an array of them, the room for what rises at each unit
--     kinds, args, valss, tokens_of, machine     of a list of them, the lifetimes numbered on from j
--     numbered         the same for the covered function: the number of the rows in place of the rows
-- Assumes nothing, but for the laws `typed`, which take `Logic`.
use Rattle.std.specs.Prelude.{None, Option, Some}
use mathlib.Core.Path.{refl}
use Prim.Native.Nat.{ℕ, zero, suc}
use mathlib.Core.List.{List, [], ◌∷◌, ◌++◌, map}
use lib.ListN.{length}
use lib.Dec.{T as Holds}
use seplogic.Ra.Ura.{Ura}
use mir.Syntax.{Ty, named, erased, imm, mut, w8, w64, ty_int, ty_ref}
use mir.Val.{Val, vint, vptr, WT, has_ty}
use base.Fml.{Fml, Lft, Share, GName, fres}
use types.Logic.{Logic}
use contract.Lifetimes.{Lfts, Shares}
use denote.RattleType.{RattleType, Denots, Valss}
use denote.Laws.{Is, Tells}
use denote.Memory.{pointee}
use denote.Plain.{uint_Lawful}
use denote.Builtin.{u8, u16, usize}
use denote.Ref.{Bor, MutBor, MutRef, ShrRef}
use denote.Array.{Array}
use denote.Slice.{slice_ty, slice_val, MutSlice, ShrSlice, Room}
use denote.Struct.Laws as LL
use denote.Enum.Laws as EL
use Rattle.card.specs.declared.Card.{Card}
use Rattle.answer.specs.declared.Answer.{Answer}
use Rattle.answer.specs.declared.Outcome.{Outcome}
use Rattle.answer.specs.declared.Rises.{Rises}
use Rattle.answer.specs.declared.Single.{Single}
use Rattle.answer.specs.contracts.Counters as T
use Rattle.answer.proofs.Row as R
use Rattle.answer.specs.contracts.Outcome as D
use Rattle.answer.proofs.Outcome.TheLaws as D'
use Rattle.answer.specs.contracts.Answer as N
use Rattle.answer.specs.contracts.Single as Si
use Rattle.answer.proofs.Single.TheLaws as Si'
use Rattle.answer.specs.contracts.Rises as Rs
use Rattle.answer.proofs.Rises.TheLaws as Rs'
use Rattle.answer.proofs.Answer.TheLaws as N'
use Rattle.card.specs.contracts.Card as C
use Rattle.card.proofs.Card.TheLaws as C'

-- a plain argument: what it denotes, its machine value, and that the one is the other's
pub record Got (R : RattleType) : Type 0 where
  pub x : R.Denot
  pub v : Val
  pub ok : Is R x (v ∷ [])

-- a lent slice: where it lies, its ghost name, its elements
pub record Lent (R : RattleType) : Type 0 where
  pub b : ℕ
  pub o : ℕ
  pub γ : GName
  pub at : List R.Denot
  pub room : Room R (length at)

abbrev pub taken : {R : RattleType} (x : MutBor (List R.Denot)) → Room R (length x.now) → Lent R
taken x room = record { b = x.ref_ptr.0; o = x.ref_ptr.1; γ = x.ghost_name; at = x.now; room = room }

abbrev pub ref : {R : RattleType} → Lent R → MutBor (List R.Denot)
ref x = record { ref_ptr = (x.b, x.o); ghost_name = x.γ; now = x.at }

-- as a `&`, which has no name
abbrev pub shown : {R : RattleType} → Lent R → Bor (List R.Denot)
shown x = record { ref_ptr = (x.b, x.o); now = x.at }

abbrev pub val : {R : RattleType} → Lent R → Val
val x = slice_val (x.b, x.o) (length x.at)

-- the state: 2,048 bytes behind one pointer
abbrev pub State : RattleType
State = Array u8 2048

pub record Whole : Type 0 where
  pub b : ℕ
  pub o : ℕ
  pub γ : GName
  pub at : List ℕ

abbrev pub all_of : MutBor (List ℕ) → Whole
all_of x = record { b = x.ref_ptr.0; o = x.ref_ptr.1; γ = x.ghost_name; at = x.now }

abbrev pub whole_ref : Whole → MutBor (List ℕ)
whole_ref x = record { ref_ptr = (x.b, x.o); ghost_name = x.γ; now = x.at }

abbrev pub whole_shown : Whole → Bor (List ℕ)
whole_shown x = record { ref_ptr = (x.b, x.o); now = x.at }

abbrev pub finally_state : GName → List ℕ → Fml
finally_state γ ys = fres γ (State.coded.code ys)

abbrev pub bytes : Ty
bytes = pointee State.written

-- what rises at each unit: 32 sets of counters behind one pointer
abbrev pub Each : RattleType
Each = Array u16 32

abbrev pub sets : Ty
sets = pointee Each.written

-- types of locals: a byte, a number, a row; a slice of bytes that is shared, a slice that is lent, a reference to lend it again
abbrev pub byte : Ty
byte = ty_int w8

abbrev pub word : Ty
word = ty_int w64

abbrev pub row : Ty
row = pointee (T.the_row).written

abbrev pub shared : ℕ → Ty
shared j = slice_ty (ty_ref (named j) imm byte)

abbrev pub lent : ℕ → Ty → Ty
lent j τ = slice_ty (ty_ref (named j) mut τ)

abbrev pub again : Ty → Ty
again τ = ty_ref erased mut τ

-- ---- an argument; a slice has its lifetime and a share of that one's token
pub data Arg : Type 0 where
  the_card : Got C.the_row → Arg
  the_state : Lft → Share → Whole → Arg
  state_read : Lft → Share → Whole → Arg
  the_unit : Got u8 → Arg
  the_number : Got usize → Arg
  is_read : Lft → Share → Lent u8 → Arg
  is_written : Lft → Share → Lent u8 → Arg
  the_rows : Lft → Share → Lent T.the_row → Arg
  rows_read : Lft → Share → Lent T.the_row → Arg
  the_array : Got R.Row40 → Arg
  the_each : Lft → Share → Whole → Arg

-- the next lifetime's number
abbrev on : ℕ → Arg → ℕ
on j (the_card x) = j
on j (the_state κ q x) = suc j
on j (state_read κ q x) = suc j
on j (the_unit x) = j
on j (the_number x) = j
on j (is_read κ q x) = suc j
on j (is_written κ q x) = suc j
on j (the_rows κ q x) = suc j
on j (rows_read κ q x) = suc j
on j (the_array x) = j
on j (the_each κ q x) = suc j

abbrev type : ℕ → Arg → RattleType
type j (the_card x) = C.the_row
type j (the_state κ q x) = MutRef (named j) κ State
type j (state_read κ q x) = ShrRef (named j) κ State
type j (the_unit x) = u8
type j (the_number x) = usize
type j (is_read κ q x) = ShrSlice (named j) κ u8
type j (is_written κ q x) = MutSlice (named j) κ u8
type j (the_rows κ q x) = MutSlice (named j) κ T.the_row
type j (rows_read κ q x) = ShrSlice (named j) κ T.the_row
type j (the_array x) = R.Row40
type j (the_each κ q x) = MutRef (named j) κ Each

abbrev arg : (j : ℕ) (x : Arg) → (type j x).Denot
arg j (the_card x) = x.x
arg j (the_state κ q x) = whole_ref x
arg j (state_read κ q x) = whole_shown x
arg j (the_unit x) = x.x
arg j (the_number x) = x.x
arg j (is_read κ q x) = shown x
arg j (is_written κ q x) = ref x
arg j (the_rows κ q x) = ref x
arg j (rows_read κ q x) = shown x
arg j (the_array x) = x.x
arg j (the_each κ q x) = whole_ref x

abbrev value : Arg → Val
value (the_card x) = x.v
value (the_state κ q x) = vptr x.b x.o
value (state_read κ q x) = vptr x.b x.o
value (the_unit x) = x.v
value (the_number x) = x.v
value (is_read κ q x) = val x
value (is_written κ q x) = val x
value (the_rows κ q x) = val x
value (rows_read κ q x) = val x
value (the_array x) = x.v
value (the_each κ q x) = vptr x.b x.o

abbrev token : Arg → List (Lft × Share)
token (the_card x) = []
token (the_state κ q x) = (κ, q) ∷ []
token (state_read κ q x) = (κ, q) ∷ []
token (the_unit x) = []
token (the_number x) = []
token (is_read κ q x) = (κ, q) ∷ []
token (is_written κ q x) = (κ, q) ∷ []
token (the_rows κ q x) = (κ, q) ∷ []
token (rows_read κ q x) = (κ, q) ∷ []
token (the_array x) = []
token (the_each κ q x) = (κ, q) ∷ []

abbrev pub kinds : ℕ → List Arg → List RattleType
kinds j [] = []
kinds j (x ∷ xs) = type j x ∷ kinds (on j x) xs

abbrev pub args : (j : ℕ) (xs : List Arg) → Denots (kinds j xs)
args j [] = tt
args j (x ∷ xs) = (arg j x, args (on j x) xs)

abbrev pub valss : (j : ℕ) (xs : List Arg) → Valss (kinds j xs)
valss j [] = tt
valss j (x ∷ xs) = (value x ∷ [], valss (on j x) xs)

abbrev pub machine : List Arg → List Val
machine xs = map value xs

abbrev pub tokens_of : List Arg → List (Lft × Share)
tokens_of [] = []
tokens_of (x ∷ xs) = token x ++ tokens_of xs

abbrev pub lifetimes : (ts : List (Lft × Share)) → Lfts (length ts)
lifetimes [] = tt
lifetimes (t ∷ ts) = (t.0, lifetimes ts)

abbrev pub shares : (ts : List (Lft × Share)) → Shares (length ts)
shares [] = tt
shares (t ∷ ts) = (t.1, shares ts)

-- the number of the rows, and it in their place
abbrev pub many : Lent T.the_row → Got usize
many x = record { x = length x.at; v = vint w64 (length x.at); ok = (refl, x.room.0) }

abbrev number : Arg → Arg
number (the_card x) = the_card x
number (the_state κ q x) = the_state κ q x
number (state_read κ q x) = state_read κ q x
number (the_unit x) = the_unit x
number (the_number x) = the_number x
number (is_read κ q x) = is_read κ q x
number (is_written κ q x) = is_written κ q x
number (the_rows κ q x) = the_number (many x)
number (rows_read κ q x) = the_number (many x)
number (the_array x) = the_array x
number (the_each κ q x) = the_each κ q x

abbrev pub numbered : List Arg → List Arg
numbered xs = map number xs

-- ---- locals: a type, a place, a value
abbrev pub Cell : Type 0
Cell = Ty × (ℕ × Val)

abbrev pub names : List Cell → List (Ty × ℕ)
names [] = []
names (c ∷ cs) = (c.0, c.1.0) ∷ names cs

abbrev pub cells : List (Ty × ℕ) → List Val → List Cell
cells [] vs = []
cells (e ∷ E) [] = []
cells (e ∷ E) (v ∷ vs) = (e.0, (e.1, v)) ∷ cells E vs

-- at the beginning: the result's, the arguments', and n others
abbrev pub passed : List Arg → ℕ → List (Option Val)
passed [] zero = []
passed [] (suc n) = None ∷ passed [] n
passed (x ∷ xs) n = Some (value x) ∷ passed xs n

-- ---- the plain types: how their machine values are spelled, and that those are of the MIR's type
abbrev pub card_vals : Card → List Val
card_vals = EL.vals C.the_type C'.the_laws

pub card_tells : Tells C.the_row (Is C.the_row) card_vals
card_tells = EL.tells C.the_type C'.the_laws

abbrev pub Typed : Ty → Val → Type 0
Typed τ v = Holds (has_ty τ v) × WT v

module _ {M : Type 1} {𝓤 : Ura M} (𝓛 : Logic 𝓤) where
  pub card_typed : (x : Card) (v : Val) → Is C.the_row x (v ∷ []) → Typed C'.mir v
  card_typed x v ok = ((EL.lawful C.the_type C'.the_laws 𝓛 tt).typed x (v ∷ []) ok).0

  pub byte_typed : (x : ℕ) (v : Val) → Is u8 x (v ∷ []) → Typed byte v
  byte_typed x v ok = ((uint_Lawful 𝓛 w8).typed x (v ∷ []) ok).0

  pub done_typed : (x : Outcome) (v : Val) → Is D.the_row x (v ∷ []) → Typed D'.mir v
  done_typed x v ok = ((LL.lawful D.the_type D'.the_laws 𝓛).typed x (v ∷ []) ok).0

  pub single_typed : (x : Single) (v : Val) → Is Si.the_row x (v ∷ []) → Typed Si'.mir v
  single_typed x v ok = ((LL.lawful Si.the_type Si'.the_laws 𝓛).typed x (v ∷ []) ok).0

  pub rises_typed : (x : Rises) (v : Val) → Is Rs.the_row x (v ∷ []) → Typed Rs'.mir v
  rises_typed x v ok = ((LL.lawful Rs.the_type Rs'.the_laws 𝓛).typed x (v ∷ []) ok).0

  pub answer_typed : (x : Answer) (v : Val) → Is N.the_row x (v ∷ []) → Typed N'.mir v
  answer_typed x v ok = ((EL.lawful N.the_type N'.the_laws 𝓛 tt).typed x (v ∷ []) ok).0
