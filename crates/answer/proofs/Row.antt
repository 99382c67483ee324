-- What a walk needs of `Counters`, in one place: its machine value, that it has the struct's MIR type, and that what it owns is had for nothing.
use Rattle.std.proofs.Common.{◌≡◌, ℕ, ◌*◌, ◌^◌, ◌<◌, Bool, true, false, not, T as Holds, eqb, List, [], ◌∷◌, refl, subst, arith, eqb→eq}
use seplogic.Ra.Ura.{Ura}
use mir.Syntax.{ty_array, Body, skip, seq, assign, block, loop, cond, switch, exit, return, call, unreachable, call_v, lend_static}
use mir.Val.{Val, WT, has_ty}
use types.Logic.{Logic}
use denote.Laws.{Is, Makes, Tells}
use denote.Array.{Array, array_vals, Array-Tells, Array-Lawful, Array-Makes}
use denote.RattleType.{RattleType}
use denote.Struct.Laws as LL
use Rattle.answer.specs.declared.Counters.{Counters}
use Rattle.answer.proofs.Settling.{Fitting}
use Rattle.answer.specs.contracts.Counters as T
use Rattle.answer.proofs.Counters.TheLaws as T'

-- a record's machine value
abbrev pub val : Counters → Val
val = LL.val T.the_type T'.the_laws

abbrev pub vals : Counters → List Val
vals c = val c ∷ []

abbrev pub Ok : Counters → List Val → Type 0
Ok = Is T.the_row

pub tells : Tells T.the_row Ok vals
tells = LL.tells T.the_type T'.the_laws

module _ {M : Type 1} {𝓤 : Ura M} (𝓛 : Logic 𝓤) where
  pub typed : (c : Counters) (v : Val) → Ok c (v ∷ []) → Holds (has_ty T'.mir v) × WT v
  typed c v is = ((LL.lawful T.the_type T'.the_laws 𝓛).typed c (v ∷ []) is).0

  pub makes : Makes 𝓛 T.the_row Ok
  makes = LL.makes T.the_type T'.the_plain 𝓛

-- each of its counters is one of 32 bits
pub fitting : (c : Counters) → Ok c (vals c) → Fitting c
fitting c ok =
    let are = LL.owed T.the_type T'.the_laws c (vals c) ok in
    record {
      arrived = are.0.1;
      hec = are.1.0.1;
      ignored = are.1.1.0.1;
      misrouted = are.1.1.1.0.1;
      inletfull = are.1.1.1.1.0.1;
      sent = are.1.1.1.1.1.0.1;
      unheard = are.1.1.1.1.1.1.0.1;
      damaged = are.1.1.1.1.1.1.1.0.1;
      queued = are.1.1.1.1.1.1.1.1.0.1;
      full = are.1.1.1.1.1.1.1.1.1.0.1;
      clp = are.1.1.1.1.1.1.1.1.1.1.0.1;
      wide = are.1.1.1.1.1.1.1.1.1.1.1.0.1;
      taken = are.1.1.1.1.1.1.1.1.1.1.1.1.0.1;
    }

-- the byte offset of a row fits a usize
pub offset_fits : (n l : ℕ) → n < l → l * 52 < 2 ^ 63 → n * 52 < 2 ^ 64
offset_fits n l h room = omega arith

-- what a test `n != 0` leaves where it fails, and where it does not
pub is_zero : (n : ℕ) → Holds (not (not (eqb n 0))) → n ≡ 0
is_zero n h = eqb→eq n 0 (subst Holds (not_not (eqb n 0)) h)
  where
    not_not : (b : Bool) → not (not b) ≡ b
    not_not true = refl
    not_not false = refl

pub not_zero : (n : ℕ) → Holds (not (eqb n 0)) → n ≡ 0 → ⊥
not_zero n h e = subst (λ (k : ℕ). Holds (not (eqb k 0))) e h

-- a row's laws of an array of 40 of them
abbrev pub Row40 : RattleType
Row40 = Array T.the_row 40

abbrev pub vals40 : List Counters → List Val
vals40 = array_vals vals

pub tells40 : Tells Row40 (Is Row40) vals40
tells40 = Array-Tells T.the_row vals tells 40

module _ {M : Type 1} {𝓤 : Ura M} (𝓛 : Logic 𝓤) where
  pub typed40 : (ds : List Counters) (v : Val) → Is Row40 ds (v ∷ []) → Holds (has_ty (ty_array T'.mir 40) v) × WT v
  typed40 ds v is = ((Array-Lawful 𝓛 T.the_row (LL.lawful T.the_type T'.the_laws 𝓛) 40).typed ds (v ∷ []) is).0

  pub makes40 : Makes 𝓛 Row40 (Is Row40)
  makes40 = Array-Makes 𝓛 T.the_row (makes 𝓛) 40

-- what follows the first statement of a sequence: the generated MIR names no part of a turn
abbrev pub after : Body → Body
after skip = skip
after (seq a b) = b
after (assign p r) = skip
after (block b) = skip
after (loop b) = skip
after (cond c a b) = skip
after (switch c ms) = skip
after (exit n) = skip
after return = skip
after (call f xs d) = skip
after unreachable = skip
after (call_v f s xs d) = skip
after (lend_static p t c) = skip
