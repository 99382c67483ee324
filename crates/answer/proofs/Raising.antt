-- The call of `answer::raise`: the rows go to it with the sets that rise, shared; both tokens and the last rows come back. Whoever lends both can use it.
-- Assumes `Logic`, and that the table of calls is monotone under a frame.
use Rattle.std.proofs.Common.{◌≡◌, ℕ, ◌+◌, ◌^◌, ◌<◌, ◌≤◌, List, [], ◌∷◌, length, sym, refl, ap, subst, w64}
use seplogic.Ra.Ura.{Ura}
use mir.Syntax.{Place, Opd as Operand, Body, named, seq, call}
use mir.Val.{Val, vunit, vint}
use base.Logic.{SProp, ent, sep, id⊢}
use base.Fml.{Fml, Lft, Share, GName, ftrue, flft}
use prog.Memory.{Memory}
use prog.Routine.{Routine}
use prog.Wp.{Env, Calls, Loops}
use types.Logic.{Logic, sem}
use sound.WpLaws.{FmC}
use contract.Monad.{Fun}
use types.Kit.{Item, ‵, raw, ◌⊛◌, Post, runs, lands, Seq, ◌$◌, ◌∵◌, !, qed, use1, move, split, join, drop, fsplit, fjoin, feq_l, frame, done}
use types.Run.{Opds}
use denote.Laws.{Is, shows}
use denote.Plain.{uint_Makes}
use denote.Slice.{slice_val, MutSlice, ShrSlice, finally}
use denote.Steps.{only, owned, facts, heard, nothing}
use denote.Builtin.{unit, usize, u16}
use denote.Triple.Statement.{Contract, Triple}
use denote.Triple.Walked.{says}
use Rattle.answer.specs.declared.Counters.{Counters}
use Rattle.answer.specs.Counting.{raised_from}
use Rattle.answer.proofs.Calls.{Of, calls_of}
use Rattle.answer.specs.contracts.Counters as T
use Rattle.answer.specs.contracts.raise as raise
use Rattle.answer.proofs.raise.Symbol.{name as #raise}

-- what the rows ys own, lent for κ
abbrev pub Rows : Lft → ℕ → ℕ → GName → List Counters → Fml
Rows κ b o γ ys = (MutSlice (named 0) κ T.the_row).own_val (record { ref_ptr = (b, o); ghost_name = γ; now = ys }) (slice_val (b, o) (length ys) ∷ [])

-- what the sets es own, shared for κ
abbrev pub Sets : Lft → ℕ → ℕ → List ℕ → Fml
Sets κ b o es = (ShrSlice (named 1) κ u16).own_val (record { ref_ptr = (b, o); now = es }) (slice_val (b, o) (length es) ∷ [])

module _ {M : Type 1} {𝓤 : Ura M} (𝓛 : Logic 𝓤) (mem : Memory → SProp 𝓤) (run : Routine → Fun 𝓤) where
  open 𝓛 use {A}

  abbrev pub Raise : Contract 𝓤
  Raise = Of 𝓛 raise.ended (raise.clauses 𝓛 mem run)

  abbrev pub to_raise : Lft → Lft → Share → Share → ℕ → ℕ → GName → List Counters → ℕ → ℕ → ℕ → List ℕ → ℕ → Raise.Ghost
  to_raise κ κ₁ s s₁ b o γ ys i b₁ o₁ es n =
      (((κ, (κ₁, tt)), (s, (s₁, tt)), tt, (record { ref_ptr = (b, o); ghost_name = γ; now = ys }, (i, (record { ref_ptr = (b₁, o₁); now = es }, (n, tt)))), (slice_val (b, o) (length ys) ∷ [], (vint w64 i ∷ [], (slice_val (b₁, o₁) (length es) ∷ [], (vint w64 n ∷ [], tt))))), tt)

  goes_raise : (κ κ₁ : Lft) (s s₁ : Share) (b o : ℕ) (γ : GName) (ys : List Counters) (i b₁ o₁ : ℕ) (es : List ℕ) (n : ℕ) → i < 2 ^ 64 → n < 2 ^ 64 → (n ≤ length es) × (i + n ≤ length ys)
      → ent 𝓤 (sep 𝓤 (sep 𝓤 (A.lft κ s) (sem 𝓛 (Rows κ b o γ ys))) (sep 𝓤 (A.lft κ₁ s₁) (sem 𝓛 (Sets κ₁ b₁ o₁ es)))) (Raise.pre (to_raise κ κ₁ s s₁ b o γ ys i b₁ o₁ es n))
  goes_raise κ κ₁ s s₁ b o γ ys i b₁ o₁ es n i_fits n_fits fits =
      qed 𝓛 ((‵ (flft κ s) ⊛ ‵ (Rows κ b o γ ys)) ∷ (‵ (flft κ₁ s₁) ⊛ ‵ (Sets κ₁ b₁ o₁ es)) ∷ []) ∵ says ! fits $ split ! $ move ! (2 ∷ []) $ split ! $
      nothing ! $ move ! (1 ∷ 0 ∷ []) $ join ! $ move ! (2 ∷ 0 ∷ []) $ join ! $ frame ! $
      nothing ! $ owned ! usize (Is usize) (uint_Makes 𝓛 w64) n _ (refl, n_fits) $ fjoin ! $ move ! (1 ∷ 0 ∷ []) $ fjoin ! $
      owned ! usize (Is usize) (uint_Makes 𝓛 w64) i _ (refl, i_fits) $ fjoin ! $ move ! (1 ∷ 0 ∷ []) $ fjoin ! $ done !

module _ {M : Type 1} {𝓤 : Ura M} {𝓛 : Logic 𝓤} {K : Type 0} {Γ : List (Item 𝓤)} {E : Env 𝓤 𝓛.H} {C : Calls 𝓤 𝓛.H} {xs : List Operand} {Λ : Loops 𝓤 𝓛.H} {q : Post 𝓤 𝓛.H} {p : Place} {rest : Body} where
  open 𝓛 use {H}

  pub raises : K → FmC 𝓤 H 𝓛.laws C → (mem : Memory → SProp 𝓤) (run : Routine → Fun 𝓤) → Triple 𝓤 (C #raise) (Raise 𝓛 mem run)
      → (κ κ₁ : Lft) (s s₁ : Share) (b o : ℕ) (γ : GName) (ys : List Counters) (i b₁ o₁ : ℕ) (es : List ℕ) (n : ℕ) → i < 2 ^ 64 → n < 2 ^ 64 → (n ≤ length es) × (i + n ≤ length ys)
      → Opds K 𝓛 (raw ((Raise 𝓛 mem run).pre (to_raise 𝓛 mem run κ κ₁ s s₁ b o γ ys i b₁ o₁ es n)) ∷ Γ) E xs (slice_val (b, o) (length ys) ∷ vint w64 i ∷ slice_val (b₁, o₁) (length es) ∷ vint w64 n ∷ [])
      → ((zs : List Counters) → zs ≡ raised_from ys i es n → length zs ≡ length ys → Seq K 𝓛 (‵ (flft κ₁ s₁) ∷ ‵ (flft κ s) ∷ ‵ (finally T.the_row γ zs) ∷ Γ) (lands C Λ E p vunit rest q))
      → Seq K 𝓛 (‵ (flft κ₁ s₁) ∷ ‵ (Sets κ₁ b₁ o₁ es) ∷ ‵ (flft κ s) ∷ ‵ (Rows κ b o γ ys) ∷ Γ) (runs C Λ E (seq (call #raise xs p) rest) q)
  raises t fm mem run known κ κ₁ s s₁ b o γ ys i b₁ o₁ es n i_fits n_fits fits os k =
      join t $ move t (1 ∷ 2 ∷ 0 ∷ []) $ join t $ join t $ calls_of t fm raise.ended (raise.clauses 𝓛 mem run) known (to_raise 𝓛 mem run κ κ₁ s s₁ b o γ ys i b₁ o₁ es n) (goes_raise 𝓛 mem run κ κ₁ s s₁ b o γ ys i b₁ o₁ es n i_fits n_fits fits) os (λ v u ws.
      move t (3 ∷ []) $ heard t (ws.0 ≡ raised_from ys i es n) (λ e. move t (1 ∷ []) $ facts t unit (Is unit) (shows 𝓛 unit) u (v ∷ []) (λ u_ok.
      move t (1 ∷ []) $ fsplit t $ fsplit t $ fsplit t $ move t (1 ∷ []) $ feq_l t (λ m. move t (1 ∷ []) $ drop t $ move t (1 ∷ []) $ drop t $
      move t (1 ∷ []) $ use1 𝓛 (‵ (flft κ s) ⊛ (‵ (flft κ₁ s₁) ⊛ ‵ ftrue)) (id⊢ 𝓤 _) $ split t $ move t (1 ∷ []) $ split t $ move t (1 ∷ []) $ drop t $
      subst (λ (h : Val). Seq K 𝓛 (‵ (flft κ₁ s₁) ∷ ‵ (flft κ s) ∷ ‵ (finally T.the_row γ ws.0) ∷ Γ) (lands C Λ E p h rest q)) (sym (ap only u_ok)) (k ws.0 e m)))))
