-- What the walks of the entry points share: parameters taken apart and put together, and the calls that end each: what rises, `answer::settle`, what is given back; of an event at one unit `answer::raise_one`, what is given back.
--     parted, packed   from what all own together to what each owns, the last first, and back.        untied, tied     likewise of tokens
--     living, lived    tokens one by one, as a walk has them, to what a signature asks, and back: by induction, since the two compared as they stand cost twice as much with each token more
--     told             what a covered function leaves.        freed, places     the end: locals are freed
--     risen, replied       the two parts of what is done.        settles     the rows go to `settle` with what rises; the token and the last rows come back
--     raises, answers      the same two ends of an event at one unit: the rows go to `raise_one` with what is done, whole
-- Assumes `Logic`, and that the table of calls is monotone under a frame.
use Rattle.std.specs.Prelude.{None, Option, Some}
use mathlib.Core.Path.{◌≡◌, refl, sym, ap, subst}
use Prim.Native.Nat.{ℕ, zero, suc, ◌+◌, ◌≤◌}
use mathlib.Core.List.{List, [], ◌∷◌}
use lib.ListN.{length}
use seplogic.Ra.Ura.{Ura}
use base.Fraction.{full_share}
use mir.Syntax.{Ty, Place, Opd as Operand, Body, seq, call}
use mir.Val.{Val, vunit}
use base.Logic.{SProp, ent, sep, emp, id⊢, mono_l, mono_r, via, emp∗, comm∗}
use base.Fml.{Fml, Lft, Share, GName, ftrue, fsep, flft, fat, froom, fdies}
use prog.Memory.{Memory}
use prog.Routine.{Routine}
use prog.Wp.{Env, Calls, Loops}
use types.Logic.{Logic, sem}
use sound.WpLaws.{FmC}
use contract.Lifetimes.{toks}
use contract.Monad.{Fun, fact, fact_i}
use types.Kit.{Item, ‵, raw, mean, frees, ◌⊛◌, Goal, Post, runs, lands, Seq, Step, step, ◌$◌, ◌∵◌, !, qed, use1, move, split, join, drop, fsplit, fjoin, feq_l, frame, done}
use types.Run.{Opds, forget, free1, free0}
use denote.RattleType.{RattleType, Denots, Valss}
use denote.Laws.{Is, shows}
use denote.Slice.{slice_val, finally}
use denote.Steps.{only, owned, facts, heard, nothing}
use denote.Builtin as builtin
use denote.Struct.Laws as LL
use denote.Enum.Laws as EL
use denote.Triple.Statement.{Contract, Triple}
use denote.Triple.Walked.{says}
use Rattle.answer.specs.declared.Counters.{Counters}
use Rattle.answer.specs.Counting.{settled}
use Rattle.answer.specs.declared.Outcome.{Outcome}
use Rattle.answer.specs.declared.Answer.{Answer}
use Rattle.answer.specs.declared.Rises.{Rises}
use Rattle.answer.specs.declared.Single.{Single}
use Rattle.answer.specs.Answers.{outcome_by}
use Rattle.answer.proofs.Calls.{Of, calls_of, calls_plain}
use Rattle.entry.proofs.Arguments.{lifetimes, shares, Cell, names}
use Rattle.answer.specs.contracts.Counters as T
use Rattle.answer.specs.contracts.Outcome as D
use Rattle.answer.proofs.Outcome.TheLaws as D'
use Rattle.answer.specs.contracts.Answer as N
use Rattle.answer.proofs.Answer.TheLaws as N'
use Rattle.answer.specs.contracts.Single as O
use Rattle.answer.proofs.Single.TheLaws as O'
use Rattle.answer.specs.contracts.Rises as S
use Rattle.answer.proofs.Rises.TheLaws as S'
use Rattle.answer.specs.contracts.rises_of as rises
use Rattle.answer.proofs.rises_of.Symbol.{name as #rises}
use Rattle.answer.specs.contracts.answer_of as reply
use Rattle.answer.proofs.answer_of.Symbol.{name as #reply}
use Rattle.answer.specs.contracts.settle as settle
use Rattle.answer.proofs.settle.Symbol.{name as #settle}
use Rattle.answer.specs.contracts.answer_by as answer
use Rattle.answer.proofs.answer_by.Symbol.{name as #answer}
use Rattle.answer.proofs.Raising.{Rows}
use Rattle.answer.specs.contracts.raise_one as raise
use Rattle.answer.proofs.raise_one.Symbol.{name as #raise}

-- ---- what the parameters own, one by one
abbrev pub each : (Ts : List RattleType) → Denots Ts → Valss Ts → List Fml
each [] a vss = []
each (T ∷ Ts) a vss = T.own_val a.0 vss.0 ∷ each Ts a.1 vss.1

abbrev pub all : List Fml → Fml
all [] = ftrue
all (P ∷ Ps) = fsep P (all Ps)

module _ {M : Type 1} {𝓤 : Ura M} where
  abbrev pub loose : List Fml → List (Item 𝓤) → List (Item 𝓤)
  loose [] Γ = Γ
  loose (P ∷ Ps) Γ = loose Ps (‵ P ∷ Γ)

  -- locals, the first first, each with its value; the last first, each with its value or none
  abbrev pub full : List Cell → List (Item 𝓤) → List (Item 𝓤)
  full [] Γ = Γ
  full (c ∷ cs) Γ = ‵ (fat full_share c.0 c.1.0 0 c.1.1) ∷ ‵ (fdies c.0 c.1.0) ∷ full cs Γ

  abbrev pub held : List (Ty × ℕ) → List (Option Val) → List (Item 𝓤) → List (Item 𝓤)
  held [] vs Γ = Γ
  held (e ∷ E) [] Γ = Γ
  held (e ∷ E) (None ∷ vs) Γ = held E vs (‵ (froom e.0 e.1 0) ∷ ‵ (fdies e.0 e.1) ∷ Γ)
  held (e ∷ E) (Some v ∷ vs) Γ = held E vs (‵ (fat full_share e.0 e.1 0 v) ∷ ‵ (fdies e.0 e.1) ∷ Γ)

  abbrev pub tokens : List (Lft × Share) → Item 𝓤
  tokens [] = ‵ ftrue
  tokens (t ∷ ts) = ‵ (flft t.0 t.1) ⊛ tokens ts

  abbrev pub loosed : List (Lft × Share) → List (Item 𝓤) → List (Item 𝓤)
  loosed [] Γ = Γ
  loosed (t ∷ ts) Γ = loosed ts (‵ (flft t.0 t.1) ∷ Γ)

module _ {M : Type 1} {𝓤 : Ura M} (𝓛 : Logic 𝓤) where
  open 𝓛 use {A}

  pub living : (ts : List (Lft × Share)) → ent 𝓤 (mean 𝓛 (tokens ts)) (toks 𝓛 (length ts) (lifetimes ts) (shares ts))
  living [] = id⊢ 𝓤 _
  living (t ∷ ts) = mono_r 𝓤 (A.lft t.0 t.1) (living ts)

  pub lived : (ts : List (Lft × Share)) → ent 𝓤 (toks 𝓛 (length ts) (lifetimes ts) (shares ts)) (mean 𝓛 (tokens ts))
  lived [] = id⊢ 𝓤 _
  lived (t ∷ ts) = mono_r 𝓤 (A.lft t.0 t.1) (lived ts)

module _ {M : Type 1} {𝓤 : Ura M} {𝓛 : Logic 𝓤} {K : Type 0} where
  open 𝓛 use {H}

  pub parted : K → (Ps : List Fml) {Γ : List (Item 𝓤)} {G : Goal 𝓤 H} → Step K 𝓛 (loose Ps Γ) G (‵ (all Ps) ∷ Γ) G
  parted t [] = drop t
  parted t (P ∷ Ps) = step (λ s. fsplit t $ move t (1 ∷ []) $ parted t Ps $ s)

  pub packed : K → (Ps : List Fml) {Γ : List (Item 𝓤)} {G : Goal 𝓤 H} → Step K 𝓛 (‵ (all Ps) ∷ Γ) G (loose Ps Γ) G
  packed t [] = nothing t
  packed t (P ∷ Ps) = step (λ s. packed t Ps $ move t (1 ∷ 0 ∷ []) $ fjoin t $ s)

  pub untied : K → (ts : List (Lft × Share)) {Γ : List (Item 𝓤)} {G : Goal 𝓤 H} → Step K 𝓛 (loosed ts Γ) G (tokens ts ∷ Γ) G
  untied t [] = drop t
  untied t (_ ∷ ts) = step (λ s. split t $ move t (1 ∷ []) $ untied t ts $ s)

  pub tied : K → (ts : List (Lft × Share)) {Γ : List (Item 𝓤)} {G : Goal 𝓤 H} → Step K 𝓛 (tokens ts ∷ Γ) G (loosed ts Γ) G
  tied t [] = nothing t
  tied t (_ ∷ ts) = step (λ s. tied t ts $ move t (1 ∷ 0 ∷ []) $ join t $ s)

  -- locals that hold values are freed
  pub freed : K → (cs : List Cell) {Γ : List (Item 𝓤)} {G : Goal 𝓤 H} → Step K 𝓛 Γ G (full cs Γ) (frees (names cs) G)
  freed t [] = free0 t
  freed t (_ ∷ cs) = step (λ s. forget t 0 refl $ free1 t $ freed t cs $ s)

  -- what a call of a covered function gives: two facts of its result and of the last values, the result's relation, the tokens
  pub told : K → (ts : List (Lft × Share)) (R : RattleType) (r : R.Denot) (v : Val) (φ ψ : Type 0) {P Q : SProp 𝓤} {l : Item 𝓤} {Γ : List (Item 𝓤)} {G : Goal 𝓤 H}
      → ent 𝓤 P (mean 𝓛 (tokens ts)) → ent 𝓤 Q (sep 𝓤 (fact 𝓤 φ) (fact 𝓤 ψ)) → (φ → ψ → Is R r (v ∷ []) → Seq K 𝓛 (loosed ts (l ∷ Γ)) G)
      → Seq K 𝓛 (raw P ∷ ‵ (R.own_val r (v ∷ [])) ∷ l ∷ raw Q ∷ Γ) G
  told t ts R r v φ ψ back said k =
      move t (3 ∷ []) $ use1 𝓛 (raw (fact 𝓤 φ) ⊛ raw (fact 𝓤 ψ)) said $ split t $ heard t φ (λ f. heard t ψ (λ g.
      move t (1 ∷ []) $ facts t R (Is R) (shows 𝓛 R) r (v ∷ []) (λ r_ok. use1 𝓛 (tokens ts) back $ untied t ts $ k f g r_ok)))

-- what a function without `requires` asks
pub unasked : {M : Type 1} (𝓤 : Ura M) (P : SProp 𝓤) → ent 𝓤 P (sep 𝓤 P (emp 𝓤))
unasked 𝓤 P = via 𝓤 (sep 𝓤 (emp 𝓤) P) (emp∗ 𝓤 P) (comm∗ 𝓤 (emp 𝓤) P)

-- and one with a fact for its `requires`
pub asking : {M : Type 1} (𝓤 : Ura M) (φ : Type 0) → φ → (P : SProp 𝓤) → ent 𝓤 P (sep 𝓤 P (fact 𝓤 φ))
asking 𝓤 φ x P = via 𝓤 (sep 𝓤 (emp 𝓤) P) (emp∗ 𝓤 P) (via 𝓤 (sep 𝓤 (fact 𝓤 φ) P) (mono_l 𝓤 P (fact_i 𝓤 φ (emp 𝓤) x)) (comm∗ 𝓤 (fact 𝓤 φ) P))

-- the places of n locals behind k others, the first local first
abbrev pub places : ℕ → ℕ → List ℕ
places k zero = []
places k (suc n) = (k + n + n) ∷ (k + n + n + 1) ∷ places k n

module _ {M : Type 1} {𝓤 : Ura M} {𝓛 : Logic 𝓤} {K : Type 0} {Γ : List (Item 𝓤)} {G : Goal 𝓤 𝓛.H} where
  pub answer_owned : K → (x : Answer) (v : Val) → Is N.the_row x (v ∷ []) → Step K 𝓛 (‵ ((N.the_row).own_val x (v ∷ [])) ∷ Γ) G Γ G
  answer_owned t x v ok = owned t N.the_row (Is N.the_row) (EL.makes N.the_type N'.the_plain 𝓛) x (v ∷ []) ok

-- the contracts of the five
module _ {M : Type 1} {𝓤 : Ura M} (𝓛 : Logic 𝓤) (mem : Memory → SProp 𝓤) (run : Routine → Fun 𝓤) where
  open 𝓛 use {A}

  abbrev pub Risen : Contract 𝓤
  Risen = Of 𝓛 rises.ended (rises.clauses 𝓛 mem run)

  abbrev pub Replied : Contract 𝓤
  Replied = Of 𝓛 reply.ended (reply.clauses 𝓛 mem run)

  abbrev pub Settle : Contract 𝓤
  Settle = Of 𝓛 settle.ended (settle.clauses 𝓛 mem run)

  abbrev pub Answered : Contract 𝓤
  Answered = Of 𝓛 answer.ended (answer.clauses 𝓛 mem run)

  abbrev pub Raise : Contract 𝓤
  Raise = Of 𝓛 raise.ended (raise.clauses 𝓛 mem run)

  -- what the triples bind outside: what is done with its machine value; the rows ys lent for κ, and what rises with its own
  abbrev pub to_risen : Outcome → Val → Risen.Ghost
  to_risen d dv = ((tt, tt, tt, (d, tt), (dv ∷ [], tt)), tt)

  abbrev pub to_replied : Outcome → Val → Replied.Ghost
  to_replied d dv = ((tt, tt, tt, (d, tt), (dv ∷ [], tt)), tt)

  abbrev pub to_settle : Lft → Share → ℕ → ℕ → GName → List Counters → Rises → Val → Settle.Ghost
  to_settle κ s b o γ ys r rv = (((κ, tt), (s, tt), tt, (record { ref_ptr = (b, o); ghost_name = γ; now = ys }, (r, tt)), (slice_val (b, o) (length ys) ∷ [], (rv ∷ [], tt))), tt)

  abbrev pub to_answered : Single → Val → Answered.Ghost
  to_answered d dv = ((tt, tt, tt, (d, tt), (dv ∷ [], tt)), tt)

  abbrev pub to_raise : Lft → Share → ℕ → ℕ → GName → List Counters → Single → Val → Raise.Ghost
  to_raise κ s b o γ ys d dv = (((κ, tt), (s, tt), tt, (record { ref_ptr = (b, o); ghost_name = γ; now = ys }, (d, tt)), (slice_val (b, o) (length ys) ∷ [], (dv ∷ [], tt))), tt)

  goes_risen : (d : Outcome) (dv : Val) → Is D.the_row d (dv ∷ []) → ent 𝓤 (emp 𝓤) (Risen.pre (to_risen d dv))
  goes_risen d dv d_ok = qed 𝓛 [] ∵ nothing ! $ owned ! D.the_row (Is D.the_row) (LL.makes D.the_type D'.the_plain 𝓛) d _ d_ok $ fjoin ! $ nothing ! $ join ! $ frame ! $ done !

  goes_replied : (d : Outcome) (dv : Val) → Is D.the_row d (dv ∷ []) → ent 𝓤 (emp 𝓤) (Replied.pre (to_replied d dv))
  goes_replied d dv d_ok = qed 𝓛 [] ∵ nothing ! $ owned ! D.the_row (Is D.the_row) (LL.makes D.the_type D'.the_plain 𝓛) d _ d_ok $ fjoin ! $ nothing ! $ join ! $ frame ! $ done !

  goes_settle : (κ : Lft) (s : Share) (b o : ℕ) (γ : GName) (ys : List Counters) (r : Rises) (rv : Val) → Is S.the_row r (rv ∷ []) → (r.to ≤ 32) × (r.to ≤ length ys)
      → ent 𝓤 (sep 𝓤 (A.lft κ s) (sem 𝓛 (Rows κ b o γ ys))) (Settle.pre (to_settle κ s b o γ ys r rv))
  goes_settle κ s b o γ ys r rv r_ok fits =
      qed 𝓛 (‵ (flft κ s) ∷ ‵ (Rows κ b o γ ys) ∷ []) ∵ says ! fits $ nothing ! $ move ! (1 ∷ 0 ∷ []) $ join ! $ frame ! $
      nothing ! $ owned ! S.the_row (Is S.the_row) (LL.makes S.the_type S'.the_plain 𝓛) r _ r_ok $ fjoin ! $ move ! (1 ∷ 0 ∷ []) $ fjoin ! $ done !

  goes_answered : (d : Single) (dv : Val) → Is O.the_row d (dv ∷ []) → ent 𝓤 (emp 𝓤) (Answered.pre (to_answered d dv))
  goes_answered d dv d_ok = qed 𝓛 [] ∵ nothing ! $ owned ! O.the_row (Is O.the_row) (LL.makes O.the_type O'.the_plain 𝓛) d _ d_ok $ fjoin ! $ nothing ! $ join ! $ frame ! $ done !

  goes_raise : (κ : Lft) (s : Share) (b o : ℕ) (γ : GName) (ys : List Counters) (d : Single) (dv : Val) → Is O.the_row d (dv ∷ []) → ((outcome_by d).rises.to ≤ 32) × ((outcome_by d).rises.to ≤ length ys)
      → ent 𝓤 (sep 𝓤 (A.lft κ s) (sem 𝓛 (Rows κ b o γ ys))) (Raise.pre (to_raise κ s b o γ ys d dv))
  goes_raise κ s b o γ ys d dv d_ok fits =
      qed 𝓛 (‵ (flft κ s) ∷ ‵ (Rows κ b o γ ys) ∷ []) ∵ says ! fits $ nothing ! $ move ! (1 ∷ 0 ∷ []) $ join ! $ frame ! $
      nothing ! $ owned ! O.the_row (Is O.the_row) (LL.makes O.the_type O'.the_plain 𝓛) d _ d_ok $ fjoin ! $ move ! (1 ∷ 0 ∷ []) $ fjoin ! $ done !

module _ {M : Type 1} {𝓤 : Ura M} {𝓛 : Logic 𝓤} {K : Type 0} {Γ : List (Item 𝓤)} {E : Env 𝓤 𝓛.H} {C : Calls 𝓤 𝓛.H} {xs : List Operand} {Λ : Loops 𝓤 𝓛.H} {q : Post 𝓤 𝓛.H} {p : Place} {rest : Body} where
  open 𝓛 use {H}

  pub risen : K → FmC 𝓤 H 𝓛.laws C → (mem : Memory → SProp 𝓤) (run : Routine → Fun 𝓤) → Triple 𝓤 (C #rises) (Risen 𝓛 mem run) → (d : Outcome) (dv : Val) → Is D.the_row d (dv ∷ [])
      → Opds K 𝓛 (raw ((Risen 𝓛 mem run).pre (to_risen 𝓛 mem run d dv)) ∷ Γ) E xs (dv ∷ [])
      → ((rv : Val) → Is S.the_row d.rises (rv ∷ []) → Seq K 𝓛 Γ (lands C Λ E p rv rest q)) → Seq K 𝓛 Γ (runs C Λ E (seq (call #rises xs p) rest) q)
  risen t fm mem run known d dv d_ok os k =
      calls_plain t fm rises.ended (rises.clauses 𝓛 mem run) known (to_risen 𝓛 mem run d dv) (goes_risen 𝓛 mem run d dv d_ok) (λ r. r ≡ d.rises) (λ r e. id⊢ 𝓤 _) os
      (λ rv r e r_ok. k rv (subst (λ (h : Rises). Is S.the_row h (rv ∷ [])) e r_ok))

  pub replied : K → FmC 𝓤 H 𝓛.laws C → (mem : Memory → SProp 𝓤) (run : Routine → Fun 𝓤) → Triple 𝓤 (C #reply) (Replied 𝓛 mem run) → (d : Outcome) (dv : Val) → Is D.the_row d (dv ∷ [])
      → Opds K 𝓛 (raw ((Replied 𝓛 mem run).pre (to_replied 𝓛 mem run d dv)) ∷ Γ) E xs (dv ∷ [])
      → ((v : Val) → Is N.the_row d.answer (v ∷ []) → Seq K 𝓛 Γ (lands C Λ E p v rest q)) → Seq K 𝓛 Γ (runs C Λ E (seq (call #reply xs p) rest) q)
  replied t fm mem run known d dv d_ok os k =
      calls_plain t fm reply.ended (reply.clauses 𝓛 mem run) known (to_replied 𝓛 mem run d dv) (goes_replied 𝓛 mem run d dv d_ok) (λ r. r ≡ d.answer) (λ r e. id⊢ 𝓤 _) os
      (λ v r e r_ok. k v (subst (λ (h : Answer). Is N.the_row h (v ∷ [])) e r_ok))

  pub settles : K → FmC 𝓤 H 𝓛.laws C → (mem : Memory → SProp 𝓤) (run : Routine → Fun 𝓤) → Triple 𝓤 (C #settle) (Settle 𝓛 mem run)
      → (κ : Lft) (s : Share) (b o : ℕ) (γ : GName) (ys : List Counters) (r : Rises) (rv : Val) → Is S.the_row r (rv ∷ []) → (r.to ≤ 32) × (r.to ≤ length ys)
      → Opds K 𝓛 (raw ((Settle 𝓛 mem run).pre (to_settle 𝓛 mem run κ s b o γ ys r rv)) ∷ Γ) E xs (slice_val (b, o) (length ys) ∷ rv ∷ [])
      → ((zs : List Counters) → zs ≡ settled ys r → length zs ≡ length ys → Seq K 𝓛 (‵ (flft κ s) ∷ ‵ (finally T.the_row γ zs) ∷ Γ) (lands C Λ E p vunit rest q))
      → Seq K 𝓛 (‵ (flft κ s) ∷ ‵ (Rows κ b o γ ys) ∷ Γ) (runs C Λ E (seq (call #settle xs p) rest) q)
  settles t fm mem run known κ s b o γ ys r rv r_ok fits os k =
      join t $ calls_of t fm settle.ended (settle.clauses 𝓛 mem run) known (to_settle 𝓛 mem run κ s b o γ ys r rv) (goes_settle 𝓛 mem run κ s b o γ ys r rv r_ok fits) os (λ v u ws.
      move t (3 ∷ []) $ heard t (ws.0 ≡ settled ys r) (λ e. move t (1 ∷ []) $ facts t builtin.unit (Is builtin.unit) (shows 𝓛 builtin.unit) u (v ∷ []) (λ u_ok.
      move t (1 ∷ []) $ fsplit t $ fsplit t $ fsplit t $ move t (1 ∷ []) $ feq_l t (λ m. move t (1 ∷ []) $ drop t $ move t (1 ∷ []) $ drop t $
      move t (1 ∷ []) $ use1 𝓛 (‵ (flft κ s) ⊛ ‵ ftrue) (id⊢ 𝓤 _) $ split t $ move t (1 ∷ []) $ drop t $
      subst (λ (h : Val). Seq K 𝓛 (‵ (flft κ s) ∷ ‵ (finally T.the_row γ ws.0) ∷ Γ) (lands C Λ E p h rest q)) (sym (ap only u_ok)) (k ws.0 e m)))))

  pub answers : K → FmC 𝓤 H 𝓛.laws C → (mem : Memory → SProp 𝓤) (run : Routine → Fun 𝓤) → Triple 𝓤 (C #answer) (Answered 𝓛 mem run) → (d : Single) (dv : Val) → Is O.the_row d (dv ∷ [])
      → Opds K 𝓛 (raw ((Answered 𝓛 mem run).pre (to_answered 𝓛 mem run d dv)) ∷ Γ) E xs (dv ∷ [])
      → ((v : Val) → Is N.the_row d.answer (v ∷ []) → Seq K 𝓛 Γ (lands C Λ E p v rest q)) → Seq K 𝓛 Γ (runs C Λ E (seq (call #answer xs p) rest) q)
  answers t fm mem run known d dv d_ok os k =
      calls_plain t fm answer.ended (answer.clauses 𝓛 mem run) known (to_answered 𝓛 mem run d dv) (goes_answered 𝓛 mem run d dv d_ok) (λ r. r ≡ d.answer) (λ r e. id⊢ 𝓤 _) os
      (λ v r e r_ok. k v (subst (λ (h : Answer). Is N.the_row h (v ∷ [])) e r_ok))

  pub raises : K → FmC 𝓤 H 𝓛.laws C → (mem : Memory → SProp 𝓤) (run : Routine → Fun 𝓤) → Triple 𝓤 (C #raise) (Raise 𝓛 mem run)
      → (κ : Lft) (s : Share) (b o : ℕ) (γ : GName) (ys : List Counters) (d : Single) (dv : Val) → Is O.the_row d (dv ∷ []) → ((outcome_by d).rises.to ≤ 32) × ((outcome_by d).rises.to ≤ length ys)
      → Opds K 𝓛 (raw ((Raise 𝓛 mem run).pre (to_raise 𝓛 mem run κ s b o γ ys d dv)) ∷ Γ) E xs (slice_val (b, o) (length ys) ∷ dv ∷ [])
      → ((zs : List Counters) → zs ≡ settled ys (outcome_by d).rises → length zs ≡ length ys → Seq K 𝓛 (‵ (flft κ s) ∷ ‵ (finally T.the_row γ zs) ∷ Γ) (lands C Λ E p vunit rest q))
      → Seq K 𝓛 (‵ (flft κ s) ∷ ‵ (Rows κ b o γ ys) ∷ Γ) (runs C Λ E (seq (call #raise xs p) rest) q)
  raises t fm mem run known κ s b o γ ys d dv d_ok fits os k =
      join t $ calls_of t fm raise.ended (raise.clauses 𝓛 mem run) known (to_raise 𝓛 mem run κ s b o γ ys d dv) (goes_raise 𝓛 mem run κ s b o γ ys d dv d_ok fits) os (λ v u ws.
      move t (3 ∷ []) $ heard t (ws.0 ≡ settled ys (outcome_by d).rises) (λ e. move t (1 ∷ []) $ facts t builtin.unit (Is builtin.unit) (shows 𝓛 builtin.unit) u (v ∷ []) (λ u_ok.
      move t (1 ∷ []) $ fsplit t $ fsplit t $ fsplit t $ move t (1 ∷ []) $ feq_l t (λ m. move t (1 ∷ []) $ drop t $ move t (1 ∷ []) $ drop t $
      move t (1 ∷ []) $ use1 𝓛 (‵ (flft κ s) ⊛ ‵ ftrue) (id⊢ 𝓤 _) $ split t $ move t (1 ∷ []) $ drop t $
      subst (λ (h : Val). Seq K 𝓛 (‵ (flft κ s) ∷ ‵ (finally T.the_row γ ws.0) ∷ Γ) (lands C Λ E p h rest q)) (sym (ap only u_ok)) (k ws.0 e m)))))
