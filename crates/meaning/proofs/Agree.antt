-- A line judged by what stands in the shelf and the memory of good lines is judged by those lines; and what it does there is the shelf and the
-- memory of one line more. Assumes nothing.
use Rattle.std.specs.Prelude.{is_some, None, Some, Err, Ok, Option}
use mathlib.Core.Path.{◌≡◌, refl, ap, ◌∙◌}
use mathlib.Core.Bool.{Bool, true, false, cond}
use mathlib.Core.List.{List, [], ◌∷◌}
use Prim.Native.Nat.{ℕ, ◌+◌, ◌*◌, ◌≤◌}
use lib.Dec.{ltb}
use lib.ListN.{get_or}
use borrow.Author.Tests.{ltb-false}
use Rattle.bus.specs.Routing.{routing}
use Rattle.card.specs.declared.Card.{Card}
use Rattle.card.specs.declared.Ask.TheVariants.{Out}
use Rattle.lookup.specs.Record.{size, usable, record_at, written, Holds}
use Rattle.lookup.specs.declared.Record as R
use Rattle.lookup.specs.declared.Record.TheVariants.{Empty, Drop as R-as-Drop, Route, Page as R-as-Page}
use Rattle.shelf.specs.Shelves.{blank}
use Rattle.shelf.specs.declared.Unit as U
use Rattle.line.specs.declared.Line.{Line}
use Rattle.line.specs.declared.Line.TheVariants.{Bus, Unit as L-as-Unit, Vp, Drop, Page, Vc, Mc}
use Rattle.judge.specs.declared.Owner.{Owner}
use Rattle.judge.specs.declared.Fault.TheVariants.{Order, Twice}
use Rattle.judge.specs.Verdicts.{fine, Verdict, asked, room_for, off_bus, taken, page_in}
use Rattle.judge.specs.Judge.{in_page, judge_unit, judge_vp, judge_drop, judge_page, judge_vc, judge_mc}
use Rattle.meaning.specs.Told.{Whose, of_unit, of_page, opens, gives, top_of, total, record_of, shelf_of, memory_of}
use Rattle.meaning.specs.Lines.{started, is_first, owned, is_declared, judge}
use Rattle.judge.specs.Owners.{unit_of, owner_is, owner_at, owner_of, owned_by, spot}
use Rattle.judge.specs.Standing.{second, judge_by, judge_at}
use Rattle.meaning.specs.Enact.{put_by, put_in, put_vc, memory_by}
use Rattle.meaning.proofs.Regions.{start}
use Rattle.meaning.proofs.Fits.{fine_unit, fine_vp, fine_drop, fine_page, fine_vc}
use Rattle.meaning.proofs.Grown.{Grown, page_new}
use Rattle.meaning.proofs.Memory.{Ranged, stands_at, memory_gift, memory_still, memory_unit, memory_page}
use Rattle.meaning.proofs.Shelved.{Shelved}

-- past the first line
first_or : (told : List Line) (x y : Verdict) → x ≡ y → cond (is_first told) (Err (Order 1)) x ≡ started told y
first_or [] x y e = refl
first_or (l ∷ told) x y e = e

-- what follows a test that ends otherwise need agree only where it is passed
under : (b : Bool) (x y z : Verdict) → (b ≡ false → y ≡ z) → cond b x y ≡ cond b x z
under true x y z h = refl
under false x y z h = h refl

module _ (card : Card) (memory : List ℕ) (told : List Line) (w : Grown told) (s : Shelved told) (hold : (k : Whose) (i : ℕ) → Holds card (record_of told k i)) where
  abbrev stands : ℕ → Option R.Record
  stands = record_at card (memory_of card memory told)

  abbrev at : (u top : ℕ) → top_of told (of_unit u) ≡ Some top → U.Unit
  at u top e = get_or (shelf_of told).units (s.here u top e).i blank

  abbrev owner : (u top : ℕ) → top_of told (of_unit u) ≡ Some top → Owner
  owner u top e = owner_is (s.here u top e).i (at u top e)

  owner_is_lem : (u top : ℕ) (e : top_of told (of_unit u) ≡ Some top) → owner_of (shelf_of told) u ≡ Some (owner u top e)
  unfolding owner_of
  owner_is_lem u top e = ap (owner_at (shelf_of told)) (s.here u top e).found

  -- a declared unit's record
  stands_path : (u top : ℕ) (e : top_of told (of_unit u) ≡ Some top) (v : ℕ) → v ≤ top → stands (spot (owner u top e) v) ≡ Some (record_of told (of_unit u) v)
  stands_path u top e v h = ap (λ p. stands (p + size * v)) (s.here u top e).starts ∙ stands_at card memory told hold (of_unit u) top v e h

  -- the VCI's record in the page that stands there
  stands_circuit : (u v t p : ℕ) → record_of told (of_unit u) v ≡ R-as-Page t p → (c : ℕ) → c ≤ t → stands (p + size * c) ≡ Some (record_of told (of_page u v) c)
  stands_circuit u v t p e c h =
      let o = w.opened u v t p e in
      ap (λ q. stands (q + size * c)) o.1 ∙ stands_at card memory told hold (of_page u v) t c o.0 h

  -- by the owner
  nobody : (u : ℕ) → top_of told (of_unit u) ≡ None → owner_of (shelf_of told) u ≡ owner_at (shelf_of told) None
  unfolding owner_of
  nobody u e = ap (owner_at (shelf_of told)) (s.gone u e)

  owned_agree : (u : ℕ) (f : Owner → Verdict) (g : ℕ → Verdict) → ((top : ℕ) (e : top_of told (of_unit u) ≡ Some top) → f (owner u top e) ≡ g top) → owned_by (owner_of (shelf_of told) u) f ≡ owned (top_of told (of_unit u)) g
  unfolding owned_by
  owned_agree u f g h = go (top_of told (of_unit u)) refl
    where
      go : (o : Option ℕ) → top_of told (of_unit u) ≡ o → owned_by (owner_of (shelf_of told) u) f ≡ owned o g
      go None e = ap (λ o. owned_by o f) (nobody u e)
      go (Some top) e = ap (λ o. owned_by o f) (owner_is_lem u top e) ∙ h top e

  declared_agree : (u : ℕ) → is_some (owner_of (shelf_of told) u) ≡ is_declared (top_of told (of_unit u))
  declared_agree u = go (top_of told (of_unit u)) refl
    where
      go : (o : Option ℕ) → top_of told (of_unit u) ≡ o → is_some (owner_of (shelf_of told) u) ≡ is_declared o
      go None e = ap is_some (nobody u e)
      go (Some top) e = ap is_some (owner_is_lem u top e)

  -- a test of the top, then of what stands there
  below : (u top : ℕ) (e : top_of told (of_unit u) ≡ Some top) (v : ℕ) (f : Option R.Record → Verdict) → cond (ltb (owner u top e).top v) (Err (Order 3)) (f (stands (spot (owner u top e) v))) ≡ cond (ltb top v) (Err (Order 3)) (f (Some (record_of told (of_unit u) v)))
  below u top e v f =
      ap (λ t. cond (ltb t v) (Err (Order 3)) (f (stands (spot (owner u top e) v)))) (s.here u top e).tops
      ∙ under (ltb top v) (Err (Order 3)) (f (stands (spot (owner u top e) v))) (f (Some (record_of told (of_unit u) v))) (λ n. ap f (stands_path u top e v (ltb-false top v n)))

  -- the page, and its VCI
  page_agree : (u v c : ℕ) (r : R.Record) → record_of told (of_unit u) v ≡ r → (f : Option R.Record → Verdict) → in_page (page_in (Some r)) c (f (second stands (page_in (Some r)) c)) ≡ in_page (page_in (Some r)) c (f (Some (record_of told (of_page u v) c)))
  page_agree u v c Empty e f = refl
  page_agree u v c R-as-Drop e f = refl
  page_agree u v c (Route h o x) e f = refl
  page_agree u v c (R-as-Page t p) e f =
      under (ltb t c) (Err (Order 4)) (f (stands (p + size * c))) (f (Some (record_of told (of_page u v) c))) (λ n. ap f (stands_circuit u v t p e c (ltb-false t c n)))

  pub judge_agree : (room : ℕ) (l : Line) → Ranged l → judge_at card room (is_first told) stands (shelf_of told) (size * total told) l ≡ judge card room told l
  unfolding judge_by judge judge_vp judge_drop judge_page judge_vc judge_mc
  judge_agree room (Bus bus) r = refl
  judge_agree room (L-as-Unit settings limits) r =
      first_or told _ _
      (ap (λ d. judge_unit card (shelf_of told).bus d room (size * total told) settings.number settings.link settings.top) (declared_agree settings.number))
  judge_agree room (Vp u v target class outvpi) r =
      first_or told _ _
      (owned_agree u _ _ (λ top e. below u top e v (λ g. cond (off_bus (shelf_of told).bus target) (Err (Order 4)) (cond (taken g) (Err (Twice 3)) (asked card (Out outvpi) fine)))))
  judge_agree room (Drop u v) r = first_or told _ _ (owned_agree u _ _ (λ top e. below u top e v (λ g. cond (taken g) (Err (Twice 3)) fine)))
  judge_agree room (Page u v topvci) r =
      first_or told _ _ (owned_agree u _ _ (λ top e. below u top e v (λ g. cond (taken g) (Err (Twice 3)) (room_for room (size * total told) (topvci + 1)))))
  judge_agree room (Vc u v c target class outvpi outvci) r =
      let f : Option R.Record → Verdict = λ g. cond (off_bus (shelf_of told).bus target) (Err (Order 5)) (cond (taken g) (Err (Twice 4)) (asked card (Out outvpi) fine)) in
      first_or told _ _
      (owned_agree u _ _
      (λ top e.
      below u top e v (λ g. in_page (page_in g) c (f (second stands (page_in g) c)))
      ∙ ap (cond (ltb top v) (Err (Order 3))) (page_agree u v c (record_of told (of_unit u) v) refl f)))
  judge_agree room (Mc u session) r =
      first_or told _ _ (owned_agree u _ _ (λ top e. ap (λ b. cond b (Err (Twice 3)) fine) ((s.here u top e).hearing session r)))

  -- what it writes
  put_path : (u top : ℕ) (e : top_of told (of_unit u) ≡ Some top) (v : ℕ) (r : R.Record) → put_by card (memory_of card memory told) (owner_of (shelf_of told) u) v r ≡ written card (memory_of card memory told) (size * start told (of_unit u) + size * v) r
  unfolding put_by
  put_path u top e v r =
      ap (λ o. put_by card (memory_of card memory told) o v r) (owner_is_lem u top e)
      ∙ ap (λ p. written card (memory_of card memory told) (p + size * v) r) (s.here u top e).starts

  pub memory_agree : (l : Line) → judge card (usable memory) told l ≡ fine → memory_by card (memory_of card memory told) (size * total told) (owner_of (shelf_of told) (unit_of l)) l ≡ memory_of card memory (l ∷ told)
  unfolding memory_by opens gives put_vc put_in
  memory_agree (Bus bus) e = memory_still card memory told w (Bus bus) refl refl
  memory_agree (L-as-Unit settings limits) e =
      let f = fine_unit card (usable memory) told settings limits e in
      memory_unit card memory told w settings limits f.new f.roomy
  memory_agree (Vp u v target class outvpi) e =
      let p = (fine_vp card (usable memory) told u v target class outvpi e).0 in
      put_path u p.top p.declared v (Route (routing target class) outvpi 0)
      ∙ memory_gift card memory told w (Vp u v target class outvpi) (record { whose = of_unit u; at = v; gift = Route (routing target class) outvpi 0 }) refl refl p.top p.declared p.within
  memory_agree (Drop u v) e =
      let p = fine_drop card (usable memory) told u v e in
      put_path u p.top p.declared v R-as-Drop
      ∙ memory_gift card memory told w (Drop u v) (record { whose = of_unit u; at = v; gift = R-as-Drop }) refl refl p.top p.declared p.within
  memory_agree (Page u v top) e =
      let f = fine_page card (usable memory) told u v top e in
      let p = f.0 in
      put_path u p.top p.declared v (R-as-Page top (size * total told)) ∙ memory_page card memory told w u v top p (page_new told u v top p w) f.1
  memory_agree (Vc u v c target class outvpi outvci) e =
      let p = (fine_vc card (usable memory) told u v c target class outvpi outvci e).0 in
      let r = Route (routing target class) outvpi outvci in
      let m = memory_of card memory told in
      let o = w.opened u v p.pagetop p.place p.page in
      ap (λ x. put_vc card m x v c r) (owner_is_lem u p.top p.declared)
      ∙ ap (λ g. put_in card m (page_in g) c r) (stands_path u p.top p.declared v p.within ∙ ap Some p.page)
      ∙ ap (λ q. written card m (q + size * c) r) o.1
      ∙ memory_gift card memory told w (Vc u v c target class outvpi outvci) (record { whose = of_page u v; at = c; gift = r }) refl refl p.pagetop o.0 p.inpage
  memory_agree (Mc u session) e = memory_still card memory told w (Mc u session) refl refl
