-- What holds of good lines: nothing is opened twice, a page record and its page go together, what is not opened has nothing. Assumes nothing.
use Rattle.std.specs.Prelude.{Ok, None, Option, Some}
use mathlib.Core.Path.{◌≡◌, refl, sym, ap, ap₂, ◌∙◌}
use mathlib.Core.Bool.{true, ◌&&◌}
use mathlib.Core.List.{List, [], ◌∷◌}
use Prim.Native.Nat.{ℕ, ◌*◌}
use native.Mathlib.Omega.{arith}
use lib.Dec.{eqb}
use borrow.Author.Tests.{eqb-true, eqb-false, eq-eqb, ne_eqb}
use Rattle.bus.specs.Routing.{routing}
use Rattle.card.specs.declared.Card.{Card}
use Rattle.lookup.specs.Record.{size}
use Rattle.lookup.specs.declared.Record as R
use Rattle.lookup.specs.declared.Record.TheVariants.{Empty, Drop as R-as-Drop, Route, Page as R-as-Page}
use Rattle.outlet.specs.declared.Limits.{Limits}
use Rattle.shelf.specs.declared.Settings.{Settings}
use Rattle.line.specs.declared.Line.{Line}
use Rattle.line.specs.declared.Line.TheVariants.{Bus, Unit as L-as-Unit, Vp, Drop, Page, Vc, Mc}
pub use Rattle.outlet.proofs.Truth.{decide}
use Rattle.meaning.specs.Told.{Whose, of_unit, of_page, same, Opening, opens, Giving, gives, only, else, top_by, top_of, total, record_of}
use Rattle.meaning.specs.Lines.{judge, Good}
use Rattle.meaning.proofs.Tabulate.{some_inj, none_some, only_true, either_right}
use Rattle.meaning.proofs.Regions.{same_is, both_left, both_right, start, Once}
use Rattle.meaning.proofs.Fits.{AtPath, fine_unit, fine_vp, fine_drop, fine_page, fine_vc}
use Rattle.judge.specs.Verdicts.{fine}

pub eqb_sym : (a b : ℕ) → eqb a b ≡ eqb b a
eqb_sym a b = decide (eqb a b) (λ t. t ∙ sym (eq-eqb b a (sym (eqb-true a b t)))) (λ n. n ∙ sym (ne_eqb b a (λ e. eqb-false a b n (sym e))))

pub record Grown (told : List Line) : Type 0 where
  pub once : Once told
  pub opened : (u v t p : ℕ) → record_of told (of_unit u) v ≡ R-as-Page t p → (top_of told (of_page u v) ≡ Some t) × (p ≡ size * start told (of_page u v))
  pub given : (u v t : ℕ) → top_of told (of_page u v) ≡ Some t → record_of told (of_unit u) v ≡ R-as-Page t (size * start told (of_page u v))
  pub vacant : (k : Whose) (i : ℕ) → top_of told k ≡ None → record_of told k i ≡ Empty

-- records told apart
pub page_empty : {t p : ℕ} → Empty ≡ R-as-Page t p → ⊥
page_empty e = let z : ◌≡◌ {A = ℕ} 0 1 = cc in omega arith

page_drop : {t p : ℕ} → R-as-Drop ≡ R-as-Page t p → ⊥
page_drop e = let z : ◌≡◌ {A = ℕ} 0 1 = cc in omega arith

page_route : {h v w t p : ℕ} → Route h v w ≡ R-as-Page t p → ⊥
page_route e = let z : ◌≡◌ {A = ℕ} 0 1 = cc in omega arith

page_top : {t p t' p' : ℕ} → R-as-Page t p ≡ R-as-Page t' p' → t ≡ t'
page_top e = cc

page_place : {t p t' p' : ℕ} → R-as-Page t p ≡ R-as-Page t' p' → p ≡ p'
page_place e = cc

-- the record of k and i after a gift g
abbrev after : Giving → Whose → ℕ → R.Record → R.Record
after g k i before = else (only (same k g.whose && eqb i g.at) g.gift) before

-- a gift to an opened place that had nothing, and is no page
module _ (told : List Line) (g : Giving) (top : ℕ) (declared : top_of told g.whose ≡ Some top) (empty : record_of told g.whose g.at ≡ Empty) (w : Grown told) where
  here : (k : Whose) (i : ℕ) → (same k g.whose && eqb i g.at) ≡ true → record_of told k i ≡ Empty
  here k i t =
      let a = same_is k g.whose (both_left (same k g.whose) (eqb i g.at) t) in
      let b = eqb-true i g.at (both_right (same k g.whose) (eqb i g.at) t) in
      ap₂ (record_of told) a b ∙ empty

  gift_vacant : (k : Whose) (i : ℕ) → top_of told k ≡ None → after g k i (record_of told k i) ≡ Empty
  gift_vacant k i e =
      decide (same k g.whose && eqb i g.at)
      (λ t.
      absurd
      (none_some (sym e ∙ ap (top_of told) (same_is k g.whose (both_left (same k g.whose) (eqb i g.at) t)) ∙ declared)))
      (λ n. rw n (w.vacant k i e))

  gift_given : (u v t : ℕ) → top_of told (of_page u v) ≡ Some t → after g (of_unit u) v (record_of told (of_unit u) v) ≡ R-as-Page t (size * start told (of_page u v))
  gift_given u v t e =
      decide (same (of_unit u) g.whose && eqb v g.at) (λ y. absurd (page_empty (sym (here (of_unit u) v y) ∙ w.given u v t e))) (λ n. rw n (w.given u v t e))

  gift_opened : ((t p : ℕ) → g.gift ≡ R-as-Page t p → ⊥) → (u v t p : ℕ) → after g (of_unit u) v (record_of told (of_unit u) v) ≡ R-as-Page t p → (top_of told (of_page u v) ≡ Some t) × (p ≡ size * start told (of_page u v))
  gift_opened nopage u v t p e =
      decide (same (of_unit u) g.whose && eqb v g.at) (λ y. absurd (nopage t p (rw y at e))) (λ n. w.opened u v t p (rw n at e))

  pub grown_gift : (l : Line) → opens l ≡ None → gives l (size * total told) ≡ Some g → ((t p : ℕ) → g.gift ≡ R-as-Page t p → ⊥) → Grown (l ∷ told)
  unfolding record_of top_of start
  grown_gift l o e nopage =
      record {
        once = (rw o (λ k t x. absurd (none_some x)), w.once);
        opened = rw (e, o) (gift_opened nopage);
        given = rw (e, o) gift_given;
        vacant = rw (e, o) gift_vacant;
      }

-- a line that neither opens nor gives
grown_still : (told : List Line) (l : Line) → opens l ≡ None → gives l (size * total told) ≡ None → Grown told → Grown (l ∷ told)
unfolding record_of top_of start
grown_still told l o e w =
    record {
      once = (rw o (λ k t x. absurd (none_some x)), w.once);
      opened = rw (e, o) w.opened;
      given = rw (e, o) w.given;
      vacant = rw (e, o) w.vacant;
    }

-- what is opened was not
not_opened : (o : Option ℕ) → ((t : ℕ) → o ≡ Some t → ⊥) → o ≡ None
not_opened None h = refl
not_opened (Some t) h = absurd (h t refl)

opens_once : (told : List Line) (o : Opening) → top_of told o.whose ≡ None → (k : Whose) (t : ℕ) → top_by (Some o) k ≡ Some t → top_of told k ≡ None
opens_once told o e k t x = ap (top_of told) (sym (same_is o.whose k (only_true (same o.whose k) o.top t x))) ∙ e

-- a unit
grown_unit : (told : List Line) (settings : Settings) (limits : Limits) → top_of told (of_unit settings.number) ≡ None → Grown told → Grown (L-as-Unit settings limits ∷ told)
unfolding record_of top_of start opens gives same
grown_unit told settings limits new w =
    record {
      once = (opens_once told (record { whose = of_unit settings.number; top = settings.top }) new, w.once);
      opened = w.opened;
      given = w.given;
      vacant = λ k i e. w.vacant k i (either_right (top_by (opens (L-as-Unit settings limits)) k) (top_of told k) e);
    }

-- a page
module _ (told : List Line) (a b top : ℕ) (p : AtPath told a b) (w : Grown told) where
  pub page_new : top_of told (of_page a b) ≡ None
  page_new = not_opened (top_of told (of_page a b)) (λ t e. page_empty (sym p.vacant ∙ w.given a b t e))

  page_opened : (u v t q : ℕ) → record_of (Page a b top ∷ told) (of_unit u) v ≡ R-as-Page t q → (top_of (Page a b top ∷ told) (of_page u v) ≡ Some t) × (q ≡ size * start (Page a b top ∷ told) (of_page u v))
  unfolding record_of top_of start opens gives same
  page_opened u v t q e =
      rw (eqb_sym a u, eqb_sym b v)
      (decide (eqb u a && eqb v b)
      (λ y. let f = rw y at e in rw y (ap Some (page_top f), sym (page_place f)))
      (λ n. rw n (w.opened u v t q (rw n at e))))

  page_given : (u v t : ℕ) → top_of (Page a b top ∷ told) (of_page u v) ≡ Some t → record_of (Page a b top ∷ told) (of_unit u) v ≡ R-as-Page t (size * start (Page a b top ∷ told) (of_page u v))
  unfolding record_of top_of start opens gives same
  page_given u v t e =
      let f = rw (eqb_sym a u, eqb_sym b v) at e in
      rw (eqb_sym a u, eqb_sym b v)
      (decide (eqb u a && eqb v b)
      (λ y. rw y (ap (λ x. R-as-Page x (size * total told)) (some_inj (rw y at f))))
      (λ n. rw n (w.given u v t (rw n at f))))

  page_vacant : (k : Whose) (i : ℕ) → top_of (Page a b top ∷ told) k ≡ None → record_of (Page a b top ∷ told) k i ≡ Empty
  unfolding record_of top_of gives
  page_vacant k i e =
      gift_vacant told (record { whose = of_unit a; at = b; gift = R-as-Page top (size * total told) }) p.top p.declared p.vacant w k i
      (either_right (top_by (opens (Page a b top)) k) (top_of told k) e)

  grown_page : Grown (Page a b top ∷ told)
  unfolding opens
  grown_page =
      record {
        once = (opens_once told (record { whose = of_page a b; top = top }) page_new, w.once);
        opened = page_opened;
        given = page_given;
        vacant = page_vacant;
      }

-- good lines have grown so
pub grown_from : (card : Card) (room : ℕ) (told : List Line) (l : Line) → judge card room told l ≡ fine → Grown told → Grown (l ∷ told)
unfolding opens gives
grown_from card room told (Bus bus) e w = grown_still told (Bus bus) refl refl w
grown_from card room told (L-as-Unit settings limits) e w = grown_unit told settings limits (fine_unit card room told settings limits e).new w
grown_from card room told (Vp u v target class outvpi) e w =
    let p = (fine_vp card room told u v target class outvpi e).0 in
    grown_gift told (record { whose = of_unit u; at = v; gift = Route (routing target class) outvpi 0 }) p.top p.declared p.vacant w
    (Vp u v target class outvpi) refl refl (λ t q. page_route)
grown_from card room told (Drop u v) e w =
    let p = fine_drop card room told u v e in
    grown_gift told (record { whose = of_unit u; at = v; gift = R-as-Drop }) p.top p.declared p.vacant w (Drop u v) refl refl (λ t q. page_drop)
grown_from card room told (Page u v top) e w = grown_page told u v top (fine_page card room told u v top e).0 w
grown_from card room told (Vc u v c target class outvpi outvci) e w =
    let p = (fine_vc card room told u v c target class outvpi outvci e).0 in
    grown_gift told (record { whose = of_page u v; at = c; gift = Route (routing target class) outvpi outvci }) p.pagetop (w.opened u v p.pagetop p.place p.page).0
    p.vacant w (Vc u v c target class outvpi outvci) refl refl (λ t q. page_route)
grown_from card room told (Mc u session) e w = grown_still told (Mc u session) refl refl w

pub grown : (card : Card) (room : ℕ) (told : List Line) → Good card room told → Grown told
unfolding record_of top_of
grown card room [] g = record { once = tt; opened = λ u v t p e. absurd (page_empty e); given = λ u v t e. absurd (none_some e); vacant = λ k i e. refl }
grown card room (l ∷ told) g = grown_from card room told l g.0 (grown card room told g.1)
