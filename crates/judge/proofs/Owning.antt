-- The place of an owner among the units; a line of an owner, and of none. Assumes nothing.
use Rattle.std.specs.Prelude.{Option, Some, None, Ok, Err, ok_or}
use mathlib.Core.Path.{◌≡◌, refl}
use mathlib.Core.Bool.{Bool, true, false, cond}
use Prim.Native.Nat.{ℕ, ◌<◌}
use native.Mathlib.Omega.{arith}
use lib.ListN.{length}
use Rattle.shelf.specs.Shelves.{declared, find_in}
use Rattle.shelf.specs.Shelf.{Shelf}
use Rattle.card.specs.Cards.{holds}
use Rattle.card.specs.declared.Card.{Card}
use Rattle.card.specs.declared.Ask.{Ask}
use Rattle.lookup.specs.declared.Record as R
use Rattle.line.specs.declared.Line.{Line}
use Rattle.line.specs.declared.Line.TheVariants.{Bus, Unit as L-as-Unit, Vp, Drop, Page, Vc, Mc}
use Rattle.judge.specs.declared.Owner.{Owner}
use Rattle.judge.specs.declared.Fault.{Fault}
use Rattle.judge.specs.declared.Fault.TheVariants.{Order, Wide}
use Rattle.judge.specs.Verdicts.{Verdict, fine, asked}
use Rattle.judge.specs.Judge.{judge_bus}
use Rattle.judge.specs.Standing.{judge_first, judge_by}
use Rattle.shelf.proofs.Finding.{declared_length, find_at}

-- where an owner is found
pub found_in : (shelf : Shelf) (number i : ℕ) → length shelf.units ≡ 32 → find_in (declared shelf) number ≡ Some i → i < 32
found_in shelf number i l e =
    let f = (find_at number (declared shelf) i).0 e in
    let n = declared_length shelf l in
    omega (arith, f.inside, n)

-- the owner of a line, or that there is none
pub owned : (o : Option Owner) (owner : Owner) → ok_or o (Order 2) ≡ Ok owner → o ≡ Some owner
owned (Some p) owner e = cc
owned None owner e = cc

pub unowned : (o : Option Owner) (fault : Fault) → ok_or o (Order 2) ≡ Err fault → (o ≡ None) × (Order 2 ≡ fault)
unowned (Some p) fault e = (cc, cc)
unowned None fault e = (cc, cc)

-- a line that is no `bus` line, as the first one
pub no_bus : (card : Card) (line : Line) → ((bus : ℕ) → line ≡ Bus bus → ⊥) → Err (Order 1) ≡ judge_first card line
unfolding judge_first
no_bus card (Bus bus) h = absurd (h bus refl)
no_bus card (L-as-Unit settings limits) h = refl
no_bus card (Vp u v target class outvpi) h = refl
no_bus card (Drop u v) h = refl
no_bus card (Page u v top) h = refl
no_bus card (Vc u v w target class outvpi outvci) h = refl
no_bus card (Mc u session) h = refl

-- the first line
pub at_first : (card : Card) (room : ℕ) (stands : ℕ → Option R.Record) (shelf : Shelf) (used : ℕ) (o : Option Owner) (l : Line) → judge_first card l ≡ judge_by card room true stands shelf used o l
unfolding judge_first judge_by judge_bus
at_first card room stands shelf used o (Bus bus) = refl
at_first card room stands shelf used o (L-as-Unit settings limits) = refl
at_first card room stands shelf used o (Vp u v target class outvpi) = refl
at_first card room stands shelf used o (Drop u v) = refl
at_first card room stands shelf used o (Page u v top) = refl
at_first card room stands shelf used o (Vc u v w target class outvpi outvci) = refl
at_first card room stands shelf used o (Mc u session) = refl

-- what a card is asked for, and then something else
pub asked_fine : (card : Card) (ask : Ask) → asked card ask fine ≡ fine → (rest : Verdict) → rest ≡ asked card ask rest
asked_fine card ask e rest = pick (holds card ask) e
  where
    pick : (b : Bool) → cond b fine (Err Wide) ≡ fine → rest ≡ cond b rest (Err Wide)
    pick true e = refl
    pick false e = cc

pub asked_wide : (card : Card) (ask : Ask) (fault : Fault) → asked card ask fine ≡ Err fault → (rest : Verdict) → Err fault ≡ asked card ask rest
asked_wide card ask fault e rest = pick (holds card ask) e
  where
    pick : (b : Bool) → cond b fine (Err Wide) ≡ Err fault → Err fault ≡ cond b rest (Err Wide)
    pick true e = cc
    pick false e = cc
