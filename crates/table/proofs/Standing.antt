-- The bytes that good lines make are the shelf that they make, and well formed. Assumes nothing.
use mathlib.Core.Path.{◌≡◌, sym, ap, subst, ◌∙◌}
use mathlib.Core.List.{List, [], ◌∷◌}
use Prim.Native.Nat.{ℕ, ◌*◌, ◌<◌}
use Rattle.card.specs.declared.Card.{Card}
use Rattle.lookup.specs.Record.{size}
use Rattle.shelf.specs.Shelf.{Shelf}
use Rattle.state.specs.Bytes.{shelf_in}
use Rattle.state.proofs.Afresh.{fresh_shelf}
use Rattle.line.specs.declared.Line.{Line}
use Rattle.line.specs.declared.Line.TheVariants.{Bus, Unit as L-as-Unit, Vp, Drop, Page, Vc, Mc}
use Rattle.meaning.specs.Told.{total, shelf_by, shelf_of}
use Rattle.meaning.specs.Lines.{judge, Good}
use Rattle.meaning.proofs.Memory.{Ranged, AllRanged}
use Rattle.meaning.proofs.Shelved.{shelved, place_left}
use Rattle.table.proofs.GivenInPlace.{Roomy, Well, fresh_well, state_well, state_decodes}
use Rattle.table.specs.InPlace.{state_of}
use Rattle.judge.specs.Verdicts.{fine}

module _ (card : Card) (room : ℕ) where
  -- there is a place for a unit that a good line declares
  roomy : (told : List Line) (l : Line) → Good card room told → AllRanged told → judge card room told l ≡ fine → Ranged l → shelf_in (state_of told) ≡ shelf_of told → Roomy (state_of told) l
  roomy told (Bus bus) g r f h e = tt
  roomy told (L-as-Unit settings limits) g r f h e =
      subst (λ (s : Shelf). s.count < 32) (sym e) (place_left card room told settings limits f h (shelved card room told g r))
  roomy told (Vp u v target class outvpi) g r f h e = tt
  roomy told (Drop u v) g r f h e = tt
  roomy told (Page u v top) g r f h e = tt
  roomy told (Vc u v w target class outvpi outvci) g r f h e = tt
  roomy told (Mc u session) g r f h e = tt

  pub stands : (told : List Line) → Good card room told → AllRanged told → Well (state_of told) × (shelf_in (state_of told) ≡ shelf_of told)
  unfolding state_of shelf_of
  stands [] g r = (fresh_well 16, fresh_shelf 16)
  stands (l ∷ told) g r =
      let h = stands told g.1 r.1 in
      let k = roomy told l g.1 r.1 g.0 r.0 h.1 in (
        state_well l (size * total told) (state_of told) h.0 k r.0,
        state_decodes l (size * total told) (state_of told) h.0.long k r.0 ∙ ap (shelf_by l (size * total told)) h.1,
      )
