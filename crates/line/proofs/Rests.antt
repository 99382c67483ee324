-- What a function says of the rest of a line is what is said of more of it, and of the whole. Assumes nothing.
use Prim.Native.Nat.{ℕ}
use mathlib.Core.Path.{◌≡◌}
use mathlib.Core.List.{List, [], ◌∷◌}
use Rattle.line.specs.declared.Key.{Key}
use Rattle.line.specs.declared.Kind.{Kind}
use Rattle.line.specs.declared.Kind.TheVariants.{Bus as K-as-Bus, Unit as K-as-Unit, Vp as K-as-Vp, Drop as K-as-Drop, Page as K-as-Page, Vc as K-as-Vc, Mc as K-as-Mc}
use Rattle.text.specs.Text.{fields_of, after_of, from2, from4}
use Rattle.text.proofs.Split.{after_fields}
use Rattle.line.specs.Units.{settings_on, settings_of, limits_in, limits_of}
use Rattle.line.proofs.UnitRests.{second_fields}
use Rattle.line.specs.Lines.{bus_line, unit_line, key_of, way_of, vp_line, drop_line, page_line, vc_on, vc_line, mc_line, line_of}

-- from field 4 on, of what stands from field 2 on
module _ (t u s : List ℕ) (d : t ≡ after_of u) (e : u ≡ after_of s) where
  pub vc_on_rest : (key : Key) → vc_on (from4 (fields_of t)) key ≡ vc_on (from2 (fields_of s)) key
  unfolding vc_on way_of
  vc_on_rest key =
      let p = second_fields t u s d e in
      λ i. vc_on (from4 (p 0 i ∷ p 1 i ∷ p 2 i ∷ p 3 i ∷ p 4 i ∷ [])) key

-- from field 2 on, of the whole line
pub line_rest : (kind : Kind) (t s : List ℕ) → t ≡ after_of s → line_of kind (from2 (fields_of t)) ≡ line_of kind (fields_of s)
unfolding line_of bus_line unit_line settings_on settings_of limits_in limits_of key_of way_of vp_line drop_line page_line vc_on vc_line mc_line
line_rest K-as-Bus t s e = λ i. bus_line (from2 (after_fields t s e 0 i ∷ []))
line_rest K-as-Unit t s e =
    let p = after_fields t s e in
    λ i. unit_line (from2 (p 0 i ∷ p 1 i ∷ p 2 i ∷ p 3 i ∷ p 4 i ∷ p 5 i ∷ p 6 i ∷ p 7 i ∷ p 8 i ∷ []))
line_rest K-as-Vp t s e =
    let p = after_fields t s e in
    λ i. vp_line (from2 (p 0 i ∷ p 1 i ∷ p 2 i ∷ p 3 i ∷ p 4 i ∷ []))
line_rest K-as-Drop t s e = λ i. drop_line (from2 (after_fields t s e 0 i ∷ after_fields t s e 1 i ∷ []))
line_rest K-as-Page t s e =
    let p = after_fields t s e in
    λ i. page_line (from2 (p 0 i ∷ p 1 i ∷ p 2 i ∷ []))
line_rest K-as-Vc t s e =
    let p = after_fields t s e in
    λ i. vc_line (from2 (p 0 i ∷ p 1 i ∷ p 2 i ∷ p 3 i ∷ p 4 i ∷ p 5 i ∷ p 6 i ∷ []))
line_rest K-as-Mc t s e = λ i. mc_line (from2 (after_fields t s e 0 i ∷ after_fields t s e 1 i ∷ []))
