-- Which line of a table serves a cell. A list of lines has the latest first. Assumes nothing.
use Rattle.std.specs.Prelude.{ℕ, ◌&&◌, List, [], ◌∷◌, eqb, None, Option}
use Rattle.bus.specs.declared.Target.{Target}
use Rattle.line.specs.declared.Line.{Line}
use Rattle.line.specs.declared.Line.TheVariants.{Bus, Unit as L-as-Unit, Vp, Drop, Page, Vc, Mc}
use Rattle.meaning.specs.Told.{only, either}

-- a `vp` line serves its unit and VPI, with every VCI; a `drop` line likewise; a `vc` line its unit, VPI and VCI
pub data Serving : Type 0 where
  by_vp : Target → (class outvpi : ℕ) → Serving
  by_drop : Serving
  by_vc : Target → (class outvpi outvci : ℕ) → Serving

unfoldable pub serves : Line → ℕ → ℕ → ℕ → Option Serving
serves (Bus bus) u v w = None
serves (L-as-Unit settings limits) u v w = None
serves (Vp a b target class outvpi) u v w = only (eqb u a && eqb v b) (by_vp target class outvpi)
serves (Drop a b) u v w = only (eqb u a && eqb v b) by_drop
serves (Page a b top) u v w = None
serves (Vc a b c target class outvpi outvci) u v w = only ((eqb u a && eqb v b) && eqb w c) (by_vc target class outvpi outvci)
serves (Mc a session) u v w = None

unfoldable pub served : List Line → ℕ → ℕ → ℕ → Option Serving
served [] u v w = None
served (l ∷ told) u v w = either (serves l u v w) (served told u v w)
