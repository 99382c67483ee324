-- Tables and events in which a unit waits long, to be computed. Assumes nothing.
use Rattle.std.specs.Prelude.{ℕ, zero, suc, ◌≡◌, false, List, [], ◌∷◌, ◌++◌}
use Rattle.arbiter.specs.Arbitration.{nobody}
use Rattle.bus.specs.declared.Target.TheVariants as target
use Rattle.line.specs.declared.Line.{Line}
use Rattle.line.specs.declared.Line.TheVariants.{Bus, Unit as L-as-Unit, Vp}
use Rattle.document.specs.Events.{Event, arrive, frame}
use Rattle.document.specs.Examples.{one, uni, repeated, lent}
use Rattle.waiting.specs.Waiting.{frames_in, at_three, up_to}

-- unit N uni 1 P one 0 0 1 0 / vp N 1 u9 0 0: unit 9 is not declared, so that no outlet ever fills; the latest line first
abbrev pub lane : ℕ → ℕ → List Line
lane number priority = Vp number 1 (target.Unit 9) 0 0 ∷ L-as-Unit (uni number 1 priority) (one 1 false) ∷ []

-- a 16 bus with a unit of priority 1 and one of priority 3; and with three of priority 3
unfoldable pub beside : List Line
beside = lane 1 3 ++ lane 0 1 ++ (Bus 16 ∷ [])

unfoldable pub three : List Line
three = lane 2 3 ++ lane 1 3 ++ lane 0 3 ++ (Bus 16 ∷ [])

-- a cell of VPI 1 arrives at a unit; a frame
abbrev pub arrives : ℕ → Event
arrives unit = arrive unit (repeated (0x00 ∷ 0x10 ∷ 0x00 ∷ 0x00 ∷ 0xf7 ∷ []) 0)

abbrev pub tick : Event
tick = frame (lent 57)

-- both have cells, and the unit of priority 3 is kept at two or more
abbrev pub filled : List Event
filled = arrives 0 ∷ arrives 1 ∷ arrives 1 ∷ []

unfoldable pub busy : ℕ → List Event
busy zero = []
busy (suc n) = tick ∷ arrives 1 ∷ busy n

-- each of the three has a cell
abbrev pub each : List Event
each = arrives 0 ∷ arrives 1 ∷ arrives 2 ∷ []

-- how the bound counts
pub record Examples : Type 0 where
  -- "before any grant, from unit 0"
  pub from_0 : up_to nobody 2 (0 ∷ 1 ∷ 2 ∷ []) ≡ 0 ∷ 1 ∷ 2 ∷ []
  -- the units after the last one granted, which comes last itself
  pub after_0 : up_to 0 2 (0 ∷ 1 ∷ 2 ∷ []) ≡ 1 ∷ 2 ∷ []
  pub after_2 : up_to 2 0 (0 ∷ 1 ∷ 2 ∷ []) ≡ 0 ∷ []
  pub itself : up_to 2 2 (0 ∷ 1 ∷ 2 ∷ []) ≡ 0 ∷ 1 ∷ 2 ∷ []
  -- units that may not ask at 3 do not count
  pub between : up_to 5 20 (3 ∷ 20 ∷ 30 ∷ []) ≡ 20 ∷ []
  pub listed : at_three beside ≡ 1 ∷ []
  -- a frame that is refused does not count
  pub frames : frames_in (frame (lent 56) ∷ tick ∷ arrives 0 ∷ tick ∷ []) ≡ 2
