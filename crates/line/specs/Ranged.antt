-- Numbers in their ranges, and targets, in a field. Assumes nothing.
use Rattle.std.specs.Prelude.{ℕ, ◌&&◌, cond, List, [], ◌∷◌, leb, eqb, Result, Ok, Err}
use Rattle.text.specs.Text.{field_of, same}
use Rattle.text.specs.Digits.{decimal_of, value}
use Rattle.line.specs.Words.{w_b}
use Rattle.bus.specs.declared.Target.{Target}
use Rattle.bus.specs.declared.Target.TheVariants.{Unit, Session, All}
use Rattle.line.specs.declared.Wrong.{Wrong}
use Rattle.line.specs.declared.Wrong.TheVariants.{Number, Range}

-- The `?` of the code: what comes of a value; what is wrong stays so
infixl 10 ◌>>=◌
abbrev pub ◌>>=◌ : {A B : Type 0} → Result A Wrong → (A → Result B Wrong) → Result B Wrong
Ok x >>= f = f x
Err wrong >>= f = Err wrong

-- The number that the text s of field f says, from lo to hi. 02, W5: "23 Number (a number, also after `u` or `m`, not in the decimal form
-- given), 24 Range (everything else in a field)"
unfoldable pub ranged : ℕ → ℕ → ℕ → List ℕ → Result ℕ Wrong
ranged f lo hi s =
    cond (decimal_of s) (cond (leb lo (value 0 s) && leb (value 0 s) hi) (Ok (value 0 s)) (Err (Range f))) (Err (Number f))

-- "Target is `u` and a unit, `m` and a session 0 to 255, or `b`": what the text of field f aims at
unfoldable pub aim_of : ℕ → List ℕ → Result Target Wrong
aim_of f [] = Err (Range f)
aim_of f (b ∷ r) =
    cond (eqb b 117) (ranged f 0 31 r >>= λ unit. Ok (Unit unit))
    (cond (eqb b 109) (ranged f 0 255 r >>= λ session. Ok (Session session))
    (cond (same (b ∷ r) w_b) (Ok All) (Err (Range f))))

-- the number in field f, from lo to hi
abbrev pub number_in : List (List ℕ) → ℕ → ℕ → ℕ → Result ℕ Wrong
number_in fs f lo hi = ranged f lo hi (field_of f fs)
