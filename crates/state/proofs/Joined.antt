-- The bytes after a unit hears a session more are the shelf with that unit. Assumes nothing.
use mathlib.Core.Path.{◌≡◌, sym, ap, ◌∙◌}
use mathlib.Core.List.{List}
use mathlib.Core.Logic.{⊎_elim}
use Prim.Native.Nat.{ℕ, ◌+◌, ◌*◌, ◌/◌, ◌%◌, ◌^◌, ◌<◌}
use native.Mathlib.Omega.{arith}
use lib.Bits.{bit_or}
use lib.ListN.{length, get_or, set, take, drop, length-set}
use lib.Seq.{get_or-set_other, drop-set-add, take-set-lt}
use Rattle.octets.specs.Octets.{part}
use Rattle.shelf.specs.Sessions.{with_session}
use Rattle.state.specs.Bytes.{col, unit_by, unit_in, shelf_in, with_unit}
use Rattle.state.specs.Placing.{sessions_set, joined, sessions_put}
use Rattle.state.proofs.Laws.{part_at, part_same_bytes, apart, by_columns, shelf_set}

module _ (b : List ℕ) (i k v : ℕ) (hi : i < 32) (hk : k < 32) (long : length b ≡ 2048) where
  abbrev next : List ℕ
  next = sessions_set b i k v

  pub session_long : length next ≡ 2048
  unfolding sessions_set
  session_long = length-set b (1024 + 32 * i + k) v ∙ long

  -- no other byte is written
  pub session_kept : (x : ℕ) → (x ≡ 1024 + 32 * i + k → ⊥) → get_or next x 0 ≡ get_or b x 0
  unfolding sessions_set
  session_kept x ne = get_or-set_other b (1024 + 32 * i + k) x v 0 ne

  abbrev old : List ℕ
  old = part b (1024 + 32 * i) 32

  sessions_here : part next (1024 + 32 * i) 32 ≡ set old k v
  unfolding sessions_set
  sessions_here = ap (take 32) (drop-set-add (1024 + 32 * i) b k v) ∙ take-set-lt 32 (drop (1024 + 32 * i) b) k v hk

  here : unit_in next i ≡ sessions_put (unit_in b i) (set old k v)
  unfolding unit_by
  here =
      by_columns (col next i) (col b i) (part next (1024 + 32 * i) 32) (set old k v) (λ c hc. session_kept (c * 32 + i) (λ e. absurd (omega arith))) sessions_here

  there : (j : ℕ) → j < 32 → (j ≡ i → ⊥) → unit_in next j ≡ unit_in b j
  there j hj ne =
      by_columns (col next j) (col b j) (part next (1024 + 32 * j) 32) (part b (1024 + 32 * j) 32) (λ c hc. session_kept (c * 32 + j) (λ e. absurd (omega arith)))
      (part_same_bytes next b (1024 + 32 * j) 32 (let l = session_long in omega arith) (session_long ∙ sym long)
      (λ m hm. session_kept (1024 + 32 * j + m) (λ e. absurd (⊎_elim (λ less. absurd (omega arith)) (λ more. absurd (omega arith)) (apart j i ne)))))

  shelf_session : shelf_in next ≡ with_unit (shelf_in b) i (sessions_put (unit_in b i) (set old k v))
  shelf_session =
      shelf_set b next i (sessions_put (unit_in b i) (set old k v)) hi long (session_long ∙ sym long) (λ x o. session_kept x (λ e. absurd (omega arith))) here there

-- "`mc` unit, session: the unit hears that session"
pub joined_shelf : (b : List ℕ) (i session : ℕ) → length b ≡ 2048 → i < 32 → session < 256 → shelf_in (joined b i session) ≡ with_unit (shelf_in b) i (sessions_put (unit_in b i) (with_session (unit_in b i).sessions session))
unfolding with_session unit_by
joined_shelf b i session long hi hs =
    let k : session / 8 < 32 = omega arith in
    let s = part b (1024 + 32 * i) 32 in
    shelf_session b i (session / 8) (bit_or (get_or b (1024 + 32 * i + session / 8) 0) (2 ^ (session % 8))) hi k long
    ∙ ap (λ v. with_unit (shelf_in b) i (sessions_put (unit_in b i) (set s (session / 8) (bit_or v (2 ^ (session % 8)))))) (sym (part_at b (1024 + 32 * i) 32 (session / 8) k))
