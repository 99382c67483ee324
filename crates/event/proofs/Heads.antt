-- The six bytes of an `arrive` line's hex fields. Assumes nothing.
use mathlib.Core.Path.{◌≡◌, ap, ◌∙◌}
use mathlib.Core.Bool.{true}
use mathlib.Core.List.{List, ◌++◌, append-nil}
use Prim.Native.Nat.{ℕ, ◌+◌, ◌/◌, ◌≤◌}
use native.Mathlib.Omega.{arith}
use lib.Dec.{eqb}
use lib.ListN.{length, drop_of_length-le, length-append}
use borrow.Author.Tests.{eqb-true}
use Rattle.octets.specs.Octets.{splice}
use Rattle.text.proofs.Numbers.{first, second}
use Rattle.text.specs.Hex.{is_hex, unhex}
use Rattle.text.proofs.HexLaws.{length_unhex}
use Rattle.text.proofs.Splices.{splice_on}
use Rattle.event.specs.Events.{hexes, head_of}

-- what n hex digits are
pub hexes_length : (n : ℕ) (s : List ℕ) → hexes n s ≡ true → length s ≡ n
hexes_length n s e = eqb-true (length s) n (first (eqb (length s) n) (is_hex s) e)

pub hexes_hex : (n : ℕ) (s : List ℕ) → hexes n s ≡ true → is_hex s ≡ true
hexes_hex n s e = second (eqb (length s) n) (is_hex s) e

pub room : (a n m : ℕ) (s : List ℕ) → hexes n s ≡ true → a + n / 2 ≤ m → a + length s / 2 ≤ m
room a n m s e h = rw (hexes_length n s e) h

-- five bytes and one behind them fill six
pub filled : (b h s : List ℕ) → length b ≡ 6 → length h ≡ 5 → length s ≡ 1 → splice (splice b 0 h) 5 s ≡ h ++ s
filled b h s lb lh ls =
    let e : 5 ≡ 0 + length h = omega arith in
    let l : length b ≤ 0 + length (h ++ s) = rw length-append (omega arith) in
    ap (λ n. splice (splice b 0 h) n s) e ∙ splice_on b 0 h s (omega arith)
    ∙ ap (λ x. (h ++ s) ++ x) (drop_of_length-le b l) ∙ append-nil (h ++ s)

pub head_filled : (b header byte : List ℕ) → length b ≡ 6 → hexes 10 header ≡ true → hexes 2 byte ≡ true → splice (splice b 0 (unhex header)) 5 (unhex byte) ≡ head_of header byte
head_filled b header byte lb eh es =
    let lh = hexes_length 10 header eh in
    let ls = hexes_length 2 byte es in
    filled b (unhex header) (unhex byte) lb (length_unhex header ∙ ap (λ n. n / 2) lh) (length_unhex byte ∙ ap (λ n. n / 2) ls)
