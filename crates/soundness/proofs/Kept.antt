-- Bytes that say links, modes and marks go on saying them: where those columns and the count are as they were, and so after a ring or another byte of a column is written, and after a frame's end. Assumes nothing.
use Rattle.std.proofs.Common.{◌≡◌, ℕ, ◌+◌, ◌*◌, ◌<◌, ◌≤◌, ◌&&◌, leb, List, length, get_or, ap, ◌∙◌, arith}
use Rattle.outlet.specs.declared.Ring.{Ring}
use Rattle.arbiter.specs.declared.Arbiter.{Arbiter}
use Rattle.state.specs.Bytes.{col, with_ring, with_byte, with_turn}
use Rattle.state.proofs.Kept.{Column, byte_own, byte_column}
use Rattle.state.proofs.Turn.{turn_before, turn_between}
use Rattle.soundness.specs.Lanes.{formed, lanes}
use Rattle.soundness.specs.Soundings.{formed_all}
use Rattle.soundness.proofs.Judged.{lanes_same}

pub formed_same : (a b : List ℕ) → get_or a 805 0 ≡ get_or b 805 0 → ((j : ℕ) → j < 32 → (col a j 1 ≡ col b j 1) × (col a j 5 ≡ col b j 5) × (col a j 9 ≡ col b j 9)) → formed_all a ≡ formed_all b
formed_same a b n e =
    ap (λ k. lanes (λ i. formed (col a i)) k 0 32) n
    ∙ lanes_same (λ i. formed (col a i)) (λ i. formed (col b i)) (get_or b 805 0) 0 32 (λ j h l.
    let x = e j (omega arith) in
    (λ t. leb (x.0 t) 1 && leb (x.1 t) 1 && leb (x.2 t) 1))

-- no column from 14 on says one
pub formed_byte : (b : List ℕ) (c i v : ℕ) → 14 ≤ c → Column c → i < 32 → formed_all (with_byte b c i v) ≡ formed_all b
formed_byte b c i v l hc hi =
    formed_same (with_byte b c i v) b (byte_own b c i v hi hc 805 (omega arith)) (λ j hj.
    (byte_column b c i v hi j 1 hj (λ e. omega arith), byte_column b c i v hi j 5 hj (λ e. omega arith), byte_column b c i v hi j 9 hj (λ e. omega arith)))

pub formed_ring : (b : List ℕ) (h c i : ℕ) (r : Ring) → 14 ≤ h → Column h → 14 ≤ c → Column c → i < 32 → formed_all (with_ring b h c i r) ≡ formed_all b
formed_ring b h c i r lh hh lc hc hi = formed_byte (with_byte b h i r.head) c i r.count lc hc hi ∙ formed_byte b h i r.head lh hh hi

pub formed_turn : (b : List ℕ) (a : Arbiter) (g n : ℕ) → length b ≡ 2048 → length a.asks ≡ 32 → formed_all (with_turn b a g n) ≡ formed_all b
formed_turn b a g n long all =
    formed_same (with_turn b a g n) b (turn_between b a g n long all 805 (omega arith) (omega arith)) (λ j h.
    (turn_before b a g n long all (1 * 32 + j) (omega arith), turn_before b a g n long all (5 * 32 + j) (omega arith), turn_before b a g n long all (9 * 32 + j) (omega arith)))
