-- Reading undoes writing and writing undoes reading, at either link. Assumes nothing.
use mathlib.Core.Path.{◌≡◌, sym, ap, ◌∙◌}
use Prim.Native.Nat.{ℕ, ◌+◌, ◌*◌, ◌/◌, ◌%◌, ◌^◌, ◌<◌}
use native.Mathlib.Nat.{mod-lt, mod-eq_of_lt}
use native.Mathlib.Omega.{arith}
use lib.Bits.{bit_xor}
use Rattle.remainder.specs.Division.{residue}
use Rattle.remainder.proofs.Laws.{residue_lt, residue_linear, xor_both}
use Rattle.header.specs.Fields.{paths_of, fields, top_of, word}
use Rattle.header.specs.Check.{divisor, check}
use Rattle.header.specs.declared.Link.{Link}
use Rattle.header.specs.declared.Link.TheVariants.{Uni, Nni}
use Rattle.header.specs.declared.Header.{Header}

pub top_lt : (link : Link) (gfc vpi : ℕ) → top_of link gfc vpi < 4096
unfolding top_of
top_lt link gfc vpi = mod-lt (gfc * paths_of link + vpi % paths_of link) (omega arith)

-- the fields that a link has room for
pub record Fits (link : Link) (h : Header) : Type 0 where
  pub gfc : h.gfc * paths_of link < 2 ^ 12
  pub vpi : h.vpi < paths_of link
  pub vci : h.vci < 2 ^ 16
  pub pt : h.pt < 2 ^ 3
  pub clp : h.clp < 2

-- the twelve high bits t, the VCI v, the PT p and the CLP q of a header, put together and taken apart
join : ℕ → ℕ → ℕ → ℕ → ℕ
join t v p q = t * 1048576 + v * 16 + p * 2 + q

module _ (t v p q : ℕ) (ht : t < 4096) (hv : v < 65536) (hp : p < 8) (hq : q < 2) where
  join_top : join t v p q / 1048576 ≡ t
  unfolding join
  join_top = omega arith

  join_vci : join t v p q / 16 % 65536 ≡ v
  unfolding join
  join_vci = omega arith

  join_pt : join t v p q / 2 % 8 ≡ p
  unfolding join
  join_pt = omega arith

  join_clp : join t v p q % 2 ≡ q
  unfolding join
  join_clp = omega arith

join_parts : (w : ℕ) → join (w / 1048576) (w / 16 % 65536) (w / 2 % 8) (w % 2) ≡ w
unfolding join
join_parts w =
    let low : w / 2 % 8 * 2 + w % 2 ≡ w % 16 = omega arith in
    let high : w / 1048576 * 65536 + w / 16 % 65536 ≡ w / 16 = omega arith in
    omega arith

-- the twelve high bits at either link
top_parts : (link : Link) (t : ℕ) → t < 4096 → top_of link (t / paths_of link % 16) (t % paths_of link) ≡ t
unfolding top_of
top_parts Uni t h = omega arith
top_parts Nni t h = omega arith

parts_gfc : (link : Link) (g v : ℕ) → g * paths_of link < 4096 → v < paths_of link → top_of link g v / paths_of link % 16 ≡ g
unfolding top_of
parts_gfc Uni g v hg hv = omega arith
parts_gfc Nni g v hg hv = omega arith

parts_vpi : (link : Link) (g v : ℕ) → g * paths_of link < 4096 → v < paths_of link → top_of link g v % paths_of link ≡ v
unfolding top_of
parts_vpi Uni g v hg hv = omega arith
parts_vpi Nni g v hg hv = omega arith

pub word_fields : (link : Link) (w : ℕ) → w < 2 ^ 32 → word link (fields link w) ≡ w
unfolding fields word join
word_fields link w h =
    let p : w / 2 % 8 % 8 ≡ w / 2 % 8 = omega arith in
    let q : w % 2 % 2 ≡ w % 2 = omega arith in
    (λ i. join (top_parts link (w / 1048576) (omega arith) i) (w / 16 % 65536) (p i) (q i)) ∙ join_parts w

pub fields_word : (link : Link) (h : Header) → Fits link h → fields link (word link h) ≡ h
unfolding fields word join
fields_word link h f =
    let t = top_of link h.gfc h.vpi in
    let p : h.pt % 8 ≡ h.pt = mod-eq_of_lt f.pt in
    let q : h.clp % 2 ≡ h.clp = mod-eq_of_lt f.clp in
    let ht = top_lt link h.gfc h.vpi in
    let e : word link h ≡ join t h.vci h.pt h.clp = λ i. join t h.vci (p i) (q i) in
    let top = join_top t h.vci h.pt h.clp ht f.vci f.pt f.clp in
    ap (fields link) e
    ∙ (λ i. record {
      gfc = (ap (λ x. x / paths_of link % 16) top ∙ parts_gfc link h.gfc h.vpi f.gfc f.vpi) i;
      vpi = (ap (λ x. x % paths_of link) top ∙ parts_vpi link h.gfc h.vpi f.gfc f.vpi) i;
      vci = join_vci t h.vci h.pt h.clp ht f.vci f.pt f.clp i;
      pt = join_pt t h.vci h.pt h.clp ht f.vci f.pt f.clp i;
      clp = join_clp t h.vci h.pt h.clp ht f.vci f.pt f.clp i;
    })

-- the check is linear, the 55 taken off: two checks differ by the remainder of what the headers differ in
pub check_linear : (a b : ℕ) → bit_xor (check a) (check b) ≡ residue divisor 32 (bit_xor a b)
unfolding check
check_linear a b =
    xor_both 8 (residue divisor 32 a) (residue divisor 32 b) 0x55 (residue_lt divisor 32 a) (residue_lt divisor 32 b) (omega arith) ∙ sym (residue_linear divisor 32 a b)
