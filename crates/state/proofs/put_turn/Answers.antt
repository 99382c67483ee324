use Rattle.std.proofs.Common.{◌≡◌, ℕ, ◌+◌, ◌/◌, ◌%◌, ◌<◌, List, [], ◌∷◌, ◌++◌, length, get_or, take, drop, set, sym, ap, ◌∙◌, length-set, arith, rules}
use Rattle.std.proofs.lemmas.List.Edits.{paste_none, paste_more}
use lib.Seq.{take_all, paste}
use Rattle.octets.specs.Octets.{splice}
use Rattle.octets.proofs.Parts.{length_splice}
use Rattle.state.specs.Bytes.{with_turn}
use Rattle.state.proofs.put_turn.Goals as goal

-- bytes side by side are written one after the other
module _ (b v : List ℕ) (k : ℕ) where
  one : k < length b → 0 < length v → paste b k v 1 ≡ set b (k + 0) (get_or v 0 0)
  one h l = sym (paste_more b k v 0 0 (omega arith) l) ∙ ap (λ x. set x (k + 0) (get_or v 0 0)) (sym (paste_none b k v))

  two : k + 1 < length b → 1 < length v → paste b k v 2 ≡ set (set b (k + 0) (get_or v 0 0)) (k + 1) (get_or v 1 0)
  two h l = sym (paste_more b k v 1 0 h l) ∙ ap (λ x. set x (k + 1) (get_or v 1 0)) (one (omega arith) (omega arith))

  three : k + 2 < length b → 2 < length v → paste b k v 3 ≡ set (set (set b (k + 0) (get_or v 0 0)) (k + 1) (get_or v 1 0)) (k + 2) (get_or v 2 0)
  three h l = sym (paste_more b k v 2 0 h l) ∙ ap (λ x. set x (k + 2) (get_or v 2 0)) (two (omega arith) (omega arith))

pub copy-requires : goal.copy-requires
copy-requires c = let all : length c.args.arbiter.asks ≡ 32 = search rules in omega arith

pub returns : goal.returns
unfolding with_turn
returns c =
    let a = c.args in
    let last = a.arbiter.last in
    let asked = splice a.s.now 768 a.arbiter.asks in
    let all : length a.arbiter.asks ≡ 32 = search rules in
    let many : length last ≡ 3 = search rules in
    let long : length asked ≡ 2048 = length_splice a.s.now 768 a.arbiter.asks (omega arith) ∙ c.told-s in
    let lasts : splice asked 800 last ≡ set (set (set asked 800 (get_or last 0 0)) 801 (get_or last 1 0)) 802 (get_or last 2 0) =
    (λ t. take 800 asked ++ sym (take_all 3 last (omega arith)) t ++ drop (800 + many t) asked) ∙ three asked last 800 (omega arith) (omega arith) in
    let high : a.frame / 256 % 256 ≡ a.frame / 256 = omega arith in
    c.put_two.ensures
    ∙ (λ t. splice (set ((c.copy-2.ensures ∙ ap (λ b. splice b 800 last) c.copy.ensures ∙ lasts) t) 803 a.granted) 806 (high t ∷ (a.frame % 256) ∷ []))
    ∙ two _ (a.frame / 256 ∷ (a.frame % 256) ∷ []) 806 (simp length-set (omega arith)) (omega arith)
