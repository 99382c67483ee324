use Rattle.std.proofs.Common.{◌≡◌, ℕ, ◌+◌, ◌≤◌, Option, Some, None, List, ◌++◌, length, take, sym, ap, ◌∙◌, append_assoc, rules}
use Rattle.std.proofs.lemmas.List.{length-take-le, take-append-le}
use Rattle.std.proofs.Math.Seq.{take-append-add}
use Rattle.std.specs.Io.KnownBytes.{Consumes}
use Rattle.streams.proofs.get_all.Goals as goal

-- bytes that are read behind others
then : (a b c : Option (List ℕ)) (xs ys : List ℕ) → Consumes a b xs → Consumes b c ys → Consumes a c (xs ++ ys)
then None b c xs ys h k = tt
then (Some s) None c xs ys h k = absurd h
then (Some s) (Some t) None xs ys h k = absurd k
then (Some s) (Some t) (Some u) xs ys h k = h ∙ ap (λ l. xs ++ l) k ∙ sym (append_assoc xs ys u)

-- and they stand behind them
front : (xs ys rest : List ℕ) (n m : ℕ) → n ≤ length xs → m ≤ length ys → take (n + m) (take n xs ++ (ys ++ rest)) ≡ take n xs ++ take m ys
front xs ys rest n m h k =
    ap (λ i. take (i + m) (take n xs ++ (ys ++ rest))) (sym (length-take-le n xs h))
    ∙ take-append-add (take n xs) (ys ++ rest) m
    ∙ ap (λ l. take n xs ++ l) (take-append-le m ys rest k)

pub loop-n-preserved : goal.loop-n-preserved
loop-n-preserved g c =
    let l = c.loop-n in
    let more = c.in_ok-more.ensures in (
      search rules,
      search rules,
      rw (front l.buffer c.get.new.buffer _ l.n c.in_ok-more.more l.invariant.0 more.in_bounds) (then _ _ _ _ _ l.invariant.2 more.bytes),
    )
