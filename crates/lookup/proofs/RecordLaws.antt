-- A record's bytes say the record, on either card; a memory that holds records gives each back, and a record written into it changes
-- that one. Assumes nothing.
use Rattle.std.specs.Prelude.{Some}
use mathlib.Core.Path.{◌≡◌, refl, sym, ap, ◌∙◌}
use mathlib.Core.List.{List, [], ◌∷◌, ◌++◌, append_assoc}
use Prim.Native.Nat.{ℕ, zero, suc, ◌*◌, ◌%◌, ◌<◌}
use native.Mathlib.Nat.{mul-zero, mul-suc, add_comm}
use native.Mathlib.Omega.{arith}
use lib.ListN.{length, set, get_or, replicate, replicate-append-replicate}
use borrow.Author.Tests.{le-leb}
use Rattle.octets.specs.Octets.{two, four, cat}
use Rattle.octets.proofs.Numbers.{two_be2, four_be4}
use Rattle.octets.proofs.Parts.{put_at, get_at, room, cat_length}
use Rattle.card.specs.declared.Card.{Card}
use Rattle.card.specs.declared.Card.TheVariants.{Narrow, Wide}
use Rattle.lookup.specs.declared.Record as R
use Rattle.lookup.specs.declared.Record.TheVariants.{Empty, Drop, Route, Page}
use Rattle.lookup.specs.Record.{size, route_of, page_of, bytes_of, vpi_in, record_in, record_at, written, Holds, image}

pub bytes_length : (card : Card) (r : R.Record) → length (bytes_of card r) ≡ size
unfolding bytes_of route_of page_of
bytes_length card Empty = refl
bytes_length card Drop = refl
bytes_length Narrow (Route header vpi vci) = refl
bytes_length Wide (Route header vpi vci) = refl
bytes_length card (Page top place) = refl

pub record_bytes : (card : Card) (r : R.Record) → Holds card r → record_in card (bytes_of card r) ≡ Some r
unfolding record_in bytes_of route_of page_of
record_bytes card Empty h = refl
record_bytes card Drop h = refl
record_bytes Narrow (Route header vpi vci) h =
    let e : vpi % 256 ≡ vpi = omega arith in
    λ i. Some (Route (two_be2 header [] h.0 i) (e i) (two_be2 vci [] h.2 i))
record_bytes Wide (Route header vpi vci) h = λ i. Some (Route (two_be2 header [] h.0 i) (two_be2 vpi [] h.1 i) (two_be2 vci [] h.2 i))
record_bytes card (Page top place) h = λ i. Some (Page (two_be2 top [] h.0 i) (four_be4 place [] h.1 i))

module _ (card : Card) (records : List R.Record) (rest : List ℕ) where
  -- a record stands at its place
  pub image_get : (i : ℕ) (d : R.Record) → i < length records → Holds card (get_or records i d) → record_at card (image card records ++ rest) (size * i) ≡ Some (get_or records i d)
  unfolding record_at
  image_get i d h holds =
      rw (le-leb _ _ (room size (bytes_of card) (bytes_length card) records i rest h))
      (ap (record_in card) (get_at size (bytes_of card) (bytes_length card) records i d rest h) ∙ record_bytes card (get_or records i d) holds)

  -- a record written at a place is that record of the list
  pub image_put : (i : ℕ) (r : R.Record) → i < length records → written card (image card records ++ rest) (size * i) r ≡ image card (set records i r) ++ rest
  unfolding written
  image_put i r h =
      rw (le-leb _ _ (room size (bytes_of card) (bytes_length card) records i rest h)) (put_at size (bytes_of card) (bytes_length card) records i r rest h)

pub image_length : (card : Card) (records : List R.Record) → length (image card records) ≡ size * length records
image_length card = cat_length size (bytes_of card) (bytes_length card)

-- empty records are zeros
pub image_empty : (card : Card) (k : ℕ) → image card (replicate k Empty) ≡ replicate (size * k) 0
unfolding cat bytes_of
image_empty card zero = ap (λ n. replicate n 0) (sym (mul-zero size))
image_empty card (suc k) =
    ap (λ l. replicate size 0 ++ l) (image_empty card k) ∙ replicate-append-replicate size (size * k) 0
    ∙ ap (λ n. replicate n 0) (add_comm size (size * k) ∙ sym (mul-suc size k))

pub image_append : (card : Card) (records more : List R.Record) → image card (records ++ more) ≡ image card records ++ image card more
unfolding cat
image_append card [] more = refl
image_append card (r ∷ records) more =
    ap (λ l. bytes_of card r ++ l) (image_append card records more) ∙ sym (append_assoc (bytes_of card r) (image card records) (image card more))

-- what bytes of each kind say
module _ (card : Card) (b : List ℕ) where
  pub kind_route : get_or b 0 0 ≡ 2 → record_in card b ≡ Some (Route (two b 1) (vpi_in card b) (two b 4))
  unfolding record_in
  kind_route e = rw e

  pub kind_page : get_or b 0 0 ≡ 3 → record_in card b ≡ Some (Page (two b 1) (four b 4))
  unfolding record_in
  kind_page e = rw e
