-- What goes on the wire is what is heard: a sealed cell is heard as its routing header says, whatever its tandem header. Assumes nothing.
use mathlib.Core.Path.{◌≡◌, refl, sym, ap, ap₂, ◌∙◌}
use mathlib.Core.List.{List, [], ◌∷◌, ◌++◌, map}
use Prim.Native.Nat.{ℕ, ◌+◌, ◌*◌, ◌/◌, ◌%◌, ◌^◌, ◌<◌, ◌≤◌}
use native.Mathlib.Omega.{arith}
use lib.ListN.{length, get_or, take, drop, replicate, length-append, length-drop, take-append-drop, get_or-append}
use lib.Seq.{take_at, get_or_at, length-take-le}
use borrow.Author.Tests.{le-leb}
use Rattle.octets.specs.Octets.{four}
use Rattle.octets.proofs.Numbers.{two_be2, four_be4, two_append, four_append}
use Rattle.remainder.specs.Bits.{bits, number}
use Rattle.remainder.specs.Division.{minus, divide, remainder, residue}
use Rattle.bus.specs.Routing.{check, routing, controlling, address}
use Rattle.bus.specs.declared.Target.{Target}
use Rattle.bus.specs.declared.Target.TheVariants.{Unit}
use Rattle.bus.specs.Routing.{Sayable}
use Rattle.bus.proofs.RoutingLaws.{address_routing, routing_lt, address_controlling, controlling_lt}
use Rattle.bus.specs.Frame.{cell, parity, exclusive_or, sealed, third, delivered, carried, heard, returned}
use Rattle.bus.specs.Heard.{Cell, Control, Loopback, Damaged}
use Rattle.bus.proofs.Laws.{heard_carried}

-- what follows is not read
pub carried_append : (bytes rest : List ℕ) → 8 ≤ length bytes → carried (bytes ++ rest) ≡ carried bytes
unfolding carried
carried_append bytes rest h i = delivered (address (two_append bytes rest 0 (omega arith) i)) (get_or-append bytes rest 0 2 (omega arith) i) (four_append bytes rest 4 (omega arith) i)

-- so a frame of 57 bytes is asked of its cell
pub carried_cell : (frame : List ℕ) → length frame ≡ 57 → carried (take 56 frame) ≡ carried frame
carried_cell frame l = sym (carried_append (take 56 frame) (drop 56 frame) (simp (length-take-le 56 frame (omega arith)) (omega arith))) ∙ ap carried (take-append-drop 56 frame)

-- a sealed cell is heard as what its bytes carry
pub heard_sealed : (bytes : List ℕ) → length bytes ≡ 56 → heard (sealed bytes) ≡ carried bytes
unfolding sealed
heard_sealed bytes l =
    let f = sealed bytes in
    let p = parity bytes ∷ [] in
    heard_carried f (length-append bytes p ∙ ap (λ n. n + 1) l) (ap parity (take_at bytes p 56 l) ∙ sym (get_or_at bytes (parity bytes) [] 0 56 l))
    ∙ carried_append bytes p (omega arith)

-- "tandem header 2 (written zero, heard as anything)": a data cell's is
pub any_tandem : (r t h : ℕ) (payload : List ℕ) → r < 65536 → h < 2 ^ 32 → length payload ≡ 48 → heard (sealed (cell r t h payload)) ≡ delivered (address r) (t / 256 % 256) h
unfolding cell carried
any_tandem r t h payload hr hh l =
    heard_sealed (cell r t h payload) (omega arith)
    ∙ ap₂ (λ r h. delivered (address r) (t / 256 % 256) h) (two_be2 r [] hr) (four_be4 h [] hh)

-- a cell that is sent is heard as what it was sent as
pub sent_is_heard : (target : Target) (class t h : ℕ) (payload : List ℕ) → Sayable target → class < 4 → h < 2 ^ 32 → length payload ≡ 48 → heard (sealed (cell (routing target class) t h payload)) ≡ Cell target class h
sent_is_heard target class t h payload s hc hh l =
    any_tandem (routing target class) t h payload (routing_lt target class s) hh l
    ∙ ap (λ a. delivered a (t / 256 % 256) h) (address_routing target class s hc)

-- a loopback cell that has moved: as long as it was, its other bytes as they were, and a control cell for the unit that its first tandem byte names
pub length_returned : (c : List ℕ) → 2 ≤ length c → length (returned c) ≡ length c
unfolding returned
length_returned c h = simp length-drop (omega arith)

pub drop_returned : (c : List ℕ) → drop 2 (returned c) ≡ drop 2 c
unfolding returned
drop_returned c = refl

pub carried_returned : (c : List ℕ) → length c ≡ 56 → get_or c 2 0 ≤ 31 → carried (returned c) ≡ Control (get_or c 2 0)
unfolding carried returned third
carried_returned c l h =
    let t = get_or c 2 0 in
    ap (λ a. delivered (address a) (get_or (returned c) 2 0) (four (returned c) 4)) (two_be2 (controlling t) (drop 2 c) (controlling_lt t (omega arith)))
    ∙ ap (λ a. delivered a (get_or (returned c) 2 0) (four (returned c) 4)) (address_controlling t (omega arith)) ∙ rw (le-leb t 31 h)

-- "Treating 57 zero bytes as an idle bus: they are a sound frame to unit 0."
pub zero_frame : heard (replicate 57 0) ≡ Cell (Unit 0) 0 0
unfolding heard carried exclusive_or address check residue remainder divide minus bits number
zero_frame = refl

-- 02, W1: "class 0 is control, 1 loopback; another class, or an address above 31, is `damaged`": kind 3 to unit 3 in each class, to 31 and to 32, and a bad check
pub third_kind : map (λ r. delivered (address r) 0 0) (0xC03D ∷ 0xD032 ∷ 0xE030 ∷ 0xF03F ∷ 0xC1FF ∷ 0xC202 ∷ 0xC03C ∷ []) ≡ Control 3 ∷ Loopback 3 ∷ Damaged ∷ Damaged ∷ Control 31 ∷ Damaged ∷ Damaged ∷ []
unfolding third address check residue remainder divide minus bits number
third_kind = refl

-- "a tandem byte above 31 is `damaged`", of a loopback cell: the first tandem byte 31 and 32, and 32 in a control cell
pub third_tandem : map (λ (r, t). heard (sealed (cell r (t * 256) 0 (replicate 48 0)))) ((0xD032, 31) ∷ (0xD032, 32) ∷ (0xC03D, 32) ∷ []) ≡ Loopback 3 ∷ Damaged ∷ Control 3 ∷ []
unfolding cell sealed heard carried exclusive_or third address check residue remainder divide minus bits number
third_tandem = refl
