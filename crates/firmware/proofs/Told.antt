-- What a caller reads off a number that is given back is the answer that was given: no two answers have one number, so each contract has one result. Assumes nothing.
use mathlib.Core.Path.{◌≡◌, refl, ap, sym, ◌∙◌}
use Prim.Native.Nat.{ℕ, ◌<◌, ◌/◌, ◌%◌}
use native.Mathlib.Omega.{arith}
use Rattle.answer.specs.declared.Arrival.{Arrival}
use Rattle.answer.specs.declared.Arrival.TheVariants as arrivals
use Rattle.answer.specs.declared.Hearing.{Hearing}
use Rattle.answer.specs.declared.Hearing.TheVariants as hearings
use Rattle.answer.specs.declared.Answer.{Answer}
use Rattle.answer.specs.declared.Answer.TheVariants as answers
use Rattle.firmware.specs.Codes.{arrival_code, hearing_code, pack, code, Tells, arrival_by, hearing_by, answer_by, read_off, InBits, ReadBack}
use Rattle.firmware.proofs.Bits.{kind_read, low_read, sender_read, granted_read, high_read}

packed : (kind low sender granted high : ℕ) → kind < 256 → low < 256 → sender < 256 → granted < 256 → read_off (pack kind low sender granted high) ≡ answer_by kind low sender granted high
packed kind low sender granted high k l s g =
    let n : ℕ = pack kind low sender granted high in
    ap (λ x. answer_by x (n / 256 % 256) (n / 65536 % 256) (n / 16777216 % 256) (n / 4294967296)) (kind_read kind low sender granted high k l s g) ∙
    ap (λ x. answer_by kind x (n / 65536 % 256) (n / 16777216 % 256) (n / 4294967296)) (low_read kind low sender granted high k l s g) ∙
    ap (λ x. answer_by kind low x (n / 16777216 % 256) (n / 4294967296)) (sender_read kind low sender granted high k l s g) ∙
    ap (λ x. answer_by kind low sender x (n / 4294967296)) (granted_read kind low sender granted high k l s g) ∙
    ap (λ x. answer_by kind low sender granted x) (high_read kind low sender granted high k l s g)

arrival_back : (f : Arrival) → (arrival_code f < 256) × (arrival_by (arrival_code f) ≡ f)
unfolding arrival_code
arrival_back arrivals.Hec = (omega arith, refl)
arrival_back arrivals.Ignored = (omega arith, refl)
arrival_back arrivals.Misrouted = (omega arith, refl)
arrival_back arrivals.Inletfull = (omega arith, refl)
arrival_back arrivals.Queued = (omega arith, refl)

hearing_back : (f : Hearing) → (hearing_code f < 256) × (hearing_by (hearing_code f) ≡ f)
unfolding hearing_code
hearing_back hearings.Damaged = (omega arith, refl)
hearing_back hearings.Other = (omega arith, refl)
hearing_back hearings.Wide = (omega arith, refl)
hearing_back hearings.Full = (omega arith, refl)
hearing_back hearings.Clp = (omega arith, refl)
hearing_back hearings.Queued = (omega arith, refl)

pub read_back : ReadBack
unfolding code
read_back (answers.Loaded bytes) z = packed 0 0 0 0 bytes (omega arith) (omega arith) (omega arith) (omega arith)
read_back (answers.Unloaded number line) h = packed 1 number 0 0 line (omega arith) h (omega arith) (omega arith)
read_back (answers.Refused number) h = packed 2 number 0 0 0 (omega arith) h (omega arith) (omega arith)
read_back (answers.Arrived fate) z = packed 3 (arrival_code fate) 0 0 0 (omega arith) (arrival_back fate).0 (omega arith) (omega arith) ∙ ap answers.Arrived (arrival_back fate).1
read_back (answers.Framed number sender granted copies) h = packed 4 copies sender granted number (omega arith) h.0 h.1.0 h.1.1
read_back (answers.Heard fate) z = packed 5 (hearing_code fate) 0 0 0 (omega arith) (hearing_back fate).0 (omega arith) (omega arith) ∙ ap answers.Heard (hearing_back fate).1
read_back answers.Taken z = refl
read_back answers.Empty z = refl
read_back answers.Handed z = refl

pub code_only : (a b : Answer) → InBits a → InBits b → code a ≡ code b → a ≡ b
code_only a b p q e = sym (read_back a p) ∙ ap read_off e ∙ read_back b q

-- the contracts of the eight name the answer x; what they say of the lent bytes are equations already. So any two numbers that meet one are equal
pub told_only : {R S : Type 0} (x : Answer) (m n : ℕ) → Tells (λ a. (a ≡ x) × R) m → Tells (λ a. (a ≡ x) × S) n → m ≡ n
told_only x m n t u = t.1.1 ∙ ap code t.1.0.0 ∙ sym (u.1.1 ∙ ap code u.1.0.0)
