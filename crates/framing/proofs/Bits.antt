-- The counters that rise at a unit in a frame, as one set: those of the move, of its copy and of sending. No counter is in two of the three. Assumes nothing.
use Rattle.std.proofs.Common.{◌≡◌, ℕ, ◌+◌, ◌*◌, ◌/◌, ◌%◌, ◌^◌, ◌<◌, Bool, true, false, cond, sym, refl, ap, ◌∙◌, arith}
use native.Mathlib.Nat.{zero-div}
use lib.Bits.{bit_and, bit_or, and_shifted, or_shifted, or_disjoint, or_shr, or_mod, and_shr, and_mod}
use Rattle.answer.specs.Answers.{#taken, hearing_rises}
use Rattle.answer.specs.declared.Counters.{Counters}
use Rattle.answer.specs.declared.Hearing as A
use Rattle.answer.specs.declared.Hearing.TheVariants.{Damaged, Other, Wide, Full, Clp, Queued}
use Rattle.answer.specs.Counting.{raised}
use Rattle.framing.specs.Sending.{sent_rises}

-- two sets without a common counter: each is in the one or in the other
pub bit_joined : (a b k : ℕ) → bit_and a b ≡ 0 → bit_or a b / 2 ^ k % 2 ≡ a / 2 ^ k % 2 + b / 2 ^ k % 2
bit_joined a b k apart =
    ap (λ n. n % 2) (or_shr a b k) ∙ or_mod (a / 2 ^ k) (b / 2 ^ k) 1
    ∙ or_disjoint (a / 2 ^ k % 2) (b / 2 ^ k % 2) (sym (and_mod (a / 2 ^ k) (b / 2 ^ k) 1) ∙ ap (λ n. n % 2) (sym (and_shr a b k) ∙ ap (λ n. n / 2 ^ k) apart ∙ zero-div (2 ^ k)))

-- so a row with both counted is the row with the one counted, then the other
ticked : (x a b n : ℕ) → n ≡ a + b → (x + n) % 2 ^ 32 ≡ ((x + a) % 2 ^ 32 + b) % 2 ^ 32
ticked x a b n e = omega arith

pub raised_joined : (c : Counters) (a b : ℕ) → bit_and a b ≡ 0 → raised c (bit_or a b) ≡ raised (raised c a) b
unfolding raised
raised_joined c a b apart t =
    record {
      arrived = ticked c.arrived _ _ _ (bit_joined a b 0 apart) t;
      hec = ticked c.hec _ _ _ (bit_joined a b 1 apart) t;
      ignored = ticked c.ignored _ _ _ (bit_joined a b 2 apart) t;
      misrouted = ticked c.misrouted _ _ _ (bit_joined a b 3 apart) t;
      inletfull = ticked c.inletfull _ _ _ (bit_joined a b 4 apart) t;
      sent = ticked c.sent _ _ _ (bit_joined a b 5 apart) t;
      unheard = ticked c.unheard _ _ _ (bit_joined a b 6 apart) t;
      damaged = ticked c.damaged _ _ _ (bit_joined a b 7 apart) t;
      queued = ticked c.queued _ _ _ (bit_joined a b 8 apart) t;
      full = ticked c.full _ _ _ (bit_joined a b 9 apart) t;
      clp = ticked c.clp _ _ _ (bit_joined a b 10 apart) t;
      wide = ticked c.wide _ _ _ (bit_joined a b 11 apart) t;
      taken = ticked c.taken _ _ _ (bit_joined a b 12 apart) t;
    }

-- the set of a move; those of a copy lie above it, those of sending below
abbrev pub taken_if : Bool → ℕ
taken_if moves = cond moves #taken 0

taken_high : (moves : Bool) → (a : ℕ) × (taken_if moves ≡ a * 2 ^ 12)
taken_high true = (1, refl)
taken_high false = (0, refl)

heard_high : (fate : A.Hearing) → (a : ℕ) × (hearing_rises fate ≡ a * 2 ^ 7) × (a < 32)
unfolding hearing_rises
heard_high Damaged = (1, refl, omega arith)
heard_high Other = (0, refl, omega arith)
heard_high Wide = (16, refl, omega arith)
heard_high Full = (4, refl, omega arith)
heard_high Clp = (8, refl, omega arith)
heard_high Queued = (2, refl, omega arith)

pub sent_low : (addressed : Bool) → sent_rises addressed < 2 ^ 7
unfolding sent_rises
sent_low true = omega arith
sent_low false = omega arith

module _ (moves : Bool) (fate : A.Hearing) where
  -- a move and a copy
  pub moved_heard : bit_and (taken_if moves) (hearing_rises fate) ≡ 0
  moved_heard =
      let m = taken_high moves in
      let h = heard_high fate in
      ap (λ n. bit_and n (hearing_rises fate)) m.1 ∙ and_shifted m.0 12 (hearing_rises fate) (omega (arith, h.1, h.2))

  both_high : bit_or (taken_if moves) (hearing_rises fate) ≡ ((taken_high moves).0 * 32 + (heard_high fate).0) * 2 ^ 7
  both_high =
      let m = taken_high moves in
      let h = heard_high fate in
      or_disjoint (taken_if moves) (hearing_rises fate) moved_heard ∙ omega (arith, m.1, h.1)

  -- those and sending
  module _ (sending : ℕ) (low : sending < 2 ^ 7) where
    pub all_apart : bit_and (bit_or (taken_if moves) (hearing_rises fate)) sending ≡ 0
    all_apart = ap (λ n. bit_and n sending) both_high ∙ and_shifted ((taken_high moves).0 * 32 + (heard_high fate).0) 7 sending low

    -- each counter is in one of the three sets or in none
    pub bit_three : (k : ℕ) → bit_or (bit_or (taken_if moves) (hearing_rises fate)) sending / 2 ^ k % 2 ≡ taken_if moves / 2 ^ k % 2 + hearing_rises fate / 2 ^ k % 2 + sending / 2 ^ k % 2
    bit_three k =
        bit_joined (bit_or (taken_if moves) (hearing_rises fate)) sending k all_apart
        ∙ ap (λ n. n + sending / 2 ^ k % 2) (bit_joined (taken_if moves) (hearing_rises fate) k moved_heard)

    pub raised_three : (c : Counters) → raised c (bit_or (bit_or (taken_if moves) (hearing_rises fate)) sending) ≡ raised (raised (raised c (taken_if moves)) (hearing_rises fate)) sending
    raised_three c =
        raised_joined c (bit_or (taken_if moves) (hearing_rises fate)) sending all_apart
        ∙ ap (λ x. raised x sending) (raised_joined c (taken_if moves) (hearing_rises fate) moved_heard)

    -- it is no matter which two are joined first
    pub or_three : bit_or (bit_or (taken_if moves) (hearing_rises fate)) sending ≡ bit_or (taken_if moves) (bit_or (hearing_rises fate) sending)
    or_three =
        let m = taken_high moves in
        let h = heard_high fate in
        let two : bit_or (hearing_rises fate) sending ≡ h.0 * 2 ^ 7 + sending = ap (λ n. bit_or n sending) h.1 ∙ or_shifted h.0 7 sending low in
        let few : bit_or (hearing_rises fate) sending < 2 ^ 12 = omega (arith, two, h.2, low) in
        or_disjoint (bit_or (taken_if moves) (hearing_rises fate)) sending all_apart
        ∙ omega (arith, both_high, two, m.1)
        ∙ sym (ap (λ n. bit_or n (bit_or (hearing_rises fate) sending)) m.1 ∙ or_shifted m.0 12 (bit_or (hearing_rises fate) sending) few)
