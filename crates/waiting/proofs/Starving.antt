-- Streets that wait long, computed. Assumes nothing.
use Prim.Native.Nat.{ℕ, zero, suc, ◌+◌, ◌*◌, ◌≤◌}
use native.Mathlib.Omega.{arith}
use mathlib.Core.Path.{◌≡◌, refl, sym, ap, subst, ◌∙◌}
use mathlib.Core.Logic.{◌≢◌, inl}
use mathlib.Core.List.{List, [], ◌∷◌, ◌++◌, map}
use lib.ListN.{length, get_or, replicate, length-replicate}
use Rattle.remainder.specs.Bits.{bits, number}
use Rattle.remainder.specs.Division.{minus, divide, remainder, residue}
use Rattle.header.specs.Fields.{fields, top_of, word}
use Rattle.header.specs.Check.{check as header_check}
use Rattle.arbiter.specs.Arbitration.{nobody, asking, due, renewed_from, run, cyclic, some_asks, highest, first, granted}
use Rattle.shelf.specs.Shelves.{place_from}
use Rattle.meaning.specs.Told.{hears_by, hears_in, same as same_whose, opens, gives as gives_record, record_of, total, declare, join_at, shelf_by, shelf_of, top_of as top_told}
use Rattle.meaning.specs.Served.{serves, served}
use Rattle.answer.specs.Answers.{queued_one, is_addressed}
use Rattle.answer.specs.declared.Arrival.TheVariants as arrival
use Rattle.answer.specs.declared.Answer.TheVariants.{Refused, Arrived, Framed}
use Rattle.document.specs.Counters.{Entry}
use Rattle.document.specs.Events.{Event, Said, answers}
use Rattle.document.specs.Shelf.{Shelf, units_of, bus_of, opened}
use Rattle.document.specs.Arrival.{way_by, way_for, way_of, arrival_by, inlet_by, arrived}
use Rattle.document.specs.Hearing.{addressed, hearing_of, keeping}
use Rattle.document.specs.Frame.{moving_from, moved_by, asking_of, copies, some_addressed, sending_from, sends_one, sends}
use Rattle.document.specs.Steps.{admitted, happens_to, becomes, gives}
use Rattle.answer.specs.Counting.{zeros}
use Rattle.card.specs.declared.Card.{Card}
use Rattle.lookup.specs.Record.{usable}
use Rattle.line.specs.declared.Line.{Line}
use Rattle.meaning.specs.Lines.{Good, judge}
use Rattle.paper.specs.Words.{text_of, AllInRange, numeral_to, numeral, fields_of, parted, words_of}
use Rattle.promise.specs.Says.{unit_lines}
use Rattle.promise.specs.Refusals.{Accepts}
use Rattle.promise.proofs.Faults.{good_iff}
use Rattle.card.specs.Cards.{holds as card_holds, narrow_holds}
use Rattle.card.specs.declared.Card.TheVariants.{Narrow, Wide}
use Rattle.judge.specs.Judge.{judge_bus, judge_unit, judge_vp, judge_drop, judge_page, judge_vc, judge_mc}
use Rattle.document.specs.Examples.{lent}
use Rattle.running.specs.Lent.{loaded_in}
use Rattle.refining.proofs.Refined.{refines}
use Rattle.flow.specs.Parts.{among}
use Rattle.waiting.specs.Waiting.{frames_in, is_frame, TakesUp, said_at, at_three, Ungranted, NoBoundBelow, BoundAttained}
use Rattle.waiting.proofs.Bound.{gives_after}
use Rattle.waiting.specs.Arbiters.{played, is_among, every, bounded, Arbiters}
use Rattle.waiting.specs.Streets.{beside, three, arrives, tick, filled, busy, each, Examples}

-- how the bound counts
pub examples : Examples
unfolding frames_in is_frame among units_of beside
examples = record { from_0 = refl; after_0 = refl; after_2 = refl; itself = refl; between = refl; listed = refl; frames = refl }

-- and of which arbiters it is false
pub arbiters : Arbiters
unfolding played is_among every bounded renewed_from due run cyclic some_asks highest first granted
arbiters =
    record {
      busy_holds = refl;
      beside_holds = refl;
      halves_hold = refl;
      never_kept = refl;
      from_last = refl;
      by_number = refl;
      lowest_first = refl;
      drops = refl;
      not_cleared = refl;
      all_cleared = refl;
    }

-- the shelf once the unit of priority 3 is granted for the first time and has a cell more, with any frame number and history
unfoldable started : Shelf
started = becomes (opened beside) (filled ++ tick ∷ arrives 1 ∷ [])

abbrev steady : ℕ → List Entry → Shelf
steady frame history =
    record { lines = started.lines; bus = started.bus; units = started.units; arbiter = started.arbiter; granted = started.granted; frame = frame; history = history }

-- a frame and an arrival leave it so
abbrev again : ℕ → List Entry → Shelf
again frame history = becomes (steady frame history) (tick ∷ arrives 1 ∷ [])

-- what is said
abbrev said_in : Shelf → List Event → List Said
said_in d es = map (λ b. b.said) (gives d es)

record Computed : Type 0 where
  asks : TakesUp (becomes (opened beside) filled) 0 1
  start : (es : List Event) → said_in (becomes (opened beside) filled) (tick ∷ arrives 1 ∷ es) ≡ answers (Framed 0 nobody 1 0) ∷ answers (Arrived arrival.Queued) ∷ said_in started es
  says : (frame : ℕ) (history : List Entry) (es : List Event) → said_in (steady frame history) (tick ∷ arrives 1 ∷ es) ≡ answers (Framed frame 1 1 0) ∷ answers (Arrived arrival.Queued) ∷ said_in (again frame history) es
  stays : (frame : ℕ) (history : List Entry) → again frame history ≡ steady (again frame history).frame (again frame history).history
  bus_16 : bus_of beside ≡ 16
  two : length (units_of beside) ≡ 2
  one : length (at_three beside) ≡ 1
  -- the last of three
  last_asks : TakesUp (becomes (opened three) each) 2 3
  last_waits : said_in (becomes (opened three) each) (tick ∷ tick ∷ []) ≡ answers (Framed 0 nobody 0 0) ∷ answers (Framed 1 0 1 0) ∷ []
  all : length (at_three three) ≡ 3

computed : Computed
unfolding started beside three bits number minus divide remainder residue fields top_of word header_check asking due renewed_from run cyclic some_asks highest first granted place_from serves served units_of bus_of way_by way_for way_of arrival_by inlet_by arrived addressed hearing_of keeping moving_from moved_by asking_of queued_one is_addressed copies some_addressed sending_from sends_one sends admitted happens_to becomes gives among
computed =
    record {
      asks = refl;
      start = λ es. refl;
      says = λ frame history es. refl;
      stays = λ frame history. refl;
      bus_16 = refl;
      two = refl;
      one = refl;
      last_asks = refl;
      last_waits = refl;
      all = refl;
    }

-- none of these answers grants a unit
abbrev Never : ℕ → List Said → Type 0
Never unit said = (place number sender copies : ℕ) → get_or said place (answers (Refused 0)) ≡ answers (Framed number sender unit copies) → ⊥

never_nil : (unit : ℕ) → Never unit []
never_nil unit place number sender copies e = let z : ◌≡◌ {A = ℕ} 0 1 = cc in omega arith

never_cons : (unit : ℕ) (x : Said) (said : List Said) → ((number sender copies : ℕ) → x ≡ answers (Framed number sender unit copies) → ⊥) → Never unit said → Never unit (x ∷ said)
never_cons unit x said here later zero = here
never_cons unit x said here later (suc place) = later place

-- another unit is granted, and then a cell arrives
never_both : (unit other frame sender sent : ℕ) (said : List Said) → other ≢ unit → Never unit said → Never unit (answers (Framed frame sender other sent) ∷ answers (Arrived arrival.Queued) ∷ said)
never_both unit other frame sender sent said apart later =
    never_cons unit (answers (Framed frame sender other sent)) (answers (Arrived arrival.Queued) ∷ said) (λ n s c e. apart (cc))
    (never_cons unit (answers (Arrived arrival.Queued)) said (λ n s c e. let z : ◌≡◌ {A = ℕ} 0 1 = cc in omega arith) later)

never_granted : (n frame : ℕ) (history : List Entry) → Never 0 (said_in (steady frame history) (busy n))
unfolding busy gives
never_granted zero frame history = never_nil 0
never_granted (suc n) frame history =
    subst (Never 0) (sym (computed.says frame history (busy n)))
    (never_both 0 1 frame 1 0 (said_in (again frame history) (busy n)) (λ e. omega arith)
    (subst (λ d. Never 0 (said_in d (busy n))) (sym (computed.stays frame history)) (never_granted n (again frame history).frame (again frame history).history)))

-- the tables are good on either card, with as much room as they ask for: two records and 8,192 bytes a unit
accepted : (card : Card) (told : List Line) (units : ℕ) → length (text_of told) ≤ 65536 → (told ≡ [] → ⊥) → AllInRange told → Good card (usable (replicate (16 * units) 0)) told → unit_lines told ≡ units →
    Accepts card (text_of told) (replicate (16 * units) 0) (length (replicate {A = ℕ} (8192 * units) 0)) (length (replicate units zeros)) told
accepted card told units short some ranged good many =
    record {
      short = short;
      fine = record { some = some; all = refl; ranged = ranged; faultless = (good_iff card (replicate (16 * units) 0) told).0 good };
      store_enough = omega (arith, many, length-replicate {A = ℕ} (8192 * units) 0);
      rows_enough = omega (arith, many, length-replicate units zeros);
    }

-- whom the document's shelf does not grant, ours does not grant
ungranted : (card : Card) (told : List Line) (units : ℕ) →
    Accepts card (text_of told) (replicate (16 * units) 0) (length (replicate {A = ℕ} (8192 * units) 0)) (length (replicate units zeros)) told → (es more : List Event) (unit priority n : ℕ) →
    TakesUp (becomes (opened told) es) unit priority → n ≤ frames_in (tick ∷ more) → Never unit (said_in (becomes (opened told) es) (tick ∷ more)) → Ungranted card priority n
ungranted card told units good es more unit priority n asks enough never =
    let memory : List ℕ = replicate (16 * units) 0 in
    let store : List ℕ = replicate (8192 * units) 0 in
    let rows = replicate units zeros in
    record {
      text = text_of told;
      memory = memory;
      store = store;
      rows = rows;
      told = told;
      accepts = good;
      es = es;
      buffer = lent 57;
      more = more;
      whole = refl;
      unit = unit;
      asks = asks;
      enough = enough;
      waits = λ g. never g.place g.number g.sender g.copies
          (ap (λ back. said_at back g.place) (sym (gives_after card (loaded_in card (text_of told) memory store rows) (opened told) (refines card (text_of told) memory store rows told good) es (tick ∷ more))) ∙ g.says);
    }

busy_frames : (n : ℕ) → frames_in (busy n) ≡ n
unfolding busy frames_in is_frame
busy_frames zero = refl
busy_frames (suc n) = let h = busy_frames n in omega arith

-- each line is good after those before it
all_good : (card : Card) → Good card (usable (replicate (16 * 2) 0)) beside × Good card (usable (replicate (16 * 3) 0)) three
unfolding beside three judge judge_bus judge_unit judge_vp judge_drop judge_page judge_vc judge_mc card_holds narrow_holds same_whose opens gives_record hears_by top_told total record_of hears_in declare join_at shelf_by shelf_of
all_good Narrow = ((refl, (refl, (refl, (refl, (refl, tt))))), (refl, (refl, (refl, (refl, (refl, (refl, (refl, tt))))))))
all_good Wide = ((refl, (refl, (refl, (refl, (refl, tt))))), (refl, (refl, (refl, (refl, (refl, (refl, (refl, tt))))))))

-- so there is no such number for priority 1
pub no_bound_below : NoBoundBelow
unfolding beside text_of words_of parted fields_of numeral numeral_to unit_lines frames_in is_frame ungranted
no_bound_below card =
    let good = accepted card beside 2 (let l : length (text_of beside) ≡ 89 = refl in omega arith) (λ e. let z : ◌≡◌ {A = ℕ} 0 1 = cc in omega arith)
    (omega arith, (omega arith, (omega arith, (omega arith, (inl refl, tt))))) (all_good card).0 refl in (
      beside,
      λ n. (
        record {
          low = ungranted card beside 2 good filled (arrives 1 ∷ busy n) 0 1 n computed.asks (let f = busy_frames n in omega arith)
              (subst (Never 0) (sym (computed.start (busy n))) (never_both 0 1 0 nobody 0 (said_in started (busy n)) (λ e. omega arith) (never_granted n started.frame started.history)));
          bus = computed.bus_16;
          two = computed.two;
          one = computed.one;
          first = refl;
        },
        refl,
      ),
    )

-- and three units at priority 3 can need three frames
pub bound_attained : BoundAttained
unfolding three text_of words_of parted fields_of numeral numeral_to unit_lines frames_in is_frame ungranted
bound_attained card =
    let good = accepted card three 3 (let l : length (text_of three) ≡ 130 = refl in omega arith) (λ e. let z : ◌≡◌ {A = ℕ} 0 1 = cc in omega arith)
    (omega arith, (omega arith, (omega arith, (omega arith, (omega arith, (omega arith, (inl refl, tt))))))) (all_good card).1 refl in
    record {
      last = ungranted card three 3 good each (tick ∷ []) 2 3 2 computed.last_asks (omega arith)
          (subst (Never 2) (sym computed.last_waits)
          (never_cons 2 (answers (Framed 0 nobody 0 0)) (answers (Framed 1 0 1 0) ∷ []) (λ n s c e. let z : ◌≡◌ {A = ℕ} 0 2 = cc in omega arith)
          (never_cons 2 (answers (Framed 1 0 1 0)) [] (λ n s c e. let z : ◌≡◌ {A = ℕ} 1 2 = cc in omega arith) (never_nil 2))));
      three = computed.all;
    }
