-- The witness, computed. Assumes nothing.
use Prim.Native.Nat.{ℕ, ◌≤◌, min}
use native.Mathlib.Omega.{arith}
use mathlib.Core.Path.{◌≡◌, refl, sym, ap, subst, ◌∙◌}
use mathlib.Core.Logic.{inl, ⊎_elim}
use mathlib.Core.List.{List, [], ◌∷◌, ◌++◌, map}
use borrow.Author.Tests.{le-leb}
use lib.ListN.{length, get_or, take, drop, replicate, length-replicate, length-set}
use lib.Seq.{get_or-set_same}
use Rattle.header.specs.declared.Link.TheVariants.{Uni, Nni}
use Rattle.card.specs.Cards.{holds as card_holds, narrow_holds}
use Rattle.card.specs.declared.Card.{Card}
use Rattle.card.specs.declared.Card.TheVariants.{Narrow, Wide}
use Rattle.lookup.specs.Record.{most, usable}
use Rattle.text.specs.Text.{split, same as same_word}
use Rattle.text.specs.Digits.{digit, digits, plain, decimal_of, value}
use Rattle.line.specs.Ranged.{ranged, aim_of}
use Rattle.line.specs.Units.{settings_on, settings_of, limits_in, limits_of}
use Rattle.line.specs.Lines.{bus_line, unit_line, key_of, way_of, vp_line, drop_line, page_line, vc_on, vc_line, mc_line, line_of, word_of, spoken, reading_of}
use Rattle.judge.specs.Judge.{judge_bus, judge_unit, judge_vp, judge_drop, judge_page, judge_vc, judge_mc}
use Rattle.meaning.specs.Told.{same as same_whose, opens, gives as gives_record, hears_by, top_of, total, record_of, hears_in, declare, join_at, shelf_by, shelf_of}
use Rattle.meaning.specs.Lines.{judge, run, Good}
use Rattle.line.specs.declared.Line.TheVariants.{Bus}
use Rattle.promise.specs.Narrow.{FirstWide}
use Rattle.promise.proofs.Cards.{narrow_refuses_iff}
use Rattle.running.specs.Lent.{Lent, does}
use Rattle.running.proofs.InPlace.{loaded_seen}
use Rattle.table.specs.Load.{readings_of, ran_of, loading_of, load}
use Rattle.answer.specs.declared.Counters as C
use Rattle.answer.specs.Answers.{number_of, values_of}
use Rattle.answer.specs.declared.Answer.TheVariants.{Refused}
use Rattle.table.specs.Loads.{answer_of}
use Rattle.outlet.specs.Outlets.{capacity, given, ring_fits, queue_fits, rings_fit}
use Rattle.soundness.specs.State.{every, among, none_repeated, roomy, settings_given, asks_known, arbiter_known, sound_of}
use Rattle.soundness.specs.Lanes.{lanes}
use Rattle.soundness.specs.Soundings.{sound_in}
use Rattle.state.specs.Bytes.{link_of, mode_of, unit_by, units_from, shelf_in}
use Rattle.sentences.specs.Changes.{StateGood}
use Rattle.sentences.proofs.Refused.{refused as rule}
use Rattle.paper.specs.Words.{numeral_to, numeral, fields_of, parted, words_of, text_of, AllInRange}
use Rattle.promise.specs.Says.{records_of, unit_lines}
use Rattle.promise.specs.Refusals.{Long, Accepts}
use Rattle.promise.proofs.Faults.{good_iff}
use Rattle.promise.specs.Starred.{path}
use Rattle.promise.proofs.Refusals.{accepted, refused, either_way}
use Rattle.document.specs.Events.{Event, Said, Back, answers}
use Rattle.document.specs.Shelf.{opened}
use Rattle.document.specs.Examples as X
use Rattle.document.specs.Cases.{table}
use Rattle.document.proofs.Examples.{listing as document_listing}
use Rattle.document.proofs.Cases.{cases_hold, exchanges_hold, arrivals_hold, heard_holds, discards_hold, abr_holds, frames_hold, refusals_hold}
use Rattle.refining.proofs.Refined.{refines}
use Rattle.paper.specs.Answers.{IsRefused}
use Rattle.running.proofs.Opened.{told_idle}
use Rattle.running.proofs.Tables.{table_refused, table_refused_iff, table_loaded_iff}
use Rattle.witness.specs.Witness.{listing, ListingPrints, text, given_to, said_to, Runs, AllRun, Refusals, bytes, Spoiled, spoiled, columns, turn, running, BeyondLoaded, ControlAsks, misformed, LinkByte, bus_text, BusAlone}
use Rattle.table.specs.Loading.{refusal_of}

-- A. 01's listing
-- its text is that of its lines, in their ranges
listing_text : listing ≡ text_of X.table
unfolding listing X.table text_of words_of parted fields_of numeral numeral_to
listing_text = refl

listing_ranged : AllInRange X.table
unfolding X.table
listing_ranged = (omega arith, (omega arith, (omega arith, (omega arith, (inl refl, tt)))))

listing_some : X.table ≡ [] → ⊥
unfolding X.table
listing_some e = let z : ◌≡◌ {A = ℕ} 0 1 = cc in omega arith

-- each is good after those before it, on either card, in any room for 328 bytes
listing_good : (card : Card) (room : ℕ) → 328 ≤ room → Good card room X.table
unfolding X.table judge judge_bus judge_unit judge_vp judge_drop judge_page judge_vc judge_mc card_holds narrow_holds same_whose opens gives_record hears_by top_of total record_of hears_in declare join_at shelf_by shelf_of
listing_good Narrow room h = (refl, (rw (le-leb 328 room h), (rw (le-leb 56 room (omega arith)), (rw (le-leb 48 room (omega arith)), (refl, tt)))))
listing_good Wide room h = (refl, (rw (le-leb 328 room h), (rw (le-leb 56 room (omega arith)), (rw (le-leb 48 room (omega arith)), (refl, tt)))))

listing_units : unit_lines X.table ≡ 2
unfolding X.table unit_lines
listing_units = refl

listing_records : records_of X.table ≡ 41
unfolding X.table records_of
listing_records = refl

pub listing_prints : ListingPrints
unfolding listing
listing_prints card memory store rows m s r =
    let a : Accepts card listing memory (length store) (length rows) X.table =
    record {
      short = (let l : length listing ≡ 99 = refl in omega arith);
      fine = record {
        some = listing_some;
        all = listing_text;
        ranged = listing_ranged;
        faultless = (good_iff card memory X.table).0 (listing_good card (usable memory) (omega arith));
      };
      store_enough = omega (arith, listing_units);
      rows_enough = omega (arith, listing_units);
    } in
    record {
      load = (table_loaded_iff card listing memory (length store) (length rows) 328).1 (X.table, a, omega (arith, listing_records));
      print = refines card listing memory store rows X.table a X.events ∙ document_listing;
    }

-- a table of the `bus` line alone
bus_said : bus_text ≡ text_of (Bus 16 ∷ [])
unfolding text_of words_of parted fields_of numeral numeral_to
bus_said = refl

bus_good : (card : Card) (room : ℕ) → Good card room (Bus 16 ∷ [])
unfolding judge judge_bus card_holds narrow_holds
bus_good Narrow room = (refl, tt)
bus_good Wide room = (refl, tt)

bus_some : Bus 16 ∷ [] ≡ [] → ⊥
bus_some e = let z : ◌≡◌ {A = ℕ} 0 1 = cc in omega arith

pub bus_alone : BusAlone
unfolding unit_lines records_of
bus_alone card memory store rows =
    (table_loaded_iff card bus_text memory store rows 0).1 (
      Bus 16 ∷ [],
      record {
        short = omega arith;
        fine = record { some = bus_some; all = bus_said; ranged = (inl refl, tt); faultless = (good_iff card memory (Bus 16 ∷ [])).0 (bus_good card (usable memory)) };
        store_enough = omega arith;
        rows_enough = omega arith;
      },
      refl,
    )

-- B. a table for every fate
-- the text is that of the table's lines, in their ranges
text_is : text ≡ text_of table
unfolding text table text_of words_of parted fields_of numeral numeral_to
text_is = refl

ranges : AllInRange table
unfolding table
ranges = (omega arith, (omega arith, (omega arith, (omega arith, (omega arith, (omega arith, (omega arith, (omega arith, (omega arith, (omega arith, (omega arith, (omega arith, (inl refl, tt)))))))))))))

some : table ≡ [] → ⊥
unfolding table
some e = let z : ◌≡◌ {A = ℕ} 0 1 = cc in omega arith

-- each is good after those before it, in a memory of 2,736 bytes
good : Good Wide 2736 table
unfolding table judge judge_bus judge_unit judge_vp judge_drop judge_page judge_vc judge_mc card_holds same_whose opens gives_record hears_by top_of total record_of hears_in declare join_at shelf_by shelf_of
good = (refl, (refl, (refl, (refl, (refl, (refl, (refl, (refl, (refl, (refl, (refl, (refl, (refl, tt)))))))))))))

-- and there is room for all of them
units : unit_lines table ≡ 3
unfolding table unit_lines
units = refl

accepts : (memory : List ℕ) → length memory ≡ 2736 → Accepts Wide text memory 24576 3 table
unfolding text
accepts memory m =
    record {
      short = (let l : length text ≡ 211 = refl in omega arith);
      fine = record {
        some = some;
        all = text_is;
        ranged = ranges;
        faultless = (good_iff Wide memory table).0 (subst (λ n. Good Wide n table) (sym (ap (λ n. min n most) m)) good);
      };
      store_enough = omega (arith, units);
      rows_enough = omega (arith, units);
    }

module _ (memory store : List ℕ) (rows : List C.Counters) (m : length memory ≡ 2736) (s : length store ≡ 24576) (r : length rows ≡ 3) where
  accepted_here : Accepts Wide text memory (length store) (length rows) table
  accepted_here = subst (λ n. Accepts Wide text memory (length store) n table) (sym r) (subst (λ n. Accepts Wide text memory n 3 table) (sym s) (accepts memory m))

  gives : (es : List Event) (back : List Back) → Rattle.document.specs.Steps.gives (opened table) es ≡ back → given_to memory store rows es ≡ back
  gives es back e = refines Wide text memory store rows table accepted_here es ∙ e

  says : (es : List Event) (said : List Said) → map (λ b. b.said) (Rattle.document.specs.Steps.gives (opened table) es) ≡ said → said_to memory store rows es ≡ said
  says es said e = ap (map (λ b. b.said)) (gives es (Rattle.document.specs.Steps.gives (opened table) es) refl) ∙ e

  records_are : records_of table ≡ 342
  unfolding table records_of
  records_are = refl

  all_runs : Runs memory store rows
  unfolding Rattle.document.specs.Cases.says
  all_runs =
      record {
        load = (table_loaded_iff Wide text memory (length store) (length rows) 2736).1 (table, accepted_here, omega (arith, records_are));
        arrive = says _ _ arrivals_hold;
        hear = says _ _ heard_holds;
        discard = says _ _ discards_hold;
        take = says _ _ abr_holds;
        send = says _ _ frames_hold;
        refuse = says _ _ refusals_hold;
        exchange = gives _ _ (ap (λ l. get_or l 0 []) exchanges_hold);
        return = gives _ _ (ap (λ l. get_or l 1 []) exchanges_hold);
        in_turn = gives _ _ (ap (λ l. get_or l 2 []) exchanges_hold);
        mark = gives _ _ (ap (λ l. get_or l 3 []) exchanges_hold);
        find_busy = says _ _ (ap (λ l. get_or l 19 []) cases_hold);
        crowd = says _ _ (ap (λ l. get_or l 20 []) cases_hold);
        judge = says _ _ (ap (λ l. get_or l 21 []) cases_hold);
        stand = says _ _ (ap (λ l. get_or l 22 []) cases_hold);
      }

pub all_run : AllRun
all_run = all_runs

-- C. each refusal
long : Long (replicate 65537 0) 1 0
long = let n = length-replicate {A = ℕ} 65537 0 in record { long = omega arith; number_is = refl; line_is = refl }

-- the fourth line asks for an NNI link, and none before it is too wide
uni : Uni ≡ Nni → ⊥
uni e = let z : ◌≡◌ {A = ℕ} 0 1 = cc in omega arith

first_wide : FirstWide table 4
unfolding table
first_wide =
    record {
      before = drop 10 table;
      it = get_or table 9 (Bus 16);
      after = take 9 table;
      all = refl;
      none_before = (uni, (uni, (λ e. omega arith, tt)));
      wide = refl;
      counted = refl;
    }

narrow_wide : (load Narrow text (replicate 2736 0) 24576 3).outcome ≡ refusal_of 5 4
narrow_wide =
    (narrow_refuses_iff text (replicate 2736 0) 24576 3 table (accepts (replicate 2736 0) (length-replicate {A = ℕ} 2736 0)) 4).0 first_wide

pub refusals : Refusals
unfolding text path answer_of number_of values_of split same_word digit digits plain decimal_of value ranged aim_of bus_line settings_on settings_of limits_in limits_of unit_line key_of way_of vp_line drop_line page_line vc_on vc_line mc_line line_of word_of spoken reading_of readings_of judge judge_bus judge_unit judge_vp judge_drop judge_page judge_vc judge_mc card_holds narrow_holds same_whose opens gives_record hears_by top_of total record_of hears_in declare join_at shelf_by shelf_of run ran_of loading_of load
refusals =
    record {
      long = (table_refused_iff Wide (replicate 65537 0) [] 0 0 1 0).1 (inl long);
      form = (omega arith, refl, refl);
      order = (omega arith, refl, refl);
      twice = (omega arith, refl, refl);
      wide = subst (λ o. IsRefused (answer_of o) 5 4) (sym narrow_wide) (table_refused 5 4 (omega arith));
      room = (omega arith, refl, refl);
      store = (omega arith, refl, refl);
    }

-- D. what is no state
-- a state that is not good is refused with 8
eight : (card : Card) (l : Lent) (e : Event) → length l.state ≡ 2048 → (StateGood card l → ⊥) → (does card l e).said ≡ answers (Refused 8)
eight card l e long bad =
    let r = rule card l e long in
    let n = r.state_8.1 bad in
    r.only_number (λ z. omega (arith, n, z)) ∙ ap (λ k. answers (Refused k)) n

bytes_long : (written : List (ℕ × ℕ)) → length (bytes written) ≡ 2048
unfolding bytes
bytes_long [] = length-replicate {A = ℕ} 2048 0
bytes_long (one ∷ more) = length-set (bytes more) one.0 one.1 ∙ bytes_long more

-- no bus has 17 units
pub spoiled_state : Spoiled
unfolding bytes
spoiled_state card e =
    let bus : get_or spoiled.state 804 0 ≡ 17 = get_or-set_same (replicate 2048 0) 804 17 0 (omega (arith, length-replicate {A = ℕ} 2048 0)) in
    eight card spoiled e (bytes_long ((804, 17) ∷ [])) (λ good. ⊎_elim (λ x. omega (arith, x, bus)) (λ x. omega (arith, x, bus)) good.sound.bus)

-- no link byte is 2
pub link_byte : LinkByte
unfolding bytes sound_of roomy settings_given given capacity ring_fits queue_fits rings_fit card_holds every among none_repeated asks_known arbiter_known link_of mode_of unit_by units_from
link_byte memory store rows e =
    record {
      sound = refl;
      refuses =
          eight Wide (record { state = misformed; memory = memory; store = store; rows = rows }) e (bytes_long ((32, 2) ∷ columns ++ turn))
          (λ good. let link : get_or misformed 32 0 ≤ 1 = good.formed.link 0 (omega arith) (omega arith) in omega arith);
    }

-- E. a state that was loaded has no frame behind it
loaded_frame : (card : Card) (text memory : List ℕ) (store rows : ℕ) → (load card text memory store rows).shelf.frame ≡ 0
loaded_frame card text memory store rows =
    ⊎_elim
    (λ a. ap (λ x. x.shelf.frame) (accepted card text memory store rows a.0 a.1).0 ∙ ap (λ x. x.frame) (told_idle a.0))
    (λ r. ap (λ x. x.shelf.frame) (refused card text memory store rows r.0 r.1 r.2).0)
    (either_way card text memory store rows)

pub beyond_loaded : BeyondLoaded
unfolding bytes sound_in lanes sound_of roomy settings_given given capacity ring_fits queue_fits rings_fit card_holds narrow_holds every among none_repeated asks_known arbiter_known link_of mode_of unit_by units_from
beyond_loaded = (
  refl,
  λ card text memory store rows e.
      let z = ap (λ w. w.shelf.frame) (loaded_seen card text memory store rows) ∙ loaded_frame card text memory (length store) (length rows) in
      let y : (shelf_in running).frame ≡ 0 = ap (λ b. (shelf_in b).frame) (sym e) ∙ z in
      omega arith,
)

pub control_asks : ControlAsks
unfolding bytes sound_in lanes sound_of roomy settings_given given capacity ring_fits queue_fits rings_fit card_holds narrow_holds every among none_repeated asks_known arbiter_known link_of mode_of unit_by units_from
control_asks = refl
