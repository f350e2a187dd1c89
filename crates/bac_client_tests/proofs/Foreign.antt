-- What comes from the device that isn't ours.
use Rattle.std.proofs.Common.{◌≡◌, ◌⊎◌, ℕ, zero, suc, ◌+◌, ◌<◌, ◌≤◌, ◌==◌, Bool, true, false, nat_lt, get_or, if◌then◌else◌, Option, Some, None, Result, Ok, Err, List, [], ◌∷◌, ◌++◌, length, pos, refl, sym, subst, ap, ◌∙◌, inl, inr, arith}
use Rattle.std.proofs.lemmas.Bool.{cases_Bool, cases_lt, eqb-true}
use Rattle.std.proofs.lemmas.Option.{same_Some}
use Rattle.bac_wire.specs.Canon.{tagged, unsigned_octets}
use Rattle.bac_wire.specs.Number.{number}
use Rattle.bac_wire.specs.Primitive.{Id, Object, Enumerated, Signed}
use Rattle.bac_wire.proofs.Canonical.{unsigned_stands}
use Rattle.bac_wire.specs.Level.{token_at, close_at}
use Rattle.bac_wire.specs.Reading.{number_at as wire_number_at, length_at, value_in, tagged_at, value_at, context_at, mark_at, contents_as}
use Rattle.bac_wire.specs.Encoding.{context_octets, value_octets, open_octets, close_octets}
use Rattle.bac_apdu.specs.Apdu.{segment_at, confirmed_at, complex_at, number_at, error_at, pair_at, unconfirmed_at, segment_ack_at, apdu_behind, apdu_at}
use Rattle.bac_apdu.specs.FormReading.{row_at, optional_at, form_at}
use Rattle.bac_apdu.specs.Frame.{body_at, frame_at, frame_octets}
use Rattle.bac_apdu.specs.Apdu.{apdu_octets, Confirmed}
use Rattle.bac_apdu.specs.Npdu.{header_octets, place_at, maybe_place_at, hops_at, header_at, place_octets}
use Rattle.bac_apdu.specs.Octets.{word_at, octets_at}
use Rattle.bac_apdu.specs.Service.ReadRangeAck.{read_range_ack_at}
use Rattle.bac_log.specs.RecordReading.{date_at, time_at, behind_at, simple_at, choice_at, chosen_at, datum_at, flags_at, entry_at, entries_at}
use Rattle.bac_log.specs.TrendLog.{sequence_number}
use Rattle.bac_link.specs.Datagrams.{carried_in, message_in}
use Rattle.bac_link.specs.Delivery.{DeliversTo, Moment, items_of, now, later}
use Rattle.bac_link.specs.Laws.{moment_at}
use Rattle.bac_link.specs.Links.{question}
use Rattle.bac_link.specs.Path.{Path, towards}
use Rattle.bac_link.specs.Requests.{asking, parameters_of, request_apdu, request_octets}
use Rattle.bac_link.specs.declared.item.Item.{Item}
use Rattle.bac_link.specs.declared.item.Item.TheVariants.{Logged}
use Rattle.bac_link.specs.declared.link.Lost.{Lost}
use Rattle.bac_walk.specs.Came.{Asks, Came, Comes, Brought, BroughtIsDelivered, AreOf, AreSaidAt, EndsBy, EndsEmpty, answers_of, reaching, walk_over}
use Rattle.bac_walk.specs.Collects.{start_of, turn_items}
use Rattle.bac_walk.specs.Delivers.{NoneFrom}
use Rattle.bac_walk.proofs.Came.{start_old}
use Rattle.bac_walk.specs.Honest.{DeliversSaid, IsHonestEnd}
use Rattle.bac_link.specs.Honest.{IsAskedIn, IsSaidOrLost, IsHonestWhere, HonestWhereItStands, asked_octets, asked_log}
use Rattle.bac_walk.specs.Told.{ended_of}
use Rattle.bac_walk.specs.declared.outcome.WalkFault.{WalkFault}
use Rattle.bac_walk.specs.declared.outcome.WalkFault.TheVariants as fault
use Rattle.bac_walk.specs.Outcomes.{IsRunOf}
use Rattle.bac_walk.specs.declared.outcome.Ended.{Ended}
use Rattle.bac_walk.specs.declared.outcome.Ended.TheVariants.{CaughtUp as IsUp, StepLimit, Stopped, Fault}
use Rattle.bac_walk.specs.declared.outcome.Why.{Why}
use Rattle.bac_walk.specs.declared.outcome.Why.TheVariants as why
use Rattle.bac_apdu.specs.Npdu.{Place}
use Rattle.bac_link.specs.Heard.{AckParameters, heard_at}
use Rattle.bac_walk.specs.Place.{WalkPlace, walk_at}
use Rattle.bac_link.specs.Heard.{heard_in}
use Rattle.bac_link.specs.Standard.{Asked, FromNumber, FromOldest, IsCount, IsSaidAt, HoldsNumber}
use Rattle.bac_walk.specs.Walks.{asked_by, question_of, IsTakenFrom}
use Rattle.bac_walk.specs.declared.outcome.Progress.{Progress}
use Rattle.bac_walk.specs.declared.outcome.Progress.TheVariants.{Batch as BatchOf, AskOldest, CaughtUp}
use Rattle.bac_walk.proofs.Ends.{is_loss}
use Rattle.bac_client_tests.specs.Foreign.{all_held, from_7, from_9, from_oldest, held, history, log, none_from_11, record_7, record_8, record_9, record_10, said_for, said_to, IsSaid}

-- ---- what is read

reads_7 : heard_in log from_7 ≡ Some (record { first = Some 7; count = 2; entries = record_7 ∷ record_8 ∷ [] })
unfolding token_at close_at wire_number_at length_at value_in tagged_at value_at context_at mark_at contents_as segment_at confirmed_at complex_at number_at error_at pair_at unconfirmed_at segment_ack_at apdu_behind apdu_at row_at optional_at form_at body_at frame_at place_at maybe_place_at hops_at header_at word_at octets_at read_range_ack_at carried_in message_in date_at time_at behind_at simple_at choice_at chosen_at datum_at flags_at entry_at entries_at heard_at
reads_7 = refl

reads_9 : heard_in log from_9 ≡ Some (record { first = Some 9; count = 2; entries = record_9 ∷ record_10 ∷ [] })
unfolding token_at close_at wire_number_at length_at value_in tagged_at value_at context_at mark_at contents_as segment_at confirmed_at complex_at number_at error_at pair_at unconfirmed_at segment_ack_at apdu_behind apdu_at row_at optional_at form_at body_at frame_at place_at maybe_place_at hops_at header_at word_at octets_at read_range_ack_at carried_in message_in date_at time_at behind_at simple_at choice_at chosen_at datum_at flags_at entry_at entries_at heard_at
reads_9 = refl

reads_11 : heard_in log none_from_11 ≡ Some (record { first = None; count = 0; entries = [] })
unfolding token_at close_at wire_number_at length_at value_in tagged_at value_at context_at mark_at contents_as segment_at confirmed_at complex_at number_at error_at pair_at unconfirmed_at segment_ack_at apdu_behind apdu_at row_at optional_at form_at body_at frame_at place_at maybe_place_at hops_at header_at word_at octets_at read_range_ack_at carried_in message_in date_at time_at behind_at simple_at choice_at chosen_at datum_at flags_at entry_at entries_at heard_at
reads_11 = refl

reads_oldest : heard_in log from_oldest ≡ Some (record { first = Some 7; count = 2; entries = record_7 ∷ record_8 ∷ [] })
unfolding token_at close_at wire_number_at length_at value_in tagged_at value_at context_at mark_at contents_as segment_at confirmed_at complex_at number_at error_at pair_at unconfirmed_at segment_ack_at apdu_behind apdu_at row_at optional_at form_at body_at frame_at place_at maybe_place_at hops_at header_at word_at octets_at read_range_ack_at carried_in message_in date_at time_at behind_at simple_at choice_at chosen_at datum_at flags_at entry_at entries_at heard_at
reads_oldest = refl

-- ---- what is said, to questions for two records or more

pub most_asked : IsCount 100
most_asked = record { some = omega arith; most = omega arith }

said_7 : (count : ℕ) → IsCount count → 2 ≤ count → IsSaidAt held history log (FromNumber 7 count) from_7
said_7 count asks two = record {
  asks = asks;
  heard = record { first = Some 7; count = 2; entries = record_7 ∷ record_8 ∷ [] };
  reads = reads_7;
  counts = refl;
  says = (7, (refl, two, ((omega arith, omega arith), (omega arith, refl), ((omega arith, omega arith), (omega arith, refl), tt))), inl refl);
}

said_9 : (count : ℕ) → IsCount count → 2 ≤ count → IsSaidAt held history log (FromNumber 9 count) from_9
said_9 count asks two = record {
  asks = asks;
  heard = record { first = Some 9; count = 2; entries = record_9 ∷ record_10 ∷ [] };
  reads = reads_9;
  counts = refl;
  says = (9, (refl, two, ((omega arith, omega arith), (omega arith, refl), ((omega arith, omega arith), (omega arith, refl), tt))), inl refl);
}

none_11 : HoldsNumber held 11 → ⊥
none_11 holds = omega (arith, holds.1.0, holds.1.1, holds.2)

said_11 : (count : ℕ) → IsCount count → IsSaidAt held history log (FromNumber 11 count) none_from_11
said_11 count asks = record {
  asks = asks;
  heard = record { first = None; count = 0; entries = [] };
  reads = reads_11;
  counts = refl;
  says = none_11;
}

said_oldest : (count : ℕ) → IsCount count → 2 ≤ count → IsSaidAt held history log (FromOldest count) from_oldest
said_oldest count asks two = record {
  asks = asks;
  heard = record { first = Some 7; count = 2; entries = record_7 ∷ record_8 ∷ [] };
  reads = reads_oldest;
  counts = refl;
  says = (refl, two, ((omega arith, omega arith), (omega arith, refl), ((omega arith, omega arith), (omega arith, refl), tt)));
}

-- ---- what is asked

abbrev asked_for : ℕ → WalkPlace → List ℕ
asked_for invoke w = request_octets (towards None) invoke (question w.log (question_of w))

-- where the walk is after number 11, too, brought nothing
abbrev at_oldest : WalkPlace
at_oldest = record { log = log; next = 11; fresh = false; asks_oldest = true; count = 100 }

asks_7 : (invoke : ℕ) → said_to (asked_for invoke (walk_at log 7)) ≡ Some from_7
unfolding context_octets value_octets open_octets close_octets frame_octets place_octets parameters_of request_apdu request_octets
asks_7 invoke = refl

asks_9 : (invoke : ℕ) → said_to (asked_for invoke (walk_at log 9)) ≡ Some from_9
unfolding context_octets value_octets open_octets close_octets frame_octets place_octets parameters_of request_apdu request_octets
asks_9 invoke = refl

asks_11 : (invoke : ℕ) → said_to (asked_for invoke (walk_at log 11)) ≡ Some none_from_11
unfolding context_octets value_octets open_octets close_octets frame_octets place_octets parameters_of request_apdu request_octets
asks_11 invoke = refl

asks_for_oldest : (invoke : ℕ) → said_to (asked_for invoke at_oldest) ≡ Some from_oldest
unfolding context_octets value_octets open_octets close_octets frame_octets place_octets parameters_of request_apdu request_octets
asks_for_oldest invoke = refl

-- ---- what comes

-- an exchange that brought a datagram brought what the device answers to the question of a walk that is here
one_answer : {S : Type 0} (retries : ℕ) (old : S) (w : WalkPlace) (datagram : List ℕ) (new : S) →
    Asks (λ a octets answer b. IsSaid octets answer) (towards None) retries old w (Ok datagram) new →
    (invoke : ℕ) × (said_to (asked_for invoke w) ≡ Some datagram)
one_answer retries old w datagram new asks = (asks.0, asks.1.4)

-- a reply that came where it was said
said_here : (w : WalkPlace) (datagram : List ℕ) (c : Came) → IsSaidAt held history w.log (asked_by w) datagram → c.place ≡ w → datagram ≡ c.datagram →
    IsSaidAt held history c.place.log (asked_by c.place) c.datagram
said_here w datagram c said place is =
    let P : WalkPlace → Type 0 = λ v. IsSaidAt held history v.log (asked_by v) c.datagram in
    let Q : List ℕ → Type 0 = λ d. IsSaidAt held history w.log (asked_by w) d in subst P (sym place) (subst Q is said)

heard_as : (w : WalkPlace) (datagram came : List ℕ) (h : AckParameters) (p : Progress) (next : WalkPlace) → datagram ≡ came → heard_in w.log datagram ≡ Some h →
    IsTakenFrom w (heard_in w.log came) (Ok p) next → IsTakenFrom w (Some h) (Ok p) next
heard_as w datagram came h p next is reads taken =
    let P : List ℕ → Type 0 = λ d. IsTakenFrom w (heard_in w.log d) (Ok p) next in
    let Q : Option AckParameters → Type 0 = λ o. IsTakenFrom w o (Ok p) next in subst Q reads (subst P (sym is) taken)

ends : (c : Came) (came : List Came) (x : Item) (xs more : List Item) → c.items ≡ x ∷ xs → (EndsEmpty came → items_of (answers_of came) ≡ more) →
    EndsEmpty (c ∷ came) → items_of (answers_of (c ∷ came)) ≡ (x ∷ xs) ++ more
ends c [] x xs more is rest empty = absurd (let e = sym is ∙ empty.0 in cc)
ends c (d ∷ came) x xs more is rest empty =
    ap (λ ys. ys ++ items_of (answers_of (d ∷ came))) is ∙ ap (λ ys. (x ∷ xs) ++ ys) (rest empty)

taken_oldest : (p : Progress) (next : WalkPlace) → IsTakenFrom at_oldest (Some (record { first = Some 7; count = 2; entries = record_7 ∷ record_8 ∷ [] })) (Ok p) next →
    (turn_items (Ok p) ≡ []) × (next ≡ at_oldest)
taken_oldest CaughtUp next taken = (refl, taken)
taken_oldest AskOldest next taken = absurd taken
taken_oldest (BatchOf b) next taken = absurd taken

taken_11 : (p : Progress) (next : WalkPlace) → IsTakenFrom (walk_at log 11) (Some (record { first = None; count = 0; entries = [] })) (Ok p) next →
    (turn_items (Ok p) ≡ []) × (next ≡ at_oldest)
taken_11 AskOldest next taken = (refl, taken)
taken_11 CaughtUp next taken = absurd taken
taken_11 (BatchOf b) next taken = absurd taken

taken_9 : (p : Progress) (next : WalkPlace) → IsTakenFrom (walk_at log 9) (Some (record { first = Some 9; count = 2; entries = record_9 ∷ record_10 ∷ [] })) (Ok p) next →
    (turn_items (Ok p) ≡ Logged 9 record_9 ∷ Logged 10 record_10 ∷ []) × (next ≡ walk_at log 11)
taken_9 (BatchOf b) next taken = taken
taken_9 AskOldest next taken = absurd taken
taken_9 CaughtUp next taken = absurd taken

taken_7 : (p : Progress) (next : WalkPlace) → IsTakenFrom (walk_at log 7) (Some (record { first = Some 7; count = 2; entries = record_7 ∷ record_8 ∷ [] })) (Ok p) next →
    (turn_items (Ok p) ≡ Logged 7 record_7 ∷ Logged 8 record_8 ∷ []) × (next ≡ walk_at log 9)
taken_7 (BatchOf b) next taken = taken
taken_7 AskOldest next taken = absurd taken
taken_7 CaughtUp next taken = absurd taken

comes_oldest : {S : Type 0} (retries : ℕ) (came : List Came) (old : S) (w after : WalkPlace) (new : S) → w ≡ at_oldest →
    Comes (reaching (λ a octets answer b. IsSaid octets answer) (towards None) retries) (walk_over old w) came (walk_over new after) → AreSaidAt history (held ∷ []) came × (items_of (answers_of came) ≡ [])
comes_oldest retries [] old w after new here comes = (tt, refl)
comes_oldest retries (c ∷ came) old w after new here (mid, next, p, place, asked, taken, is, rest) =
    let A : WalkPlace → Type 0 = λ v. Asks (λ a octets answer b. IsSaid octets answer) (towards None) retries old v (Ok c.datagram) mid in
    let answer = one_answer retries old at_oldest c.datagram mid (subst A here asked) in
    let d = same_Some from_oldest c.datagram (sym (asks_for_oldest answer.0) ∙ answer.1) in
    let T : WalkPlace → Type 0 = λ v. IsTakenFrom v (heard_in v.log c.datagram) (Ok p) next in
    let brings = taken_oldest p next (heard_as at_oldest from_oldest c.datagram (record { first = Some 7; count = 2; entries = record_7 ∷ record_8 ∷ [] }) p next d reads_oldest (subst T here taken)) in
    let more = comes_oldest retries came mid next after new brings.1 rest in
    ((said_here at_oldest from_oldest c (said_oldest 100 most_asked (omega arith)) (place ∙ here) d, more.0), ap (λ ys. ys ++ items_of (answers_of came)) (is ∙ brings.0) ∙ more.1)

comes_11 : {S : Type 0} (retries : ℕ) (came : List Came) (old : S) (w after : WalkPlace) (new : S) → w ≡ walk_at log 11 →
    Comes (reaching (λ a octets answer b. IsSaid octets answer) (towards None) retries) (walk_over old w) came (walk_over new after) → AreSaidAt history (held ∷ []) came × (items_of (answers_of came) ≡ [])
comes_11 retries [] old w after new here comes = (tt, refl)
comes_11 retries (c ∷ came) old w after new here (mid, next, p, place, asked, taken, is, rest) =
    let A : WalkPlace → Type 0 = λ v. Asks (λ a octets answer b. IsSaid octets answer) (towards None) retries old v (Ok c.datagram) mid in
    let answer = one_answer retries old (walk_at log 11) c.datagram mid (subst A here asked) in
    let d = same_Some none_from_11 c.datagram (sym (asks_11 answer.0) ∙ answer.1) in
    let T : WalkPlace → Type 0 = λ v. IsTakenFrom v (heard_in v.log c.datagram) (Ok p) next in
    let brings = taken_11 p next (heard_as (walk_at log 11) none_from_11 c.datagram (record { first = None; count = 0; entries = [] }) p next d reads_11 (subst T here taken)) in
    let more = comes_oldest retries came mid next after new brings.1 rest in
    ((said_here (walk_at log 11) none_from_11 c (said_11 100 most_asked) (place ∙ here) d, more.0), ap (λ ys. ys ++ items_of (answers_of came)) (is ∙ brings.0) ∙ more.1)

comes_9 : {S : Type 0} (retries : ℕ) (came : List Came) (old : S) (w after : WalkPlace) (new : S) → w ≡ walk_at log 9 →
    Comes (reaching (λ a octets answer b. IsSaid octets answer) (towards None) retries) (walk_over old w) came (walk_over new after) →
    AreSaidAt history (held ∷ []) came × (EndsEmpty came → items_of (answers_of came) ≡ Logged 9 record_9 ∷ Logged 10 record_10 ∷ [])
comes_9 retries [] old w after new here comes = (tt, λ empty. absurd empty)
comes_9 retries (c ∷ came) old w after new here (mid, next, p, place, asked, taken, is, rest) =
    let A : WalkPlace → Type 0 = λ v. Asks (λ a octets answer b. IsSaid octets answer) (towards None) retries old v (Ok c.datagram) mid in
    let answer = one_answer retries old (walk_at log 9) c.datagram mid (subst A here asked) in
    let d = same_Some from_9 c.datagram (sym (asks_9 answer.0) ∙ answer.1) in
    let T : WalkPlace → Type 0 = λ v. IsTakenFrom v (heard_in v.log c.datagram) (Ok p) next in
    let brings = taken_9 p next (heard_as (walk_at log 9) from_9 c.datagram (record { first = Some 9; count = 2; entries = record_9 ∷ record_10 ∷ [] }) p next d reads_9 (subst T here taken)) in
    let more = comes_11 retries came mid next after new brings.1 rest in
    ((said_here (walk_at log 9) from_9 c (said_9 100 most_asked (omega arith)) (place ∙ here) d, more.0), ends c came (Logged 9 record_9) (Logged 10 record_10 ∷ []) [] (is ∙ brings.0) (λ empty. more.1))

comes_7 : {S : Type 0} (retries : ℕ) (came : List Came) (old : S) (w after : WalkPlace) (new : S) → w ≡ walk_at log 7 →
    Comes (reaching (λ a octets answer b. IsSaid octets answer) (towards None) retries) (walk_over old w) came (walk_over new after) →
    AreSaidAt history (held ∷ []) came × (EndsEmpty came → items_of (answers_of came) ≡ all_held)
comes_7 retries [] old w after new here comes = (tt, λ empty. absurd empty)
comes_7 retries (c ∷ came) old w after new here (mid, next, p, place, asked, taken, is, rest) =
    let A : WalkPlace → Type 0 = λ v. Asks (λ a octets answer b. IsSaid octets answer) (towards None) retries old v (Ok c.datagram) mid in
    let answer = one_answer retries old (walk_at log 7) c.datagram mid (subst A here asked) in
    let d = same_Some from_7 c.datagram (sym (asks_7 answer.0) ∙ answer.1) in
    let T : WalkPlace → Type 0 = λ v. IsTakenFrom v (heard_in v.log c.datagram) (Ok p) next in
    let brings = taken_7 p next (heard_as (walk_at log 7) from_7 c.datagram (record { first = Some 7; count = 2; entries = record_7 ∷ record_8 ∷ [] }) p next d reads_7 (subst T here taken)) in
    let more = comes_9 retries came mid next after new brings.1 rest in (
      (said_here (walk_at log 7) from_7 c (said_7 100 most_asked (omega arith)) (place ∙ here) d, more.0),
      ends c came (Logged 7 record_7) (Logged 8 record_8 ∷ []) (Logged 9 record_9 ∷ Logged 10 record_10 ∷ []) (is ∙ brings.0) more.1,
    )

-- ---- a run

pub ended_up : (w : Why) (steps n : ℕ) (ended : Ended) → IsRunOf w steps n ended → w ≡ why.CaughtUp → ended ≡ IsUp
ended_up why.CaughtUp steps n ended run is = run.1
ended_up why.StepLimit steps n ended run is = absurd (cc)
ended_up (why.Fault f) steps n ended run is = absurd (cc)
ended_up why.Memory steps n ended run is = absurd (cc)

up : {S : Type 0} (asks : S → List ℕ → Result (List ℕ) Lost → S → Type 0) (path : Path) (retries steps : ℕ) (came : List Came) (here after : WalkPlace) (mid new : S)
    (items : List Item) (ended : Ended) → ended ≡ IsUp → EndsBy (reaching asks path retries) steps came (walk_over mid here) ended (walk_over new after) → AreOf ended came items after →
    EndsEmpty came × (items ≡ items_of (answers_of came))
up asks path retries steps came here after mid new items IsUp is ends are = (ends.0, are)
up asks path retries steps came here after mid new items StepLimit is ends are = absurd (cc)
up asks path retries steps came here after mid new items Stopped is ends are = absurd (cc)
up asks path retries steps came here after mid new items (Fault f) is ends are = absurd (cc)

pub all_delivered : {S : Type 0} (old new : S) (way : Option Place) (retries : ℕ) (w after : WalkPlace) (steps n : ℕ) (came : List Came) (items : List Item) (ended : Ended) (reason : Why) →
    way ≡ None → w ≡ walk_at log 7 → BroughtIsDelivered {S = S} (λ a octets answer b. IsSaid octets answer) → IsRunOf reason steps n ended →
    Brought (reaching (λ a octets answer b. IsSaid octets answer) (towards way) retries) (walk_over old w) n came items ended (walk_over new after) →
    ((count : ℕ) × (t : ℕ) × (after.next ≡ sequence_number t) × DeliversTo history 7 items t (held ∷ []) count) × (reason ≡ why.CaughtUp → items ≡ all_held)
all_delivered old new way retries w after steps n came items ended reason near from law run ran =
    let P : Option Place → WalkPlace → Type 0 = λ y v. Brought (reaching (λ a octets answer b. IsSaid octets answer) (towards y) retries) (walk_over old v) n came items ended (walk_over new after) in
    let B : Option Place → Type 0 = λ y. P y (walk_at log 7) in
    let b : P None (walk_at log 7) = subst B near (subst (P way) from ran) in
    let said = comes_7 retries came old (walk_at log 7) b.0 b.1 refl b.2 in
    let d = law (towards None) retries old new (walk_at log 7) after n came items ended history (held ∷ []) 7 7 b said.0 refl (omega arith) tt
    (record { oldest = omega arith; newest = omega arith }, tt) (λ f. (omega arith, omega arith)) in
    let D : ℕ → Type 0 = λ x. DeliversTo history x items d.1 (held ∷ []) (length came) in (
      (length came, d.1, d.3, subst D d.2 d.5),
      λ is. let e = up (λ a octets answer b. IsSaid octets answer) (towards None) retries n came b.0 after b.1 new items ended (ended_up reason steps n ended run is) b.3 b.4 in e.1 ∙ said.1 e.0,
    )

-- ---- any question for its records

asks_time : (invoke count : ℕ) → said_to (asked_octets (towards None) invoke log (FromOldest count)) ≡ Some from_oldest
unfolding context_octets value_octets open_octets close_octets frame_octets place_octets parameters_of request_apdu request_octets
asks_time invoke count = refl

-- the question by number, with these contents for the number
unfoldable pub with_number : (invoke count : ℕ) → List ℕ → List ℕ
with_number invoke count contents =
    frame_octets (header_octets (asking (towards None)) ++ apdu_octets (Confirmed false 1476 invoke 26
    (context_octets 0 (Object log) ++ (context_octets 1 (Enumerated 131) ++ (open_octets 6 ++ (tagged 0 2 contents ++ (value_octets (Signed (pos count)) ++ (close_octets 6 ++ []))))))))

pub asks_with : (n invoke count : ℕ) → asked_octets (towards None) invoke log (FromNumber n count) ≡ with_number invoke count (unsigned_octets n)
unfolding with_number context_octets value_octets open_octets close_octets frame_octets place_octets parameters_of request_apdu request_octets
asks_with n invoke count = refl

unknown_size : (size number : ℕ) → (size ≡ 33 → ⊥) → said_for 0x6e size number ≡ None
unknown_size size number other = elim (cases_Bool (size == 33)) [
  | inl e ↦ absurd (other (eqb-true size 33 e))
  | inr e ↦ rw e refl
]

pub low_of : (n : ℕ) → 2 ≤ n → 32 + (if nat_lt n 5 then n else 5) ≡ 33 → ⊥
low_of n two is = elim (cases_Bool (nat_lt n 5)) [
  | inl e ↦ omega (arith, two, (let P : Bool → Type 0 = λ b. 32 + (if b then n else 5) ≡ 33 in subst P e is))
  | inr e ↦ let P : Bool → Type 0 = λ b. 32 + (if b then n else 5) ≡ 33 in absurd (omega (arith, subst P e is))
]

none_said : (invoke count : ℕ) → said_to (with_number invoke count []) ≡ None
unfolding with_number context_octets value_octets open_octets close_octets frame_octets place_octets parameters_of request_apdu request_octets
none_said invoke count = refl

one_said : (invoke count a : ℕ) → said_to (with_number invoke count (a ∷ [])) ≡ said_for 0x6e 0x21 a
unfolding with_number context_octets value_octets open_octets close_octets frame_octets place_octets parameters_of request_apdu request_octets
one_said invoke count a = refl

more_said : (invoke count a b : ℕ) (rest : List ℕ) → said_to (with_number invoke count (a ∷ b ∷ rest)) ≡ None
unfolding with_number context_octets value_octets open_octets close_octets frame_octets place_octets parameters_of request_apdu request_octets
more_said invoke count a b rest = unknown_size _ (get_or (with_number invoke count (a ∷ b ∷ rest)) 19 0) (low_of (length (a ∷ b ∷ rest)) (omega arith))

known : (a count : ℕ) (seven nine eleven : Bool) (datagram : List ℕ) → IsCount count → 2 ≤ count → (a == 7) ≡ seven → (a == 9) ≡ nine → (a == 11) ≡ eleven →
    (if seven then Some from_7 else (if nine then Some from_9 else (if eleven then Some none_from_11 else None))) ≡ Some datagram → IsSaidAt held history log (FromNumber a count) datagram
known a count true nine eleven datagram asks two is_7 is_9 is_11 said =
    let N : ℕ → Type 0 = λ n. IsSaidAt held history log (FromNumber n count) datagram in
    let D : List ℕ → Type 0 = λ d. IsSaidAt held history log (FromNumber 7 count) d in
    subst N (sym (eqb-true a 7 is_7)) (subst D (same_Some from_7 datagram said) (said_7 count asks two))
known a count false true eleven datagram asks two is_7 is_9 is_11 said =
    let N : ℕ → Type 0 = λ n. IsSaidAt held history log (FromNumber n count) datagram in
    let D : List ℕ → Type 0 = λ d. IsSaidAt held history log (FromNumber 9 count) d in
    subst N (sym (eqb-true a 9 is_9)) (subst D (same_Some from_9 datagram said) (said_9 count asks two))
known a count false false true datagram asks two is_7 is_9 is_11 said =
    let N : ℕ → Type 0 = λ n. IsSaidAt held history log (FromNumber n count) datagram in
    let D : List ℕ → Type 0 = λ d. IsSaidAt held history log (FromNumber 11 count) d in
    subst N (sym (eqb-true a 11 is_11)) (subst D (same_Some none_from_11 datagram said) (said_11 count asks))
known a count false false false datagram asks two is_7 is_9 is_11 said = absurd (cc)

by_contents : (contents : List ℕ) (n count invoke : ℕ) (datagram : List ℕ) → IsCount count → 2 ≤ count → number contents ≡ n → said_to (with_number invoke count contents) ≡ Some datagram →
    IsSaidAt held history log (FromNumber n count) datagram
by_contents [] n count invoke datagram asks two is said = absurd (let e = sym (none_said invoke count) ∙ said in cc)
by_contents (a ∷ b ∷ rest) n count invoke datagram asks two is said = absurd (let e = sym (more_said invoke count a b rest) ∙ said in cc)
by_contents (a ∷ []) n count invoke datagram asks two is said =
    let N : ℕ → Type 0 = λ k. IsSaidAt held history log (FromNumber k count) datagram in
    subst N (let e : a ≡ n = omega (arith, is) in e) (known a count (a == 7) (a == 9) (a == 11) datagram asks two refl refl refl (sym (one_said invoke count a) ∙ said))

-- the reply to any of them
pub reply_said : (low count invoke : ℕ) (asked : Asked) (datagram : List ℕ) → IsCount count → 2 ≤ count → IsAskedIn low count asked → said_to (asked_octets (towards None) invoke log asked) ≡ Some datagram →
    IsSaidAt held history log asked datagram
reply_said low count invoke (FromOldest asked) datagram asks two is said =
    let D : List ℕ → Type 0 = λ d. IsSaidAt held history log (FromOldest asked) d in
    subst D (same_Some from_oldest datagram (sym (asks_time invoke asked) ∙ said)) (said_oldest asked (subst IsCount (sym is) asks) (omega (arith, is, two)))
reply_said low count invoke (FromNumber n asked) datagram asks two (is, (s, shown, above, below)) said =
    by_contents (unsigned_octets n) n asked invoke datagram (subst IsCount (sym is) asks) (omega (arith, is, two)) (unsigned_stands n (omega (arith, shown))).1 (ap said_to (sym (asks_with n invoke asked)) ∙ said)

one_ask : (M : List Moment) (low count invoke : ℕ) (asked : Asked) (answer : Result (List ℕ) Lost) → IsCount count → 2 ≤ count → held ∷ [] ≡ M → IsAskedIn low count asked →
    IsSaid (asked_octets (towards None) invoke log asked) answer → IsSaidOrLost (λ N. held ∷ [] ≡ N) M history log asked (asked_octets (towards None) invoke log asked) answer
one_ask M low count invoke asked (Err lost) asks two stands is said = stands
one_ask M low count invoke asked (Ok datagram) asks two stands is said =
    let P : List Moment → Type 0 = λ N. IsSaidAt (now N) history log asked datagram × (held ∷ [] ≡ later N) in
    ((λ yes. subst P stands (reply_said low count invoke asked datagram asks two is said, refl)), λ no. stands)

pub honest_where : {S : Type 0} (count low : ℕ) → IsCount count → 2 ≤ count → IsHonestWhere {S = S} (λ a octets answer b. IsSaid octets answer) (asked_log (towards None) log count) history low (λ link M. held ∷ [] ≡ M)
honest_where count low asks two = λ old new M asked invoke answer stands some window is ask. one_ask M low count invoke asked answer asks two stands is ask

pub always_held : (i : ℕ) → moment_at (held ∷ []) i ≡ held
always_held zero = refl
always_held (suc i) = always_held i

-- nothing is held from there on: so it is behind the last one
pub beyond : (t : ℕ) → NoneFrom t held → 10 < t
beyond t none = elim (cases_lt 10 t) [ inl lt ↦ lt | inr ge ↦ absurd (none 10 ge (omega arith, omega arith)) ]

-- where a walk from the oldest record begins
start_held : (s : ℕ) (answers : List (List Item)) → (items_of answers ≡ []) ⊎ (start_of true s (held ∷ []) answers ≡ 7)
start_held s [] = inl refl
start_held s ([] ∷ answers) = start_held s answers
start_held s ((x ∷ xs) ∷ answers) = inr refl

none_of_none : (items dropped : List Item) → items ++ dropped ≡ [] → items ≡ []
none_of_none [] dropped is = refl
none_of_none (x ∷ items) dropped is = absurd (let no : x ∷ (items ++ dropped) ≡ [] = is in cc)

begins_held : (fresh : Bool) (s b : ℕ) (answers : List (List Item)) (items dropped : List Item) → b ≡ start_of fresh s (held ∷ []) answers → items ++ dropped ≡ items_of answers →
    fresh ≡ true → (items ≡ []) ⊎ (b ≡ 7)
begins_held fresh s b answers items dropped start all is =
    let F : Bool → Type 0 = λ f. b ≡ start_of f s (held ∷ []) answers in
    begins (subst F is start) (start_held s answers)
  where
    begins : b ≡ start_of true s (held ∷ []) answers → (items_of answers ≡ []) ⊎ (start_of true s (held ∷ []) answers ≡ 7) → (items ≡ []) ⊎ (b ≡ 7)
    begins at (inl none) = inl (none_of_none items dropped (all ∙ none))
    begins at (inr seven) = inr (at ∙ seven)

-- over the device's link a run delivers what its log holds, from any place
pub walk_delivers : {S : Type 0} (old new : S) (way : Option Place) (w after : WalkPlace) (items : List Item) (reason : Why) (low s spare : ℕ) →
    HonestWhereItStands {S = S} (λ a octets answer b. IsSaid octets answer) (λ link M. held ∷ [] ≡ M) →
    DeliversSaid (λ a octets answer b. IsSaid octets answer) (towards way) spare (walk_over old w) items (ended_of reason) (walk_over new after) → way ≡ None → w.log ≡ log → w.next ≡ sequence_number s →
    IsCount w.count → 2 ≤ w.count → low ≤ 7 → (w.fresh ≡ false → (low ≤ s) × (s < low + 2147483648)) →
    ((b : ℕ) × (a : ℕ) × (t : ℕ) × (w.fresh ≡ false → b ≡ s) × (after.next ≡ sequence_number t) × DeliversTo history b items t (held ∷ []) a × (reason ≡ why.CaughtUp → 10 < t)
    × (w.fresh ≡ true → (items ≡ []) ⊎ (b ≡ 7)))
    × ((e : WalkFault) → reason ≡ why.Fault e → e ≡ fault.Lost)
walk_delivers {S = S} old new way w after items reason low s spare stands said near log_is next asks two below at =
    let W : Option Place → Type 0 = λ y. DeliversSaid {S = S} (λ a octets answer b. IsSaid octets answer) (towards y) spare (walk_over old w) items (ended_of reason) (walk_over new after) in
    let I : Id → Type 0 = λ i. IsHonestWhere {S = S} (λ a octets answer b. IsSaid octets answer) (asked_log (towards None) i w.count) history low (λ link M. held ∷ [] ≡ M) in
    let honest = stands (towards None) w.log w.count history low old (held ∷ []) (subst I (sym log_is) (honest_where {S = S} w.count low asks two)) refl in
    let all = subst W near said history (held ∷ []) s low honest next (omega arith) tt (record { oldest = below; newest = omega arith }, tt) at in
    let E : Why → Type 0 = λ y. IsHonestEnd (ended_of y) in (
      (
        all.0,
        length all.2,
        all.1,
        (λ old. all.3.start ∙ start_old w.fresh s (held ∷ []) all.2 old),
        all.4,
        (all.5.0, all.5.1, all.5.2, all.5.3),
        (λ up.
            let caught = all.7 (ap ended_of up) in
            let N : Moment → Type 0 = λ m. NoneFrom all.1 m in
            beyond all.1 (subst N (always_held caught.0) caught.3)),
        begins_held w.fresh s all.0 all.2 items all.3.dropped all.3.start all.3.all,
      ),
      λ e is. is_loss e (subst E is all.8),
    )
