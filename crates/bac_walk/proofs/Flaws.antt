-- A reply that a walk can't take has a flaw, and one with a flaw isn't taken.
use Rattle.std.proofs.Common.{◌≡◌, ℕ, Bool, true, false, Option, Some, None, Result, Ok, Err, List, [], ◌∷◌, length, refl, sym, subst, inl, inr, if◌then◌else◌}
use Rattle.std.specs.Prelude.{◌==◌, ◌&&◌, ◌||◌, not}
use Rattle.std.specs.Result.{result_ok}
use Rattle.bac_wire.specs.declared.fault.WireFault.{WireFault}
use Rattle.bac_apdu.specs.Apdu.{Apdu}
use Rattle.bac_apdu.specs.Apdu as apdu
use Rattle.bac_apdu.specs.Service.ReadRangeAck.{RangeAck, read_range_ack_at}
use Rattle.bac_log.specs.declared.entry.Entry.{Entry}
use Rattle.bac_link.specs.Datagrams.{apdu_in}
use Rattle.bac_link.specs.Exchanges.{verdict_of}
use Rattle.bac_link.specs.Links.{question}
use Rattle.bac_link.specs.Path.{Path}
use Rattle.bac_link.specs.declared.exchanges.ExchangeFault.{ExchangeFault}
use Rattle.bac_link.specs.declared.exchanges.Verdict.TheVariants as verdict
use Rattle.bac_walk.specs.declared.flaw.ReplyFlaw.{ReplyFlaw}
use Rattle.bac_walk.specs.declared.flaw.ReplyFlaw.TheVariants as flaw
use Rattle.bac_walk.specs.declared.outcome.BadReply.{BadReply as NotTaken}
use Rattle.bac_walk.specs.declared.outcome.WalkFault.TheVariants.{BadReply}
use Rattle.bac_walk.specs.Flaws.{ack_flaw, apdu_flaw, extent_flaw, head_flaw, items_flaw, span_flaw, ToldFlaw, FlawsAreRefused, BadRepliesHaveFlaws}
use Rattle.bac_link.specs.Heard.{heard_at, heard_if, heard_with, is_of_log, records_in}
use Rattle.bac_walk.specs.Place.{WalkPlace}
use Rattle.bac_link.specs.Heard.{heard_from}
use Rattle.bac_link.specs.Heard.{parameters_in}
use Rattle.bac_walk.specs.Told.{HasAsked, IsFault}
use Rattle.bac_walk.specs.Walks.{asks_oldest_now, fits, is_past, question_of, NextAct, Refuse, Ask, End, Bring, verdict as act_on, IsTaken, IsTakenFrom}
use Rattle.bac_walk.proofs.Told.{Asking}

-- ---- records

-- what is done with records whose first number is this, if the walk is past them and if they fit
abbrev act : Bool → Bool → ℕ → NextAct
act past fitting first = if past then End else (if fitting then Bring first else Refuse)

-- what is wrong with them
abbrev wrong : Bool → Bool → ReplyFlaw → Option ReplyFlaw
wrong past fitting told = if past || fitting then None else Some told

wrong_refused : (past fitting : Bool) (first : ℕ) (x told : ReplyFlaw) → wrong past fitting x ≡ Some told → act past fitting first ≡ Refuse
wrong_refused true fitting first x told is = absurd cc
wrong_refused false true first x told is = absurd cc
wrong_refused false false first x told is = refl

refused_wrong : (past fitting : Bool) (first : ℕ) (x : ReplyFlaw) (w after : WalkPlace) (es : List Entry) (bad : NotTaken) →
    IsTaken w es (act past fitting first) (Err bad) after → (told : ReplyFlaw) × (wrong past fitting x ≡ Some told)
refused_wrong true fitting first x w after es bad taken = absurd taken
refused_wrong false true first x w after es bad taken = absurd taken
refused_wrong false false first x w after es bad taken = (x, refl)

extent_refused : (w : WalkPlace) (first : Option ℕ) (count : ℕ) (es : List Entry) (told : ReplyFlaw) →
    extent_flaw w first count (length es) ≡ Some told → act_on w first count es ≡ Refuse
extent_refused w None count [] told is = absurd cc
extent_refused w (Some first) count [] told is = absurd cc
extent_refused w None count (e ∷ es) told is = refl
extent_refused w (Some first) count (e ∷ es) told is =
    wrong_refused (is_past w first) ((count == length (e ∷ es)) && fits w first (length (e ∷ es))) first (span_flaw w first count (length (e ∷ es))) told is

no_refusal : (oldest : Bool) (w after : WalkPlace) (bad : NotTaken) → IsTaken w [] (if oldest then End else Ask) (Err bad) after → ⊥
no_refusal true w after bad taken = taken
no_refusal false w after bad taken = taken

refused_extent : (w after : WalkPlace) (first : Option ℕ) (count : ℕ) (es : List Entry) (bad : NotTaken) →
    IsTaken w es (act_on w first count es) (Err bad) after → (told : ReplyFlaw) × (extent_flaw w first count (length es) ≡ Some told)
refused_extent w after None count [] bad taken = absurd (no_refusal (asks_oldest_now w) w after bad taken)
refused_extent w after (Some first) count [] bad taken = absurd (no_refusal (asks_oldest_now w) w after bad taken)
refused_extent w after None count (e ∷ es) bad taken = (flaw.NoNumber (length (e ∷ es)), refl)
refused_extent w after (Some first) count (e ∷ es) bad taken =
    refused_wrong (is_past w first) ((count == length (e ∷ es)) && fits w first (length (e ∷ es))) first (span_flaw w first count (length (e ∷ es))) w after (e ∷ es) bad taken

-- ---- an ACK

items_refused : (w : WalkPlace) (a : RangeAck) (read : Result (List Entry) WireFault) (told : ReplyFlaw) (bad : NotTaken) →
    items_flaw w a read ≡ Some told → IsTakenFrom w (heard_with a.first_number a.count (result_ok read)) (Err bad) w
items_refused w a (Err fault) told bad is = refl
items_refused w a (Ok es) told bad is =
    let P : NextAct → Type 0 = λ v. IsTaken w es v (Err bad) w in
    subst P (sym (extent_refused w a.first_number a.count es told is)) refl

refused_items : (w after : WalkPlace) (a : RangeAck) (read : Result (List Entry) WireFault) (bad : NotTaken) →
    IsTakenFrom w (heard_with a.first_number a.count (result_ok read)) (Err bad) after → (told : ReplyFlaw) × (items_flaw w a read ≡ Some told)
refused_items w after a (Err fault) bad taken = (_, refl)
refused_items w after a (Ok es) bad taken = refused_extent w after a.first_number a.count es bad taken

own_refused : (own : Bool) (w : WalkPlace) (a : RangeAck) (told : ReplyFlaw) (bad : NotTaken) →
    (if own then items_flaw w a (records_in a.items) else Some (head_flaw w.log a)) ≡ Some told →
    IsTakenFrom w (if own then heard_with a.first_number a.count (result_ok (records_in a.items)) else None) (Err bad) w
own_refused true w a told bad is = items_refused w a (records_in a.items) told bad is
own_refused false w a told bad is = refl

refused_own : (own : Bool) (w after : WalkPlace) (a : RangeAck) (bad : NotTaken) →
    IsTakenFrom w (if own then heard_with a.first_number a.count (result_ok (records_in a.items)) else None) (Err bad) after →
    (told : ReplyFlaw) × ((if own then items_flaw w a (records_in a.items) else Some (head_flaw w.log a)) ≡ Some told)
refused_own true w after a bad taken = refused_items w after a (records_in a.items) bad taken
refused_own false w after a bad taken = (_, refl)

ack_refused : (w : WalkPlace) (read : Option RangeAck) (told : ReplyFlaw) (bad : NotTaken) →
    ack_flaw w read ≡ Some told → IsTakenFrom w (heard_if w.log read) (Err bad) w
ack_refused w None told bad is = refl
ack_refused w (Some a) told bad is = own_refused (is_of_log w.log a) w a told bad is

refused_ack : (w after : WalkPlace) (read : Option RangeAck) (bad : NotTaken) →
    IsTakenFrom w (heard_if w.log read) (Err bad) after → (told : ReplyFlaw) × (ack_flaw w read ≡ Some told)
refused_ack w after None bad taken = (_, refl)
refused_ack w after (Some a) bad taken = refused_own (is_of_log w.log a) w after a bad taken

parameters_refused : (w : WalkPlace) (octets : List ℕ) (told : ReplyFlaw) (bad : NotTaken) →
    ack_flaw w (read_range_ack_at octets) ≡ Some told → IsTakenFrom w (heard_at w.log octets) (Err bad) w
unfolding heard_at
parameters_refused w octets told bad is = ack_refused w (read_range_ack_at octets) told bad is

refused_parameters : (w after : WalkPlace) (octets : List ℕ) (bad : NotTaken) →
    IsTakenFrom w (heard_at w.log octets) (Err bad) after → (told : ReplyFlaw) × (ack_flaw w (read_range_ack_at octets) ≡ Some told)
unfolding heard_at
refused_parameters w after octets bad taken = refused_ack w after (read_range_ack_at octets) bad taken

-- ---- an APDU

complex_refused : (segmented own : Bool) (service : ℕ) (w : WalkPlace) (octets : List ℕ) (told : ReplyFlaw) (bad : NotTaken) →
    (if segmented then Some flaw.Segmented else (if own then ack_flaw w (read_range_ack_at octets) else Some (flaw.Service service))) ≡ Some told →
    IsTakenFrom w (heard_from w.log (if segmented then None else (if own then Some octets else None))) (Err bad) w
complex_refused true own service w octets told bad is = refl
complex_refused false true service w octets told bad is = parameters_refused w octets told bad is
complex_refused false false service w octets told bad is = refl

refused_complex : (segmented own : Bool) (service : ℕ) (w after : WalkPlace) (octets : List ℕ) (bad : NotTaken) →
    IsTakenFrom w (heard_from w.log (if segmented then None else (if own then Some octets else None))) (Err bad) after →
    (told : ReplyFlaw) × ((if segmented then Some flaw.Segmented else (if own then ack_flaw w (read_range_ack_at octets) else Some (flaw.Service service))) ≡ Some told)
refused_complex true own service w after octets bad taken = (_, refl)
refused_complex false true service w after octets bad taken = refused_parameters w after octets bad taken
refused_complex false false service w after octets bad taken = (_, refl)

apdu_refused : (w : WalkPlace) (message : Option Apdu) (told : ReplyFlaw) (bad : NotTaken) →
    apdu_flaw w message ≡ Some told → IsTakenFrom w (heard_from w.log (parameters_in message)) (Err bad) w
apdu_refused w None told bad is = refl
apdu_refused w (Some (apdu.Confirmed segmented size invoke service octets)) told bad is = refl
apdu_refused w (Some (apdu.Unconfirmed service octets)) told bad is = refl
apdu_refused w (Some (apdu.Simple invoke service)) told bad is = refl
apdu_refused w (Some (apdu.Complex segmented invoke service octets)) told bad is = complex_refused segmented (service == 26) service w octets told bad is
apdu_refused w (Some (apdu.SegmentAck invoke)) told bad is = refl
apdu_refused w (Some (apdu.Error invoke service class code)) told bad is = refl
apdu_refused w (Some (apdu.Reject invoke reason)) told bad is = refl
apdu_refused w (Some (apdu.Abort by_server invoke reason)) told bad is = refl

refused_apdu : (w after : WalkPlace) (message : Option Apdu) (bad : NotTaken) →
    IsTakenFrom w (heard_from w.log (parameters_in message)) (Err bad) after → (told : ReplyFlaw) × (apdu_flaw w message ≡ Some told)
refused_apdu w after None bad taken = (_, refl)
refused_apdu w after (Some (apdu.Confirmed segmented size invoke service octets)) bad taken = (_, refl)
refused_apdu w after (Some (apdu.Unconfirmed service octets)) bad taken = (_, refl)
refused_apdu w after (Some (apdu.Simple invoke service)) bad taken = (_, refl)
refused_apdu w after (Some (apdu.Complex segmented invoke service octets)) bad taken = refused_complex segmented (service == 26) service w after octets bad taken
refused_apdu w after (Some (apdu.SegmentAck invoke)) bad taken = (_, refl)
refused_apdu w after (Some (apdu.Error invoke service class code)) bad taken = (_, refl)
refused_apdu w after (Some (apdu.Reject invoke reason)) bad taken = (_, refl)
refused_apdu w after (Some (apdu.Abort by_server invoke reason)) bad taken = (_, refl)

pub refused : FlawsAreRefused
refused w datagram = (λ told bad is. apdu_refused w (apdu_in datagram) told bad is, λ bad after taken. refused_apdu w after (apdu_in datagram) bad taken)

-- ---- an answer that doesn't belong to the question

complex_wrong : (segmented own : Bool) (service : ℕ) (read : Option ReplyFlaw) →
    (if true && (not segmented && own) then verdict.Ack else verdict.BadReply) ≡ verdict.BadReply →
    (told : ReplyFlaw) × ((if segmented then Some flaw.Segmented else (if own then read else Some (flaw.Service service))) ≡ Some told)
complex_wrong true own service read is = (_, refl)
complex_wrong false true service read is = absurd cc
complex_wrong false false service read is = (_, refl)

bad_wrong : (w : WalkPlace) (message : Option Apdu) → verdict_of (question w.log (question_of w)) message ≡ verdict.BadReply →
    (told : ReplyFlaw) × (apdu_flaw w message ≡ Some told)
bad_wrong w None is = (_, refl)
bad_wrong w (Some (apdu.Confirmed segmented size invoke service octets)) is = (_, refl)
bad_wrong w (Some (apdu.Unconfirmed service octets)) is = (_, refl)
bad_wrong w (Some (apdu.Simple invoke service)) is = (_, refl)
bad_wrong w (Some (apdu.Complex segmented invoke service octets)) is = complex_wrong segmented (service == 26) service (ack_flaw w (read_range_ack_at octets)) is
bad_wrong w (Some (apdu.SegmentAck invoke)) is = (_, refl)
bad_wrong w (Some (apdu.Error invoke service class code)) is = (_, refl)
bad_wrong w (Some (apdu.Reject invoke reason)) is = (_, refl)
bad_wrong w (Some (apdu.Abort by_server invoke reason)) is = (_, refl)

flaw_of : {S : Type 0} (asks : Asking S) (path : Path) (retries : ℕ) (w : WalkPlace) (result : Result (List ℕ) ExchangeFault) (new : S) →
    HasAsked asks path retries w result new → IsFault w result BadReply → (told : ReplyFlaw) × ToldFlaw asks path retries w told new
flaw_of {S = S} asks path retries w result new asked (inl is) =
    let P : Result (List ℕ) ExchangeFault → Type 0 = λ r. HasAsked asks path retries w r new in
    let (link, invoke, done) = subst P is asked in
    let (told, flawed) = bad_wrong w (apdu_in done.0) done.1.5.1 in
    (told, (link, invoke, done.0, verdict.BadReply, done.1, flawed))
flaw_of {S = S} asks path retries w result new asked (inr (datagram, bad, is, taken)) =
    let P : Result (List ℕ) ExchangeFault → Type 0 = λ r. HasAsked asks path retries w r new in
    let (link, invoke, answers) = subst P is asked in
    let (told, flawed) = refused_apdu w w (apdu_in datagram) bad taken in
    (told, (link, invoke, datagram, verdict.Ack, answers, flawed))

pub have_flaws : {S : Type 0} (asks : Asking S) → BadRepliesHaveFlaws asks
have_flaws asks path retries w new (result, asked, is) = flaw_of asks path retries w result new asked is
