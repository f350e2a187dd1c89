-- What a walk hears of a reply of ours is the whole reply of the moment.
use Rattle.std.proofs.Common.{suc, ◌≡◌, ℕ, ◌<◌, ◌≤◌, true, List, [], ◌∷◌, length, Option, Some, None, Ok, refl, sym, ap, subst, ◌∙◌, arith}
use Rattle.std.specs.Prelude.{All, IsSomeAnd}
use Rattle.std.specs.Result.{result_ok}
use Rattle.std.proofs.lemmas.Bool.{eq-eqb}
use Rattle.std.proofs.lemmas.List.{length-append}
use Rattle.bac_wire.specs.Canon.{IsValid}
use Rattle.bac_wire.specs.Primitive.{Id, Object}
use Rattle.bac_apdu.specs.declared.service.extent.Extent.{Extent}
use Rattle.std.specs.Option.{option_map}
use Rattle.bac_apdu.specs.Service.ReadRangeAck.{range_ack_in, read_range_ack_at}
use Rattle.bac_apdu.proofs.Named.{same_number}
use Rattle.bac_log.specs.declared.entry.Entry.{Entry}
use Rattle.bac_log.specs.Ack.{shown_parameters}
use Rattle.bac_log.specs.Entry.{IsLoggable}
use Rattle.bac_log.specs.Record.{entry_octets, entries_octets}
use Rattle.bac_log.specs.Select.{selected, packed, reply_of}
use Rattle.bac_log.specs.TrendLog.{Log}
use Rattle.bac_log.proofs.Records.{entries_back}
use Rattle.bac_log.proofs.Sizes.{entry_sized}
use Rattle.bac_walk.specs.Replies.{Wanted, count_wanted, extent_of, IsShown}
use Rattle.bac_link.specs.Datagrams.{apdu_in}
use Rattle.bac_link.specs.Heard.{AckParameters, heard_at, heard_if, heard_of, records_in, same_id}
use Rattle.bac_link.specs.Links.{IsReply, reply_parameters, our_question}
use Rattle.bac_link.specs.Delivery.{History, Moment, now}
use Rattle.bac_link.specs.Path.{Path}
use Rattle.bac_link.specs.Moments.{AreServed, log_at}
use Rattle.bac_link.specs.Heard.{parameters_in}
use Rattle.bac_walk.specs.Takes.{records_of, first_of, Says}
use Rattle.bac_link.specs.Heard.{heard_from, heard_in}
use Rattle.bac_walk.proofs.Bridge.{IsNearTo, shown, answer_is}
use Rattle.bac_walk.proofs.Held.{Sound-now, In-now}
use Rattle.bac_walk.proofs.ReadBack.{reply_reads, packed_loggable}

text_large : (es : List Entry) → All IsLoggable es → length es ≤ length (entries_octets es)
unfolding entries_octets
text_large [] l = omega arith
text_large (e ∷ es) l =
    omega (arith, length-append (entry_octets e) (entries_octets es), (entry_sized e (l 0 e (omega arith))).least_of, text_large es (λ k d lt. l (suc k) d (omega arith)))

records_back : (es : List Entry) → All IsLoggable es → records_in (entries_octets es) ≡ Ok es
records_back es l = entries_back es (length (entries_octets es)) l (text_large es l)

same_self : (id : Id) → same_id id id ≡ true
same_self id = rw (eq-eqb id.kind id.kind refl, eq-eqb id.instance id.instance refl) refl

heard_shown : (id : Id) (flags : ℕ) (first : Option ℕ) (es : List Entry) → All IsLoggable es →
    heard_of id (range_ack_in (shown_parameters id flags first es)) ≡ Some (record { first = first; count = length es; entries = es })
heard_shown id flags first es l = rw (same_self id, same_number first, records_back es l) refl

pub heard_reply : (id : Id) (log : Log) (extent : Extent) (r : ℕ) → IsShown log → r ≤ 1476 → IsValid (Object id) →
    heard_at id (reply_parameters id log extent r) ≡ Some (record { first = first_of r log extent; count = length (records_of r log extent); entries = records_of r log extent })
unfolding heard_at read_range_ack_at
heard_reply id log extent r is most valid =
    ap (λ x. heard_if id (option_map range_ack_in (result_ok x))) (reply_reads log extent r is most id valid)
    ∙ heard_shown id (reply_of log extent (selected log extent) (packed extent r (selected log extent))).flags (first_of r log extent) (records_of r log extent) (packed_loggable log extent r is most)

says_reply : (result : Option (List ℕ)) (datagram : List ℕ) (r : ℕ) (M : List Moment) (H : History) (id : Id) (wanted : Wanted) (path : Path) (invoke : ℕ) → result ≡ parameters_in (apdu_in datagram) → AreServed r M H → count_wanted wanted < 2147483648 → IsNearTo wanted (now M) → IsValid (Object id) →
    IsReply (our_question r M H id (extent_of wanted) path) invoke datagram → IsSomeAnd result (λ p. Says r (now M) H wanted (heard_at id p))
says_reply result datagram r M H id wanted path invoke gives served small near valid reply =
    let sound = Sound-now r M H served in
    let within = In-now r M H served in
    let is : IsShown (log_at (now M) H) = shown (now M) H sound within reply.0 in
    let whole : result ≡ Some (reply_parameters id (log_at (now M) H) (extent_of wanted) r) = gives ∙ ap (λ m. parameters_in (option_map (λ message. message.1) m)) reply.1 in
    let P : Option (List ℕ) → Type 0 = λ o. IsSomeAnd o (λ p. Says r (now M) H wanted (heard_at id p)) in
    let Q : Option AckParameters → Type 0 = λ o. Says r (now M) H wanted o in
    subst P (sym whole) (subst Q (sym (heard_reply id (log_at (now M) H) (extent_of wanted) r is served.greatest valid))
    (answer_is (now M) H sound within reply.0 r wanted small near (omega (arith, served.least)), refl))

-- the same of a datagram
says_heard : (o : Option (List ℕ)) (r : ℕ) (m : Moment) (H : History) (id : Id) (wanted : Wanted) → IsSomeAnd o (λ p. Says r m H wanted (heard_at id p)) →
    Says r m H wanted (heard_from id o)
says_heard None r m H id wanted h = absurd h
says_heard (Some p) r m H id wanted h = h

pub says_in : (datagram : List ℕ) (r : ℕ) (M : List Moment) (H : History) (id : Id) (wanted : Wanted) (path : Path) (invoke : ℕ) → AreServed r M H → count_wanted wanted < 2147483648 → IsNearTo wanted (now M) → IsValid (Object id) →
    IsReply (our_question r M H id (extent_of wanted) path) invoke datagram → Says r (now M) H wanted (heard_in id datagram)
says_in datagram r M H id wanted path invoke served small near valid reply =
    says_heard (parameters_in (apdu_in datagram)) r (now M) H id wanted (says_reply (parameters_in (apdu_in datagram)) datagram r M H id wanted path invoke refl served small near valid reply)
