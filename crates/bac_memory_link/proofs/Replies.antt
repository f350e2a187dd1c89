-- The device's answers to a link's questions are replies of ours.
use Rattle.std.proofs.Common.{◌≡◌, refl, ap, sym, subst, ◌∙◌, arith, ℕ, ◌+◌, ◌-◌, ◌≤◌, min, nat_lt, false, pos, negsuc, List, [], ◌∷◌, ◌++◌, take, drop, length, Option, Some, None, length-append}
use Rattle.std.specs.Prelude.{All}
use Rattle.std.proofs.Math.Seq.{drop-append_seam, take-append_seam}
use Rattle.bac_wire.specs.Primitive.{Id}
use Rattle.bac_apdu.specs.Apdu.{Apdu, Complex, IsApdu, apdu_octets}
use Rattle.bac_apdu.specs.Npdu.{Place, header_octets}
use Rattle.bac_apdu.specs.Route.{IsWay}
use Rattle.bac_apdu.specs.declared.service.extent.Extent.{Extent}
use Rattle.bac_apdu.specs.declared.service.extent.Extent.TheVariants as extent
use Rattle.bac_apdu.proofs.Shorts.{error_short}
use Rattle.bac_log.specs.Ack.{ack_parameters, read_range_service}
use Rattle.bac_log.specs.Entry.{IsLoggable}
use Rattle.bac_log.specs.Select.{HeldEntry, entries_in, first_shown, has_ordinal, packed, reply_of, result_flags, selected}
use Rattle.bac_log.specs.TrendLog.{IsLog, Log, newest, oldest}
use Rattle.bac_log.specs.declared.entry.Entry.{Entry}
use Rattle.bac_objects.specs.Sampling.{log_id, log_of}
use Rattle.bac_objects.specs.State.{State}
use Rattle.bac_objects.specs.declared.fault.Fault.TheVariants.{UnknownObject}
use Rattle.bac_device.specs.Answer.{answer, records_ack, records_said}
use Rattle.bac_device.specs.Reply.{Return, datagram_to, error, plain_to, reply}
use Rattle.bac_device.specs.declared.reply.Receiver.TheVariants.{Sender}
use Rattle.bac_device.proofs.Fits.{records_fit}
use Rattle.bac_device.proofs.Questions.{question_answered, question_refused}
use Rattle.bac_device.proofs.Told.{length-plain_to, plain_to_valid}
use Rattle.bac_device.proofs.Unaborted.{ack_short}
use Rattle.bac_link.specs.Datagrams.{message_in}
use Rattle.bac_link.specs.Path.{Path, back, path_of, towards}
use Rattle.bac_link.specs.Delivery.{History, Moment}
use Rattle.bac_link.specs.Links.{HasReply, IsQuestion, IsReply, IsUnknown, question, reply_parameters, our_question}
use Rattle.bac_link.specs.Moments.{log_at}
use Rattle.bac_link.specs.Requests.{request_octets}
use Rattle.bac_link.proofs.Datagrams.{message_back}
use Rattle.bac_memory_link.specs.Ahead.{entries_ahead, Lacks, LiesAhead, log_with, moment_of, placed, turn}
use Rattle.bac_memory_link.specs.declared.event.LinkEvent.{LinkEvent}
use Rattle.bac_memory_link.proofs.Ahead.{log_is}
use Rattle.bac_memory_link.proofs.Events.{log_there}
use Rattle.bac_memory_link.proofs.Placed.{log_placed, reply-placed}
use Rattle.bac_memory_link.proofs.Questions.{question_is}

-- ---- a reply is read back

plain_to_path : (place : Option Place) → path_of (plain_to place) ≡ towards place
plain_to_path None = refl
plain_to_path (Some place) = refl

no_message : (place : Option Place) → (plain_to place).network ≡ false
no_message None = refl
no_message (Some place) = refl

pub reply_again : (place : Option Place) (apdu : Apdu) → IsWay place → IsApdu apdu → length (apdu_octets apdu) ≤ 1476 → message_in (datagram_to place apdu) ≡ Some (towards place, apdu)
unfolding datagram_to
reply_again place apdu way valid short =
    let head : List ℕ = header_octets (plain_to place) in
    message_back (plain_to place) apdu (plain_to_valid place way) (no_message place) valid (omega (arith, length-plain_to place way, short, length-append head (apdu_octets apdu)))
    ∙ ap (λ (p : Path). Some (p, apdu)) (plain_to_path place)

-- ---- the ACK with records

-- it is the one that a reply of ours has
pub ack_is : (limit invoke : ℕ) (id : Id) (extent : Extent) (log : Log) → records_ack limit invoke id extent log ≡ Complex false invoke read_range_service (reply_parameters id log extent limit)
unfolding reply_parameters
ack_is limit invoke id extent log = refl

-- what the device answers by a log is read back as that ACK
pub said_again : (source : Option Place) (limit invoke : ℕ) (id : Id) (extent : Extent) (log : Log) → IsWay source → IsLog log → 44 ≤ limit → limit ≤ 1476
    → HasReply limit log id extent (back (towards source)) invoke (datagram_to source (records_said limit invoke id extent log))
said_again source limit invoke id extent log way is ge le =
    ap (λ (m : Apdu). message_in (datagram_to source m)) (records_fit limit invoke id extent log is ge)
    ∙ reply_again source (records_ack limit invoke id extent log) way refl (omega (arith, le, ack_short limit invoke id extent log is ge))
    ∙ ap (λ (m : Apdu). Some (towards source, m)) (ack_is limit invoke id extent log)

-- ---- capacity and Enable don't matter to a reply

same_selected : (a b : Log) (e : Extent) → a.before ≡ b.before → a.entries ≡ b.entries → selected a e ≡ selected b e
same_selected a b extent.All p q = rw (p, q) refl
same_selected a b (extent.ByPosition reference count) p q = rw (p, q) refl
same_selected a b (extent.ByNumber reference count) p q = rw (p, q) refl
same_selected a b (extent.ByTime date time (pos n)) p q = rw (p, q) refl
same_selected a b (extent.ByTime date time (negsuc n)) p q = rw (p, q) refl

abbrev flags_with : ℕ → List Entry → List HeldEntry → List HeldEntry → ℕ
flags_with before entries all rs = result_flags (has_ordinal (before + 1) rs) (has_ordinal (before + length entries) rs) (nat_lt (length rs) (length all))

same_flags : (a b : Log) (e : Extent) (all rs : List HeldEntry) → a.before ≡ b.before → a.entries ≡ b.entries → (reply_of a e all rs).flags ≡ (reply_of b e all rs).flags
same_flags a b e all [] p q = refl
same_flags a b e all (r ∷ rs) p q = ap (λ n. flags_with n a.entries all (r ∷ rs)) p ∙ ap (λ (es : List Entry). flags_with b.before es all (r ∷ rs)) q

same_reply : (id : Id) (a b : Log) (e : Extent) (r : ℕ) → a.before ≡ b.before → a.entries ≡ b.entries → reply_parameters id a e r ≡ reply_parameters id b e r
unfolding reply_parameters
same_reply id a b e r p q =
    ap (λ (x : List HeldEntry). ack_parameters id (reply_of a e x (packed e r x)).flags (first_shown e (packed e r x)) (entries_in (packed e r x))) (same_selected a b e p q)
    ∙ ap (λ n. ack_parameters id n (first_shown e (packed e r (selected b e))) (entries_in (packed e r (selected b e)))) (same_flags a b e (selected b e) (packed e r (selected b e)) p q)

-- ---- the log that a moment cuts out of the history is the device's

held_now : (rounds : ℕ) (d : State) (events : List LinkEvent) (id : Id) (r : ℕ) (M : List Moment) (H : History) → LiesAhead rounds d events id r M H → (log_at (placed rounds (moment_of (log_with d id.instance))) H).entries ≡ (log_with d id.instance).entries
held_now rounds d events id r M H a =
    let log : Log = log_with d id.instance in
    let ahead : List Entry = entries_ahead d id.instance events in
    let low : ℕ = oldest log + turn rounds in
    let place : low - (H.logged + 1) ≡ length a.past = omega (arith, a.gone) in
    let size : (newest log + turn rounds) + 1 - low ≡ length log.entries = omega arith in
    ap (λ n. take n (drop (low - (H.logged + 1)) H.entries)) size
    ∙ ap (λ n. take (length log.entries) (drop n H.entries)) place
    ∙ ap (λ (es : List Entry). take (length log.entries) (drop (length a.past) es)) a.entries
    ∙ ap (λ (es : List Entry). take (length log.entries) es) (drop-append_seam a.past (log.entries ++ ahead))
    ∙ take-append_seam log.entries ahead

-- ---- what the device answers

pub log_id_is : (id : Id) → id.kind ≡ 20 → id ≡ log_id id.instance
log_id_is id kind = ap (λ k. let i : Id = record { kind = k; instance = id.instance } in i) kind

-- a question for a log of the device is one that the device's laws speak of
asked_is : (source : Option Place) (id : Id) (extent : Extent) (invoke : ℕ) (octets : List ℕ) → id.kind ≡ 20 → IsQuestion id extent (back (towards source)) invoke octets → octets ≡ request_octets (back (towards source)) invoke (question (log_id id.instance) extent)
asked_is source id extent invoke octets kind asks = asks.0 ∙ ap (λ (i : Id). request_octets (back (towards source)) invoke (question i extent)) (log_id_is id kind)

-- an answer that goes back to its sender by the way that the request came
abbrev pub back_to : Option Place → Return
back_to source = record { to = Sender; place = source }

-- the reply to a question for a log of the device
abbrev log_reply : State → Id → Extent → ℕ → Apdu
log_reply d id extent invoke = records_ack d.reply_size invoke id extent (log_with d id.instance)

pub log_answered : (rounds : ℕ) (d : State) (events : List LinkEvent) (source : Option Place) (id : Id) (r : ℕ) (M : List Moment) (H : History) (extent : Extent) (invoke : ℕ) (octets : List ℕ) → LiesAhead rounds d events id r M H
    → IsQuestion id extent (back (towards source)) invoke octets → answer d octets ≡ (Some (reply (back_to source) (log_reply d id extent invoke)), d)
log_answered rounds d events source id r M H extent invoke octets a asks =
    let n = id.instance in
    let log : Log = log_with d n in
    let there : log_of d n ≡ Some log = a.there.1 ∙ sym (ap (λ (l : Log). Some l) (log_there d n a.there.0 a.there.1)) in
    let size : min 1476 d.reply_size ≡ d.reply_size = omega (arith, a.sound.greatest_reply) in
    ap (λ (o : List ℕ). answer d o) (asked_is source id extent invoke octets a.kind asks ∙ question_is source invoke n extent)
    ∙ question_answered d source n log invoke extent asks.3.1 there asks.1
    ∙ ap (λ k. (Some (reply (back_to source) (records_said k invoke (log_id n) extent log)), d)) size
    ∙ ap (λ (m : Apdu). (Some (reply (back_to source) m), d)) (records_fit d.reply_size invoke (log_id n) extent log (log_is d n a.sound a.there) (omega (arith, a.sound.least_reply)))
    ∙ ap (λ (i : Id). (Some (reply (back_to source) (records_ack d.reply_size invoke i extent log)), d)) (sym (log_id_is id a.kind))

-- it is a reply of ours of the log's moment
pub log_replied : (rounds : ℕ) (d : State) (events : List LinkEvent) (source : Option Place) (id : Id) (r : ℕ) (M : List Moment) (H : History) (m : Moment) (extent : Extent) (invoke : ℕ) → IsWay source → LiesAhead rounds d events id r M H
    → m ≡ placed rounds (moment_of (log_with d id.instance)) → IsReply (our_question r (m ∷ []) H id extent (back (towards source))) invoke (datagram_to source (log_reply d id extent invoke))
log_replied rounds d events source id r M H m extent invoke way a first =
    let log : Log = log_with d id.instance in
    let is : IsLog log = log_is d id.instance a.sound a.there in
    let held = held_now rounds d events id r M H a in
    let cut : Log = log_at (placed rounds (moment_of log)) H in
    let short = ack_short d.reply_size invoke id extent log is (omega (arith, a.sound.least_reply)) in
    let same : reply_parameters id log extent d.reply_size ≡ reply_parameters id cut extent r =
    sym (reply-placed id rounds log extent d.reply_size)
    ∙ same_reply id (log_placed rounds log) cut extent d.reply_size (omega arith) (sym held) ∙ ap (λ k. reply_parameters id cut extent k) a.size in
    subst (λ (k : Moment). IsReply (our_question r (k ∷ []) H id extent (back (towards source))) invoke (datagram_to source (log_reply d id extent invoke))) (sym first) (
      subst (λ (es : List Entry). All IsLoggable es) (sym held) is.loggable,
      reply_again source (log_reply d id extent invoke) way refl (omega (arith, short, a.sound.greatest_reply))
          ∙ ap (λ (x : Apdu). Some (towards source, x)) (ack_is d.reply_size invoke id extent log)
          ∙ ap (λ (p : List ℕ). Some (towards source, Complex false invoke read_range_service p)) same,
    )

-- ---- without the log

pub none_answered : (d : State) (source : Option Place) (id : Id) (extent : Extent) (invoke : ℕ) (octets : List ℕ) → Lacks d id → IsQuestion id extent (back (towards source)) invoke octets
    → answer d octets ≡ (Some (reply (back_to source) (error invoke 26 UnknownObject)), d)
none_answered d source id extent invoke octets a asks =
    ap (λ (o : List ℕ). answer d o) (asked_is source id extent invoke octets a.kind asks ∙ question_is source invoke id.instance extent)
    ∙ question_refused d source id.instance invoke extent asks.3.1 a.sound.has a.none (omega (arith, asks.2.1)) asks.1

pub none_replied : (source : Option Place) (invoke : ℕ) → IsWay source → IsUnknown (back (towards source)) invoke (datagram_to source (error invoke 26 UnknownObject))
none_replied source invoke way = reply_again source (error invoke 26 UnknownObject) way (omega arith, omega arith) (omega (arith, error_short invoke 26 1 31))
