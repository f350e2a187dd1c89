-- What a device answers to a walk's question, and what the walk hears in it.
use Rattle.std.proofs.Common.{◌≡◌, ◌<◌, ℕ, true, false, ◌&&◌, ◌==◌, ◌-◌, List, [], ◌∷◌, Option, Some, None, refl, sym, ap, subst, ◌∙◌, arith}
use Rattle.std.specs.Prelude.{All}
use Rattle.std.proofs.lemmas.Bool.{and_parts, eqb-true}
use Rattle.bac_wire.specs.Canon.{IsValid}
use Rattle.bac_wire.specs.Primitive.{Id, Object}
use Rattle.bac_apdu.specs.Apdu.{Apdu, Complex}
use Rattle.bac_apdu.specs.declared.service.extent.Extent.{Extent}
use Rattle.bac_log.specs.Ack.{read_range_service}
use Rattle.bac_log.specs.Entry.{IsLoggable}
use Rattle.bac_log.specs.TrendLog.{Log}
use Rattle.bac_log.specs.declared.entry.Entry.{Entry}
use Rattle.bac_objects.specs.Sound.{IsSound}
use Rattle.bac_objects.specs.State.{State}
use Rattle.bac_device.specs.Answer.{answer, records_ack}
use Rattle.bac_device.specs.Reply.{datagram_to, reply}
use Rattle.bac_link.specs.Datagrams.{answer_in, answers_to, apdu_in, message_in}
use Rattle.bac_link.specs.Delivery.{History, Moment}
use Rattle.bac_link.specs.Links.{HasReply, IsQuestion, IsReply, question, reply_parameters, our_question}
use Rattle.bac_link.specs.Moments.{AreServed, log_at}
use Rattle.bac_link.specs.Path.{towards}
use Rattle.bac_link.specs.Requests.{request_octets}
use Rattle.bac_link.proofs.Datagrams.{request_again}
use Rattle.bac_link.proofs.Verdicts.{question_short}
use Rattle.bac_link.specs.Heard.{AckParameters}
use Rattle.bac_walk.specs.Replies.{Wanted, count_wanted, extent_of}
use Rattle.bac_walk.specs.Takes.{Says}
use Rattle.bac_link.specs.Heard as heard
use Rattle.bac_walk.proofs.Bridge.{IsNearTo}
use Rattle.bac_walk.proofs.OurReply.{says_in}
use Rattle.bac_memory_link.specs.Ahead.{IsThere, LiesAhead, history_ahead, log_with, moment_of, moments_ahead, placed, placed_all}
use Rattle.bac_memory_link.proofs.Ahead.{ahead_new}
use Rattle.bac_memory_link.proofs.Replies.{back_to, log_answered, log_id_is, log_replied}
use Rattle.bac_world.specs.Network.{heard_in}
use Rattle.bac_world.proofs.Lasts.{InHistory, in_history}

-- ---- the reply

-- the octets of the reply to a question
abbrev pub reply_text : State → Id → Extent → ℕ → List ℕ
reply_text d id extent invoke = datagram_to None (records_ack d.reply_size invoke id extent (log_with d id.instance))

-- what lies ahead of a device to which nothing happens
ahead : (rounds : ℕ) (d : State) (id : Id) → IsSound d → id.kind ≡ 20 → IsThere d id.instance →
    LiesAhead rounds d [] id d.reply_size (placed_all rounds (moments_ahead d id.instance [])) (history_ahead rounds d id.instance [])
ahead rounds d id sound kind there =
    subst (λ (i : Id). LiesAhead rounds d [] i d.reply_size (placed_all rounds (moments_ahead d id.instance [])) (history_ahead rounds d id.instance []))
    (sym (log_id_is id kind)) (ahead_new rounds d [] id.instance sound there)

pub answered : (d : State) (id : Id) (extent : Extent) (invoke : ℕ) (octets : List ℕ) → IsSound d → id.kind ≡ 20 → IsThere d id.instance →
    IsQuestion id extent (towards None) invoke octets → answer d octets ≡ (Some (reply (back_to None) (records_ack d.reply_size invoke id extent (log_with d id.instance))), d)
answered d id extent invoke octets sound kind there asks =
    log_answered 0 d [] None id d.reply_size (placed_all 0 (moments_ahead d id.instance [])) (history_ahead 0 d id.instance []) extent invoke octets (ahead 0 d id sound kind there) asks

-- ---- it is the log's, at the moment that the history has

alone : (rounds : ℕ) (d : State) (n : ℕ) → IsSound d → IsThere d n → InHistory rounds (history_ahead rounds d n []) n d
alone rounds d n sound there = in_history rounds (history_ahead rounds d n []) n d [] sound (record { there = there; past = []; gone = omega arith; entries = refl })

pub replied_at : (rounds : ℕ) (H : History) (d : State) (id : Id) (extent : Extent) (invoke : ℕ) → id.kind ≡ 20 → InHistory rounds H id.instance d →
    IsReply (our_question d.reply_size (placed rounds (moment_of (log_with d id.instance)) ∷ []) H id extent (towards None)) invoke (reply_text d id extent invoke)
replied_at rounds H d id extent invoke kind here =
    let n = id.instance in
    let m : Moment = placed rounds (moment_of (log_with d n)) in
    let H0 : History = history_ahead rounds d n [] in
    let lone = alone rounds d n here.sound here.there in
    let said = log_replied rounds d [] None id d.reply_size (placed_all rounds (moments_ahead d n [])) H0 m extent invoke tt (ahead rounds d id here.sound kind here.there) refl in
    let same : log_at m H0 ≡ log_at m H =
    ap (λ (es : List Entry). let l : Log = record { capacity = 1; enabled = true; before = m.oldest - 1; entries = es } in l) (lone.held ∙ sym here.held) in
    subst (λ (l : Log). All IsLoggable l.entries × HasReply d.reply_size l id extent (towards None) invoke (reply_text d id extent invoke)) same said

-- an ACK with its invoke ID
pub is_ack : (rounds : ℕ) (H : History) (d : State) (id : Id) (extent : Extent) (invoke : ℕ) → id.kind ≡ 20 → InHistory rounds H id.instance d →
    (parameters : List ℕ) × (message_in (reply_text d id extent invoke) ≡ Some (towards None, Complex false invoke read_range_service parameters))
is_ack rounds H d id extent invoke kind here =
    let said = replied_at rounds H d id extent invoke kind here in
    (reply_parameters id (log_at (placed rounds (moment_of (log_with d id.instance))) H) extent d.reply_size, said.1)

-- ---- which question it answers

answers_same : (request octets : List ℕ) (id : Id) (extent : Extent) (i j : ℕ) (parameters : List ℕ) → request ≡ request_octets (towards None) i (question id extent) →
    message_in octets ≡ Some (towards None, Complex false j read_range_service parameters) → answers_to request octets ≡ (i == j) && true
unfolding answers_to
answers_same request octets id extent i j parameters is said = rw (is, request_again (towards None) i (question id extent) (tt, tt) (question_short id extent i), said) refl

pub same_invoke : (request octets : List ℕ) (id : Id) (extent : Extent) (i j : ℕ) (parameters : List ℕ) → request ≡ request_octets (towards None) i (question id extent) →
    message_in octets ≡ Some (towards None, Complex false j read_range_service parameters) → answers_to request octets ≡ true → i ≡ j
same_invoke request octets id extent i j parameters is said awaited =
    eqb-true i j (and_parts (i == j) true (sym (answers_same request octets id extent i j parameters is said) ∙ awaited)).0

-- ---- what a walk hears in it

served_at : (rounds : ℕ) (H : History) (n : ℕ) (d : State) → InHistory rounds H n d → AreServed d.reply_size (placed rounds (moment_of (log_with d n)) ∷ []) H
served_at rounds H n d here = record {
  least = here.sound.least_reply;
  greatest = here.sound.greatest_reply;
  some = omega arith;
  capacity = 1;
  ranged = (omega arith, omega arith);
  start = placed rounds (moment_of (log_with d n));
  begins = here.moment;
  moments = (([], refl), tt);
  entries = (here.within, tt);
}

heard_same : (id : Id) (octets : List ℕ) (o : Option Apdu) (j : ℕ) (parameters : List ℕ) → message_in octets ≡ Some (towards None, Complex false j read_range_service parameters) →
    heard.heard_in id octets ≡ heard_in id (answer_in (apdu_in octets))
heard_same id octets o j parameters said = rw said refl

pub says_now : (rounds : ℕ) (H : History) (d : State) (id : Id) (wanted : Wanted) (invoke : ℕ) → id.kind ≡ 20 → IsValid (Object id) → InHistory rounds H id.instance d → count_wanted wanted < 2147483648 → IsNearTo wanted (placed rounds (moment_of (log_with d id.instance))) →
    AreServed d.reply_size (placed rounds (moment_of (log_with d id.instance)) ∷ []) H
    × Says d.reply_size (placed rounds (moment_of (log_with d id.instance))) H wanted (heard_in id (answer_in (apdu_in (reply_text d id (extent_of wanted) invoke))))
says_now rounds H d id wanted invoke kind valid here small near =
    let m : Moment = placed rounds (moment_of (log_with d id.instance)) in
    let octets : List ℕ = reply_text d id (extent_of wanted) invoke in
    let ack = is_ack rounds H d id (extent_of wanted) invoke kind here in
    let served = served_at rounds H id.instance d here in (
      served,
      subst (λ (o : Option AckParameters). Says d.reply_size m H wanted o) (heard_same id octets (apdu_in octets) invoke ack.0 ack.1)
          (says_in octets d.reply_size (m ∷ []) H id wanted (towards None) invoke served small near valid (replied_at rounds H d id (extent_of wanted) invoke kind here)),
    )
