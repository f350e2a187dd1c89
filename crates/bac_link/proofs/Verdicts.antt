-- What an exchange makes of what it heard.
use Rattle.std.proofs.Common.{◌≡◌, ℕ, ◌+◌, ◌≤◌, true, List, length, Option, None, ap, arith}
use Rattle.std.specs.Option.{option_map}
use Rattle.bac_apdu.specs.Npdu.{Place}
use Rattle.bac_link.specs.Path.{Path, towards}
use Rattle.bac_wire.specs.Primitive.{Id}
use Rattle.bac_apdu.specs.declared.service.extent.Extent.{Extent}
use Rattle.bac_apdu.proofs.Shorts.{range_apdu_short}
use Rattle.bac_log.specs.Ack.{log_buffer, read_range_service}
use Rattle.bac_log.specs.TrendLog.{Log}
use Rattle.bac_link.specs.declared.exchanges.Verdict.TheVariants.{Ack}
use Rattle.bac_link.specs.Datagrams.{answers_to, apdu_in}
use Rattle.bac_link.specs.Exchanges.{verdict_of}
use Rattle.bac_link.specs.Links.{HasReply, IsUnknown, IsQuestion, question, reply_parameters, RisesBy}
use Rattle.bac_link.specs.Requests.{parameters_of, request_apdu, IsTooLong}
use Rattle.bac_link.proofs.Datagrams.{ack_answers, error_answers}

-- a question has at most 51 octets
pub question_short : (id : Id) (extent : Extent) (invoke : ℕ) → length (request_apdu invoke (question id extent)) ≤ 1476
unfolding request_apdu parameters_of
question_short id extent invoke = omega (arith, range_apdu_short (record { object = id; property = log_buffer; index = None; extent = extent }) 1476 invoke)

pub question_fits : (id : Id) (extent : Extent) → IsTooLong (question id extent) → ⊥
question_fits id extent long = omega (arith, long, question_short id extent 0)

-- a reply of ours answers the question
pub our_answers : (r : ℕ) (log : Log) (id : Id) (extent : Extent) (place : Option Place) (invoke : ℕ) (octets datagram : List ℕ) →
    IsQuestion id extent (towards place) invoke octets → HasReply r log id extent (towards place) invoke datagram → answers_to octets datagram ≡ true
our_answers r log id extent place invoke octets datagram asks h =
    rw asks.0 (ack_answers place invoke (question id extent) datagram read_range_service (reply_parameters id log extent r) asks.3.0 (question_short id extent invoke) h)

-- and so does the Error of a device without the log
pub unknown_answers : (id : Id) (extent : Extent) (place : Option Place) (invoke : ℕ) (octets datagram : List ℕ) →
    IsQuestion id extent (towards place) invoke octets → IsUnknown (towards place) invoke datagram → answers_to octets datagram ≡ true
unknown_answers id extent place invoke octets datagram asks h =
    rw asks.0 (error_answers place invoke (question id extent) datagram read_range_service 1 31 asks.3.0 (question_short id extent invoke) h)

-- a reply of ours is the ACK of the question
pub our_verdict : (r : ℕ) (log : Log) (id : Id) (extent : Extent) (path : Path) (invoke : ℕ) (datagram : List ℕ) →
    HasReply r log id extent path invoke datagram → verdict_of (question id extent) (apdu_in datagram) ≡ Ack
our_verdict r log id extent path invoke datagram h = ap (λ m. verdict_of (question id extent) (option_map (λ message. message.1) m)) h

pub rises_more : (k a b c : ℕ) → RisesBy k a b → RisesBy 1 b c → RisesBy (k + 1) a c
rises_more k a b c p q = omega (arith, p, q)
