-- What is asked of a log, what it answers at a moment, and what a link makes of it: all as datagrams.
use Rattle.std.specs.Prelude.{◌≡◌, ℕ, ◌+◌, ◌≤◌, min, false, Some, None, Result, Ok, Err, List, All}
use Rattle.bac_wire.specs.Primitive.{Id, Object}
use Rattle.bac_wire.specs.Canon.{IsValid}
use Rattle.bac_apdu.specs.Apdu.{Complex, Error}
use Rattle.bac_apdu.specs.Service.Extent.{IsExtent}
use Rattle.bac_apdu.specs.declared.service.extent.Extent.{Extent}
use Rattle.bac_log.specs.Ack.{ack_parameters, log_buffer, read_range_service}
use Rattle.bac_log.specs.Entry.{IsLoggable}
use Rattle.bac_log.specs.Select.{answer_of, entries_in, first_shown, packed, selected}
use Rattle.bac_log.specs.TrendLog.{Log}
use Rattle.bac_link.specs.declared.link.Lost.{Lost}
use Rattle.bac_link.specs.declared.request.Request.{Request}
use Rattle.bac_link.specs.declared.request.Request.TheVariants as request
use Rattle.bac_link.specs.Datagrams.{message_in}
use Rattle.bac_link.specs.Delivery.{History, Moment, now, later}
use Rattle.bac_link.specs.Moments.{log_at}
use Rattle.bac_link.specs.Path.{Path, AreWays, back}
use Rattle.bac_link.specs.Requests.{request_octets}

-- ---- questions

-- a ReadRange of the log's Log_Buffer
abbrev pub question : Id → Extent → Request
question log extent = request.ReadRange (record { object = log; property = log_buffer; index = None; extent = extent })

-- the request is that question, and extent and identifier can be encoded
abbrev pub AsksFor : Id → Extent → Request → Type 0
AsksFor log extent r = (r ≡ question log extent) × IsExtent extent × IsValid (Object log)

-- The same as the datagram that `begin` gives; or as a router hands it on, with the place that it is from.
abbrev pub IsQuestion : Id → Extent → Path → ℕ → List ℕ → Type 0
IsQuestion log extent path invoke octets =
    (octets ≡ request_octets path invoke (question log extent)) × IsExtent extent × IsValid (Object log) × AreWays path

-- ---- replies

-- the parameters of the ACK that a log gives within so many octets
unfoldable pub reply_parameters : Id → Log → Extent → ℕ → List ℕ
reply_parameters id log extent limit =
    let records = packed extent limit (selected log extent) in
    ack_parameters id (answer_of log extent limit).flags (first_shown extent records) (entries_in records)

-- that ACK, in a datagram to one device that goes back the way the question came
abbrev pub HasReply : ℕ → Log → Id → Extent → Path → ℕ → List ℕ → Type 0
HasReply r log id extent path invoke datagram =
    message_in datagram ≡ Some (back path, Complex false invoke read_range_service (reply_parameters id log extent r))

-- A question over a link of ours: its replies have at most so many octets, and are given at these moments of a log
-- with this history; the log, what is asked of it, and by which way.
pub record OurQuestion : Type 0 where
  pub reply_size : ℕ
  pub moments : List Moment
  pub history : History
  pub log : Id
  pub extent : Extent
  pub path : Path

-- all of it together
abbrev pub our_question : ℕ → List Moment → History → Id → Extent → Path → OurQuestion
our_question r M H id extent path =
    record { reply_size = r; moments = M; history = H; log = id; extent = extent; path = path }

-- the reply of its log at the next moment, under this invoke ID; all entries of the log are loggable
abbrev pub IsReply : OurQuestion → ℕ → List ℕ → Type 0
IsReply q invoke datagram =
    All IsLoggable (log_at (now q.moments) q.history).entries
    × HasReply q.reply_size (log_at (now q.moments) q.history) q.log q.extent q.path invoke datagram

-- the Error of a device that has no such log: class object, code unknown-object (clause 18)
abbrev pub IsUnknown : Path → ℕ → List ℕ → Type 0
IsUnknown path invoke datagram = message_in datagram ≡ Some (back path, Error invoke read_range_service 1 31)

-- ---- one ask

-- a count that stays at its greatest value, and stands for any number there
abbrev pub RisesBy : ℕ → ℕ → ℕ → Type 0
RisesBy k old new = min (old + k) 18446744073709551615 ≤ new

-- of a link of ours: the reply of the next moment, which is then used up; a loss leaves the moments
abbrev pub IsAsked : (List Moment → Type 0) → OurQuestion → ℕ → Result (List ℕ) Lost → Type 0
IsAsked stays q invoke (Ok datagram) = IsReply q invoke datagram × stays (later q.moments)
IsAsked stays q invoke (Err lost) = stays q.moments

-- of a link that lacks the log
abbrev pub IsAskedOfNone : Path → ℕ → Result (List ℕ) Lost → Type 0
IsAskedOfNone path invoke (Ok datagram) = IsUnknown path invoke datagram
IsAskedOfNone path invoke (Err lost) = Unit {0}

-- ---- what an ask is

-- What an ask of a link of ours brings follows already from what the link says that an ask is.
abbrev pub TellsOurs : {S : Type 0} → (S → List ℕ → Result (List ℕ) Lost → S → Type 0) →
    (S → Id → ℕ → List Moment → History → Type 0) → Type 0
TellsOurs {S = S} asks ours =
    (old new : S) (octets : List ℕ) (answer : Result (List ℕ) Lost) (id : Id) (r : ℕ) (M : List Moment) (H : History)
    (extent : Extent) (path : Path) (invoke : ℕ) → ours old id r M H → IsQuestion id extent path invoke octets →
    asks old octets answer new → IsAsked (λ N. ours new id r N H) (our_question r M H id extent path) invoke answer
