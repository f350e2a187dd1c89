-- What is asked of a trend log, and what is heard as a reply.
use Rattle.std.specs.Prelude.{ℕ, pos, negsuc, ◌+◌, ◌-◌, ◌/◌, nat_le, nat_lt, ◌&&◌, Bool, true, false}
use Rattle.std.specs.Prelude.{if◌then◌else◌, List, [], length, Option, None, Some}
use Rattle.bac_wire.specs.Primitive.{Id}
use Rattle.bac_apdu.specs.declared.service.extent.Extent.TheVariants.{ByNumber}
use Rattle.bac_log.specs.declared.entry.Entry.{Entry}
use Rattle.bac_link.specs.Heard.{AckParameters, heard_in}
use Rattle.bac_link.specs.Links.{question}
use Rattle.bac_link.specs.Ordinals.{distance}
use Rattle.bac_link.specs.declared.request.Request.{Request}
use Rattle.bac_link.specs.declared.request.Request.TheVariants as request
use Rattle.bac_walk.specs.Place.{asking}
use Rattle.bac_walk.specs.Walks.{Ask, Bring, End, NextAct, Refuse, question_of, verdict, with_numbers}
use Rattle.bac_walk.specs.declared.batch.Numbered.{Numbered}
use Rattle.bac_poll_steps.specs.State.{PollState, Reply}
use Rattle.bac_poll_steps.specs.Turns.{first_number}
use Rattle.bac_poll_steps.specs.declared.stage.Stage.{Stage}
use Rattle.bac_poll_steps.specs.declared.stage.Stage.TheVariants.{Joins, Prior, Ahead, Again, Each, Oldest, ByNumber}
use Rattle.bac_poll_steps.specs.declared.stage.Stage.TheVariants.{Counts, UpTo, Back, Revision, Restart}
pub use Rattle.bac_known.specs.Ack.{has_last, has_more, ack_at, ack_in}

-- ---- what is asked

-- so many records from a number on
abbrev pub number_question : PollState → Request
number_question p = question p.walk.log (ByNumber p.reference (pos p.walk.count))

-- so many up to it
abbrev pub back_question : PollState → Request
back_question p = question p.walk.log (ByNumber p.reference (negsuc (p.walk.count - 1)))

-- a property of an object
abbrev pub property_question : Id → (property : ℕ) → Request
property_question object property =
    request.ReadProperty (record { object = object; property = property; index = None })

-- records; Total_Record_Count (145, clause 12.25); or Time_Of_Device_Restart (203) or Database_Revision (155) of the
-- device (clause 12.11)
abbrev pub question_at : PollState → Stage → Request
question_at p Joins = number_question p
question_at p Prior = number_question p
question_at p Ahead = number_question p
question_at p Again = number_question p
question_at p Each = number_question p
question_at p ByNumber = number_question p
question_at p (Oldest aim) = question p.walk.log (question_of p.walk)
question_at p (Counts aim) = property_question p.walk.log 145
question_at p (UpTo aim) = back_question p
question_at p (Back aim) = back_question p
question_at p Revision = property_question p.device 155
question_at p Restart = property_question p.device 203

-- by what the answer is for
abbrev pub asked_by_poll : PollState → Request
asked_by_poll p = question_at p p.stage

-- ---- what is heard

-- whether so many records from this number on lie among as many from a number on
abbrev pub are_from : (asked : ℕ) → (reference : ℕ) → (first : ℕ) → (count : ℕ) → Bool
are_from asked reference first count = nat_le (distance reference first + count) asked

-- or among as many up to a number
abbrev pub are_up_to : (asked : ℕ) → (reference : ℕ) → (first : ℕ) → (count : ℕ) → Bool
are_up_to asked reference first count =
    nat_lt (distance first reference) asked && nat_le count (distance first reference + 1)

-- whether so many records from this number on were asked for: by time, up to a number, or from one on
abbrev pub are_asked : PollState → Stage → (first : ℕ) → (count : ℕ) → Bool
are_asked p (Oldest aim) first count = true
are_asked p (UpTo aim) first count = are_up_to p.walk.count p.reference first count
are_asked p (Back aim) first count = are_up_to p.walk.count p.reference first count
are_asked p Joins first count = are_from p.walk.count p.reference first count
are_asked p Prior first count = are_from p.walk.count p.reference first count
are_asked p Ahead first count = are_from p.walk.count p.reference first count
are_asked p Again first count = are_from p.walk.count p.reference first count
are_asked p Each first count = are_from p.walk.count p.reference first count
are_asked p ByNumber first count = are_from p.walk.count p.reference first count
are_asked p (Counts aim) first count = false
are_asked p Revision first count = false
are_asked p Restart first count = false

-- records as a reply, if they were asked for
abbrev pub reply_with : PollState → List Numbered → (last : Bool) → (more : Bool) → Option Reply
reply_with p records last more =
    if are_asked p p.stage (first_number records) (length records)
    then Some (record { records = records; last = last; more = more }) else None

-- an ACK as a reply; none if it isn't by the question
abbrev pub reply_of : PollState → NextAct → List Entry → (last : Bool) → (more : Bool) → Option Reply
reply_of p Refuse es last more = None
reply_of p Ask es last more = Some (record { records = []; last = last; more = more })
reply_of p End es last more = Some (record { records = []; last = last; more = more })
reply_of p (Bring first) es last more = reply_with p (with_numbers first es) last more

-- what is heard as a reply
abbrev pub reply_from : PollState → Option AckParameters → (last : Bool) → (more : Bool) → Option Reply
reply_from p None last more = None
reply_from p (Some h) last more = reply_of p (verdict p.walk h.first h.count h.entries) h.entries last more

-- a datagram as a reply
abbrev pub reply_in : PollState → List ℕ → Option Reply
reply_in p datagram =
    reply_from p (heard_in p.walk.log datagram) (has_last (ack_in datagram)) (has_more (ack_in datagram))

-- ---- too many are asked for

-- half of so many records, one at least
abbrev pub half_of : ℕ → ℕ
half_of count = if nat_le count 1 then 1 else count / 2

-- The device can't send so many at once (Abort 1, 4 or 11, clause 18.10): half as many are asked for from now on.
abbrev pub after_too_many : PollState → PollState
after_too_many p = record p { walk = asking (half_of p.walk.count) p.walk }
