-- How a trend log is polled: what is asked, and what an answer makes of it. Read `after` from the end.
use Rattle.std.specs.Prelude.{ℕ, ◌==◌, Bool, true, false, if◌then◌else◌, List, [], length, Option, None, Some}
use Rattle.bac_walk.specs.declared.batch.Numbered.{Numbered}
use Rattle.bac_walk.specs.declared.outcome.WalkFault.TheVariants.{BadReply}
use Rattle.bac_known.specs.declared.date_time.DateTime.{DateTime}
use Rattle.bac_poll.specs.Back.{back}
use Rattle.bac_poll.specs.Epochs.{renews, renews_none, renews_of}
use Rattle.bac_poll.specs.Gone.{asks_restart, asks_word, by_word}
use Rattle.bac_poll.specs.Joins.{ahead, again, each, joins, prior}
use Rattle.bac_poll.specs.Oldest.{by_count, by_number, is_cut, sees}
use Rattle.bac_poll.specs.Starts.{starts, starts_by, starts_from, starts_none}
use Rattle.bac_poll.specs.State.{PollState, Reply}
use Rattle.bac_poll.specs.Turns.{Turned, asks_at, end_of, ends}
use Rattle.bac_poll_steps.specs.declared.stage.Aim.{Aim}
use Rattle.bac_poll_steps.specs.declared.stage.Aim.TheVariants.{Finds, Renews, Starts}
use Rattle.bac_poll_steps.specs.declared.stage.Stage.{Stage}
use Rattle.bac_poll_steps.specs.declared.stage.Stage.TheVariants.{Joins, Prior, Ahead, Again, Each, Oldest, ByNumber}
use Rattle.bac_poll_steps.specs.declared.stage.Stage.TheVariants.{Counts, UpTo, Back, Revision, Restart}
use Rattle.bac_poll_steps.specs.declared.turn.PollEnd.TheVariants.{Fault}
pub use Rattle.bac_poll_steps.specs.Asked.{number_question, back_question, property_question, question_at}
pub use Rattle.bac_poll_steps.specs.Asked.{asked_by_poll, are_from, are_up_to, are_asked, reply_with, reply_of}
pub use Rattle.bac_poll_steps.specs.Asked.{reply_from, reply_in, half_of, after_too_many, has_last, has_more}
pub use Rattle.bac_poll_steps.specs.Asked.{ack_at, ack_in}
pub use Rattle.bac_poll_steps.specs.Begins.{kept_number, first_stage, first_reference, nothing_told, joining}
pub use Rattle.bac_poll_steps.specs.Begins.{starting}

-- ---- what an answer makes of a poll

-- none of the oldest is shown: the count is asked for; in a first run it is known, and the records up to it are
abbrev pub oldest_none : PollState → Aim → Turned
oldest_none p Finds = asks_at p (Counts Finds) p.reference
oldest_none p Renews = asks_at p (Counts Renews) p.reference
oldest_none p Starts = if p.total == 0 then starts_none p else asks_at p (UpTo Starts) p.total

-- nor any up to the count
abbrev pub up_to_none : PollState → Aim → Turned
up_to_none p Finds = asks_word p []
up_to_none p Renews = renews_none p p.total
up_to_none p Starts = starts p []

-- the oldest, or those up to the count, came
abbrev pub came : PollState → Aim → (cut : Bool) → List Numbered → Turned
came p Finds cut records = sees p true cut records
came p Renews cut records = renews p records
came p Starts cut records = starts_by p records

-- the oldest were asked for
abbrev pub oldest : PollState → Aim → Reply → Turned
oldest p aim reply =
    if length reply.records == 0 then oldest_none p aim else came p aim (is_cut p reply) reply.records

-- those up to the count were asked for, since none was found by time
abbrev pub up_to : PollState → Aim → List Numbered → Turned
up_to p aim records = if length records == 0 then up_to_none p aim else came p aim false records

-- by what the answer is for, with the records that were held back
abbrev pub at_stage : PollState → Stage → List Numbered → Reply → Turned
at_stage p Joins held reply = joins p reply
at_stage p Prior held reply = prior p reply.records
at_stage p Ahead held reply = ahead p reply.records
at_stage p Again held reply = again p held reply.records
at_stage p Each held reply = each p held reply.records
at_stage p ByNumber held reply = by_number p held reply.records
at_stage p (Oldest aim) held reply = oldest p aim reply
at_stage p (UpTo aim) held reply = up_to p aim reply.records
at_stage p (Back aim) held reply = back p aim held reply.records
at_stage p (Counts aim) held reply = ends p (Fault BadReply)
at_stage p Revision held reply = ends p (Fault BadReply)
at_stage p Restart held reply = ends p (Fault BadReply)

-- a reply with records tells whether more is there
abbrev pub more_of : PollState → Reply → Bool
more_of p reply = if length reply.records == 0 then p.more else reply.more

-- A reply to a question for records.
abbrev pub after_reply : PollState → Reply → Turned
after_reply p reply =
    at_stage (record p { more = more_of p reply; held = [] }) p.stage p.held reply

-- the same of one that may not be by the question
abbrev pub after_heard : PollState → Option Reply → Turned
after_heard p None = ends p (Fault BadReply)
after_heard p (Some reply) = after_reply p reply

-- A datagram with the ACK that answers it.
abbrev pub after : PollState → List ℕ → Turned
after p datagram = after_heard p (reply_in p datagram)

-- of a new epoch that shows no record
abbrev pub renews_by : PollState → Option ℕ → Turned
renews_by p None = ends p (end_of p)
renews_by p (Some total) = renews_of p total

-- by what the count is for
abbrev pub count_at : PollState → Stage → Option ℕ → Turned
count_at p (Counts Finds) count = by_count (record p { more = false }) count
count_at p (Counts Renews) count = renews_by p count
count_at p (Counts Starts) count = starts_from p count
count_at p Joins count = ends p (Fault BadReply)
count_at p Prior count = ends p (Fault BadReply)
count_at p Ahead count = ends p (Fault BadReply)
count_at p Again count = ends p (Fault BadReply)
count_at p Each count = ends p (Fault BadReply)
count_at p ByNumber count = ends p (Fault BadReply)
count_at p (Oldest aim) count = ends p (Fault BadReply)
count_at p (UpTo aim) count = ends p (Fault BadReply)
count_at p (Back aim) count = ends p (Fault BadReply)
count_at p Revision count = ends p (Fault BadReply)
count_at p Restart count = ends p (Fault BadReply)

-- Total_Record_Count, or none: it is refused.
abbrev pub after_count : PollState → Option ℕ → Turned
after_count p count = count_at p p.stage count

-- The word told again: the Database_Revision, if that was asked for.
abbrev pub after_revision : PollState → Option ℕ → Turned
after_revision p revision =
    asks_restart (record p { again = record p.again { revision = revision }; held = [] }) p.held p.word.restart

-- Or the Time_Of_Device_Restart, as it is kept and as a date and time.
abbrev pub after_restart : PollState → (restart : List ℕ) → (moment : DateTime) → Turned
after_restart p restart moment =
    by_word (record p { again = record p.again { restart = restart; moment = moment }; held = [] }) p.held
