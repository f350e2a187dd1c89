-- 1. Each question shows the record before it.
use Rattle.std.specs.Prelude.{ℕ, ◌==◌, ◌&&◌, ◌++◌, not, nat_lt, Bool, true, if◌then◌else◌, List, [], ◌∷◌, length}
use Rattle.std.specs.Prelude.{Option, None, Some}
use Rattle.std.specs.Option.{is_some}
use Rattle.bac_link.specs.Ordinals.{number_after}
use Rattle.bac_walk.specs.declared.batch.Numbered.{Numbered}
use Rattle.bac_poll.specs.Epochs.{another, asks_oldest}
use Rattle.bac_poll.specs.Known.{is_retold, is_steady, means_in, number_in, record_at, records_behind, shown_in}
use Rattle.bac_poll.specs.State.{KeptAs, PollState, Reply, kept_of}
use Rattle.bac_poll.specs.Turns.{Turned, asking_from, asks, asks_at, behind, brings, confirmed, end_of, ends, first_in}
use Rattle.bac_poll.specs.Turns.{first_number, gap_up_to, last_in, standing_alone, standing_at, standing_on}
use Rattle.bac_known.specs.declared.known.Means.{Means}
use Rattle.bac_known.specs.declared.known.Means.TheVariants.{Shifted, Partly, Same, Unshown, Another}
use Rattle.bac_known.specs.declared.known.Shown.{Shown}
use Rattle.bac_known.specs.declared.known.Shown.TheVariants as shown
use Rattle.bac_poll_steps.specs.declared.stage.Aim.TheVariants.{Finds}
use Rattle.bac_poll_steps.specs.declared.stage.Stage.TheVariants.{Ahead, Again, Each}
use Rattle.bac_poll_steps.specs.declared.turn.Line.{Line}
use Rattle.bac_poll_steps.specs.declared.turn.Line.TheVariants.{AtHour, AtHourOrBegan}
use Rattle.bac_poll_steps.specs.declared.turn.PollEnd.TheVariants.{CaughtUp}

-- ---- the known records, and those behind them

-- a known one alone is asked for, after these were shown
abbrev pub asks_each : PollState → List Numbered → Option ℕ → Turned
asks_each p held None = another p
asks_each p held (Some number) = asks (record p { stage = Each; reference = number; held = held })

-- Nothing follows the newest known one: the log is done, if it says so; else, if that came alone, what follows it by
-- number is asked for, and else it is asked for alone.
abbrev pub goes_nowhere : PollState → (done : Bool) → (alone : Bool) → Turned
goes_nowhere p done alone =
    if done then ends p CaughtUp else (if alone then asks_at p Ahead p.next else asks p)

-- the log is found at its place by the newest known record; what follows that is kept
abbrev pub goes_on : PollState → Reply → List Numbered → Turned
goes_on p reply news =
    if length news == 0 then goes_nowhere p (reply.last && not reply.more) (length reply.records == 1)
    else brings p news

-- the log is found at its place by this record, the newest known one, which is known as it is shown from then on
abbrev pub found : PollState → Numbered → PollState
found p held = standing_on (confirmed p) (kept_of held)

-- the newest known one is asked for by its number
abbrev pub asks_newest : PollState → (number : ℕ) → Turned
asks_newest p number = asks (asking_from p number)

-- known records are shown as they are known, with the newest or, as a short reply does, without it
abbrev pub joined : PollState → KeptAs → Reply → Option Numbered → Turned
joined p kept reply None = asks_newest p kept.number
joined p kept reply (Some held) = goes_on (found p held) reply (records_behind kept.number reply.records)

-- the same where the newest is known
abbrev pub joins_from : PollState → Reply → Option KeptAs → Turned
joins_from p reply None = asks_oldest p Finds
joins_from p reply (Some kept) = joined p kept reply (record_at kept.number reply.records)

-- What is told of that: a value that never changes, of a device that doesn't tell its restart again, may be of a new
-- life as well.
abbrev pub hour : PollState → ℕ → Line
hour p by = if is_steady p && not (is_retold p.word p.told) then AtHourOrBegan by else AtHour by

-- all at another hour: it is told, but where the newest is shown as it is known
abbrev pub at_hour : ℕ → Line → Turned → Turned
at_hour by line t = if by == 100 then t else record t { line = Some line }

-- by what they mean
abbrev pub joins_by : PollState → Reply → Means → Turned
joins_by p reply Unshown = asks_oldest p Finds
joins_by p reply Same = joins_from p reply p.newest
joins_by p reply (Shifted by) = at_hour by (hour p by) (joins_from p reply p.newest)
joins_by p reply Partly = asks_each p [] (number_in p.newest)
joins_by p reply Another = another p

-- a reply to that
abbrev pub joins : PollState → Reply → Turned
joins p reply = joins_by p reply (means_in p reply.records)

-- ---- the number before the first, which is gone

-- if it is there it is of another life
abbrev pub prior : PollState → List Numbered → Turned
prior p records = if first_number records == p.reference then another p else asks_oldest p Finds

-- ---- what follows the newest known one by number

-- that one is asked for once more, before these are kept
abbrev pub asks_again : PollState → List Numbered → Option ℕ → Turned
asks_again p held None = asks_oldest p Finds
asks_again p held (Some number) = asks (record p { stage = Again; reference = number; held = held })

-- nothing follows: the log is done, unless more was promised
abbrev pub ahead_none : PollState → Turned
ahead_none p = if p.more then asks_again p [] (number_in p.newest) else ends p CaughtUp

-- a reply to that
abbrev pub ahead : PollState → List Numbered → Turned
ahead p records =
    if length records == 0 then ahead_none p
    else (if first_number records == p.next then asks_again p records (number_in p.newest) else asks_oldest p Finds)

-- ---- the newest known one once more

-- it isn't held any more, or another one is
abbrev pub lost : PollState → Shown → Turned
lost p shown.Unshown = asks_oldest p Finds
lost p shown.Equal = asks_oldest p Finds
lost p (shown.Moved by) = another p
lost p shown.Another = another p

-- what came ahead of it, the last of which is this, is of nobody knows which life: a doubtful gap of this one
abbrev pub lost_ahead : PollState → Shown → Option Numbered → Turned
lost_ahead p seen None = lost p seen
lost_ahead p seen (Some last) =
    record (lost (standing_at p (number_after last.number 1)) seen)
    { missing = gap_up_to p.next (number_after last.number 1); doubtful = true }

-- It is shown at another hour: of three that are known each is asked for alone, and what came ahead comes again.
abbrev pub moved_ahead : PollState → List Numbered → Shown → Turned
moved_ahead p held seen =
    if is_some p.earliest then asks_each p [] (number_in p.newest) else lost_ahead p seen (last_in held)

-- what came ahead is kept, of a device that shows one record a reply: what follows by number is asked for
abbrev pub brings_ahead : PollState → List Numbered → Option Numbered → Turned
brings_ahead p held None = ends p (end_of p)
brings_ahead p held (Some last) =
    record (asks (record (behind p held last) { stage = Ahead; reference = number_after last.number 1 }))
    { records = held }

-- It is as it is known, and was asked for with what follows it: that is kept, if nothing came ahead; or alone.
abbrev pub again_equal : PollState → List Numbered → KeptAs → List Numbered → Turned
again_equal p held kept records =
    if length held == 0 then brings p (records_behind kept.number records)
    else (if length records == 1 then brings_ahead p held (last_in held) else brings p held)

-- by what is shown of it
abbrev pub again_by : PollState → List Numbered → KeptAs → List Numbered → Shown → Turned
again_by p held kept records shown.Equal = again_equal p held kept records
again_by p held kept records shown.Unshown = lost_ahead p shown.Unshown (last_in held)
again_by p held kept records (shown.Moved by) = moved_ahead p held (shown.Moved by)
again_by p held kept records shown.Another = lost_ahead p shown.Another (last_in held)

-- where the newest is known
abbrev pub again_from : PollState → List Numbered → List Numbered → Option KeptAs → Turned
again_from p held records None = asks_oldest p Finds
again_from p held records (Some kept) = again_by p held kept records (shown_in (Some kept) records)

-- a reply to that
abbrev pub again : PollState → List Numbered → List Numbered → Turned
again p held records = again_from p held records p.newest

-- ---- the known ones, one by one

-- by what they mean, the newest shown as this one: where the log is found at its place again, it alone is known
abbrev pub each_means : PollState → Numbered → Means → Turned
each_means p held Same = asks (standing_alone p (kept_of held))
each_means p held (Shifted by) = at_hour by (hour p by) (asks (standing_alone p (kept_of held)))
each_means p held Unshown = another p
each_means p held Partly = another p
each_means p held Another = another p

-- all of them were shown
abbrev pub each_all : PollState → List Numbered → Option Numbered → Turned
each_all p held None = another p
each_all p held (Some first) = each_means p first (means_in p held)

-- the one before the newest is asked for, then the one before that; then they are compared
abbrev pub each_next : PollState → List Numbered → Turned
each_next p held =
    if length held == 1 then asks_each p held (number_in p.earlier)
    else (if length held == 2 then asks_each p held (number_in p.earliest) else each_all p held (first_in held))

-- one of them is shown, or another number
abbrev pub each_by : PollState → List Numbered → Option Numbered → Turned
each_by p held None = another p
each_by p held (Some shown) =
    if (shown.number == p.reference) && nat_lt (length held) 3 then each_next p (held ++ shown ∷ []) else another p

-- a reply to that
abbrev pub each : PollState → List Numbered → List Numbered → Turned
each p held records = each_by p held (first_in records)
