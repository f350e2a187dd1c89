-- 2 and 3. The oldest records, and the count where none is shown.
use Rattle.std.specs.Prelude.{ℕ, ◌==◌, ◌&&◌, ◌||◌, not, nat_lt, Bool, if◌then◌else◌, List, [], length}
use Rattle.std.specs.Prelude.{Option, None, Some}
use Rattle.bac_link.specs.Ordinals.{is_ahead}
use Rattle.bac_walk.specs.declared.batch.Numbered.{Numbered}
use Rattle.bac_poll.specs.Epochs.{another_by, another_of, asks_back}
use Rattle.bac_poll.specs.Gone.{asks_word, has_logged}
use Rattle.bac_poll.specs.Joins.{asks_each, asks_newest, at_hour, found, hour}
use Rattle.bac_poll.specs.Known.{means_in, number_in, record_at, records_behind}
use Rattle.bac_poll.specs.State.{KeptAs, PollState, Reply}
use Rattle.bac_poll.specs.Turns.{Turned, asks, asks_at, brings, confirmed, ends, first_number, last_in}
use Rattle.bac_poll.specs.Turns.{number_before, number_or}
use Rattle.bac_known.specs.declared.known.Means.{Means}
use Rattle.bac_known.specs.declared.known.Means.TheVariants.{Shifted, Partly, Same, Unshown, Another}
use Rattle.bac_poll_steps.specs.declared.stage.Aim.TheVariants.{Finds}
use Rattle.bac_poll_steps.specs.declared.stage.Stage.TheVariants.{ByNumber, UpTo}
use Rattle.bac_poll_steps.specs.declared.turn.PollEnd.TheVariants.{CaughtUp, NoneByNumber, ShowsNone}
pub use Rattle.bac_poll_steps.specs.Starts.{is_since, is_first}

-- all lie behind the newest known one: those before them are asked for, and then the word
abbrev pub drops : PollState → (back : Bool) → List Numbered → Turned
drops p back records =
    if back && not (is_first p (first_number records)) then asks_back p Finds records else asks_word p records

-- They begin before the newest known one, and don't show it: another life. Where they may be cut off the last of them
-- is asked for by number before: a device that shows it so would show the newest known one, too.
abbrev pub sees_before : PollState → (cut : Bool) → List Numbered → Turned
sees_before p cut records =
    if cut then asks (record p { stage = ByNumber; reference = number_or 0 (last_in records); held = records })
    else another_by p records

-- none is shown by number either: such a log can't be walked
abbrev pub by_number : PollState → (held : List Numbered) → List Numbered → Turned
by_number p held records = if length records == 0 then ends p NoneByNumber else another_by p held

-- they show no known one
abbrev pub sees_none : PollState → (back : Bool) → (cut : Bool) → List Numbered → Turned
sees_none p back cut records =
    if is_ahead p.next (first_number records) then drops p back records else sees_before p cut records

-- They end with the newest, which wasn't found by number: where they may be cut off, others may follow that nobody
-- finds.
abbrev pub sees_last : PollState → (cut : Bool) → List Numbered → Turned
sees_last p cut news = if (length news == 0) && cut then ends p NoneByNumber else brings p news

-- What follows the newest is kept. Nothing follows, and it wasn't asked for by number yet, but an earlier one was: it
-- is.
abbrev pub sees_news : PollState → (asked : Bool) → (cut : Bool) → List Numbered → Turned
sees_news p asked cut news = if (length news == 0) && not asked then asks p else sees_last p cut news

-- They show known ones as they are known: what follows the newest is kept, if that is among them. A short reply may not
-- come to it: it is asked for, if it wasn't yet.
abbrev pub sees_newest : PollState → KeptAs → (cut : Bool) → List Numbered → Option Numbered → Turned
sees_newest p kept cut records None = if p.alone then sees_before p cut records else asks_newest p kept.number
sees_newest p kept cut records (Some held) =
    sees_news (found p held) p.alone cut (records_behind kept.number records)

-- the same where the newest is known
abbrev pub sees_same : PollState → (cut : Bool) → List Numbered → Option KeptAs → Turned
sees_same p cut records None = another_by p records
sees_same p cut records (Some kept) = sees_newest p kept cut records (record_at kept.number records)

-- by what they mean
abbrev pub sees_by : PollState → (back : Bool) → (cut : Bool) → List Numbered → Means → Turned
sees_by p back cut records Unshown = sees_none p back cut records
sees_by p back cut records Same = sees_same p cut records p.newest
sees_by p back cut records (Shifted by) = at_hour by (hour p by) (sees_same p cut records p.newest)
sees_by p back cut records Partly = asks_each p [] (number_in p.newest)
sees_by p back cut records Another = another_by p records

-- Records came that were asked for without the known ones. Those before them are looked for, unless that was done; and
-- of a log that shows none by number they may be cut off.
abbrev pub sees : PollState → (back : Bool) → (cut : Bool) → List Numbered → Turned
sees p back cut records = sees_by p back cut records (means_in p records)

-- A reply by time that needn't be all that the log holds: it says that more is there (MORE_ITEMS), or brings as many as
-- were asked for and doesn't say that it has the newest (LAST_ITEM).
abbrev pub is_cut : PollState → Reply → Bool
is_cut p reply = reply.more || ((length reply.records == p.walk.count) && not reply.last)

-- ---- 3. Total_Record_Count

-- how many records were logged before the number that comes next
abbrev pub logged : PollState → ℕ
logged p = if has_logged p then number_before p.next else 0

-- no record is shown, and so many were logged
abbrev pub weighed : PollState → ℕ → Turned
weighed p total =
    if total == logged p then ends (confirmed p) CaughtUp
    else (if nat_lt 0 total && is_ahead p.next total
    then asks_at (record p { total = total }) (UpTo Finds) total
    else another_of p total)

-- a refusal: the log shows no record
abbrev pub by_count : PollState → Option ℕ → Turned
by_count p None = ends p ShowsNone
by_count p (Some total) = weighed p total
