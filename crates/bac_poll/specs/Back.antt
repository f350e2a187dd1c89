-- Before a gap is put in front of records, the first of them is asked for backwards, until nothing stands before it.
use Rattle.std.specs.Prelude.{◌+◌, ◌==◌, ◌||◌, nat_lt, Bool, true, false, if◌then◌else◌, List, length, Option, None}
use Rattle.std.specs.Prelude.{Some}
use Rattle.bac_link.specs.Ordinals.{distance}
use Rattle.bac_walk.specs.declared.batch.Numbered.{Numbered}
use Rattle.bac_poll.specs.Epochs.{asks_back, asks_oldest, brings_behind}
use Rattle.bac_poll.specs.Known.{means_in, shown_as}
use Rattle.bac_poll.specs.Oldest.{is_first, sees}
use Rattle.bac_poll.specs.Starts.{starts}
use Rattle.bac_poll.specs.State.{PollState, kept_of}
use Rattle.bac_poll.specs.Turns.{Turned, asks, asks_at, ends, first_in, first_number, last_in, number_before, number_or}
use Rattle.bac_known.specs.declared.known.Means.{Means}
use Rattle.bac_known.specs.declared.known.Means.TheVariants.{Shifted, Partly, Same, Unshown, Another}
use Rattle.bac_known.specs.declared.known.Shown.{Shown}
use Rattle.bac_known.specs.declared.known.Shown.TheVariants as shown
use Rattle.bac_poll_steps.specs.declared.stage.Aim.{Aim}
use Rattle.bac_poll_steps.specs.declared.stage.Aim.TheVariants.{Finds, Renews, Starts}
use Rattle.bac_poll_steps.specs.declared.stage.Stage.TheVariants.{Back, Counts}
use Rattle.bac_poll_steps.specs.declared.turn.PollEnd.TheVariants.{Contradicts}

-- nothing stands before these
abbrev pub back_done : PollState → Aim → List Numbered → Turned
back_done p Finds records = sees p false false records
back_done p Renews records = brings_behind p records
back_done p Starts records = starts p records

-- the first of them is another one by now: it is begun again
abbrev pub back_lost : PollState → Aim → Turned
back_lost p Finds = asks_oldest p Finds
back_lost p Renews = asks_oldest p Renews
back_lost p Starts = asks_at p (Counts Starts) p.reference

-- whether what stands before these doesn't count: a known one is shown among them, or nothing may stand there
abbrev pub is_front : PollState → List Numbered → Means → Bool
is_front p records Unshown = is_first p (first_number records)
is_front p records Same = true
is_front p records (Shifted by) = true
is_front p records Partly = true
is_front p records Another = true

-- these stand before the first of the ones that were held back; what follows them comes by number
abbrev pub back_more : PollState → Aim → List Numbered → Turned
back_more p aim records =
    if is_front p records (means_in p records) then back_done p aim records else asks_back p aim records

-- It came alone. Those before it are asked for without it, if the reply says that more is there, or no other was asked
-- for.
abbrev pub back_alone : PollState → Aim → List Numbered → Turned
back_alone p aim held =
    if p.more || (p.walk.count == 1)
    then asks (record p { stage = Back aim; reference = number_before (first_number held); held = held })
    else back_done p aim held

-- a reply ends with that first one, as this: as it was, alone or behind others; or another one
abbrev pub back_shown : PollState → Aim → List Numbered → List Numbered → Shown → Turned
back_shown p aim held records shown.Equal =
    if length records == 1 then back_alone p aim held else back_more p aim records
back_shown p aim held records shown.Unshown = back_lost p aim
back_shown p aim held records (shown.Moved by) = back_lost p aim
back_shown p aim held records shown.Another = back_lost p aim

-- what the first that is held back is shown as
abbrev pub shown_last : Option Numbered → Numbered → Shown
shown_last None last = shown.Unshown
shown_last (Some first) last = shown_as (kept_of first) (kept_of last)

-- by the last record of the reply: it has none; it ends with the first that is held back; or before it
abbrev pub back_by : PollState → Aim → List Numbered → List Numbered → Option Numbered → Turned
back_by p aim held records None = back_done p aim held
back_by p aim held records (Some last) =
    if last.number == first_number held then back_shown p aim held records (shown_last (first_in held) last)
    else back_more p aim records

-- the poll went back to the first of these, from the number that was asked for on, and with that
abbrev pub went_back : PollState → List Numbered → PollState
went_back p records =
    record p { back = p.back + distance (number_or p.reference (first_in records)) p.reference + 1 }

-- A reply to that. Half of all numbers lie before one: who went back behind them contradicts itself.
abbrev pub back : PollState → Aim → List Numbered → List Numbered → Turned
back p aim held records =
    if nat_lt p.back 2147483648 then back_by (went_back p records) aim held records (last_in records)
    else ends p Contradicts
