-- What is told of a log: while it is polled, and how that ended.
use Rattle.std.specs.Prelude.{ℕ, ◌-◌, ◌==◌, nat_lt, Bool, true, false, if◌then◌else◌, codes, decimal, List, [], ◌∷◌}
use Rattle.std.specs.Prelude.{◌++◌, Option, None, Some}
use Rattle.bac_link.specs.declared.exchanges.Refusal.{Refusal}
use Rattle.bac_query.specs.Ends.{cause_text, refusal_text}
use Rattle.bac_walk.specs.declared.outcome.WalkFault.{WalkFault}
use Rattle.bac_walk.specs.declared.outcome.WalkFault.TheVariants.{BadReply, Lost, Refused}
use Rattle.bac_poll.specs.Turns.{number_before}
use Rattle.bac_poll_steps.specs.declared.turn.Line.{Line}
use Rattle.bac_poll_steps.specs.declared.turn.Line.TheVariants.{AtHour, AtHourOrBegan, BeganAnew, BeganOrDropped}
use Rattle.bac_poll_steps.specs.declared.turn.Line.TheVariants.{DroppedOrBegan}
use Rattle.bac_poll_steps.specs.declared.turn.PollEnd.TheVariants.{CaughtUp, Contradicts, Fault, NoneByNumber}
use Rattle.bac_poll_steps.specs.declared.turn.PollEnd.TheVariants.{SaysMore, ShowsNone}
use Rattle.bac_device_poller.specs.declared.counts.Counts.{Counts}
use Rattle.bac_device_poller.specs.declared.ending.Ending.{Ending}
use Rattle.bac_device_poller.specs.declared.ending.Ending.TheVariants.{Poll, StepLimit, Epochs, NotAsked}

-- so many quarter hours from those on record
abbrev pub earlier_text : ℕ → List ℕ
earlier_text count = codes "shown " ++ (decimal count ++ codes " quarter hours earlier")

-- so many later
abbrev pub later_text : ℕ → List ℕ
later_text count = codes "shown " ++ (decimal count ++ codes " quarter hours later")

-- at another hour, by so many quarter hours later, and a hundred
abbrev pub hour_text : ℕ → List ℕ
hour_text by = if nat_lt by 100 then earlier_text (100 - by) else later_text (by - 100)

-- no number is missing, and the log may have begun anew
abbrev pub on_text : ℕ → List ℕ
on_text first = codes "goes on at " ++ (decimal first ++ codes ", or began anew")

-- a gap that may be none
abbrev pub gone_text : ℕ → ℕ → List ℕ
gone_text first last =
    codes "dropped " ++ (decimal first ++ (codes " to " ++ (decimal last ++ codes ", or began anew")))

-- by the numbers from which and up to which it is
abbrev pub doubt_line : ℕ → ℕ → List ℕ
doubt_line first before = if first == before then on_text first else gone_text first (number_before before)

-- what is told while it is polled
abbrev pub line_text : Line → List ℕ
line_text (AtHour by) = hour_text by
line_text (AtHourOrBegan by) = hour_text by ++ codes ", or began anew"
line_text BeganAnew = codes "began anew"
line_text BeganOrDropped = codes "began anew, or dropped records"
line_text (DroppedOrBegan first before) = doubt_line first before

-- why it failed
abbrev pub fault_text : WalkFault → List ℕ
fault_text Lost = codes "lost"
fault_text (Refused refusal) = refusal_text refusal
fault_text BadReply = codes "bad reply"

-- how its poll ended
abbrev pub ending_text : Ending → List ℕ
ending_text (Poll CaughtUp) = codes "caught up"
ending_text (Poll SaysMore) = codes "shows no more, though it says that more is there"
ending_text (Poll ShowsNone) = codes "shows no record, and refuses its count"
ending_text (Poll NoneByNumber) = codes "shows no record by number, and by time perhaps not all that it holds"
ending_text (Poll Contradicts) = codes "its records contradict each other"
ending_text (Poll (Fault fault)) = fault_text fault
ending_text StepLimit = codes "step limit"
ending_text Epochs = codes "began anew once too often"
ending_text NotAsked = codes "not asked"

-- the lines of a log with this name
abbrev pub told_line : List ℕ → Line → List ℕ
told_line name line = name ++ (codes ": " ++ (line_text line ++ 10 ∷ []))

-- a number, and what is counted
abbrev pub counted_text : ℕ → (one : List ℕ) → (many : List ℕ) → List ℕ
counted_text n one many = decimal n ++ (if n == 1 then one else many)

-- how much was kept of a log, how its poll ended, and the number that comes next
abbrev pub summary_text : Counts → Ending → (next : ℕ) → List ℕ
summary_text kept why next =
    counted_text kept.records (codes " record ") (codes " records ")
    ++ (counted_text kept.gaps (codes " gap ") (codes " gaps ")
    ++ (ending_text why ++ (codes ", next " ++ decimal next)))

-- the line of a log whose poll has ended so
abbrev pub ended_line : List ℕ → Counts → Ending → (next : ℕ) → List ℕ
ended_line name kept why next = name ++ (32 ∷ (summary_text kept why next ++ 10 ∷ []))

-- ---- behind that line

-- what a refusal means, in the standard's words
abbrev pub refused_line : List ℕ → Refusal → List ℕ
refused_line name refusal = name ++ (codes ": " ++ (cause_text refusal ++ 10 ∷ []))

-- which tool says what is wrong with a reply
abbrev pub bad_reply_line : List ℕ → List ℕ
bad_reply_line name = name ++ codes ": the reply isn't as asked for: bac log tells what is wrong with it\n"

-- the line that tells it of a log with this name, if there is one
abbrev pub fault_line : List ℕ → WalkFault → Option (List ℕ)
fault_line name Lost = None
fault_line name (Refused refusal) = Some (refused_line name refusal)
fault_line name BadReply = Some (bad_reply_line name)

-- a log whose poll didn't fail has none
abbrev pub reason_line : List ℕ → Ending → Option (List ℕ)
reason_line name (Poll CaughtUp) = None
reason_line name (Poll SaysMore) = None
reason_line name (Poll ShowsNone) = None
reason_line name (Poll NoneByNumber) = None
reason_line name (Poll Contradicts) = None
reason_line name (Poll (Fault fault)) = fault_line name fault
reason_line name StepLimit = None
reason_line name Epochs = None
reason_line name NotAsked = None

-- whether a log is caught up
abbrev pub is_caught_up : Ending → Bool
is_caught_up (Poll CaughtUp) = true
is_caught_up (Poll SaysMore) = false
is_caught_up (Poll ShowsNone) = false
is_caught_up (Poll NoneByNumber) = false
is_caught_up (Poll Contradicts) = false
is_caught_up (Poll (Fault fault)) = false
is_caught_up StepLimit = false
is_caught_up Epochs = false
is_caught_up NotAsked = false
