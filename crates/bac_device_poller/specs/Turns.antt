-- What a turn of a log brings is put and told. Read `TakesLog`.
use Rattle.std.specs.Prelude.{◌≡◌, ℕ, ◌+◌, min, length, false, if◌then◌else◌, List, [], ◌++◌}
use Rattle.std.specs.Prelude.{Option, None, Some}
use Rattle.bac_poll.specs.State.{ToldAs}
use Rattle.bac_poll.specs.Turns.{Turned}
use Rattle.bac_poll_steps.specs.declared.turn.Line.{Line}
use Rattle.bac_poll_steps.specs.declared.turn.PollEnd.{PollEnd}
use Rattle.bac_device_poll.specs.Logs.{is_used_up}
use Rattle.bac_device_poll.specs.declared.task.Polled.{Polled}
use Rattle.bac_device_poller.specs.Counts.{no_counts}
use Rattle.bac_device_poller.specs.Ending.{ended_line, is_caught_up, reason_line, told_line}
use Rattle.bac_device_poller.specs.Entries.{RowsAs, log_in, putting_log, raising, telling, telling_any, with_log}
use Rattle.bac_device_poller.specs.Entries.{without}
use Rattle.bac_device_poller.specs.Naming.{has_word, with_word}
use Rattle.bac_device_poller.specs.Puts.{IsPut, PlaceAs, PutAs}
use Rattle.bac_device_poller.specs.Rows.{LogAs}
use Rattle.bac_device_poller.specs.Status.{status_of}
use Rattle.bac_device_poller.specs.declared.counts.Counts.{Counts}
use Rattle.bac_device_poller.specs.declared.ending.Ending.{Ending}
use Rattle.bac_device_poller.specs.declared.ending.Ending.TheVariants.{Epochs, Poll, StepLimit}

-- ---- rows

-- What a turn puts, from the place on where a log's next row stands, and where the next one stands then; nothing, if it
-- has no epoch left for that.
abbrev pub IsPlaced : Option PlaceAs → Turned → Option PlaceAs → List PutAs → Type 0
IsPlaced None t behind puts = (behind ≡ None) × (puts ≡ [])
IsPlaced (Some place) t None puts = puts ≡ []
IsPlaced (Some place) t (Some behind) puts = IsPut place t behind puts

-- with what a turn brings; at the greatest number a count stays
abbrev pub counts_with_turn : Turned → Counts → Counts
counts_with_turn t c = record {
  records = min (c.records + length t.records) 18446744073709551615;
  gaps = min (c.gaps + (length t.missing + length t.gap)) 18446744073709551615;
}

-- what was kept of the log then; of one without a place nothing is
abbrev pub counts_behind : Option PlaceAs → Turned → Counts → Counts
counts_behind None t c = c
counts_behind (Some behind) t c = counts_with_turn t c

-- the number that comes next behind its rows: of one without a place the one that came next before
abbrev pub next_behind : Option PlaceAs → (was : ℕ) → (now : ℕ) → ℕ
next_behind None was now = was
next_behind (Some behind) was now = now

-- its rows are put
abbrev pub keeping : RowsAs → Option PlaceAs → List PutAs → Turned → RowsAs
keeping r behind puts t = record r { puts = r.puts ++ puts; kept = counts_behind behind t r.kept }

-- the log stands on record so; its own row is put, if its word is another one
abbrev pub retelling : RowsAs → LogAs → ToldAs → RowsAs
retelling r l word = if has_word word l then with_log r l else putting_log r (with_word word l)

-- ---- lines

-- a log that may have no more replies with records in this run has ended at the limit
abbrev pub limit_end : (left : Option ℕ) → Option Ending
limit_end left = if is_used_up left then Some StepLimit else None

-- how the poll of a log ended, if it has: by itself, or so
abbrev pub ended_by : Option PollEnd → (left : Option ℕ) → Option Ending
ended_by (Some why) left = Some (Poll why)
ended_by None left = limit_end left

-- of one without a place by that
abbrev pub ending_of : Option PlaceAs → Ending → Ending
ending_of None why = Epochs
ending_of (Some behind) why = why

-- what is told while it is polled
abbrev pub telling_line : RowsAs → (called : List ℕ) → Option Line → RowsAs
telling_line r called None = r
telling_line r called (Some line) = telling r false (told_line called line)

-- how that ended, with the status of that; what is kept of the next one is counted anew
abbrev pub telling_end : RowsAs → (called : List ℕ) → Ending → (next : ℕ) → RowsAs
telling_end r called why next =
    let line : List ℕ = ended_line called r.kept why next in
    record (telling (raising r (status_of why)) (is_caught_up why) line) { kept = no_counts }

-- and behind it why it failed
abbrev pub telling_ending : RowsAs → (called : List ℕ) → Ending → (next : ℕ) → RowsAs
telling_ending r called why next = telling_any (telling_end r called why next) (reason_line called why)

-- if it has
abbrev pub telling_any_end : RowsAs → (called : List ℕ) → Option PlaceAs → Option Ending → (next : ℕ) → RowsAs
telling_any_end r called behind None next = r
telling_any_end r called behind (Some why) next = telling_ending r called (ending_of behind why) next

-- both, of one that may have so many more replies with records
abbrev pub telling_turn : RowsAs → (called : List ℕ) → Option PlaceAs → (left : Option ℕ) → (next : ℕ) → Turned → RowsAs
telling_turn r called behind left next t =
    telling_any_end (telling_line r called t.line) called behind (ended_by t.end left) next

-- ---- a turn

-- a log with its turn: its rows are put, and its word with them; and behind them its lines are told
abbrev pub turning : RowsAs → LogAs → Option PlaceAs → List PutAs → (left : Option ℕ) → Turned → RowsAs
turning r l behind puts left t =
    let next : ℕ = next_behind behind l.next t.poll.next in
    retelling (telling_turn (keeping r behind puts t) l.called behind left next t)
    (record l { place = behind; next = next }) t.poll.word

-- of a log that is on record
abbrev pub TakesOf : Option LogAs → (left : Option ℕ) → RowsAs → Turned → RowsAs → Type 0
TakesOf None left old t new = new ≡ old
TakesOf (Some l) left old t new =
    (behind : Option PlaceAs) × (puts : List PutAs) × IsPlaced l.place t behind puts
    × (new ≡ turning old l behind puts left t)

-- What is put, and told, of a turn of the log that is polled, if there is one.
abbrev pub TakesLog : Option Turned → Option Polled → RowsAs → RowsAs → Type 0
TakesLog None polled old new = new ≡ old
TakesLog (Some t) None old new = new ≡ old
TakesLog (Some t) (Some q) old new = TakesOf (log_in q.log old.logs) q.left (without q.log old) t new
