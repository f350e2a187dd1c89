-- What is put beside the rows of a log.
use Rattle.std.proofs.Common.{◌≡◌, ◌∙◌, ℕ, Bool, true, false, if◌then◌else◌, MatchBool}
use Rattle.std.proofs.Common.{List, [], ◌∷◌, ◌++◌, append-nil, map, Option, None, Some, refl, sym, ap}
use Rattle.std.proofs.lemmas.List.Elements.{filter-append}
use Rattle.bac_wire.specs.Stamp.{CivilTime}
use Rattle.bac_poll.specs.State.{ToldAs}
use Rattle.bac_poll.specs.Turns.{Turned as LogTurned}
use Rattle.bac_poll_steps.specs.declared.turn.Line.{Line}
use Rattle.bac_device_poll.specs.State.{DeviceState, LogAs as TaskAs}
use Rattle.bac_device_poll.specs.Turns.{not_asked}
use Rattle.bac_device_poll.specs.declared.stage.Stage.TheVariants as stage
use Rattle.bac_device_poll.specs.declared.task.Polled.{Polled}
use Rattle.bac_device_poller.specs.Entries.{RowsAs, putting_log, telling_any, with_entries, with_log as with_row}
use Rattle.bac_device_poller.specs.Naming.{with_word}
use Rattle.bac_device_poller.specs.Poller.{putting_answered}
use Rattle.bac_device_poller.specs.Puts.{PlaceAs, PutAs}
use Rattle.bac_device_poller.specs.Rows.{LogAs}
use Rattle.bac_device_poller.specs.Ending.{reason_line}
use Rattle.bac_device_poller.specs.Turns.{IsPlaced, ending_of, telling_any_end, telling_end, telling_line}
use Rattle.bac_device_poller.specs.declared.ending.Ending.{Ending}
use Rattle.bac_site_laws.specs.Own.{is_of_log, rows_in}
use Rattle.bac_site_laws.proofs.LogRows.{turn_rows}

-- a device at a log
abbrev pub at_log : DeviceState → Polled → DeviceState
at_log d q = record d { stage = stage.Log; polled = Some q }

pub matched : {A B C : Type 0} (b : Bool) → MatchBool b A B → (A → C) → (B → C) → C
matched true m f g = f m
matched false m f g = g m

-- ---- what is put beside the rows of a log

pub rows_more : (puts : List PutAs) (put : PutAs) → rows_in (put ∷ []) ≡ [] → rows_in (puts ++ put ∷ []) ≡ rows_in puts
rows_more puts put none =
    filter-append is_of_log puts (put ∷ []) ∙ ap (λ (l : List PutAs). rows_in puts ++ l) none ∙ append-nil (rows_in puts)

-- the same rows of logs, and the same logs
pub record Beside (r s : RowsAs) : Type 0 where
  pub rows : rows_in s.puts ≡ rows_in r.puts
  pub logs : s.logs ≡ r.logs

pub same_beside : (r : RowsAs) → Beside r r
same_beside r = record { rows = refl; logs = refl }

pub answered_beside : (o : Option CivilTime) (r : RowsAs) → Beside r (putting_answered o r)
answered_beside None r = same_beside r
answered_beside (Some at) r = record { rows = rows_more r.puts _ refl; logs = refl }

pub told_beside : (tasks : List TaskAs) (r : RowsAs) → Beside r (with_entries r (map not_asked tasks))
told_beside [] r = same_beside r
told_beside (task ∷ tasks) r =
    let rest = told_beside tasks _ in record { rows = rest.rows; logs = rest.logs }

pub line_beside : (r : RowsAs) (called : List ℕ) (o : Option Line) → ((telling_line r called o).puts ≡ r.puts) × ((telling_line r called o).logs ≡ r.logs)
line_beside r called None = (refl, refl)
line_beside r called (Some line) = (refl, refl)

any_beside : (r : RowsAs) (o : Option (List ℕ)) → ((telling_any r o).puts ≡ r.puts) × ((telling_any r o).logs ≡ r.logs)
any_beside r None = (refl, refl)
any_beside r (Some text) = (refl, refl)

pub end_beside : (r : RowsAs) (called : List ℕ) (behind : Option PlaceAs) (o : Option Ending) (n : ℕ) →
    ((telling_any_end r called behind o n).puts ≡ r.puts) × ((telling_any_end r called behind o n).logs ≡ r.logs)
end_beside r called behind None n = (refl, refl)
end_beside r called behind (Some why) n =
    let e : Ending = ending_of behind why in any_beside (telling_end r called e n) (reason_line called e)

-- a log's own row
pub record Retold (r s : RowsAs) (l : LogAs) : Type 0 where
  pub rows : rows_in s.puts ≡ rows_in r.puts
  pub row : LogAs
  pub logs : s.logs ≡ r.logs ++ row ∷ []
  pub place : row.place ≡ l.place
  pub instance : row.instance ≡ l.instance

pub word_beside : (b : Bool) (r : RowsAs) (l : LogAs) (word : ToldAs) →
    Retold r (if b then with_row r l else putting_log r (with_word word l)) l
word_beside true r l word = record { rows = refl; row = l; logs = refl; place = refl; instance = refl }
word_beside false r l word =
    record { rows = rows_more r.puts _ refl; row = with_word word l; logs = refl; place = refl; instance = refl }

-- ---- the rows of a turn

pub empty_rows : (puts : List PutAs) → puts ≡ [] → rows_in puts ≡ puts
empty_rows puts none = ap rows_in none ∙ sym none

pub placed_rows : (o : Option PlaceAs) (t : LogTurned) (behind : Option PlaceAs) (puts : List PutAs) → IsPlaced o t behind puts → rows_in puts ≡ puts
placed_rows None t behind puts placed = empty_rows puts placed.1
placed_rows (Some place) t None puts none = empty_rows puts none
placed_rows (Some place) t (Some behind) puts placed =
    ap rows_in placed.0 ∙ turn_rows place.log place.epoch place.full t ∙ sym placed.0
