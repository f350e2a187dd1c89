-- What is put of a turn: its rows, in their order. Read `with_turn`.
use Rattle.std.specs.Prelude.{◌≡◌, ℕ, ◌+◌, ◌-◌, ◌*◌, ◌==◌, nat_le, pos, Bool, true, false, if◌then◌else◌, codes}
use Rattle.std.specs.Prelude.{List, [], ◌∷◌, ◌++◌, Option, None, Some}
use Rattle.sqlite_value.specs.declared.value.Value.TheVariants.{Int, Null, Real, Text}
use Rattle.sqlite_value.specs.Order.{Row as Values}
use Rattle.sqlite.specs.Values.{or_null}
use Rattle.bac_archive.specs.Put.{columns_of, is_new, table_of}
use Rattle.bac_archive.specs.declared.row.Put.{Put}
use Rattle.bac_row_ids.specs.Rows.{key, stamp_text, value_of}
use Rattle.bac_row_ids.specs.declared.place.Place.{Place}
use Rattle.bac_link.specs.declared.item.Item.{Item}
use Rattle.bac_link.specs.declared.item.Item.TheVariants.{Gap, Logged}
use Rattle.bac_walk.specs.declared.batch.Numbered.{Numbered}
use Rattle.bac_poll.specs.State.{kept_of}
use Rattle.bac_poll.specs.Turns.{Turned}
use Rattle.bac_poll_steps.specs.declared.turn.Beginning.{Beginning}
use Rattle.bac_poll_steps.specs.declared.turn.Line.{Line}
use Rattle.bac_poll_steps.specs.declared.turn.Line.TheVariants.{AtHour, AtHourOrBegan, BeganAnew, BeganOrDropped}
use Rattle.bac_poll_steps.specs.declared.turn.Line.TheVariants.{DroppedOrBegan}

-- ---- a put

-- a put as the archive has it: the table at this place, whether the row is new, and its columns, its id first
pub record PutAs : Type 0 where
  pub tree : ℕ
  pub is_new : Bool
  pub columns : Values

-- how the archive has it
abbrev pub put_as : Put → PutAs
put_as put = record { tree = (table_of put).tree; is_new = is_new put; columns = columns_of put }

-- the epoch of a log in which rows are put, whether its last number is put, and what is put up to there
pub record Puts : Type 0 where
  pub log : ℕ
  pub epoch : ℕ
  pub full : Bool
  pub puts : List PutAs

-- nothing is put, from a place on
abbrev pub none_from : Place → Puts
none_from place = record { log = place.log; epoch = place.epoch; full = place.full; puts = [] }

-- of each epoch of each log its own number
abbrev pub era_of : Puts → ℕ
era_of s = s.log * 32768 + s.epoch

-- one put more
abbrev pub with_put : Puts → PutAs → Puts
with_put s put = record s { puts = s.puts ++ put ∷ [] }

-- the beginning of the epoch, new or in place of the one that was counted, and why it begins
abbrev pub with_beginning : Puts → (is_new : Bool) → (number : ℕ) → (why : Option (List ℕ)) → Puts
with_beginning s is_new number why = with_put s (record {
  tree = 6;
  is_new = is_new;
  columns = Int (pos (era_of s)) ∷ Int (pos number) ∷ or_null Text why ∷ [];
})

-- ---- rows

-- of a record, in an era
abbrev pub record_columns : ℕ → Numbered → Values
record_columns era held = Int (pos (key era held.number)) ∷ Null ∷ Text (stamp_text held.entry)
    ∷ or_null Real (value_of held.entry.datum) ∷ Text (kept_of held).datum ∷ Text (kept_of held).flags ∷ []

-- what the row of a gap says that may be none
abbrev pub doubt_text : Bool → Option (List ℕ)
doubt_text doubtful = if doubtful then Some (codes "or began anew") else None

-- of a gap, from one number up to another
abbrev pub gap_columns : ℕ → (first : ℕ) → (last : ℕ) → (doubtful : Bool) → Values
gap_columns era first last doubtful = Int (pos (key era first)) ∷ Int (pos last) ∷ Null ∷ Null
    ∷ or_null Text (doubt_text doubtful) ∷ Null ∷ []

-- ---- what is put

-- an epoch begins, from 1 on
abbrev pub with_epoch : Puts → (why : List ℕ) → Puts
with_epoch s why = with_beginning (record s { epoch = s.epoch + 1; full = false }) true 1 (Some why)

-- Where the last number of an epoch is put its numbers come round (clause 12.25): the next row is of the next epoch.
abbrev pub with_round : Puts → Puts
with_round s = if s.full then with_epoch s (codes "numbers came round") else s

-- a new item of the epoch, up to a last number
abbrev pub with_item : Puts → Values → (last : ℕ) → Puts
with_item s columns last =
    record (with_put s (record { tree = 5; is_new = true; columns = columns })) { full = last == 4294967295 }

-- a gap in an epoch, as one row
abbrev pub with_gap_in : Bool → Puts → (first : ℕ) → (last : ℕ) → Puts
with_gap_in doubtful s first last = with_item s (gap_columns (era_of s) first last doubtful) last

-- the same where the next row stands
abbrev pub with_gap_row : Bool → Puts → (first : ℕ) → (last : ℕ) → Puts
with_gap_row doubtful s first last = with_gap_in doubtful (with_round s) first last

-- what of a gap lies behind the number 4294967295
abbrev pub with_rest : Bool → Puts → (before : ℕ) → Puts
with_rest doubtful s before = if nat_le before 1 then s else with_gap_row doubtful s 1 (before - 1)

-- a gap up to the number before that, in two epochs where the numbers come round in it
abbrev pub with_gap : Bool → Puts → (first : ℕ) → (before : ℕ) → Puts
with_gap doubtful s first before =
    if nat_le before first
    then with_rest doubtful (with_gap_row doubtful s first 4294967295) before
    else with_gap_row doubtful s first (before - 1)

-- of a turn's gaps there is one at most
abbrev pub with_gaps : Bool → Puts → List Item → Puts
with_gaps doubtful s [] = s
with_gaps doubtful s (Gap first before ∷ items) = with_gaps doubtful (with_gap doubtful s first before) items
with_gaps doubtful s (Logged number entry ∷ items) = with_gaps doubtful s items

-- a record in an epoch
abbrev pub with_record_in : Puts → Numbered → Puts
with_record_in s held = with_item s (record_columns (era_of s) held) held.number

-- the same where the next row stands
abbrev pub with_record : Puts → Numbered → Puts
with_record s held = with_record_in (with_round s) held

-- all of them, in their order
abbrev pub with_records : Puts → List Numbered → Puts
with_records s [] = s
with_records s (held ∷ others) = with_records (with_record s held) others

-- why the first epoch begins there: the count alone told it, or nothing is to be said
abbrev pub why_first : Bool → Option (List ℕ)
why_first counted = if counted then Some (codes "counted") else None

-- the beginning of the first epoch: a new one by the count alone, and with the first records another in place of that
abbrev pub with_first : Puts → Option Beginning → Puts
with_first s None = s
with_first s (Some begins) =
    with_beginning (with_round s) begins.counted begins.number (why_first begins.counted)

-- why an epoch begins, by what is told of it
abbrev pub why_anew : Option Line → List ℕ
why_anew (Some BeganOrDropped) = codes "began anew, or dropped records"
why_anew (Some BeganAnew) = codes "began anew"
why_anew (Some (AtHour by)) = codes "began anew"
why_anew (Some (AtHourOrBegan by)) = codes "began anew"
why_anew (Some (DroppedOrBegan first before)) = codes "began anew"
why_anew None = codes "began anew"

-- an epoch begins, if the log began anew
abbrev pub with_anew : Puts → (anew : Bool) → Option Line → Puts
with_anew s anew line = if anew then with_epoch s (why_anew line) else s

-- Where its first epoch begins; a gap where it stands, that may be none; an epoch that begins, and a gap at its
-- beginning; the records.
abbrev pub with_turn : Puts → Turned → Puts
with_turn s t =
    with_records
    (with_gaps false (with_anew (with_gaps t.doubtful (with_first s t.begins) t.missing) t.anew t.line) t.gap)
    t.records

-- where the next row of a log stands: behind the rows of an epoch, or in the next one, where its last number is put
pub record PlaceAs : Type 0 where
  pub log : ℕ
  pub epoch : ℕ
  pub full : Bool

-- the same of the code
abbrev pub place_as : Place → PlaceAs
place_as place = record { log = place.log; epoch = place.epoch; full = place.full }

-- behind what is put
abbrev pub place_behind : Puts → PlaceAs
place_behind s = record { log = s.log; epoch = s.epoch; full = s.full }

-- These are the rows of a turn, from a place on, and there stands the next row of its log.
abbrev pub IsPut : PlaceAs → Turned → PlaceAs → List PutAs → Type 0
IsPut place t behind puts =
    let s : Puts = with_turn (record { log = place.log; epoch = place.epoch; full = place.full; puts = [] }) t in
    (puts ≡ s.puts) × (behind ≡ place_behind s) × (behind.log ≡ place.log)
