-- What a log answers to the questions of a walk, at a moment.
use Rattle.std.specs.Prelude.{◌≡◌, ℕ, ◌+◌, ◌-◌, ◌<◌, ◌≤◌, min, max, nat_le, Option, Some, List, length, take, All}
use Rattle.bac_log.specs.Entry.{IsLoggable}
use Rattle.bac_log.specs.TrendLog.{Log, sequence_number}
use Rattle.bac_apdu.specs.declared.service.extent.Extent.{Extent}
use Rattle.bac_log.specs.declared.entry.Entry.{Entry}
use Rattle.bac_log.specs.Ack.{ack_length}
use Rattle.bac_log.specs.Select.{greatest}
use Rattle.bac_link.specs.Delivery.{History, Moment}
use Rattle.bac_link.specs.Moments.{entries_from}
use Rattle.bac_link.specs.Standard.{Asked, FromNumber, FromOldest as FromTheOldest, extent_asked}

-- what a walk asks for: so many ordinals from one on, which is asked for by its number, or so many entries from the
-- oldest held on
pub data Wanted : Type 0 where
  FromOrdinal : (s count : ℕ) → Wanted
  FromOldest : (count : ℕ) → Wanted

-- how many they are
abbrev pub count_wanted : Wanted → ℕ
count_wanted (FromOrdinal s count) = count
count_wanted (FromOldest count) = count

-- as a question: an ordinal is asked for by its number
abbrev pub asked_at : Wanted → Asked
asked_at (FromOrdinal s count) = FromNumber (sequence_number s) count
asked_at (FromOldest count) = FromTheOldest count

-- the extent of that
abbrev pub extent_of : Wanted → Extent
extent_of wanted = extent_asked (asked_at wanted)

-- the first ordinal that is held and asked for, if one is
abbrev pub first_asked : Wanted → Moment → ℕ
first_asked (FromOrdinal s count) m = max s m.oldest
first_asked (FromOldest count) m = m.oldest

-- the ordinal behind the last of them
abbrev pub end_asked : Wanted → Moment → ℕ
end_asked (FromOrdinal s count) m = min (s + count) (m.newest + 1)
end_asked (FromOldest count) m = min (m.oldest + count) (m.newest + 1)

-- how many are held and asked for
abbrev pub asked_count : Wanted → Moment → ℕ
asked_count wanted m = end_asked wanted m - first_asked wanted m

-- how many of these entries, the first of which has this ordinal, are in the longest prefix whose ACK is within r
-- octets
abbrev pub fitting : ℕ → ℕ → List Entry → ℕ
fitting r first es = greatest (λ n. nat_le (ack_length (Some (sequence_number first)) (take n es)) r) (length es)

-- how many a reply of r octets holds of those that are asked for
abbrev pub how_many : ℕ → History → Wanted → Moment → ℕ
how_many r H wanted m = fitting r (first_asked wanted m) (entries_from H (first_asked wanted m) (asked_count wanted m))

-- the records and the first number of the answer to a question at a moment
pub record IsAnswer (r : ℕ) (m : Moment) (H : History)
    (wanted : Wanted) (first : Option ℕ) (es : List Entry) : Type 0 where
  pub entries : es ≡ entries_from H (first_asked wanted m) (how_many r H wanted m)
  pub first_is : 0 < how_many r H wanted m → first ≡ Some (sequence_number (first_asked wanted m))
  pub some : 0 < asked_count wanted m → 0 < how_many r H wanted m
  pub most : how_many r H wanted m ≤ asked_count wanted m

-- what a log's answers rest on
pub record IsShown (log : Log) : Type 0 where
  pub few : length log.entries ≤ 65535
  pub loggable : All IsLoggable log.entries
