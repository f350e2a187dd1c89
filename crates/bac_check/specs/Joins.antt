-- Whether the rows of a part of an archive go on where those of the part before it end.
use Rattle.std.specs.Prelude.{◌≡◌, ◌==◌, ◌&&◌, ◌||◌, ℕ, ◌/◌, nat_lt, Bool, false, true, List, Option, None, Some}
use Rattle.std.specs.Prelude.{MatchOption, is_some}
use Rattle.std.specs.List.{All, Contains, list_any}
use Rattle.sqlite_value.specs.Order.{Row as Values}
use Rattle.bac_archive.specs.Items.{IsFirst}
use Rattle.bac_archive.specs.Stands.{epochs}
use Rattle.bac_check.specs.Holes.{end_of}
use Rattle.bac_check.specs.Rows.{between, span_of}
use Rattle.bac_check.specs.declared.course.Course.{Course}
use Rattle.bac_check.specs.declared.tally.Span.{Span}

-- the log of an epoch, by its id
abbrev pub log_of : ℕ → ℕ
log_of id = id / epochs

-- an epoch is of the same log as this one and behind it, and rows of it were counted
abbrev pub is_later : ℕ → Course → Bool
is_later id course =
    log_of course.begun.id == log_of id && (nat_lt id course.begun.id && is_some course.tally)

-- the row that is found is the one that was counted last
abbrev pub is_it : Span → Option Values → Bool
is_it newest None = false
is_it newest (Some row) = end_of (span_of row) == end_of newest

-- Whether the last row that was counted of an epoch is in a part with these items, too, if the epoch is the last of its
-- log that has rows: a part begins with the newest rows of each log.
abbrev pub IsJoined : List Values → List Course → Course → Bool → Type 0
IsJoined items courses course so = MatchOption course.tally (so ≡ true)
    (λ tally. (found : Option Values)
    × IsFirst (between course.begun.id tally.newest.number tally.newest.number) items found
    × (so ≡ (list_any (is_later course.begun.id) courses || is_it tally.newest found)))

-- whether it is so of each epoch
abbrev pub AreJoined : List Values → List Course → Bool → Type 0
AreJoined items courses true = All (λ course. IsJoined items courses course true) courses
AreJoined items courses false = (course : Course) × Contains courses course × IsJoined items courses course false
