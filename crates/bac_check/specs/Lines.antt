-- What is printed of an archive that is checked.
use Rattle.std.specs.Prelude.{Bool, true, false, ◌==◌, ◌&&◌, ◌||◌, not, ℕ, ◌-◌, ◌+◌, ◌%◌, nat_lt, if◌then◌else◌, List}
use Rattle.std.specs.Prelude.{[], ◌∷◌, ◌++◌, flat_map, codes, decimal, Option, None, Some, fold, is_none, is_some, max}
use Rattle.std.specs.List.{list_all, list_any}
use Rattle.std.specs.String.{string_bytes}
use Rattle.bac_archive.specs.Stands.{epochs}
use Rattle.bac_archive.specs.declared.row.DeviceRow.{DeviceRow}
use Rattle.bac_archive.specs.declared.row.LogRow.{LogRow}
use Rattle.bac_check.specs.Holes.{AreHoles, holes_of}
use Rattle.bac_check.specs.Joins.{is_later, log_of}
use Rattle.bac_check.specs.Tallies.{IsTallied, last_in}
use Rattle.bac_check.specs.declared.counts.Counts.{Counts}
use Rattle.bac_check.specs.declared.course.Course.{Course}
use Rattle.bac_check.specs.declared.tally.Hole.{Hole}
use Rattle.bac_check.specs.declared.tally.Span.{Span}
use Rattle.bac_check.specs.declared.tally.Tally.{Tally}

-- a number, and what is counted
unfoldable pub counted : ℕ → List ℕ → List ℕ → List ℕ
counted n one many = decimal n ++ (if n == 1 then one else many)

-- how many gaps there are, and how many numbers they have
unfoldable pub gaps_text : ℕ → ℕ → List ℕ
gaps_text gaps gone = if gaps == 0 then codes "0 gaps"
    else counted gaps (codes " gap of ") (codes " gaps of ") ++ counted gone (codes " number") (codes " numbers")

-- the same of those that are doubtful
unfoldable pub some_doubtful : ℕ → ℕ → List ℕ
some_doubtful gaps gone = codes ", " ++ (counted gaps (codes " doubtful gap of ") (codes " doubtful gaps of ")
    ++ counted gone (codes " number\n") (codes " numbers\n"))

-- the same, if there are any
unfoldable pub doubtful_text : ℕ → ℕ → List ℕ
doubtful_text gaps gone = if gaps == 0 then codes "\n" else some_doubtful gaps gone

-- the first and the last number that is in a row, and how many records and gaps there are
unfoldable pub tally_text : Tally → List ℕ
tally_text t = decimal t.first ++ (codes " to " ++ (decimal (last_in t) ++ (codes ", "
    ++ (counted t.records (codes " record, ") (codes " records, ")
    ++ (gaps_text t.gaps t.gone ++ doubtful_text t.doubtful t.doubted)))))

-- the number of an epoch, by its id
abbrev pub epoch_in : ℕ → ℕ
epoch_in id = id % epochs

-- ---- how a log is named

-- the address of a device, and behind a router its network and its address there
unfoldable pub place_text : DeviceRow → List ℕ
place_text d = string_bytes d.address
    ++ (if d.dnet == 0 then [] else 47 ∷ (decimal d.dnet ++ (47 ∷ string_bytes d.dadr)))

-- the same, if it is the device with this id
abbrev pub place_if : ℕ → DeviceRow → List ℕ
place_if id d = if d.id == id then place_text d else []

-- the address of its device, of which there is nothing if that has no row, and the instance of a log
unfoldable pub name_text : List DeviceRow → LogRow → List ℕ
name_text devices log = flat_map (place_if log.device) devices ++ (32 ∷ decimal log.instance)

-- ---- epochs that are gone

-- an epoch has no row, though it didn't begin by the log's count alone, and a later one of its log has rows
abbrev pub is_gone : List Course → Course → Bool
is_gone courses course =
    is_none course.tally && (not course.begun.by_count && list_any (is_later course.begun.id) courses)

-- the id behind an epoch, if it is of the same log as this one and before it, or what was found before
abbrev pub behind : ℕ → ℕ → Course → ℕ
behind id found course =
    if log_of course.begun.id == log_of id && nat_lt course.begun.id id then max found (course.begun.id + 1) else found

-- the id behind the last epoch on record that is before this one; 0, if none is
abbrev pub from_before : List Course → ℕ → ℕ
from_before courses id = fold (behind id) 0 courses

-- there are epochs between that one and this one, of which nothing is on record, and this one or a later one has rows
abbrev pub has_lost : List Course → Course → Bool
has_lost courses course = nat_lt 0 (from_before courses course.begun.id)
    && (nat_lt (from_before courses course.begun.id) course.begun.id
    && (is_some course.tally || list_any (is_later course.begun.id) courses))

-- one epoch, or those from one to another
unfoldable pub epochs_text : ℕ → ℕ → List ℕ
epochs_text first last = if first == last then codes " epoch " ++ decimal last
    else codes " epochs " ++ (decimal first ++ (codes " to " ++ decimal last))

-- the line of epochs that are gone
unfoldable pub gone_line : List ℕ → ℕ → ℕ → List ℕ
gone_line name first last = name ++ (epochs_text first last ++ codes ": gone\n")

-- the line of those before an epoch, if there are any
abbrev pub lost_text : List ℕ → List Course → Course → List ℕ
lost_text name courses course = if has_lost courses course
    then gone_line name (epoch_in (from_before courses course.begun.id)) (epoch_in (course.begun.id - 1)) else []

-- ---- epochs

-- what was counted of an epoch, or that it has no row, as it began by a count alone or is the last, or that it is gone
abbrev pub counted_text : Bool → Option Tally → List ℕ
counted_text gone None = if gone then codes "gone\n" else codes "nothing\n"
counted_text gone (Some t) = tally_text t

-- the line of an epoch of the log with this name
unfoldable pub epoch_line : List ℕ → Bool → Course → List ℕ
epoch_line name gone course = name ++ (codes " epoch " ++ (decimal (epoch_in course.begun.id) ++ (codes ": "
    ++ counted_text gone course.tally)))

-- the line of a hole
unfoldable pub hole_line : Hole → List ℕ
hole_line hole = codes "missing " ++ (decimal hole.first ++ (45 ∷ (decimal hole.last ++ 10 ∷ [])))

-- the lines of holes
abbrev pub holes_text : List Hole → List ℕ
holes_text holes = flat_map hole_line holes

-- The holes of an epoch are the numbers that are missing, in as few stretches as they can be told in.
abbrev pub HolesAreMissing : Type 0
HolesAreMissing = (from : Option ℕ) (spans : List Span) (counted : Option Tally) → IsTallied spans counted
    → AreHoles from spans (holes_of from counted)

-- the holes of an epoch: the numbers from its beginning on that are in no row before its last one
abbrev pub holes_in : Course → List Hole
holes_in course = holes_of (Some course.begun.number) course.tally

-- what is told of an epoch of the log with this name: which before it are gone, its line, and its holes
abbrev pub course_text : List ℕ → List Course → Course → List ℕ
course_text name courses course = lost_text name courses course
    ++ (epoch_line name (is_gone courses course) course ++ holes_text (holes_in course))

-- the same, if it is an epoch of this log
abbrev pub text_in : List ℕ → ℕ → List Course → Course → List ℕ
text_in name log courses course = if log_of course.begun.id == log then course_text name courses course else []

-- the lines of the epochs of a log, in their order
abbrev pub log_text : List ℕ → ℕ → List Course → List ℕ
log_text name log courses = flat_map (text_in name log courses) courses

-- none of these
abbrev pub is_none_of : List Hole → Bool
is_none_of [] = true
is_none_of (hole ∷ holes) = false

-- nothing of an epoch is missing, nor is one before it
abbrev pub is_complete : List Course → Course → Bool
is_complete courses course =
    not (has_lost courses course) && (not (is_gone courses course) && is_none_of (holes_in course))

-- the same, if it is an epoch of this log
abbrev pub is_whole : ℕ → List Course → Course → Bool
is_whole log courses course = if log_of course.begun.id == log then is_complete courses course else true

-- nothing is missing of a log
abbrev pub are_whole : ℕ → List Course → Bool
are_whole log courses = list_all (is_whole log courses) courses

-- the lines of a log
abbrev pub lines_of : Counts → LogRow → List ℕ
lines_of counts log = log_text (name_text counts.devices.items log) log.id counts.courses.items

-- the lines of each log of the last part, in their order
abbrev pub check_text : Counts → List ℕ
check_text counts = flat_map (lines_of counts) counts.logs.items

-- nothing of a log is missing
abbrev pub is_all_there : Counts → LogRow → Bool
is_all_there counts log = are_whole log.id counts.courses.items

-- nor of any of them
abbrev pub has_all : Counts → Bool
has_all counts = list_all (is_all_there counts) counts.logs.items
