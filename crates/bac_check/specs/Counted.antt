-- What is counted of an archive, part by part.
use Rattle.std.specs.Prelude.{◌≡◌, ◌==◌, not, ℕ, Bool, false, List, [], ◌++◌, None, Some, Option, map, unwrap_or}
use Rattle.std.specs.Prelude.{String, codes}
use Rattle.std.specs.List.{AllZip, filter, find, list_any}
use Rattle.std.specs.Str.{bytes_eq}
use Rattle.std.specs.String.{string_bytes}
use Rattle.std.specs.declared.alloc.Global.{Global}
use Rattle.sqlite_trees.specs.Tree.{Trees}
use Rattle.bac_archive.specs.Known.{IsKnown}
use Rattle.bac_archive.specs.declared.known.Known.{Known}
use Rattle.bac_archive.specs.declared.row.BeginningRow.{BeginningRow}
use Rattle.bac_check.specs.Joins.{AreJoined}
use Rattle.bac_check.specs.Rows.{CountsCourse}
use Rattle.bac_check.specs.declared.counts.Counts.{Counts}
use Rattle.bac_check.specs.declared.course.Beginning.{Beginning}
use Rattle.bac_check.specs.declared.course.Course.{Course}

-- nothing is counted yet
abbrev pub IsEmpty : Counts → Type 0
IsEmpty counts = (counts.devices.items ≡ []) × (counts.logs.items ≡ []) × (counts.courses.items ≡ [])

-- only the log's count told where an epoch begins
abbrev pub is_counted : Option (String Global) → Bool
is_counted None = false
is_counted (Some why) = bytes_eq (string_bytes why) (codes "counted")

-- a beginning, by its row
abbrev pub begun_of : BeginningRow → Beginning
begun_of row = record { id = row.id; number = row.number; by_count = is_counted row.why }

-- an epoch that has begun, of which nothing is counted yet
abbrev pub course_of : Beginning → Course
course_of begun = record { begun = begun; tally = None }

-- the beginning with this id, if it is among these
abbrev pub begun_in : List Beginning → ℕ → Option Beginning
begun_in all id = find (λ begun. begun.id == id) all

-- a beginning as these have it, of which it may be one: that of a count is lowered with the first records
abbrev pub updated : List Beginning → Beginning → Beginning
updated all begun = unwrap_or (begun_in all begun.id) begun

-- so an epoch is
abbrev pub updated_by : List Beginning → Course → Course
updated_by all course = record { begun = updated all course.begun; tally = course.tally }

-- an epoch has this id
abbrev pub has_id : ℕ → Course → Bool
has_id id course = course.begun.id == id

-- an epoch isn't among those that were counted
abbrev pub is_unknown : List Course → Beginning → Bool
is_unknown courses begun = not (list_any (has_id begun.id) courses)

-- the epochs that were counted, as a part with these beginnings has them, and those that it has new
abbrev pub with_begun : List Course → List Beginning → List Course
with_begun courses begun = map (updated_by begun) courses ++ map course_of (filter (is_unknown courses) begun)

-- The rows of one more part are counted, of the devices, logs and epochs that it has on record.
pub record CountsRows (part : Trees) (old new : Counts) : Type 0 where
  pub known : Known
  pub told : IsKnown part known
  pub devices : new.devices ≡ known.devices
  pub logs : new.logs ≡ known.logs
  pub counted : AllZip (CountsCourse part) (with_begun old.courses.items (map begun_of known.beginnings.items))
      new.courses.items

-- The same, and whether its logs go on where what was counted of them ends.
pub record CountsPart (part : Trees) (old new : Counts) (joined : Bool) : Type 0 where
  pub joins : AreJoined (part 5) old.courses.items joined
  pub rows : CountsRows part old new

-- what an archive keeps is counted
abbrev pub IsCountOf : Trees → Counts → Type 0
IsCountOf archive counts = (none : Counts) × IsEmpty none × CountsRows archive none counts
