-- The lines that tell why the file of an archive is no use.
use Rattle.std.specs.Prelude.{◌≡◌, ◌==◌, ◌++◌, ◌∷◌, [], ℕ, List, Result, Ok, Err, codes, if◌then◌else◌}
use Rattle.sqlite.specs.declared.error.Error.{Error}
use Rattle.sqlite.specs.declared.error.Error.TheVariants.{SqliteFailure}
use Rattle.sqlite.specs.declared.error.ErrorCode.TheVariants.{NotADatabase}
use Rattle.bac_archive.specs.declared.opening.Refused.{Refused}
use Rattle.bac_archive.specs.declared.opening.Refused.TheVariants as refused
use Rattle.bac_files.specs.declared.not_opened.NotOpened.{NotOpened}
use Rattle.bac_files.specs.declared.not_opened.NotOpened.TheVariants as unopened
use Rattle.bac_files.specs.declared.not_opened.Obstacle.{Obstacle}
use Rattle.bac_files.specs.declared.not_opened.Obstacle.TheVariants as barred
use Rattle.bac_parts.specs.declared.fault.FileFault.{FileFault}
use Rattle.bac_parts.specs.declared.fault.FileFault.TheVariants as fault

-- the exit status of a file that is no use: 7 if another program has it open
abbrev pub fault_status : FileFault → ℕ
fault_status (fault.Unopened unopened.InUse) = 7
fault_status _ = 6

-- why the machine doesn't open a file
abbrev pub obstacle_text : Obstacle → List ℕ
obstacle_text barred.Folder = codes "it is a folder"
obstacle_text barred.NoFolder = codes "there is no such folder"
obstacle_text barred.NotPermitted = codes "permission denied"
obstacle_text barred.TooManyOpen = codes "too many files are open"

-- why no database is opened, or its own error
abbrev pub known_unopened : NotOpened → Result (List ℕ) Error
known_unopened unopened.InUse = Ok (codes "another program has it open")
known_unopened unopened.Absent = Ok (codes "there is no such file")
known_unopened unopened.Empty = Ok (codes "there is nothing in it")
known_unopened (unopened.Barred obstacle) = Ok (obstacle_text obstacle)
known_unopened unopened.Memory = Ok (codes "out of memory")
known_unopened (unopened.Database (SqliteFailure NotADatabase)) = Ok (codes "it isn't a whole SQLite database")
known_unopened (unopened.Database error) = Err error

-- why a database isn't taken as an archive, or its own error
abbrev pub known_refusal : Refused → Result (List ℕ) Error
known_refusal refused.Foreign =
    Ok (codes "it isn't a bac archive, or it has an added trigger, foreign key or UNIQUE index")
known_refusal refused.Earlier =
    Ok (codes "it is an archive of format 1 or 2: examples/use/convert.sh converts format 2")
known_refusal refused.Version = Ok (codes "it is an archive of another version")
known_refusal refused.Range = Ok (codes "an id in it is out of range")
known_refusal refused.NoDevice = Ok (codes "it has a trend log whose device has no row")
known_refusal refused.Overlap = Ok (codes "some of its records overlap")
known_refusal refused.Orphan = Ok (codes "it has records of no trend log, or of an epoch without a beginning")
known_refusal (refused.Database error) = Err error

-- the reason of a fault, or the error of a database that says its own
abbrev pub known_reason : FileFault → Result (List ℕ) Error
known_reason (fault.Unopened why) = known_unopened why
known_reason (fault.Refused why) = known_refusal why
known_reason (fault.Database error) = Err error

-- a first line by the status, and one with the file's name and the reason
abbrev pub lines_of : ℕ → List ℕ → List ℕ → List ℕ
lines_of status path reason = (if status == 7 then codes "file in use\n" else codes "file fault\n")
    ++ (path ++ (codes ": " ++ (reason ++ 10 ∷ [])))

-- a reason is told: the one that is known, or what the library of the database says of its error
abbrev pub IsReasonOf : Result (List ℕ) Error → List ℕ → Type 0
IsReasonOf (Ok known) reason = reason ≡ known
IsReasonOf (Err error) reason = Unit {0}

-- the lines of a fault of the file with this name
abbrev pub AreLinesOf : FileFault → List ℕ → List ℕ → Type 0
AreLinesOf why path text =
    (reason : List ℕ) × IsReasonOf (known_reason why) reason × (text ≡ lines_of (fault_status why) path reason)
