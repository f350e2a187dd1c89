-- How a check ends.
use Rattle.std.specs.Prelude.{◌≡◌, ◌⊎◌, ◌==◌, ℕ, Bool, true, false, if◌then◌else◌, List, [], ◌++◌, codes}
use Rattle.std.specs.Io.KnownBytes.{Appends}
use Rattle.sqlite.specs.Held.{Held as Connected, state}
use Rattle.sqlite.specs.State.{IsUnchanged}
use Rattle.sqlite.specs.declared.error.Error.TheVariants.{SqliteFailure}
use Rattle.sqlite.specs.declared.error.ErrorCode.TheVariants.{DatabaseBusy}
use Rattle.sqlite_trees.specs.declared.store.Store.{Ghosts}
use Rattle.bac_print.specs.Output.{AppendsPart, Held}
use Rattle.bac_check.specs.Counted.{IsCountOf}
use Rattle.bac_check.specs.Lines.{check_text, has_all}
use Rattle.bac_check.specs.Uncounts.{IsUncounted}
use Rattle.bac_check.specs.declared.checking.Ending.{Ending}
use Rattle.bac_check.specs.declared.checking.Ending.TheVariants as ending
use Rattle.bac_check.specs.declared.checking.Unprinted.{Unprinted}
use Rattle.bac_check.specs.declared.checking.Unprinted.TheVariants as unprinted
use Rattle.bac_check.specs.declared.counts.Counts.{Counts}
use Rattle.bac_check.specs.declared.tally.Uncounted.{Uncounted}
use Rattle.bac_check.specs.declared.tally.Uncounted.TheVariants as uncounted

-- how a check ends whose rows are counted
abbrev pub ending_of : Bool → Ending
ending_of true = ending.Whole
ending_of false = ending.Missing

-- the exit status: 0 just if each number is there; 7 if another program has the file open
abbrev pub ending_status : Ending → ℕ
ending_status ending.Whole = 0
ending_status ending.Missing = 6
ending_status ending.Apart = 6
ending_status (ending.Uncounted (uncounted.Database (SqliteFailure DatabaseBusy))) = 7
ending_status (ending.Uncounted why) = 6

-- why that is told of a file, where it isn't its database's error
abbrev pub ending_reason : Ending → List ℕ
ending_reason ending.Whole = []
ending_reason ending.Missing = codes "numbers are missing in it"
ending_reason ending.Apart = codes "it doesn't begin where the part before it ends"
ending_reason (ending.Uncounted (uncounted.Overlap epoch before row)) = codes "some of its records overlap"
ending_reason (ending.Uncounted (uncounted.Backward epoch row)) = codes "some of its records overlap"
ending_reason (ending.Uncounted uncounted.Memory) = codes "out of memory"
ending_reason (ending.Uncounted (uncounted.Database (SqliteFailure DatabaseBusy))) = codes "another program has it open"
ending_reason (ending.Uncounted (uncounted.Database error)) = codes "the database failed"

-- the line before it
abbrev pub ending_head : Ending → List ℕ
ending_head (ending.Uncounted (uncounted.Database (SqliteFailure DatabaseBusy))) = codes "file in use\n"
ending_head _ = codes "file fault\n"

-- the last lines of a check of the file at a path
unfoldable pub ending_text : List ℕ → Ending → List ℕ
ending_text path end = ending_head end ++ (path ++ (codes ": " ++ (ending_reason end ++ codes "\n")))

-- the same, where there is anything to tell
abbrev pub told_text : List ℕ → Ending → List ℕ
told_text path end = if ending_status end == 0 then [] else ending_text path end

-- The rows of an archive are counted, which is as it was, and the text of that is written.
pub record IsChecked {S : Type 0} (g : Ghosts S) (old : Connected S) (before : Held) (end : Ending) (new : Connected S)
    (after : Held) : Type 0 where
  pub counts : Counts
  pub counted : IsCountOf (state g old).now.trees counts
  pub same : IsUnchanged (state g old) (state g new)
  pub printed : Appends before after (check_text counts)
  pub ended : end ≡ ending_of (has_all counts)

-- They aren't, for a cause; the archive is left as it is, or what wasn't committed is undone; and nothing is written.
pub record IsUnchecked {S : Type 0} (g : Ghosts S) (old : Connected S) (before : Held) (end : Ending)
    (new : Connected S) (after : Held) : Type 0 where
  pub why : Uncounted
  pub uncounted : IsUncounted g old new why
  pub unprinted : after ≡ before
  pub ended : end ≡ ending.Uncounted why

-- how the check of one archive ends
abbrev pub EndsCheck : {S : Type 0} → Ghosts S → Connected S → Held → Ending → Connected S → Held → Type 0
EndsCheck g old before end new after = IsChecked g old before end new after ⊎ IsUnchecked g old before end new after

-- The rows are counted, and the archive is as it was, but memory is wanting for the text, or the output refused it: a
-- front part of it is written.
abbrev pub IsUnprinted : {S : Type 0} → Ghosts S → Connected S → Held → Unprinted → Connected S → Held → Type 0
IsUnprinted g old before unprinted.Memory new after = IsUnchanged (state g old) (state g new) × (after ≡ before)
IsUnprinted g old before unprinted.Write new after = (counts : Counts) × IsCountOf (state g old).now.trees counts
    × IsUnchanged (state g old) (state g new) × AppendsPart before after (check_text counts)
