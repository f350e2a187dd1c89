-- What command lines come to.
use Rattle.std.specs.Prelude.{◌≡◌, Bool, true, false, List, [], Option, Some, None, Result, Ok, Err}
use Rattle.clap.specs.Words.{Row, Text, subcommand_of, fault_of, kind_of, IsAmong, Kinds}
use Rattle.bac_command_line.specs.declared.word.Word.{Word}
use Rattle.bac_command_line.specs.declared.job.Job.{Job}
use Rattle.bac_command_line.specs.declared.fault.WordsFault.{WordsFault}
use Rattle.bac_command_line.specs.declared.fault.WordsFault.TheVariants.{Usage, BadValue, LongNumber, Memory}
use Rattle.bac_command_line.specs.Commands.{bac_app}
use Rattle.bac_command_line.specs.Jobs.{job_of}
use Rattle.bac_command_line.specs.Rows.{is_long_text, text_at}

-- the kinds of error that clap has for these words; none if bac takes them
abbrev pub mistakes_of : List Text → Kinds
mistakes_of words = fault_of bac_app words

-- the job of words that bac takes, or the first wrong one
abbrev pub job_in : List Text → Result Job Word
job_in words = job_of (subcommand_of bac_app words)

-- whether a word of the tool that was named is a number with too many digits
abbrev pub is_long_of : Word → Option (Text × List Row) → Bool
is_long_of w None = false
is_long_of w (Some x) = is_long_text w (text_at w x.1)

-- the same of all the words
abbrev pub is_long_in : List Text → Word → Bool
is_long_in words w = is_long_of w (subcommand_of bac_app words)

-- what the rows of a tool come to: its job; the first wrong word, told apart by whether it is a number with too many
-- digits; or memory was wanting
abbrev pub Answers : Option (Text × List Row) → Result Job WordsFault → Type 0
Answers rows (Ok job) = job_of rows ≡ Ok job
Answers rows (Err (BadValue w)) = (job_of rows ≡ Err w) × (is_long_of w rows ≡ false)
Answers rows (Err (LongNumber w)) = (job_of rows ≡ Err w) × (is_long_of w rows ≡ true)
Answers rows (Err Memory) = Unit {0}
Answers rows (Err (Usage e)) = ⊥

-- Why words are no job: they are a mistake of this kind; or bac takes them and this one is wrong, as a number with too
-- many digits or otherwise; or memory was wanting.
abbrev pub IsRefused : List Text → WordsFault → Type 0
IsRefused words (Usage e) = IsAmong (kind_of e) (mistakes_of words)
IsRefused words (BadValue w) = (mistakes_of words ≡ []) × (job_in words ≡ Err w) × (is_long_in words w ≡ false)
IsRefused words (LongNumber w) = (mistakes_of words ≡ []) × (job_in words ≡ Err w) × (is_long_in words w ≡ true)
IsRefused words Memory = Unit {0}
