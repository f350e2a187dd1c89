-- Where a status is 0, no fault was told.
use Rattle.std.proofs.Common.{◌≡◌, ◌∙◌, ℕ, ap, arith, inl, inr, Result, Ok, Err, sym}
use Rattle.std.specs.Io.KnownBytes.{Keeps}
use Rattle.bac_socket_notes.specs.Notes.{nothing}
use Rattle.bac_keep_command_line.specs.declared.fault.Fault.{Fault as WordFault}
use Rattle.bac_keep_command_line.specs.declared.fault.Fault.TheVariants as words
use Rattle.bac_keeper.specs.declared.fault.Fault.{Fault as KeepFault}
use Rattle.bac_keeper.specs.declared.fault.Fault.TheVariants as keep
use Rattle.bac_print.specs.Output.{Held}
use Rattle.bac_reading.specs.declared.fault.Fault.{Fault as ReadFault}
use Rattle.bac_reading.specs.declared.fault.Fault.TheVariants as read
use Rattle.bac_run.specs.Faults.{keep_ending, of_keep, of_read, of_words, read_ending}
use Rattle.bac_tools.specs.Run.{Ends, IsTold}
use Rattle.bac_tools.specs.Status.{exit_status}
use Rattle.bac_tools.specs.declared.fault.Fault.{Fault}
use Rattle.bac_tools.specs.declared.fault.Fault.TheVariants.{List as ListOf}
use Rattle.bac_command_line.specs.declared.listing.ListFault.{ListFault}
use Rattle.bac_command_line.specs.declared.listing.ListFault.TheVariants as list

keep_some : (why : KeepFault) → exit_status (of_keep why) ≡ 0 → ⊥
keep_some (keep.BadValue word) zero = omega (arith, zero)
keep_some (keep.LongNumber word) zero = omega (arith, zero)
keep_some (keep.Unopened why) zero = omega (arith, zero)
keep_some keep.Write zero = omega (arith, zero)
keep_some keep.Memory zero = omega (arith, zero)

read_some : (why : ReadFault) → exit_status (of_read why) ≡ 0 → ⊥
read_some read.Write zero = omega (arith, zero)
read_some read.Memory zero = omega (arith, zero)

pub words_some : (why : WordFault) → exit_status (of_words why) ≡ 0 → ⊥
words_some (words.BadValue word) zero = omega (arith, zero)
words_some (words.LongNumber word) zero = omega (arith, zero)
words_some words.Memory zero = omega (arith, zero)

pub list_some : (why : ListFault) → exit_status (ListOf why) ≡ 0 → ⊥
list_some (list.BadLine number) zero = omega (arith, zero)
list_some (list.TooMany number) zero = omega (arith, zero)
list_some list.Empty zero = omega (arith, zero)
list_some list.TooLong zero = omega (arith, zero)
list_some list.Read zero = omega (arith, zero)
list_some list.Memory zero = omega (arith, zero)

-- a fault that is told has another status
pub untold : (fault : Fault) (old new : Held) (status : ℕ) → (exit_status fault ≡ 0 → ⊥) → IsTold fault old new status → status ≡ 0 → ⊥
untold fault old new status some (inl (is, text)) zero = some (sym is ∙ zero)
untold fault old new status some (inr (is, text)) zero = let e : 5 ≡ 0 = sym is ∙ zero in omega (arith, e)

-- so a tool ended well, and nothing more was told
pub keep_zero : (result : Result ℕ KeepFault) (said new : Held) (status : ℕ) → Ends nothing (keep_ending result) said new status → status ≡ 0 → (result ≡ Ok 0) × Keeps said new
keep_zero (Ok n) said new status ends zero = (ap Ok (sym ends.0 ∙ zero), ends.1)
keep_zero (Err why) said new status ends zero = absurd (untold (of_keep why) said new status (keep_some why) ends zero)

pub read_zero : (result : Result ℕ ReadFault) (said new : Held) (status : ℕ) → Ends nothing (read_ending result) said new status → status ≡ 0 → (result ≡ Ok 0) × Keeps said new
read_zero (Ok n) said new status ends zero = (ap Ok (sym ends.0 ∙ zero), ends.1)
read_zero (Err why) said new status ends zero = absurd (untold (of_read why) said new status (read_some why) ends zero)
