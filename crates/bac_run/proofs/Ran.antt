-- What the program does, by what its tools did.
use Rattle.std.proofs.Common.{◌≡◌, ◌∙◌, ℕ, Bool, true, false, List, inl, inr, Option, None, Some, refl, Result, Ok, Err, subst}
use Rattle.clap.specs.Words.{Text, IsAmong, kind_of}
use Rattle.sqlite_disk.specs.declared.Disk as disk
use Rattle.sqlite_disk.specs.declared.start.Start as start
use Rattle.sqlite_wal.specs.Recovery.{Image}
use Rattle.bac_batch.specs.Batch.{Batched}
use Rattle.bac_drive.specs.Happens.{Acts}
use Rattle.bac_files.specs.Files.{FileOf}
use Rattle.bac_files.specs.Parts.{Listing, PartRules}
use Rattle.bac_socket_notes.specs.Notes.{nothing}
use Rattle.bac_socket_notes.specs.declared.notes.Passed.{Passed}
use Rattle.bac_ports.specs.Sockets.{SocketRules}
use Rattle.bac_print.specs.Output.{Held}
use Rattle.bac_run.specs.Run.{DoesAll, DoesTold, RunsAll}
use Rattle.bac_reading.specs.Checking.{RunsCheck}
use Rattle.bac_reading.specs.Scene.{Scene, scene}
use Rattle.bac_reading.specs.declared.fault.Fault.{Fault as ReadFault}
use Rattle.bac_run.specs.Faults.{read_ending}
use Rattle.bac_run.specs.Keeping.{KeepsBy}
use Rattle.bac_run.specs.Reading.{ReadsParts}
use Rattle.bac_run.specs.Setup.{IsOffFiles, Setup}
use Rattle.bac_site_poller.specs.Site.{SiteState}
use Rattle.bac_tools.proofs.Told.{never_both, one_job}
use Rattle.bac_tools.specs.Run.{AskFor, Ends, RunsRead}
use Rattle.bac_wire.specs.Stamp.{CivilTime}
use Rattle.bac_command_line.specs.Outcome.{IsRefused, job_in}
use Rattle.bac_command_line.specs.declared.fault.WordsFault.{WordsFault}
use Rattle.bac_command_line.specs.declared.fault.WordsFault.TheVariants.{Usage, BadValue, LongNumber, Memory}
use Rattle.bac_command_line.specs.declared.job.Job.{Job}
use Rattle.bac_command_line.specs.declared.job.Job.TheVariants as job
use Rattle.bac_command_line.specs.declared.job.Keep.{Keep as KeepWords}
use Rattle.bac_command_line.specs.declared.job.Check.{Check as CheckWords}
use Rattle.bac_command_line.specs.declared.job.Kept.{Kept as KeptWords}

-- `check` of the archive of a name
pub checks_named : {Q : Type 0} (rules : PartRules Q) (name file : List ℕ) → name ≡ file → (old new : Scene Q) (result : Result ℕ ReadFault) (said : Held) (status : ℕ)
    → ((listing : Listing) × (listed : Q) × rules.lists old.parts name listing listed × RunsCheck rules name listing (scene listed old.output old.errors) result (scene new.parts new.output said))
    → Ends nothing (read_ending result) said new.errors status → ReadsParts rules file (RunsCheck rules file) old status new
checks_named rules name file same old new result said status it ends =
    subst (λ (n : List ℕ). ReadsParts rules n (RunsCheck rules n) old status new) same (it.0, it.1, it.2, result, said, it.3, ends)

-- what was listed of parts that were told how long to wait is what was there before
pub lists_before : {Q : Type 0} (rules : PartRules Q) (parts mid : Q) → ((name : List ℕ) (listing : Listing) (next : Q) → rules.lists mid name listing next → rules.lists parts name listing next)
    → (name : List ℕ) (does : Listing → Scene Q → Type 0) (output errors : Held)
    → ((listing : Listing) × (listed : Q) × rules.lists mid name listing listed × does listing (scene listed output errors))
    → (listing : Listing) × (listed : Q) × rules.lists parts name listing listed × does listing (scene listed output errors)
lists_before rules parts mid before name does output errors it = (it.0, it.1, before name it.0 it.1 it.2, it.3)

-- what was done of `keep` is the same beside the input
pub keeps_over : {S P C W Q F G : Type 0} {s : start.Ghosts F} {t : start.Ghosts G} (rules : SocketRules S P) (acts : Acts (Batched SiteState) P W) (f : disk.Ghosts (FileOf s)) (file : Image) (g : disk.Ghosts (FileOf t)) (part : Image)
    (waits : W) (tells : C → Option CivilTime → C → Type 0) (stops : Bool) (asked : KeepWords) (old new : Setup S C Q s t) (input left : Held) (status : ℕ)
    → KeepsBy rules acts f file g part waits tells stops asked old status new
    → KeepsBy rules acts f file g part waits tells stops asked (record old { streams = record old.streams { input = input } }) status (record new { streams = record new.streams { input = left } })
keeps_over rules acts f file g part waits tells true asked old new input left status it = it
keeps_over rules acts f file g part waits tells false asked old new input left status (None, told, alone) = (None, told, alone)
keeps_over rules acts f file g part waits tells false asked old new input left status (Some begun, told, runs) = (Some begun, told, runs)

module _ {S P C W Q F G : Type 0} {s : start.Ghosts F} {t : start.Ghosts G} (rules : SocketRules S P) (acts : Acts (Batched SiteState) P W) (f : disk.Ghosts (FileOf s)) (file : Image) (g : disk.Ghosts (FileOf t)) (part : Image)
    (folders : PartRules Q) (passes : S → Passed) (tells : C → Option CivilTime → C → Type 0) (waits : W) (old new : Setup S C Q s t) (status : ℕ) where
  -- a job of another tool is done beside the files
  pub other_done : (asked : Job) → ((words : KeepWords) → asked ≡ job.Keep words → ⊥) → ((words : KeptWords) → asked ≡ job.Kept words → ⊥) → ((words : CheckWords) → asked ≡ job.Check words → ⊥)
      → RunsRead rules passes tells (Ok asked) old.streams status new.streams → IsOffFiles old new → DoesAll rules acts f file g part folders passes tells waits asked old status new
  other_done job.Replay none never apart ran same = (ran, same)
  other_done (job.Wi words) none never apart ran same = (ran, same)
  other_done (job.Rp words) none never apart ran same = (ran, same)
  other_done (job.Wp words) none never apart ran same = (ran, same)
  other_done (job.Log words) none never apart ran same = (ran, same)
  other_done (job.Logs words) none never apart ran same = (ran, same)
  other_done (job.Serve words) none never apart ran same = (ran, same)
  other_done (job.Keep words) none never apart ran same = absurd (none words refl)
  other_done (job.Kept words) none never apart ran same = absurd (never words refl)
  other_done (job.Check words) none never apart ran same = absurd (apart words refl)

  -- no other tool than `keep` touches the part before
  all_beside : (asked : Job) → ((words : KeepWords) → asked ≡ job.Keep words → ⊥) → (mid : Setup S C Q s t) → mid.parts ≡ old.parts → DoesAll rules acts f file g part folders passes tells waits asked mid status new
      → new.parts ≡ old.parts
  all_beside job.Replay none mid was did = did.1.0.1 ∙ was
  all_beside (job.Wi words) none mid was did = did.1.0.1 ∙ was
  all_beside (job.Rp words) none mid was did = did.1.0.1 ∙ was
  all_beside (job.Wp words) none mid was did = did.1.0.1 ∙ was
  all_beside (job.Log words) none mid was did = did.1.0.1 ∙ was
  all_beside (job.Logs words) none mid was did = did.1.0.1 ∙ was
  all_beside (job.Serve words) none mid was did = did.1.0.1 ∙ was
  all_beside (job.Keep words) none mid was did = absurd (none words refl)
  all_beside (job.Kept words) none mid was did = did.1.1.1 ∙ was
  all_beside (job.Check words) none mid was did = did.1.1.1 ∙ was

  module _ (traces : S → Bool → S → Type 0) where
    pub told_beside : (asked : Job) → ((words : KeepWords) → asked ≡ job.Keep words → ⊥) → DoesTold rules acts f file g part folders passes tells waits traces asked old status new → new.parts ≡ old.parts
    told_beside asked none did = all_beside asked none _ refl did.2

    -- what was done of the job of words
    pub job_done : (words : List Text) (said asked : Job) → job_in words ≡ Ok said → AskFor words asked → DoesTold rules acts f file g part folders passes tells waits traces said old status new
        → RunsAll rules acts f file g part folders passes tells waits traces asked old status new
    job_done words said asked is ask does =
        inr (subst (λ (j : Job). DoesTold rules acts f file g part folders passes tells waits traces j old status new) (one_job (job_in words) said asked is ask.1) does)

    -- words that ask for a job aren't read only without memory
    pub unread : (words : List Text) (why : WordsFault) → IsRefused words why → RunsRead rules passes tells (Err why) old.streams status new.streams → IsOffFiles old new → (asked : Job) → AskFor words asked
        → RunsAll rules acts f file g part folders passes tells waits traces asked old status new
    unread words (Usage e) refused ran same asked ask = absurd (subst (λ kinds. IsAmong (kind_of e) kinds) ask.0 refused)
    unread words (BadValue w) refused ran same asked ask = never_both (job_in words) asked w ask.1 refused.1
    unread words (LongNumber w) refused ran same asked ask = never_both (job_in words) asked w ask.1 refused.1
    unread words Memory refused ran same asked ask = inl (ran, same)
