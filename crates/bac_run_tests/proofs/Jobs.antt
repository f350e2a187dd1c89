-- What was done of the words of a tool, and what was left alone.
use Rattle.std.proofs.Common.{◌≡◌, ◌≢◌, ◌&&◌, not, if◌then◌else◌, ℕ, Bool, true, false, List, Option, Result, ap, arith, inl, inr, sym, subst}
use Rattle.std.specs.Io.KnownBytes.{Keeps}
use Rattle.clap.specs.Words.{Text}
use Rattle.sqlite_disk.specs.declared.Disk as disk
use Rattle.sqlite_disk.specs.declared.start.Start as start
use Rattle.sqlite_wal.specs.Recovery.{Image}
use Rattle.bac_batch.specs.Batch.{Batched}
use Rattle.bac_batch.specs.Laws.{EndsWhole, StepsHappen}
use Rattle.bac_drive.specs.Happens.{Acts}
use Rattle.bac_files.specs.Files.{FileOf}
use Rattle.bac_files.specs.Parts.{PartRules}
use Rattle.bac_files.specs.declared.disk_files.DiskFiles.{DiskFiles}
use Rattle.bac_socket_notes.specs.declared.notes.Passed.{Passed}
use Rattle.bac_historian.specs.Files.{KeepsPart}
use Rattle.bac_historian.specs.Laws.{LosesNothingAt}
use Rattle.bac_keeper.specs.Stops.{StopsTool, texts}
use Rattle.bac_keeper.specs.declared.fault.Fault.{Fault as KeepFault}
use Rattle.bac_keeping.specs.RecordLaws.{KeepNames}
use Rattle.bac_ports.specs.Port.{Receiving, Sending}
use Rattle.bac_ports.specs.Sockets.{SocketRules}
use Rattle.bac_print.specs.Output.{Held}
use Rattle.bac_run.specs.Keeping.{KeepsBy, KeepsOf}
use Rattle.bac_run.specs.Run.{RunsAll}
use Rattle.bac_run.specs.Setup.{DoesQuietly, HasFiles, IsOffFiles, IsPrinted, Setup, scene_of, with_output, with_sockets}
use Rattle.bac_run_tests.proofs.Kept.{of_zero, stop_zero}
use Rattle.bac_run_tests.proofs.Quiet.{check_quiet, kept_quiet}
use Rattle.bac_run_tests.proofs.Untold.{keep_zero, untold}
use Rattle.bac_run_tests.specs.Apart.{IsOffline, OnlyWrites, ReadsOffline, StopsOffline}
use Rattle.bac_run_tests.specs.Done.{HasDevices, IsKeptNow}
use Rattle.bac_run_tests.specs.Stopped.{IsAllStopped}
use Rattle.bac_site_poller.specs.Site.{GivesSite, SiteHears, SiteState}
use Rattle.bac_site_poller.specs.SiteLaws.{BatchesEnd, SiteReads, site_acts}
use Rattle.bac_site_poller.specs.Status.{EndsAreCounted, StatusNeverFalls}
use Rattle.bac_tools.specs.Run.{AnswersWords, OnlyTells, wrong_fault}
use Rattle.bac_tools.specs.Status.{exit_status}
use Rattle.bac_tools.specs.declared.fault.Fault.TheVariants.{BadValue, LongNumber, Memory}
use Rattle.bac_wire.specs.Stamp.{CivilTime}
use Rattle.bac_command_line.specs.Groups.{are_input}
use Rattle.bac_command_line.specs.Jobs.{reads_input}
use Rattle.bac_command_line.specs.Outcome.{is_long_in}
use Rattle.bac_command_line.specs.declared.job.Check.{Check as CheckWords}
use Rattle.bac_command_line.specs.declared.job.Job.{Job}
use Rattle.bac_command_line.specs.declared.job.Job.TheVariants as job
use Rattle.bac_command_line.specs.declared.job.Keep.{Keep as KeepWords}
use Rattle.bac_command_line.specs.declared.job.Kept.{Kept as KeptWords}
use Rattle.bac_command_line.specs.declared.word.Word.{Word}

-- no wrong value is told with the status 0
wrong_some : (words : List Text) (word : Word) → exit_status (wrong_fault words word) ≢ 0
wrong_some words word = by (is_long_in words word)
  where
    by : (long : Bool) → exit_status (if long then LongNumber word else BadValue word) ≢ 0
    by true zero = omega (arith, zero)
    by false zero = omega (arith, zero)

module _ {S C Q F G : Type 0} {s : start.Ghosts F} {t : start.Ghosts G} (f : disk.Ghosts (FileOf s)) (file : Image) (g : disk.Ghosts (FileOf t)) (part : Image) (old new : Setup S C Q s t) where
  -- what the files of an archive and of the part before it lost by then
  abbrev pub LostBy : Setup S C Q s t → Type 0
  LostBy all = LosesNothingAt f file old.files all.files × KeepsPart g part old.parts all.parts

  -- what leaves the files alone loses no more
  pub lost_still : (mid : Setup S C Q s t) → LostBy mid → HasFiles mid new → LostBy new
  lost_still mid lost still = (
    subst (λ (left : DiskFiles F s). LosesNothingAt f file old.files left) (sym still.0) lost.0,
    subst (λ (left : DiskFiles G t). KeepsPart g part old.parts left) (sym still.1) lost.1,
  )

module _ {S C Q F G : Type 0} {s : start.Ghosts F} {t : start.Ghosts G} (words : List Text) (old new : Setup S C Q s t) (n : ℕ) where
  -- help, the version or a mistake
  pub mistaken_alone : IsOffFiles old new × AnswersWords words old.streams n new.streams → OnlyWrites old new
  mistaken_alone (off, inl (told, keeps, untouched)) = (untouched, off)
  mistaken_alone (off, inr (kind, among, explains, untouched)) = (untouched, off)

  -- a wrong value
  pub wrong_alone : (word : Word) → IsOffFiles old new × OnlyTells (wrong_fault words word) old.streams n new.streams
      → OnlyWrites old new × (n ≢ 0) × Keeps old.streams.output new.streams.output
  wrong_alone word (off, (told, keeps, untouched)) =
      ((untouched, off), untold (wrong_fault words word) old.streams.errors new.streams.errors n (wrong_some words word) told, keeps)

module _ {S P C W Q F G : Type 0} {s : start.Ghosts F} {t : start.Ghosts G} (rules : SocketRules S P) (acts : Acts (Batched SiteState) P W) (f : disk.Ghosts (FileOf s)) (file : Image) (g : disk.Ghosts (FileOf t)) (part : Image)
    (folders : PartRules Q) (passes : S → Passed) (tells : C → Option CivilTime → C → Type 0) (waits : W) (traces : S → Bool → S → Type 0) (old new : Setup S C Q s t) (n : ℕ) where
  abbrev pub Ran : Job → Type 0
  Ran asked = RunsAll rules acts f file g part folders passes tells waits traces asked old n new

  -- without memory for words nothing is done
  no_memory : OnlyTells Memory old.streams n new.streams → n ≡ 0 → ⊥
  no_memory only zero = untold Memory old.streams.errors new.streams.errors n (λ e. omega (arith, e)) only.0 zero

  -- sockets that were switched are so still
  switched : (on : Bool) (told : S) → traces old.streams.sockets on told → new.streams.sockets ≡ told → (new.streams.input ≡ old.streams.input) → (new.streams.clock ≡ old.streams.clock)
      → IsOffline traces on old new
  switched on told traced same input clock = (inr (subst (λ (now : S). traces old.streams.sockets on now) (sym same) traced), input, clock)

  -- `kept`
  pub kept_apart : (asked : KeptWords) → Ran (job.Kept asked) → ReadsOffline traces old new
  kept_apart asked (inl ((told, keeps, (input, sockets, clock)), (still, folders))) = ((inl sockets, input, clock), still)
  kept_apart asked (inr (told, traced, (prints, ((input, sockets, clock), still)))) = (switched false told traced sockets input clock, still)

  pub kept_untold : (asked : KeptWords) → n ≡ 0 → Ran (job.Kept asked) → Keeps old.streams.errors new.streams.errors
  kept_untold asked zero (inl (only, off)) = absurd (no_memory only zero)
  kept_untold asked zero (inr (told, traced, (prints, apart))) = kept_quiet folders asked (scene_of old) (scene_of new) n zero prints

  -- `check`
  pub check_apart : (asked : CheckWords) → Ran (job.Check asked) → ReadsOffline traces old new
  check_apart asked (inl ((told, keeps, (input, sockets, clock)), (still, folders))) = ((inl sockets, input, clock), still)
  check_apart asked (inr (told, traced, (checks, ((input, sockets, clock), still)))) = (switched false told traced sockets input clock, still)

  pub check_untold : (asked : CheckWords) → n ≡ 0 → Ran (job.Check asked) → Keeps old.streams.errors new.streams.errors
  check_untold asked zero (inl (only, off)) = absurd (no_memory only zero)
  check_untold asked zero (inr (told, traced, ((before, after, printed, checks), apart))) =
      check_quiet folders asked (record (scene_of old) { output = before }) (record (scene_of new) { output = after }) n zero checks

  -- the words of `keep --stop` don't read the input
  stops_by : (was now : Setup S C Q s t) (asked : KeepWords) → asked.stop ≡ true → KeepsOf rules acts f file g part waits tells (reads_input asked) asked was n now
      → KeepsBy rules acts f file g part waits tells true asked was n now × (now.streams.input ≡ was.streams.input)
  stops_by was now asked stops keeps =
      let unread : reads_input asked ≡ false = ap (λ (b : Bool). not b && are_input asked.groups) stops in
      let of = subst (λ (b : Bool). KeepsOf rules acts f file g part waits tells b asked was n now) unread keeps in
      (subst (λ (b : Bool). KeepsBy rules acts f file g part waits tells b asked was n now) stops of.0, of.1)

  pub stop_apart : (asked : KeepWords) → asked.stop ≡ true → Ran (job.Keep asked) → StopsOffline traces asked.trace old new
  stop_apart asked stops (inl ((told, keeps, (input, sockets, clock)), (still, folders))) = ((inl sockets, input, clock), still.1, folders)
  stop_apart asked stops (inr (told, traced, (before, after, printed, (keeps, folders)))) =
      let it = stops_by (with_output before (with_sockets told old)) (with_output after new) asked stops keeps in
      (switched asked.trace told traced it.0.1.0 it.1 it.0.1.1, it.0.1.2, folders)

  pub stop_done : (asked : KeepWords) → asked.stop ≡ true → n ≡ 0 → Ran (job.Keep asked)
      → (before : Held) × (after : Held) × IsPrinted asked.quiet old.streams.output new.streams.output before after × IsAllStopped f file asked new.files before after × Keeps old.streams.errors new.streams.errors
  stop_done asked stops zero (inl (only, off)) = absurd (no_memory only zero)
  stop_done asked stops zero (inr (told, traced, (before, after, printed, (keeps, folders)))) =
      let it = by (stops_by (with_output before (with_sockets told old)) (with_output after new) asked stops keeps).0 in (before, after, printed, it.0, it.1)
    where
      by : KeepsBy rules acts f file g part waits tells true asked (with_output before (with_sockets told old)) n (with_output after new) → IsAllStopped f file asked new.files before after × Keeps old.streams.errors new.streams.errors
      by ((result, said, tool, ends), only) =
          let well = keep_zero result said new.streams.errors n ends zero in
          let it = stop_zero f file asked old.files new.files (texts before old.streams.errors) (texts after said)
          (subst (λ (r : Result ℕ KeepFault). StopsTool f file asked old.files new.files (texts before old.streams.errors) (texts after said) r) well.0 tool) in
          (it.0, subst (λ (h : Option (List ℕ)). Keeps h new.streams.errors) it.1 well.1)

module _ {P W : Type 0} (sends : P → List ℕ → List ℕ → Sending → P → Type 0) (receives : P → ℕ → Receiving → P → Type 0) (reads : W → ℕ → W → Type 0) {S C Q F G : Type 0} {s : start.Ghosts F} {t : start.Ghosts G} (rules : SocketRules S P)
    (f : disk.Ghosts (FileOf s)) (file : Image) (g : disk.Ghosts (FileOf t)) (part : Image) (folders : PartRules Q) (passes : S → Passed) (tells : C → Option CivilTime → C → Type 0) (waits : W) (traces : S → Bool → S → Type 0)
    (old new : Setup S C Q s t) (n : ℕ) where
  -- `keep`
  pub all_kept : StepsHappen (site_acts sends receives reads) → EndsWhole GivesSite SiteHears SiteReads → BatchesEnd → StatusNeverFalls → EndsAreCounted → KeepNames → (asked : KeepWords) → asked.stop ≡ false → n ≡ 0
      → Ran rules (site_acts sends receives reads) f file g part folders passes tells waits traces old new n (job.Keep asked)
      → (told : S) × traces old.streams.sockets asked.trace told × (which : KeepWords) × HasDevices (reads_input asked) asked old.streams.input new.streams.input which
      × DoesQuietly asked.quiet (λ was status now. IsKeptNow rules (site_acts sends receives reads) f file g part waits tells which was now) (with_sockets told old) n new
  all_kept happen whole batches rises counted names asked still zero (inl (only, off)) =
      absurd (no_memory rules (site_acts sends receives reads) f file g part folders passes tells waits traces old new n only zero)
  all_kept happen whole batches rises counted names asked still zero (inr (told, traced, (before, after, printed, (keeps, folders')))) =
      let it = of_zero sends receives reads happen whole batches rises counted names rules f file g part waits tells (with_output before (with_sockets told old)) (with_output after new) n zero (reads_input asked) asked still keeps in
      (told, traced, it.0, it.1, (before, after, printed, it.2))
