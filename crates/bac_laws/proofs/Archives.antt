-- What `run` does for the words of `kept` and `check`.
use Rattle.std.proofs.Common.{◌≡◌, ◌∙◌, inl, inr, refl, sym, ap, subst, ℕ, Bool, false, List, [], ◌∷◌, Option, None, Some, Result, Ok, Err}
use Rattle.sqlite_disk.specs.declared.Disk as disk
use Rattle.sqlite_disk.specs.declared.start.Start as start
use Rattle.sqlite_wal.specs.Recovery.{Image}
use Rattle.bac_batch.specs.Batch.{Batched}
use Rattle.bac_check.specs.Whole.{WholeHasEach}
use Rattle.bac_drive.specs.Happens.{Acts}
use Rattle.bac_files.specs.Files.{FileOf}
use Rattle.bac_files.specs.Parts.{Listing, PartRules, Reading}
use Rattle.bac_socket_notes.specs.Notes.{nothing}
use Rattle.bac_socket_notes.specs.declared.notes.Passed.{Passed}
use Rattle.bac_laws.proofs.Epochs.{file_whole}
use Rattle.bac_laws.proofs.Left.{check_leaves, kept_leaves}
use Rattle.bac_laws.proofs.Statuses.{failed, told_fails, told_memory}
use Rattle.bac_laws.proofs.Unfit.{unfit}
use Rattle.bac_laws.specs.Checked.{FindsEach, FindsWhole, IsWhole}
use Rattle.bac_laws.specs.Parts.{LeavesArchive}
use Rattle.bac_laws.specs.Rows.{PrintsEach}
use Rattle.bac_ports.specs.Sockets.{SocketRules}
use Rattle.bac_print.specs.Output.{Held}
use Rattle.bac_reading.proofs.RunLemmas.{is_whole, prints_each}
use Rattle.bac_reading.specs.Checking.{RunsCheck}
use Rattle.bac_reading.specs.Laws.{CountsOn, EachPart}
use Rattle.bac_reading.specs.Listing.{is_folder, newest_of, parts_of}
use Rattle.bac_reading.specs.Program.{RunsKept}
use Rattle.bac_reading.specs.Scene.{Scene, scene}
use Rattle.bac_reading.specs.Taking.{IsClean}
use Rattle.bac_reading.specs.declared.fault.Fault.{Fault}
use Rattle.bac_run.specs.Faults.{of_read, of_words, read_ending}
use Rattle.bac_run.specs.Reading.{AskedAs, ChecksArchive, PrintsKept, is_newest}
use Rattle.bac_run.specs.Run.{RunsAll}
use Rattle.bac_run.specs.Setup.{IsPrinted, Setup}
use Rattle.bac_site_poller.specs.Site.{SiteState}
use Rattle.bac_tools.specs.Run.{Ends as EndsTool}
use Rattle.bac_tools.specs.declared.fault.Fault.TheVariants as told
use Rattle.bac_wire.specs.Stamp.{CivilTime}
use Rattle.bac_command_line.specs.declared.job.Check.{Check}
use Rattle.bac_command_line.specs.declared.job.Job.TheVariants as job
use Rattle.bac_command_line.specs.declared.job.Kept.{Kept}

module _ {Q : Type 0} (rules : PartRules Q) where
  -- a status of 0 is that of the tool
  ended_zero : (result : Result ℕ Fault) (now errors : Held) (status : ℕ) → EndsTool nothing (read_ending result) now errors status → status ≡ 0 → result ≡ Ok 0
  ended_zero (Ok n) now errors status ends none = ap Ok (sym ends.0 ∙ none)
  ended_zero (Err f) now errors status ends none = absurd (failed nothing (read_ending (Err f)) (of_read f) now errors status refl ends none)

  -- ---- `kept`

  prints_zero : (said : Kept) → is_newest said.extent ≡ false → (old : Scene Q) (status : ℕ) (new : Scene Q) → PrintsKept rules said old status new → status ≡ 0
      → PrintsEach rules said old.output new.output old.parts new.parts
  prints_zero said dated old status new (inl (fault, is, tells, same, output)) none = absurd (told_fails (of_words fault) old.errors new.errors status tells none)
  prints_zero said dated old status new (inr (device, named, asked, is, (listing, listed, lists, result, now, did, ends))) none =
      let zero = ended_zero result now new.errors status ends none in
      let from = scene listed old.output old.errors in
      let to = scene new.parts new.output now in
      let it = prints_each rules asked listing from to (subst (λ (r : Result ℕ Fault). RunsKept rules asked listing from r to) zero did) (ap (λ (a : AskedAs). a.last) is ∙ dated) in
      let file : asked.file.now ≡ said.file = ap (λ (a : AskedAs). a.file) is in
      (device, named, asked, is, listing, listed, lists, it.0, subst (λ (n : List ℕ). parts_of n listing ≡ Ok it.0) file it.1, it.2)

  -- ---- `check`

  finds_zero : (said : Check) (old : Scene Q) (status : ℕ) (new : Scene Q) → ChecksArchive rules said old status new → status ≡ 0
      → FindsEach rules said.file old.output new.output old.parts new.parts
  finds_zero said old status new (listing, listed, lists, result, now, did, ends) none =
      let zero = ended_zero result now new.errors status ends none in
      let from = scene listed old.output old.errors in
      let to = scene new.parts new.output now in
      let it = is_whole rules said.file listing from to (subst (λ (r : Result ℕ Fault). RunsCheck rules said.file listing from r to) zero did) in
      (listing, listed, lists, it.0, it.1, it.2)

  -- a file is whole
  whole_if : (law : WholeHasEach) (name : List ℕ) (before after : Held) (p q : Q) → FindsEach rules name before after p q → FindsWhole rules name p q
  whole_if law name before after p q (listing, listed, lists, paths, parts, (none, all, empty, each, whole, text)) =
      (listing, listed, lists, λ is. by listing is parts each)
    where
      by : (l : Listing) → l ≡ Ok None → parts_of name l ≡ Ok paths → EachPart rules CountsOn (newest_of 2 (is_folder l) paths) paths listed none q all
          → (found : Reading) × rules.holds listed name found q × (IsClean found → IsWhole found.found)
      by (Ok None) is parts each =
          let same : name ∷ [] ≡ paths = let e : ◌≡◌ {A = Result _ _} (Ok (name ∷ [])) (Ok paths) = parts in cc in
          file_whole rules law none all empty name listed q (subst (λ (l : List (List ℕ)). EachPart rules CountsOn None l listed none q all) (sym same) each) whole
      by (Ok (Some x)) is parts each = absurd (let e : ◌≡◌ {A = Listing} (Ok (Some x)) (Ok None) = is in cc)
      by (Err why) is parts each = absurd (let e : ◌≡◌ {A = Listing} (Err why) (Ok None) = is in cc)

-- ---- by the words

module _ {S P C W Q F G : Type 0} {s : start.Ghosts F} {t : start.Ghosts G} (rules : SocketRules S P) (acts : Acts (Batched SiteState) P W)
    (f : disk.Ghosts (FileOf s)) (file : Image) (g : disk.Ghosts (FileOf t)) (part : Image) (folders : PartRules Q) (passes : S → Passed)
    (tells : C → Option CivilTime → C → Type 0) (waits : W) (switches : S → Bool → S → Type 0) where
  pub kept_ran : (said : Kept) → is_newest said.extent ≡ false → (old : Setup S C Q s t) (status : ℕ) (new : Setup S C Q s t)
      → RunsAll rules acts f file g part folders passes tells waits switches (job.Kept said) old status new → status ≡ 0
      → PrintsEach folders said old.streams.output new.streams.output old.folders new.folders
  kept_ran said dated old status new (inl ((tells', keeps, untouched), off)) none =
      absurd (told_fails told.Memory old.streams.errors new.streams.errors status tells' none)
  kept_ran said dated old status new (inr (sockets, switched, (ran, only))) none = prints_zero folders said dated _ status _ ran none

  pub kept_unfit : (said : Kept) (old : Setup S C Q s t) (status : ℕ) (new : Setup S C Q s t)
      → RunsAll rules acts f file g part folders passes tells waits switches (job.Kept said) old status new → status ≡ 1
      → (new.streams.output ≡ old.streams.output) × (new.folders ≡ old.folders)
  kept_unfit said old status new (inl ((tells', keeps, untouched), off)) one =
      absurd (let e : 5 ≡ 1 = sym (told_memory old.streams.errors new.streams.errors status tells') ∙ one in cc)
  kept_unfit said old status new (inr (sockets, switched, (ran, only))) one = unfit folders said _ status _ ran one

  pub kept_left : (said : Kept) (old : Setup S C Q s t) (status : ℕ) (new : Setup S C Q s t)
      → RunsAll rules acts f file g part folders passes tells waits switches (job.Kept said) old status new
      → (new.files ≡ old.files) × LeavesArchive folders said.file old.folders new.folders
  kept_left said old status new (inl (told', off)) = (off.0.0, inl off.1)
  kept_left said old status new (inr (sockets, switched, (ran, only))) = (only.1.0, kept_leaves folders said _ status _ ran)

  pub check_ran : (said : Check) (old : Setup S C Q s t) (status : ℕ) (new : Setup S C Q s t)
      → RunsAll rules acts f file g part folders passes tells waits switches (job.Check said) old status new → status ≡ 0
      → (before : Held) × (after : Held) × IsPrinted said.quiet old.streams.output new.streams.output before after × FindsEach folders said.file before after old.folders new.folders
  check_ran said old status new (inl ((tells', keeps, untouched), off)) none =
      absurd (told_fails told.Memory old.streams.errors new.streams.errors status tells' none)
  check_ran said old status new (inr (sockets, switched, ((before, after, printed, ran), only))) none =
      (before, after, printed, finds_zero folders said (scene old.folders before old.streams.errors) status (scene new.folders after new.streams.errors) ran none)

  pub check_whole : (law : WholeHasEach) (said : Check) (old : Setup S C Q s t) (status : ℕ) (new : Setup S C Q s t)
      → RunsAll rules acts f file g part folders passes tells waits switches (job.Check said) old status new → status ≡ 0
      → FindsWhole folders said.file old.folders new.folders
  check_whole law said old status new ran none =
      let it = check_ran said old status new ran none in
      whole_if folders law said.file it.0 it.1 old.folders new.folders it.3

  pub check_left : (said : Check) (old : Setup S C Q s t) (status : ℕ) (new : Setup S C Q s t)
      → RunsAll rules acts f file g part folders passes tells waits switches (job.Check said) old status new
      → (new.files ≡ old.files) × LeavesArchive folders said.file old.folders new.folders
  check_left said old status new (inl (told', off)) = (off.0.0, inl off.1)
  check_left said old status new (inr (sockets, switched, ((before, after, printed, ran), only))) =
      (only.1.0, check_leaves folders said (scene old.folders before old.streams.errors) status (scene new.folders after new.streams.errors) ran)
