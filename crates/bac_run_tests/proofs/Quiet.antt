-- Where `kept` or `check` ends with 0, nothing is told.
use Rattle.std.proofs.Common.{◌≡◌, ℕ, List, Result, Ok, inl, inr, subst}
use Rattle.std.specs.Io.KnownBytes.{Keeps}
use Rattle.bac_files.specs.Parts.{Listing, PartRules}
use Rattle.bac_parts.proofs.FileLemmas.{ok_is_no_err}
use Rattle.bac_print.specs.Output.{Held}
use Rattle.bac_reading.proofs.ZeroLemmas.{closed_zero}
use Rattle.bac_reading.specs.Checking.{RunsCheck}
use Rattle.bac_reading.specs.Program.{RunsKept}
use Rattle.bac_reading.specs.Report.{Closes}
use Rattle.bac_reading.specs.Scene.{Scene, scene}
use Rattle.bac_reading.specs.declared.fault.Fault.{Fault}
use Rattle.bac_reading.specs.declared.program.Asked.{Asked}
use Rattle.bac_run.specs.Faults.{of_words}
use Rattle.bac_run.specs.Reading.{ChecksArchive, PrintsKept, ReadsParts}
use Rattle.bac_run_tests.proofs.Untold.{read_zero, untold, words_some}
use Rattle.bac_command_line.specs.declared.job.Check.{Check}
use Rattle.bac_command_line.specs.declared.job.Kept.{Kept}

-- a report that was closed so had nothing to tell
closes_same : (report : _) (before after : Held) → Closes report before after (Ok 0) → after ≡ before
closes_same report before after closes = elim closes.1 [
  | inl it ↦ it.1
  | inr it ↦ absurd (it.0 (closed_zero report before after closes).0)
]

module _ {Q : Type 0} (rules : PartRules Q) where
  -- what is done with the parts that are listed tells nothing where it ends with 0
  abbrev TellsNone : (Listing → Scene Q → Result ℕ Fault → Scene Q → Type 0) → Type 0
  TellsNone does = (listing : Listing) (old new : Scene Q) → does listing old (Ok 0) new → new.errors ≡ old.errors

  kept_same : (asked : Asked) → TellsNone (RunsKept rules asked)
  kept_same asked listing old new (inl (why, unlisted, (blank, told, is, ends, closes), parts, output)) = closes_same told old.errors new.errors closes
  kept_same asked listing old new (inr (paths, are, inl (all, inl (why, is, parts, errors, output)))) = absurd (ok_is_no_err 0 why is)
  kept_same asked listing old new (inr (paths, are, inl (all, inr prints))) = closes_same prints.last.report old.errors new.errors prints.closes
  kept_same asked listing old new (inr (paths, are, inr (last, finds))) = closes_same finds.last.report old.errors new.errors finds.closes

  check_same : (name : List ℕ) → TellsNone (RunsCheck rules name)
  check_same name listing old new (inl (why, unlisted, (blank, told, is, ends, closes), parts, output)) = closes_same told old.errors new.errors closes
  check_same name listing old new (inr (paths, are, checks)) = closes_same checks.last.report old.errors new.errors checks.closes

  parts_quiet : (name : List ℕ) (does : Listing → Scene Q → Result ℕ Fault → Scene Q → Type 0) → TellsNone does → (old new : Scene Q) (status : ℕ) → status ≡ 0
      → ReadsParts rules name does old status new → Keeps old.errors new.errors
  parts_quiet name does none old new status zero (listing, listed, lists, result, said, did, ends) =
      let well = read_zero result said new.errors status ends zero in
      let now : Scene Q = scene new.parts new.output said in
      subst (λ (h : Held). Keeps h new.errors) (none listing (scene listed old.output old.errors) now
      (subst (λ (r : Result ℕ Fault). does listing (scene listed old.output old.errors) r now) well.0 did)) well.1

  pub kept_quiet : (kept : Kept) (old new : Scene Q) (status : ℕ) → status ≡ 0 → PrintsKept rules kept old status new → Keeps old.errors new.errors
  kept_quiet kept old new status zero (inl (fault, why, told, parts, output)) = absurd (untold (of_words fault) old.errors new.errors status (words_some fault) told zero)
  kept_quiet kept old new status zero (inr (device, by_words, asked, asked_is, reads)) = parts_quiet kept.file (RunsKept rules asked) (kept_same asked) old new status zero reads

  pub check_quiet : (check : Check) (old new : Scene Q) (status : ℕ) → status ≡ 0 → ChecksArchive rules check old status new → Keeps old.errors new.errors
  check_quiet check old new status zero reads = parts_quiet check.file (RunsCheck rules check.file) (check_same check.file) old new status zero reads
