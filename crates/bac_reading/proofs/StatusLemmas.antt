-- Which statuses `kept` ends with.
use Rattle.std.proofs.Common.{◌≡◌, ◌⊎◌, ◌∙◌, ◌≤◌, inl, inr, refl, sym, ap, subst, arith, ℕ, Bool, List, [], ◌∷◌, Option, None, Some, Result, Ok, Err}
use Rattle.std.specs.Prelude.{max}
use Rattle.sqlite.specs.declared.error.Error.{Error}
use Rattle.sqlite.specs.declared.error.Error.TheVariants as error
use Rattle.sqlite.specs.declared.error.ErrorCode.{ErrorCode}
use Rattle.sqlite.specs.declared.error.ErrorCode.TheVariants as code
use Rattle.bac_check.specs.Checked.{ending_status}
use Rattle.bac_check.specs.declared.checking.Ending.{Ending}
use Rattle.bac_check.specs.declared.checking.Ending.TheVariants as ending
use Rattle.bac_check.specs.declared.tally.Uncounted.TheVariants as uncounted
use Rattle.bac_files.specs.Parts.{Listing, PartRules}
use Rattle.bac_files.specs.declared.not_opened.NotOpened.TheVariants as unopened
use Rattle.bac_kept.specs.declared.words.Choice.{Choice}
use Rattle.bac_parts.specs.Faults.{fault_status}
use Rattle.bac_parts.specs.Visits.{At, Barred, Read as WasRead, Visit, VisitRules, Visits, VisitsEach, at_visit, path_of}
use Rattle.bac_parts.specs.declared.fault.FileFault.{FileFault}
use Rattle.bac_parts.specs.declared.fault.FileFault.TheVariants as file
use Rattle.bac_print.specs.Output.{Held}
use Rattle.bac_reading.specs.Fault.{trouble_status}
use Rattle.bac_reading.specs.Kept.{Finishes, PrintsArchive, printing}
use Rattle.bac_reading.specs.Last.{FinishesSearch, FindsLasts, seeking}
use Rattle.bac_reading.specs.Laws.{OneIsNone}
use Rattle.bac_reading.specs.Listing.{is_folder}
use Rattle.bac_reading.specs.Program.{RunsKept}
use Rattle.bac_reading.specs.Report.{Closes, Ends, Settles, Tells, came_to}
use Rattle.bac_reading.specs.Scene.{Scene, TellsAlone}
use Rattle.bac_reading.specs.Taking.{Read}
use Rattle.bac_reading.specs.declared.fault.Fault.{Fault}
use Rattle.bac_reading.specs.declared.fault.Stop.{Stop}
use Rattle.bac_reading.specs.declared.fault.Stop.TheVariants.{Fault as Faulty, Trouble as Troubled}
use Rattle.bac_reading.specs.declared.fault.Trouble.{Trouble}
use Rattle.bac_reading.specs.declared.fault.Trouble.TheVariants as trouble
use Rattle.bac_reading.specs.declared.kept.Printer.{Printer}
use Rattle.bac_reading.specs.declared.last.Seeker.{Seeker}
use Rattle.bac_reading.specs.declared.program.Asked.{Asked}
use Rattle.bac_reading.specs.declared.report.Report.{Report}
use Rattle.bac_reading.proofs.EachLemmas.{prints_end}

-- a status of parts
abbrev OfParts : ℕ → Type 0
OfParts status = (status ≡ 0) ⊎ (6 ≤ status)

not_one : (status : ℕ) → OfParts status → status ≡ 1 → ⊥
not_one status (inl is) one = absurd (omega (arith, is, one))
not_one status (inr is) one = absurd (omega (arith, is, one))

greater : (a b : ℕ) → OfParts a → OfParts b → OfParts (max a b)
greater a b (inl x) (inl y) = inl (omega (arith, x, y))
greater a b (inl x) (inr y) = inr (omega (arith, x, y))
greater a b (inr x) y = inr (omega (arith, x))

-- ---- what is told

of_file : (why : FileFault) → OfParts (fault_status why)
of_file (file.Unopened unopened.InUse) = inr (omega arith)
of_file (file.Unopened unopened.Absent) = inr (omega arith)
of_file (file.Unopened unopened.Empty) = inr (omega arith)
of_file (file.Unopened (unopened.Barred obstacle)) = inr (omega arith)
of_file (file.Unopened unopened.Memory) = inr (omega arith)
of_file (file.Unopened (unopened.Database why)) = inr (omega arith)
of_file (file.Refused why) = inr (omega arith)
of_file (file.Database why) = inr (omega arith)

of_code : (c : ErrorCode) → OfParts (ending_status (ending.Uncounted (uncounted.Database (error.SqliteFailure c))))
of_code (code.ConstraintViolation constraint) = inr (omega arith)
of_code code.TypeMismatch = inr (omega arith)
of_code code.IntegerOverflow = inr (omega arith)
of_code code.NoRowid = inr (omega arith)
of_code code.ForeignKeyMismatch = inr (omega arith)
of_code code.TooDeep = inr (omega arith)
of_code code.NoClock = inr (omega arith)
of_code code.NameTaken = inr (omega arith)
of_code code.BadName = inr (omega arith)
of_code code.BadKey = inr (omega arith)
of_code code.BadText = inr (omega arith)
of_code code.SchemaTooBig = inr (omega arith)
of_code code.TransactionState = inr (omega arith)
of_code code.NoSuchSavepoint = inr (omega arith)
of_code code.OperationInterrupted = inr (omega arith)
of_code code.NotADatabase = inr (omega arith)
of_code code.DatabaseCorrupt = inr (omega arith)
of_code code.CannotOpen = inr (omega arith)
of_code code.DatabaseBusy = inr (omega arith)
of_code code.TooBig = inr (omega arith)
of_code code.OutOfMemory = inr (omega arith)
of_code code.SystemIoFailure = inr (omega arith)
of_code code.DiskFull = inr (omega arith)
of_code code.Closed = inr (omega arith)

of_error : (e : Error) → OfParts (ending_status (ending.Uncounted (uncounted.Database e)))
of_error (error.SqliteFailure c) = of_code c
of_error (error.SqlInputError x) = inr (omega arith)
of_error (error.InvalidParameterCount x y) = inr (omega arith)
of_error error.ExecuteReturnedResults = inr (omega arith)
of_error error.InvalidQuery = inr (omega arith)
of_error error.MultipleStatement = inr (omega arith)
of_error error.QueryReturnedNoRows = inr (omega arith)
of_error (error.InvalidColumnIndex x) = inr (omega arith)
of_error (error.InvalidColumnType x y) = inr (omega arith)
of_error (error.IntegralValueOutOfRange x) = inr (omega arith)
of_error (error.Utf8Error x) = inr (omega arith)

of_ending : (end : Ending) → OfParts (ending_status end)
of_ending ending.Whole = inl refl
of_ending ending.Missing = inr (omega arith)
of_ending ending.Apart = inr (omega arith)
of_ending (ending.Uncounted (uncounted.Overlap epoch before row)) = inr (omega arith)
of_ending (ending.Uncounted (uncounted.Backward epoch row)) = inr (omega arith)
of_ending (ending.Uncounted uncounted.Memory) = inr (omega arith)
of_ending (ending.Uncounted (uncounted.Database e)) = of_error e

of_trouble : (t : Trouble) → OfParts (trouble_status t)
of_trouble (trouble.File why) = of_file why
of_trouble trouble.NoLog = inr (omega arith)
of_trouble (trouble.Check end) = of_ending end

-- so is that of a report
abbrev Fits : Report → Type 0
Fits report = OfParts report.status

tells_so : (path : List ℕ) (t : Trouble) (old new : Report) → Tells path t old new → Fits old → Fits new
tells_so path t old new (inl (lines, are, text, status, fault, newest)) so = subst OfParts (sym status) (greater old.status (trouble_status t) so (of_trouble t))
tells_so path t old new (inr (text, status, fault, newest)) so = subst OfParts (sym status) so

ends_so : (path : List ℕ) (came : Read) (old new : Report) → Ends path came old new → Fits old → Fits new
ends_so path (Ok none) old new is so = subst Fits (sym is) so
ends_so path (Err (Troubled t)) old new (inl (spared, is)) so = subst Fits (sym is) so
ends_so path (Err (Troubled t)) old new (inr (told, tells)) so = tells_so path t old new tells so
ends_so path (Err (Faulty fault)) old new is so = subst OfParts (sym (ap (λ (r : Report). r.status) is)) so

settles_so : (name : List ℕ) (choice : Choice) (printed : Result Bool Fault) (old new : Report) → Settles name choice printed old new → Fits old → Fits new
settles_so name choice (Ok any) old new (inl (test, tells)) so = tells_so name trouble.NoLog old new tells so
settles_so name choice (Ok any) old new (inr (test, is)) so = subst Fits (sym is) so
settles_so name choice (Err fault) old new is so = subst OfParts (sym (ap (λ (r : Report). r.status) is)) so

closes_so : (report : Report) (before after : Held) (n : ℕ) → Closes report before after (Ok n) → Fits report → OfParts n
closes_so report before after n it so = by report.fault refl
  where
    by : (f : Option Fault) → report.fault ≡ f → OfParts n
    by None is =
        let same : ◌≡◌ {A = Result ℕ Fault} (Ok n) (Ok report.status) = it.0 ∙ ap (λ (f : Option Fault). elim f [ None ↦ Ok report.status | Some fault ↦ Err fault ]) is in
        let e : n ≡ report.status = cc in subst OfParts (sym e) so
    by (Some why) is =
        absurd (let no : ◌≡◌ {A = Result ℕ Fault} (Ok n) (Err why) = it.0 ∙ ap (λ (f : Option Fault). elim f [ None ↦ Ok report.status | Some other ↦ Err other ]) is in cc)

-- ---- parts that were visited

module _ {P V : Type 0} (rules : VisitRules P V) (report : V → Report)
    (ends : (visit : Visit) (old new : At P V) → Visits rules visit old new → (came : Read) × Ends (path_of visit) came (report old.visitor) (report new.visitor)) where
  visits_so : (visits : List Visit) (old new : At P V) → VisitsEach rules visits old new → Fits (report old.visitor) → Fits (report new.visitor)
  visits_so [] old new same so = subst (λ (a : At P V). Fits (report a.visitor)) (sym same) so
  visits_so (visit ∷ more) old new (wants, (mid, one, rest)) so =
      let it = ends visit old mid one in
      visits_so more mid new rest (ends_so (path_of visit) it.0 (report old.visitor) (report mid.visitor) it.1 so)

module _ {Q : Type 0} (rules : PartRules Q) where
  seeks_end : (visit : Visit) (old new : At Q Seeker) → Visits (seeking rules) visit old new → (came : Read) × Ends (path_of visit) came old.visitor.report new.visitor.report
  seeks_end (WasRead path found shut) old new (holds, still, (read, it, ends)) =
      (came_to read.came (Ok shut), subst (λ r. Ends path (came_to read.came (Ok shut)) r new.visitor.report) it.1 ends.0)
  seeks_end (Barred path why) old new (bars, same, ends) = (came_to old.visitor.came (Err why), ends.0)

  alone_so : (name : List ℕ) (why : Stop) (before after : Held) (n : ℕ) → TellsAlone name why before after (Ok n) → OfParts n
  alone_so name why before after n (blank, told, is, ends, closes) =
      closes_so told before after n closes (ends_so name (Err why) blank told ends (inl is.status))

  printed_so : (name : List ℕ) (old new : Printer) (before after : Held) → Finishes name old new before after → Fits old.report → Fits new.report
  printed_so name old new before after (inl (stops, same, out)) so = subst (λ (p : Printer). Fits p.report) (sym same) so
  printed_so name old new before after (inr (on, keeps, (printed, is, settles))) so = settles_so name old.words.choice printed old.report new.report settles so

  sought_so : (name : List ℕ) (old new : Seeker) (before after : Held) → FinishesSearch name old new before after → Fits old.report → Fits new.report
  sought_so name old new before after (inl (stops, same, out)) so = subst (λ (s : Seeker). Fits s.report) (sym same) so
  sought_so name old new before after (inr (on, (printed, prints, settles))) so = settles_so name old.words.choice printed old.report new.report settles so

  archive_so : (asked : Asked) (folder : Bool) (paths : List (List ℕ)) (old : Scene Q) (n : ℕ) (new : Scene Q) → PrintsArchive rules asked folder paths old (Ok n) new → OfParts n
  archive_so asked folder paths old n new (inl (why, is, same, errors, text)) = absurd (let no : ◌≡◌ {A = Result ℕ Fault} (Ok n) (Err why) = is in cc)
  archive_so asked folder paths old n new (inr it) =
      closes_so it.last.report old.errors new.errors n it.closes
      (printed_so asked.file.now it.read it.last it.output new.output it.finishes
      (visits_so (printing rules) (λ (p : Printer). p.report) (prints_end rules) it.reads.0 (at_visit old.parts it.begun it.first) (at_visit new.parts it.read it.output) it.reads.4 (inl it.fresh.blank.status)))

  lasts_so : (asked : Asked) (folder : Bool) (paths : List (List ℕ)) (old : Scene Q) (n : ℕ) (new : Scene Q) → FindsLasts rules asked folder paths old (Ok n) new → OfParts n
  lasts_so asked folder paths old n new it =
      closes_so it.last.report old.errors new.errors n it.closes
      (sought_so asked.file.now it.read it.last it.output new.output it.finishes
      (visits_so (seeking rules) (λ (s : Seeker). s.report) seeks_end it.reads.1 (at_visit old.parts it.begun old.output) (at_visit new.parts it.read it.output) it.reads.4 (inl it.unsought.blank.status)))

  kept_so : (asked : Asked) (listing : Listing) (old : Scene Q) (n : ℕ) (new : Scene Q) → RunsKept rules asked listing old (Ok n) new → OfParts n
  kept_so asked listing old n new (inl (why, unlisted, tells, same, output)) = alone_so asked.file.now why old.errors new.errors n tells
  kept_so asked listing old n new (inr (paths, parts, inl (all, it))) = archive_so asked (is_folder listing) paths old n new it
  kept_so asked listing old n new (inr (paths, parts, inr (last, it))) = lasts_so asked (is_folder listing) paths old n new it

  pub one_is_none : OneIsNone rules
  one_is_none = λ asked listing old new it. not_one 1 (kept_so asked listing old 1 new it) refl
