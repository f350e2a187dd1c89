-- The parts of an archive are printed. Read `PrintsArchive`.
use Rattle.std.specs.Prelude.{◌≡◌, ◌⊎◌, ◌||◌, ◌&&◌, not, nat_lt, ℕ, Bool, true, false, List, ◌++◌, length, None}
use Rattle.std.specs.Prelude.{Result, Ok, Err}
use Rattle.std.specs.Io.KnownBytes.{Appends, Keeps}
use Rattle.sqlite.specs.declared.error.Error.{Error}
use Rattle.bac_archive.specs.Archive.{IsArchive}
use Rattle.bac_archive.specs.Known.{IsKnown}
use Rattle.bac_archive.specs.declared.known.Known.{Known}
use Rattle.bac_files.specs.Parts.{PartRules, Reading}
use Rattle.bac_kept.specs.Csv.{has_names, names_text}
use Rattle.bac_kept.specs.Parts.{PrintsFront, PrintsPart}
use Rattle.bac_kept.specs.Seen.{newest_in}
use Rattle.bac_kept.specs.Shown.{shown_logs}
use Rattle.bac_kept.specs.declared.words.Words.{Words}
use Rattle.bac_parts.specs.Visits.{Came, IsAsFound, ReadsOn, VisitRules, at_visit, visit_rules}
use Rattle.bac_parts.specs.declared.fault.FileFault.TheVariants.{Database}
use Rattle.bac_print.specs.Output.{AppendsPart, Held}
use Rattle.bac_reading.specs.Listing.{newest_of}
use Rattle.bac_reading.specs.Report.{Closes, Ends, IsBlank, Settles, came_to, goes_on}
use Rattle.bac_reading.specs.Scene.{Scene}
use Rattle.bac_reading.specs.Taking.{IsClean, IsNotTaken, Read}
use Rattle.bac_reading.specs.declared.fault.Fault.{Fault}
use Rattle.bac_reading.specs.declared.fault.Fault.TheVariants as fault
use Rattle.bac_reading.specs.declared.fault.Stop.TheVariants as stop
use Rattle.bac_reading.specs.declared.fault.Trouble.TheVariants.{File}
use Rattle.bac_reading.specs.declared.kept.Printer.{Printer}
use Rattle.bac_reading.specs.declared.program.Asked.{Asked}

-- ---- a part

-- An archive was printed: what it keeps of the logs that are chosen, behind what was printed before; and the row of
-- names before that, if it was to be written.
pub record PrintsFound (old : Printer) (found : Reading) (before after : Held) (new : Printer) : Type 0 where
  pub archive : IsArchive found.found
  pub known : Known
  pub told : IsKnown found.found.trees known
  pub text : List ℕ
  pub is : PrintsPart old.words found.found.trees known old.seen text new.seen
  pub printed : Appends before after (names_text old.names ++ text)
  pub any : new.has_any ≡ (old.has_any || nat_lt 0 (length (shown_logs known old.words.choice)))
  pub names : new.names ≡ false

-- a front of that was
pub record PrintsLess (old : Printer) (found : Reading) (before after : Held) : Type 0 where
  pub archive : IsArchive found.found
  pub text : List ℕ
  pub is : PrintsFront old.words found.found.trees old.seen text
  pub printed : AppendsPart before after (names_text old.names ++ text)

-- nothing was printed or noted
abbrev pub IsUnprinted : Printer → Held → Held → Printer → Type 0
IsUnprinted old before after new = (after ≡ before) × (new.seen ≡ old.seen) × (new.names ≡ old.names)
    × (new.has_any ≡ old.has_any)

-- What came of an archive that was printed: all of it was; or its database failed, memory was wanting or the output
-- refused a text, and a front of it was. That a log of it is chosen is noted of the first alone.
abbrev pub PrintsTaken : Read → Printer → Reading → Held → Held → Printer → Type 0
PrintsTaken (Ok none) old found before after new = IsClean found → PrintsFound old found before after new
PrintsTaken (Err (stop.Trouble trouble)) old found before after new = (new.has_any ≡ old.has_any)
    × (new.names ≡ false)
    × (IsClean found → ((error : Error) × (trouble ≡ File (Database error))) × PrintsLess old found before after)
PrintsTaken (Err (stop.Fault fault)) old found before after new =
    (new.has_any ≡ old.has_any) × (IsClean found → PrintsLess old found before after)

-- what came of a part: it isn't taken as an archive, and nothing was printed or noted; or it is one, and was printed
abbrev pub PrintsBy : Read → Printer → Reading → Held → Held → Printer → Type 0
PrintsBy read old found before after new = (IsNotTaken read found × IsUnprinted old before after new)
    ⊎ PrintsTaken read old found before after new

-- so a part was read by a printer, which is left as it was
abbrev pub PrintsIt : Printer → Reading → Held → Held → Printer → Type 0
PrintsIt old found before after new = (new.words ≡ old.words) × (new.report ≡ old.report) × IsAsFound found
    × PrintsBy new.came old found before after new

-- what came of it is taken
abbrev pub EndsPart : Printer → List ℕ → Came → Printer → Type 0
EndsPart old path came new = Ends path (came_to old.came came) old.report new.report
    × (new ≡ record old { report = new.report })

-- one more is read, unless the tool ends before that
abbrev pub is_going : Printer → Bool
is_going printer = goes_on printer.report

-- ---- all parts

-- nothing was printed yet, but of a folder the row of names
pub record IsFresh (words : Words) (folder : Bool) (paths : List (List ℕ)) (begun : Printer) : Type 0 where
  pub words_are : begun.words ≡ words
  pub names : begun.names ≡ (has_names words.form && not folder)
  pub seen : (log : ℕ) → newest_in begun.seen log ≡ None
  pub any : begun.has_any ≡ false
  pub blank : IsBlank (newest_of 1 folder paths) begun.report

-- what was printed goes out, or not, unless the tool has ended before; that no log was chosen is told
abbrev pub Finishes : List ℕ → Printer → Printer → Held → Held → Type 0
Finishes name old new before after =
    ((goes_on old.report ≡ false) × (new ≡ old) × (after ≡ before))
    ⊎ ((goes_on old.report ≡ true) × Keeps before after × ((printed : Result Bool Fault)
    × ((printed ≡ Ok old.has_any) ⊎ (printed ≡ Err fault.Write))
    × Settles name old.words.choice printed old.report new.report))

module _ {P : Type 0} (rules : PartRules P) where
  -- what a printer reads, and what it makes of it
  abbrev pub printing : VisitRules P Printer
  printing = visit_rules rules.holds rules.bars PrintsIt is_going EndsPart

  -- the parts at these paths are printed on from the first one, of a folder behind the row of names
  pub record PrintsParts (asked : Asked) (folder : Bool) (paths : List (List ℕ)) (old : Scene P)
      (result : Result ℕ Fault) (new : Scene P) : Type 0 where
    pub first : Held
    pub named : Appends old.output first (names_text (has_names asked.words.form && folder))
    pub begun : Printer
    pub fresh : IsFresh asked.words folder paths begun
    pub count : ℕ
    pub read : Printer
    pub output : Held
    pub reads : ReadsOn printing paths count (at_visit old.parts begun first) (at_visit new.parts read output)
    pub last : Printer
    pub finishes : Finishes asked.file.now read last output new.output
    pub closes : Closes last.report old.errors new.errors result

  -- the row of names isn't written: memory is wanting, or the output refused it
  abbrev pub PrintsNothing : Asked → Bool → Scene P → Result ℕ Fault → Scene P → Type 0
  PrintsNothing asked folder old result new = (why : Fault) × (result ≡ Err why) × (new.parts ≡ old.parts)
      × (new.errors ≡ old.errors)
      × AppendsPart old.output new.output (names_text (has_names asked.words.form && folder))

  -- what an archive keeps is printed
  abbrev pub PrintsArchive : Asked → Bool → List (List ℕ) → Scene P → Result ℕ Fault → Scene P → Type 0
  PrintsArchive asked folder paths old result new =
      PrintsNothing asked folder old result new ⊎ PrintsParts asked folder paths old result new
