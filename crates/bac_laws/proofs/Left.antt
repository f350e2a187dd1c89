-- What `kept` and `check` leave of the parts that they read.
use Rattle.std.proofs.Common.{inl, inr, ap, ℕ, Bool, List, [], ◌∷◌, map, Result}
use Rattle.bac_files.specs.Parts.{Listing, PartRules, Reading}
use Rattle.bac_laws.specs.Parts.{LeavesArchive, LeavesParts}
use Rattle.bac_parts.specs.Visits.{At, Barred, Came, Output, Read as WasRead, Visit, VisitsEach, at_visit, path_of, visit_rules}
use Rattle.bac_reading.specs.Checking.{CountsIt, EndsCount, RunsCheck, is_counting}
use Rattle.bac_reading.specs.Kept.{EndsPart, PrintsArchive, PrintsIt, is_going}
use Rattle.bac_reading.specs.Last.{EndsSearch, SeeksIt, is_seeking}
use Rattle.bac_reading.specs.Listing.{is_folder}
use Rattle.bac_reading.specs.Program.{RunsKept}
use Rattle.bac_reading.specs.Scene.{Scene}
use Rattle.bac_reading.specs.declared.fault.Fault.{Fault}
use Rattle.bac_reading.specs.declared.program.Asked.{Asked}
use Rattle.bac_run.specs.Reading.{ChecksArchive, PrintsKept}
use Rattle.bac_command_line.specs.declared.job.Check.{Check}
use Rattle.bac_command_line.specs.declared.job.Kept.{Kept}

module _ {Q : Type 0} (rules : PartRules Q) where
  module _ {V : Type 0} (reads : V → Reading → Output → Output → V → Type 0) (wants : V → Bool) (ends : V → List ℕ → Came → V → Type 0) where
    -- these are opened, one after the other
    visited : (visits : List Visit) (old new : At Q V) → VisitsEach (visit_rules rules.holds rules.bars reads wants ends) visits old new
        → LeavesParts rules (map path_of visits) old.parts new.parts
    visited [] old new same = ap (λ (a : At Q V). a.parts) same
    visited (WasRead path found shut ∷ more) old new (wanted, (mid, (holds, still, came), rest)) =
        (mid.parts, inl (found, holds, still), visited more mid new rest)
    visited (Barred path why ∷ more) old new (wanted, (mid, (bars, same, came), rest)) =
        (mid.parts, inr (why, bars), visited more mid new rest)

  -- some are
  abbrev LeavesSome : Q → Q → Type 0
  LeavesSome p q = (opened : List (List ℕ)) × LeavesParts rules opened p q

  printed : (asked : Asked) (folder : Bool) (paths : List (List ℕ)) (old : Scene Q) (result : Result ℕ Fault) (new : Scene Q)
      → PrintsArchive rules asked folder paths old result new → LeavesSome old.parts new.parts
  printed asked folder paths old result new (inl (why, is, same, errors, output)) = ([], same)
  printed asked folder paths old result new (inr it) =
      (map path_of it.reads.0, visited PrintsIt is_going EndsPart it.reads.0 (at_visit old.parts it.begun it.first) (at_visit new.parts it.read it.output) it.reads.4)

  kept : (asked : Asked) (listing : Listing) (old : Scene Q) (result : Result ℕ Fault) (new : Scene Q)
      → RunsKept rules asked listing old result new → LeavesSome old.parts new.parts
  kept asked listing old result new (inl (why, unlisted, told, same, output)) = ([], same)
  kept asked listing old result new (inr (paths, parts, inl (all, it))) = printed asked (is_folder listing) paths old result new it
  kept asked listing old result new (inr (paths, parts, inr (last, it))) =
      (map path_of it.reads.1, visited SeeksIt is_seeking EndsSearch it.reads.1 (at_visit old.parts it.begun old.output) (at_visit new.parts it.read it.output) it.reads.4)

  checked : (name : List ℕ) (listing : Listing) (old : Scene Q) (result : Result ℕ Fault) (new : Scene Q)
      → RunsCheck rules name listing old result new → LeavesSome old.parts new.parts
  checked name listing old result new (inl (why, unlisted, told, same, output)) = ([], same)
  checked name listing old result new (inr (paths, parts, it)) =
      (map path_of it.reads.0, visited CountsIt is_counting EndsCount it.reads.0 (at_visit old.parts it.begun old.output) (at_visit new.parts it.read it.output) it.reads.4)

  pub kept_leaves : (said : Kept) (old : Scene Q) (status : ℕ) (new : Scene Q) → PrintsKept rules said old status new
      → LeavesArchive rules said.file old.parts new.parts
  kept_leaves said old status new (inl (fault, is, told, same, output)) = inl same
  kept_leaves said old status new (inr (device, names, asked, is, (listing, listed, lists, result, now, did, ends))) =
      inr (listing, listed, lists, kept asked listing _ result _ did)

  pub check_leaves : (said : Check) (old : Scene Q) (status : ℕ) (new : Scene Q) → ChecksArchive rules said old status new
      → LeavesArchive rules said.file old.parts new.parts
  check_leaves said old status new (listing, listed, lists, result, now, did, ends) =
      inr (listing, listed, lists, checked said.file listing _ result _ did)
