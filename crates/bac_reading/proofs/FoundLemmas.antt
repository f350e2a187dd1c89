-- A part that was taken as an archive, and what came of it then.
use Rattle.std.proofs.Common.{◌≡◌, ◌∙◌, ap, true, inl, inr, subst, IsTrue, Ok, Err}
use Rattle.sqlite_trees.specs.declared.store.Store.{Ghosts}
use Rattle.sqlite.specs.Effect.{Database}
use Rattle.sqlite.specs.Held.{Held as Connected, state}
use Rattle.sqlite.specs.State.{HasCleanDisk, IsUnchanged, State}
use Rattle.bac_files.specs.Parts.{Reading, reading}
use Rattle.bac_kept.specs.Faults.{IsLeftAs}
use Rattle.bac_print.specs.Output.{Held}
use Rattle.bac_reading.specs.Checking.{CountsNot, CountsTaken}
use Rattle.bac_archive.specs.Archive.{IsArchive}
use Rattle.bac_check.specs.Counted.{CountsPart}
use Rattle.bac_reading.specs.Kept.{PrintsFound, PrintsLess, PrintsTaken}
use Rattle.bac_reading.specs.Last.{SeeksFound, SeeksLess, SeeksTaken}
use Rattle.bac_reading.specs.Taking.{Read}
use Rattle.bac_reading.specs.declared.checking.Checker.{Checker}
use Rattle.bac_reading.specs.declared.fault.Stop.TheVariants.{Fault as Faulty, Trouble as Troubled}
use Rattle.bac_reading.specs.declared.kept.Printer.{Printer}
use Rattle.bac_reading.specs.declared.last.Seeker.{Seeker}

-- it is left as it was found
pub as_found : {S : Type 0} (g : Ghosts S) (old mid new : Connected S) → IsUnchanged (state g old) (state g mid) → (state g mid).committed ≡ (state g mid).now → IsLeftAs g mid new
    → IsTrue (state g new).is_open → (state g new).now ≡ (state g old).now
as_found g old mid new same committed (inl is) held = ap (λ h. (state g h).now) is ∙ same.0.now_is
as_found g old mid new same committed (inr (inl still)) held = still.0.now_is ∙ same.0.now_is
as_found g old mid new same committed (inr (inr back)) held = (back.undone held).0 ∙ committed ∙ same.0.now_is

-- a database that was read, and left in this state
abbrev found_as : Database → State → Reading
found_as db new = record { found = db; left = new.now; is_open = new.is_open; is_clean = new.is_clean }

module _ (was mid new : State) (same : HasCleanDisk new → mid.now ≡ was.now) where
  -- what came of it then came of it
  pub printed_so : (read : Read) (old p : Printer) (before after : Held) → PrintsTaken read old (reading mid new) before after p → PrintsTaken read old (reading was new) before after p
  printed_so (Ok none) old p before after it = λ clean. subst (λ d. PrintsFound old (found_as d new) before after p) (same clean) (it clean)
  printed_so (Err (Troubled trouble)) old p before after it =
      (it.0, it.1, λ clean. ((it.2 clean).0, subst (λ d. PrintsLess old (found_as d new) before after) (same clean) (it.2 clean).1))
  printed_so (Err (Faulty fault)) old p before after it =
      (it.0, λ clean. subst (λ d. PrintsLess old (found_as d new) before after) (same clean) (it.1 clean))

  pub sought_so : (read : Read) (old seeker : Seeker) → SeeksTaken read old (reading mid new) seeker → SeeksTaken read old (reading was new) seeker
  sought_so (Ok none) old s it = λ clean. subst (λ d. SeeksFound old (found_as d new) s) (same clean) (it clean)
  sought_so (Err why) old s it = (it.0, λ clean. ((it.1 clean).0, subst (λ d. SeeksLess old (found_as d new) s) (same clean) (it.1 clean).1))

  pub counted_so : (read : Read) (old checker : Checker) → CountsTaken read old (reading mid new) checker → CountsTaken read old (reading was new) checker
  counted_so (Ok none) old c it =
      λ clean. (subst IsArchive (same clean) (it clean).0, subst (λ (d : Database). CountsPart d.trees old.counts c.counts true) (same clean) (it clean).1)
  counted_so (Err (Troubled trouble)) old c it = λ clean. subst (λ d. CountsNot old (found_as d new) trouble c) (same clean) (it clean)
  counted_so (Err (Faulty fault)) old c it = it
