-- Words that are wrong are the one reason why `kept` ends with 1.
use Rattle.std.proofs.Common.{◌≡◌, ◌∙◌, inl, inr, refl, sym, subst, arith, ℕ, Result, Ok, Err}
use Rattle.bac_files.specs.Parts.{Listing, PartRules}
use Rattle.bac_socket_notes.specs.Notes.{nothing}
use Rattle.bac_laws.proofs.Statuses.{Ended, ended}
use Rattle.bac_print.specs.Output.{Held}
use Rattle.bac_reading.proofs.StatusLemmas.{one_is_none}
use Rattle.bac_reading.specs.Program.{RunsKept}
use Rattle.bac_reading.specs.Scene.{Scene}
use Rattle.bac_reading.specs.declared.fault.Fault.{Fault}
use Rattle.bac_reading.specs.declared.fault.Fault.TheVariants as fault
use Rattle.bac_reading.specs.declared.program.Asked.{Asked}
use Rattle.bac_run.specs.Faults.{of_read, read_ending}
use Rattle.bac_run.specs.Reading.{PrintsKept}
use Rattle.bac_tools.specs.Run.{Ends}
use Rattle.bac_tools.specs.Status.{exit_status}
use Rattle.bac_command_line.specs.declared.job.Kept.{Kept}

-- the status of a fault isn't 1
no_fault : (f : Fault) (now errors : Held) (status : ℕ) → Ends nothing (read_ending (Err f)) now errors status → status ≡ 1 → ⊥
no_fault f now errors status ends one = by f (ended nothing (read_ending (Err f)) (of_read f) now errors status refl ends)
  where
    by : (f : Fault) → Ended (exit_status (of_read f)) status → ⊥
    by fault.Memory (inl is) = absurd (omega (arith, is, one))
    by fault.Memory (inr (more, is)) = absurd (omega (arith, is, one))
    by fault.Write (inl is) = absurd (omega (arith, is, one))
    by fault.Write (inr (more, is)) = absurd (omega (arith, is, one))

module _ {Q : Type 0} (rules : PartRules Q) where
  no_run : (asked : Asked) (listing : Listing) (old new : Scene Q) (result : Result ℕ Fault) (now errors : Held) (status : ℕ)
      → RunsKept rules asked listing old result new → Ends nothing (read_ending result) now errors status → status ≡ 1 → ⊥
  no_run asked listing old new (Ok n) now errors status did ends one =
      one_is_none rules asked listing old new (subst (λ (m : ℕ). RunsKept rules asked listing old (Ok m) new) (sym ends.0 ∙ one) did)
  no_run asked listing old new (Err f) now errors status did ends one = no_fault f now errors status ends one

  -- nothing is printed, and no part is looked for
  pub unfit : (said : Kept) (old : Scene Q) (status : ℕ) (new : Scene Q) → PrintsKept rules said old status new → status ≡ 1
      → (new.output ≡ old.output) × (new.parts ≡ old.parts)
  unfit said old status new (inl (fault, is, told, same, output)) one = (output, same)
  unfit said old status new (inr (device, named, asked, is, (listing, listed, lists, result, now, did, ends))) one =
      absurd (no_run asked listing _ _ result now new.errors status did ends one)
