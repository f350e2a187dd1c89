-- What status 0 says of a whole run.
use Rattle.std.proofs.Common.{◌≡◌, ◌∙◌, inl, inr, sym, ap, subst, ℕ, true, false, List, None, Some, Result, Ok, Err}
use Rattle.bac_files.specs.Parts.{Listing, PartRules}
use Rattle.bac_parts.specs.declared.fault.FileFault.TheVariants.{Unopened}
use Rattle.bac_print.specs.Output.{Held}
use Rattle.bac_reading.specs.Laws.{ZeroIsWhole, ZeroPrintsEach}
use Rattle.bac_reading.specs.Listing.{IsUnlisted, is_folder, unopened}
use Rattle.bac_reading.specs.Report.{Ends, goes_on}
use Rattle.bac_reading.specs.Scene.{TellsAlone}
use Rattle.bac_reading.specs.declared.fault.Fault.{Fault}
use Rattle.bac_reading.specs.declared.fault.Fault.TheVariants.{Memory}
use Rattle.bac_reading.specs.declared.fault.Stop.{Stop}
use Rattle.bac_reading.specs.declared.fault.Stop.TheVariants.{Fault as Faulty}
use Rattle.bac_reading.specs.declared.fault.Trouble.TheVariants.{File}
use Rattle.bac_reading.specs.declared.report.Report.{Report}
use Rattle.bac_reading.proofs.EachLemmas.{each}
use Rattle.bac_reading.proofs.WholeLemmas.{counts_all}
use Rattle.bac_reading.proofs.ZeroLemmas.{closed_zero, file_told, spared_so, stopped, told_zero}

-- why no part is read is told
none_read : (name : List ℕ) (listing : Listing) (why : Stop) (before after : Held) → IsUnlisted name listing why → TellsAlone name why before after (Ok 0) → ⊥
none_read name listing why before after unlisted (blank, report, is, ends, closes) = by unlisted
  where
    last : (report.status ≡ 0) × (goes_on report ≡ true)
    last = closed_zero report before after closes

    by : IsUnlisted name listing why → ⊥
    by (inl memory) =
        let end : Ends name (Err (Faulty Memory)) blank report = subst (λ (w : Stop). Ends name (Err w) blank report) memory ends in
        stopped report Memory (ap (λ (r : Report). r.fault) end) last.1
    by (inr (reason, parts, is')) = go (subst (λ (w : Stop). Ends name (Err w) blank report) is' ends)
      where
        go : Ends name (Err (unopened reason)) blank report → ⊥
        go (inl (spared, same)) = absurd (let e : None ≡ Some name = sym is.newest_is ∙ (spared_so blank name (File (Unopened reason)) spared).1 in cc)
        go (inr (some, tells)) = file_told (Unopened reason) (told_zero name (File (Unopened reason)) blank report tells last.0 last.1)

module _ {P : Type 0} (rules : PartRules P) where
  pub prints_each : ZeroPrintsEach rules
  prints_each asked listing old new (inl (why, unlisted, tells, same, output)) all = absurd (none_read asked.file.now listing why old.errors new.errors unlisted tells)
  prints_each asked listing old new (inr (paths, parts, inl (dated, inl (why, is, same, errors, text)))) all =
      absurd (let no : ◌≡◌ {A = Result ℕ Fault} (Ok 0) (Err why) = is in cc)
  prints_each asked listing old new (inr (paths, parts, inl (dated, inr it))) all = (paths, parts, each rules asked (is_folder listing) paths old new it)
  prints_each asked listing old new (inr (paths, parts, inr (last, it))) all = absurd (let no : true ≡ false = sym last ∙ all in cc)

  pub is_whole : ZeroIsWhole rules
  is_whole name listing old new (inl (why, unlisted, tells, same, output)) = absurd (none_read name listing why old.errors new.errors unlisted tells)
  is_whole name listing old new (inr (paths, parts, it)) = (paths, parts, counts_all rules name (is_folder listing) paths old new it)
