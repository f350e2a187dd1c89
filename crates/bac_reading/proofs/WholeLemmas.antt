-- What status 0 says of `check`.
use Rattle.std.proofs.Common.{◌≡◌, ◌⊎◌, ◌∙◌, ◌++◌, ◌∷◌, [], append-nil, inl, inr, sym, ap, subst, arith, ℕ, Bool, true, false, List, map, Option, option_copied, Result, Ok, Err}
use Rattle.std.specs.Io.KnownBytes.{Appends}
use Rattle.sqlite.specs.declared.error.Error.{Error}
use Rattle.bac_archive.specs.Schema.{no_schema}
use Rattle.bac_check.specs.Lines.{check_text}
use Rattle.bac_check.specs.declared.checking.Ending.TheVariants.{Apart, Missing}
use Rattle.bac_check.specs.declared.counts.Counts.{Counts}
use Rattle.bac_check.specs.declared.tally.Uncounted.{Uncounted}
use Rattle.bac_check.specs.declared.tally.Uncounted.TheVariants as uncounted
use Rattle.bac_files.specs.Parts.{PartRules, Reading}
use Rattle.bac_files.specs.declared.not_opened.NotOpened.{NotOpened}
use Rattle.bac_files.specs.declared.not_opened.NotOpened.TheVariants.{Empty}
use Rattle.bac_parts.specs.Visits.{At, Barred, Read as WasRead, Visit, Visits, VisitsEach, at_visit, path_of}
use Rattle.bac_parts.specs.declared.fault.FileFault.{FileFault}
use Rattle.bac_parts.specs.declared.fault.FileFault.TheVariants.{Database, Unopened}
use Rattle.bac_print.specs.Output.{Held}
use Rattle.bac_reading.specs.Checking.{ChecksArchive, CountsBy, CountsNot, counting}
use Rattle.bac_reading.specs.Fault.{of_uncounted, trouble_status}
use Rattle.bac_reading.specs.Laws.{CountsEach, CountsOn, EachPart, IsTaken, OnePart}
use Rattle.bac_reading.specs.Listing.{newest_of}
use Rattle.bac_reading.specs.Report.{Ends, came_to, goes_on}
use Rattle.bac_reading.specs.Scene.{Scene}
use Rattle.bac_reading.specs.Taking.{IsClean, IsUntaken, Read}
use Rattle.bac_reading.specs.declared.checking.Checker.{Checker}
use Rattle.bac_reading.specs.declared.fault.Fault.TheVariants.{Memory, Write}
use Rattle.bac_reading.specs.declared.fault.Stop.TheVariants.{Fault as Faulty, Trouble as Troubled}
use Rattle.bac_reading.specs.declared.fault.Trouble.{Trouble}
use Rattle.bac_reading.specs.declared.fault.Trouble.TheVariants.{Check, File}
use Rattle.bac_reading.specs.declared.report.Report.{Report}
use Rattle.bac_reading.proofs.ZeroLemmas.{closed_zero, ends_keeps, file_told, spared_so, stopped, told_zero, zero_before}

-- rows that aren't counted have a status, and aren't of a file that has nothing
uncounted_told : (why : Uncounted) → trouble_status (of_uncounted why) ≡ 0 → ⊥
uncounted_told (uncounted.Overlap epoch before row) zero = omega (arith, zero)
uncounted_told (uncounted.Backward epoch row) zero = omega (arith, zero)
uncounted_told uncounted.Memory zero = omega (arith, zero)
uncounted_told (uncounted.Database error) zero = omega (arith, zero)

uncounted_some : (why : Uncounted) → File (Unopened Empty) ≡ of_uncounted why → ⊥
uncounted_some (uncounted.Overlap epoch before row) is = absurd (let it = is in cc)
uncounted_some (uncounted.Backward epoch row) is = absurd (let it = is in cc)
uncounted_some uncounted.Memory is = absurd (let it = is in cc)
uncounted_some (uncounted.Database error) is = absurd (let it = is in cc)

pub same_trouble : (t u : Trouble) → ◌≡◌ {A = Read} (Err (Troubled t)) (Err (Troubled u)) → t ≡ u
same_trouble t u is = cc

pub same_file : (f u : FileFault) → File f ≡ File u → f ≡ u
same_file f u is = cc

-- ---- a part that was read

module _ (newest : Option (List ℕ)) (path : List ℕ) (found : Reading) (old read : Checker) (new : Report) (zero : new.status ≡ 0) (on : goes_on new ≡ true)
    (part : option_copied read.report.newest ≡ newest) where
  -- it was counted, or has nothing
  abbrev IsCounted : Type 0
  IsCounted = IsClean found → IsTaken CountsOn newest path found.found old.counts read.counts

  nothing : CountsBy (Err (Troubled (File (Unopened Empty)))) old found read → IsClean found → (found.found.schema ≡ no_schema) × (read.counts ≡ old.counts)
  nothing (inl ((why, is, untaken), counts)) clean =
      let so : Unopened Empty ≡ why = same_file (Unopened Empty) why (same_trouble _ _ is) in
      ((subst (IsUntaken found) (sym so) untaken).1, counts)
  nothing (inr taken) clean = go (taken clean)
    where
      go : CountsNot old found (File (Unopened Empty)) read → (found.found.schema ≡ no_schema) × (read.counts ≡ old.counts)
      go (archive, inl (is, joins)) = absurd (let it = is in cc)
      go (archive, inr (why, is, cause, counts)) = absurd (uncounted_some why is)

  -- what is wrong with it has a status
  status_some : (t : Trouble) → CountsBy (Err (Troubled t)) old found read → trouble_status t ≡ 0 → IsClean found → ⊥
  status_some t (inl ((why, is, untaken), counts)) none clean = file_told why (subst (λ u. trouble_status u ≡ 0) (same_trouble t (File why) is) none)
  status_some t (inr taken) none clean = go (taken clean)
    where
      go : CountsNot old found t read → ⊥
      go (archive, inl (is, joins)) = let e : trouble_status (Check Apart) ≡ 0 = subst (λ u. trouble_status u ≡ 0) is none in omega (arith, e)
      go (archive, inr (why, is, cause, counts)) = uncounted_told why (subst (λ u. trouble_status u ≡ 0) is none)

  troubled : (t : Trouble) → CountsBy (Err (Troubled t)) old found read → Ends path (Err (Troubled t)) read.report new → IsCounted
  troubled t by (inl (spared, is)) =
      let so = spared_so read.report path t spared in
      λ clean. let none = nothing (subst (λ u. CountsBy (Err (Troubled u)) old found read) so.0 by) clean in
      inr (sym part ∙ so.1, none.0, none.1)
  troubled t by (inr (told, tells)) = λ clean. absurd (status_some t by (told_zero path t read.report new tells zero on) clean)

  counted_read : (came : Read) (shut : Result (Unit {0}) Error) → CountsBy came old found read → Ends path (came_to came (Ok shut)) read.report new → IsCounted
  counted_read (Ok none) (Ok closed) (inl ((why, is, untaken), counts)) ends = absurd (let it = is in cc)
  counted_read (Ok none) (Ok closed) (inr taken) ends = λ clean. inl ((taken clean).0, (taken clean).1)
  counted_read (Ok none) (Err error) by (inl (spared, is)) = absurd (let no : false ≡ true = spared in cc)
  counted_read (Ok none) (Err error) by (inr (told, tells)) = absurd (file_told (Database error) (told_zero path (File (Database error)) read.report new tells zero on))
  counted_read (Err (Troubled t)) (Ok closed) by ends = troubled t by ends
  counted_read (Err (Troubled t)) (Err error) by ends = troubled t by ends
  counted_read (Err (Faulty fault)) (Ok closed) by ends = absurd (stopped new fault (ap (λ (r : Report). r.fault) ends) on)
  counted_read (Err (Faulty fault)) (Err error) by ends = absurd (stopped new fault (ap (λ (r : Report). r.fault) ends) on)

-- ---- parts that were visited

module _ {Q : Type 0} (rules : PartRules Q) where
  counts_end : (visit : Visit) (old new : At Q Checker) → Visits (counting rules) visit old new → (came : Read) × Ends (path_of visit) came old.visitor.report new.visitor.report
  counts_end (WasRead path found shut) old new (holds, still, (read, it, ends)) =
      (came_to read.came (Ok shut), subst (λ r. Ends path (came_to read.came (Ok shut)) r new.visitor.report) it.0 ends.0)
  counts_end (Barred path why) old new (bars, same, ends) = (came_to old.visitor.came (Err why), ends.0)

  -- nothing is printed meanwhile
  same_output : (visits : List Visit) (old new : At Q Checker) → VisitsEach (counting rules) visits old new → new.output ≡ old.output
  same_output [] old new same = ap (λ (a : At Q Checker). a.output) same
  same_output (WasRead path found shut ∷ more) old new (wants, (mid, (holds, still, (read, it, ends)), rest)) = same_output more mid new rest ∙ it.3
  same_output (Barred path why ∷ more) old new (wants, (mid, (bars, same, ends), rest)) = same_output more mid new rest ∙ same

  on_before : (visits : List Visit) (mid new : At Q Checker) → VisitsEach (counting rules) visits mid new → goes_on new.visitor.report ≡ true → goes_on mid.visitor.report ≡ true
  on_before [] mid new same on = subst (λ (a : At Q Checker). goes_on a.visitor.report ≡ true) same on
  on_before (visit ∷ more) mid new (wants, rest) on = wants

  one : (newest : Option (List ℕ)) (visit : Visit) (old new : At Q Checker) → Visits (counting rules) visit old new → new.visitor.report.status ≡ 0
      → goes_on new.visitor.report ≡ true → option_copied old.visitor.report.newest ≡ newest
      → OnePart rules CountsOn newest (path_of visit) old.parts old.visitor.counts new.parts new.visitor.counts
  one newest (WasRead path found shut) old new (holds, still, (read, it, ends)) zero on part =
      let is : new.visitor.counts ≡ read.counts = ap (λ (c : Checker). c.counts) ends.1 in
      let did = counted_read newest path found old.visitor read new.visitor.report zero on (ap (λ (r : Report). option_copied r.newest) it.0 ∙ part) read.came shut it.2 ends.0 in
      inl (found, holds, still, λ clean. subst (λ (n : Counts). IsTaken CountsOn newest path found.found old.visitor.counts n) (sym is) (did clean))
  one newest (Barred path why) old new (bars, same, ends) zero on part = go ends.0
    where
      go : Ends path (Err (Troubled (File (Unopened why)))) old.visitor.report new.visitor.report
          → OnePart rules CountsOn newest path old.parts old.visitor.counts new.parts new.visitor.counts
      go (inl (spared, is)) =
          let so = spared_so old.visitor.report path (File (Unopened why)) spared in
          let empty : why ≡ Empty = let f : Unopened why ≡ Unopened Empty = same_file (Unopened why) (Unopened Empty) so.0 in cc in
          inr (sym part ∙ so.1, subst (λ (w : NotOpened). rules.bars old.parts path w new.parts) empty bars, ap (λ (c : Checker). c.counts) ends.1)
      go (inr (told, tells)) = absurd (file_told (Unopened why) (told_zero path (File (Unopened why)) old.visitor.report new.visitor.report tells zero on))

  all : (newest : Option (List ℕ)) (visits : List Visit) (old new : At Q Checker) → VisitsEach (counting rules) visits old new
      → new.visitor.report.status ≡ 0 → goes_on new.visitor.report ≡ true → option_copied old.visitor.report.newest ≡ newest
      → EachPart rules CountsOn newest (map path_of visits) old.parts old.visitor.counts new.parts new.visitor.counts
  all newest [] old new same zero on part = (ap (λ (a : At Q Checker). a.parts) same, ap (λ (a : At Q Checker). a.visitor.counts) same)
  all newest (visit ∷ more) old new (wants, (mid, visits, rest)) zero on part =
      let before = zero_before (counting rules) (λ (c : Checker). c.report) counts_end more mid new rest zero in
      let it = counts_end visit old mid visits in
      let keeps = ends_keeps (path_of visit) it.0 old.visitor.report mid.visitor.report it.1 in (
        mid.parts,
        mid.visitor.counts,
        one newest visit old mid visits before.0 (on_before more mid new rest on) part,
        all newest more mid new rest zero on (ap option_copied keeps.1 ∙ part),
      )

  -- where nothing ended it before, all that are listed were visited
  pub all_visited : (paths newer : List (List ℕ)) (visits : List Visit) (report : Report) → paths ≡ map path_of visits ++ newer → (newer ≡ []) ⊎ (goes_on report ≡ false) → goes_on report ≡ true → map path_of visits ≡ paths
  all_visited paths newer visits report is (inl none) on = sym (is ∙ ap (λ l. map path_of visits ++ l) none ∙ append-nil (map path_of visits))
  all_visited paths newer visits report is (inr ended) on = absurd (let no : false ≡ true = sym ended ∙ on in cc)

  -- each part was counted
  pub counts_all : (name : List ℕ) (folder : Bool) (paths : List (List ℕ)) (old new : Scene Q) → ChecksArchive rules name folder paths old (Ok 0) new
      → CountsEach rules (newest_of 2 folder paths) paths old.output new.output old.parts new.parts
  counts_all name folder paths old new it =
      let last = closed_zero it.last.report old.errors new.errors it.closes in
      elim it.finishes [
        | inl w ↦ absurd (let no : false ≡ true = sym w.0 ∙ subst (λ (c : Checker). goes_on c.report ≡ true) w.1 last.1 in cc)
        | inr w ↦ elim w.1 [
          | inl a ↦
              let visits = it.reads.0 in
              let chain = it.reads.4 in
              let from = at_visit old.parts it.begun old.output in
              let to = at_visit new.parts it.read it.output in
              let zero : it.read.report.status ≡ 0 = subst (λ (c : Checker). c.report.status ≡ 0) a.1 last.0 in
              let paths' = all_visited paths it.reads.1 visits it.read.report it.reads.2 it.reads.5 w.0 in
              let did = all (newest_of 2 folder paths) visits from to chain zero w.0 it.unchecked.blank.newest_is in (
                it.begun.counts,
                it.read.counts,
                it.unchecked.empty,
                subst (λ (l : List (List ℕ)). EachPart rules CountsOn (newest_of 2 folder paths) l old.parts it.begun.counts new.parts it.read.counts) paths' did,
                a.0,
                subst (λ (h : Held). Appends h new.output (check_text it.read.counts)) (same_output visits from to chain) a.2,
              )
          | inr a ↦ absurd (elim a [
            | inl b ↦ let e : trouble_status (Check Missing) ≡ 0 = told_zero name (Check Missing) it.read.report it.last.report b.1 last.0 last.1 in omega (arith, e)
            | inr b ↦ elim b [
              | inl d ↦ stopped it.last.report Memory (ap (λ (r : Report). r.fault) d.0) last.1
              | inr d ↦ stopped it.last.report Write (ap (λ (r : Report). r.fault) d.0) last.1
            ]
          ])
        ]
      ]
