-- What status 0 says of `kept`.
use Rattle.std.proofs.Common.{◌≡◌, ◌⊎◌, ◌∙◌, ◌∷◌, ◌==◌, ◌&&◌, not, [], inl, inr, refl, sym, ap, subst, arith, ℕ, Bool, true, false, List, map, Option, option_copied, Result, Ok, Err}
use Rattle.sqlite.specs.declared.error.Error.{Error}
use Rattle.bac_archive.specs.Schema.{no_schema}
use Rattle.bac_files.specs.Parts.{PartRules, Reading}
use Rattle.bac_files.specs.declared.not_opened.NotOpened.{NotOpened}
use Rattle.bac_files.specs.declared.not_opened.NotOpened.TheVariants.{Empty}
use Rattle.bac_kept.specs.declared.seen.Seen.{Seen}
use Rattle.bac_kept.specs.declared.words.Choice.{Choice}
use Rattle.bac_kept.specs.declared.words.Words.{Words}
use Rattle.bac_parts.specs.Visits.{At, Barred, Read as WasRead, Visit, Visits, VisitsEach, at_visit, path_of}
use Rattle.bac_parts.specs.declared.fault.FileFault.TheVariants.{Database, Unopened}
use Rattle.bac_print.specs.Output.{Held}
use Rattle.bac_reading.specs.Fault.{trouble_status}
use Rattle.bac_reading.specs.Kept.{PrintsBy, PrintsFound, PrintsParts, printing}
use Rattle.bac_reading.specs.Laws.{EachPart, IsTaken, OnePart, PrintsEach, PrintsItsRows, SoFar}
use Rattle.bac_reading.specs.Listing.{newest_of}
use Rattle.bac_reading.specs.Report.{Ends, Settles, came_to, chooses_all, goes_on}
use Rattle.bac_reading.specs.Scene.{Scene}
use Rattle.bac_reading.specs.Taking.{IsClean, IsUntaken, Read}
use Rattle.bac_reading.specs.declared.fault.Fault.{Fault}
use Rattle.bac_reading.specs.declared.fault.Stop.TheVariants.{Fault as Faulty, Trouble as Troubled}
use Rattle.bac_reading.specs.declared.fault.Trouble.{Trouble}
use Rattle.bac_reading.specs.declared.fault.Trouble.TheVariants.{File, NoLog}
use Rattle.bac_reading.specs.declared.kept.Printer.{Printer}
use Rattle.bac_reading.specs.declared.program.Asked.{Asked}
use Rattle.bac_reading.specs.declared.report.Report.{Report}
use Rattle.bac_reading.proofs.WholeLemmas.{all_visited, same_file, same_trouble}
use Rattle.bac_reading.proofs.ZeroLemmas.{closed_zero, ends_keeps, file_told, spared_so, stopped, told_zero, zero_before}

abbrev made : Seen → Bool → Bool → Held → SoFar
made seen names any output = record { seen = seen; names = names; any = any; output = output }

-- what a printer has printed so far, where the output has this
abbrev so_far : Printer → Held → SoFar
so_far printer output = made printer.seen printer.names printer.has_any output

same_so_far : (old new : Printer) (before after : Held) → after ≡ before → new.seen ≡ old.seen → new.names ≡ old.names → new.has_any ≡ old.has_any
    → so_far new after ≡ so_far old before
same_so_far old new before after out seen names any =
    ap (λ (s : Seen). made s new.names new.has_any after) seen ∙ ap (λ (n : Bool). made old.seen n new.has_any after) names
    ∙ ap (λ (a : Bool). made old.seen old.names a after) any ∙ ap (λ (o : Held). made old.seen old.names old.has_any o) out

-- ---- a part that was read

module _ (newest : Option (List ℕ)) (path : List ℕ) (found : Reading) (old read : Printer) (before after : Held) (new : Report) (zero : new.status ≡ 0) (on : goes_on new ≡ true)
    (part : option_copied read.report.newest ≡ newest) where
  -- it was printed, or has nothing
  abbrev IsPrinted : Type 0
  IsPrinted = IsClean found → IsTaken (PrintsItsRows old.words) newest path found.found (so_far old before) (so_far read after)

  nothing : PrintsBy (Err (Troubled (File (Unopened Empty)))) old found before after read → IsClean found
      → (found.found.schema ≡ no_schema) × (so_far read after ≡ so_far old before)
  nothing (inl ((why, is, untaken), (out, seen, names, any))) clean =
      let so : Unopened Empty ≡ why = same_file (Unopened Empty) why (same_trouble _ _ is) in
      ((subst (IsUntaken found) (sym so) untaken).1, same_so_far old read before after out seen names any)
  nothing (inr (any, names, taken)) clean =
      let is = (taken clean).0.1 in
      absurd (let e : Unopened Empty ≡ Database (taken clean).0.0 = same_file (Unopened Empty) (Database (taken clean).0.0) is in cc)

  -- what is wrong with it has a status
  status_some : (t : Trouble) → PrintsBy (Err (Troubled t)) old found before after read → trouble_status t ≡ 0 → IsClean found → ⊥
  status_some t (inl ((why, is, untaken), unprinted)) none clean = file_told why (subst (λ u. trouble_status u ≡ 0) (same_trouble t (File why) is) none)
  status_some t (inr (any, names, taken)) none clean =
      file_told (Database (taken clean).0.0) (subst (λ u. trouble_status u ≡ 0) (taken clean).0.1 none)

  troubled : (t : Trouble) → PrintsBy (Err (Troubled t)) old found before after read → Ends path (Err (Troubled t)) read.report new → IsPrinted
  troubled t by (inl (spared, is)) =
      let so = spared_so read.report path t spared in
      λ clean. let none = nothing (subst (λ u. PrintsBy (Err (Troubled u)) old found before after read) so.0 by) clean in
      inr (sym part ∙ so.1, none.0, none.1)
  troubled t by (inr (told, tells)) = λ clean. absurd (status_some t by (told_zero path t read.report new tells zero on) clean)

  rows : PrintsFound old found before after read → PrintsItsRows old.words found.found (so_far old before) (so_far read after)
  rows it = record { known = it.known; told = it.told; text = it.text; is = it.is; printed = it.printed; any = it.any; names = it.names }

  printed_read : (came : Read) (shut : Result (Unit {0}) Error) → PrintsBy came old found before after read → Ends path (came_to came (Ok shut)) read.report new → IsPrinted
  printed_read (Ok none) (Ok closed) (inl ((why, is, untaken), unprinted)) ends = absurd (let it = is in cc)
  printed_read (Ok none) (Ok closed) (inr taken) ends = λ clean. inl ((taken clean).archive, rows (taken clean))
  printed_read (Ok none) (Err error) by (inl (spared, is)) = absurd (let no : false ≡ true = spared in cc)
  printed_read (Ok none) (Err error) by (inr (told, tells)) = absurd (file_told (Database error) (told_zero path (File (Database error)) read.report new tells zero on))
  printed_read (Err (Troubled t)) (Ok closed) by ends = troubled t by ends
  printed_read (Err (Troubled t)) (Err error) by ends = troubled t by ends
  printed_read (Err (Faulty fault)) (Ok closed) by ends = absurd (stopped new fault (ap (λ (r : Report). r.fault) ends) on)
  printed_read (Err (Faulty fault)) (Err error) by ends = absurd (stopped new fault (ap (λ (r : Report). r.fault) ends) on)

-- ---- parts that were visited

module _ {Q : Type 0} (rules : PartRules Q) where
  pub prints_end : (visit : Visit) (old new : At Q Printer) → Visits (printing rules) visit old new → (came : Read) × Ends (path_of visit) came old.visitor.report new.visitor.report
  prints_end (WasRead path found shut) old new (holds, still, (read, it, ends)) =
      (came_to read.came (Ok shut), subst (λ r. Ends path (came_to read.came (Ok shut)) r new.visitor.report) it.1 ends.0)
  prints_end (Barred path why) old new (bars, same, ends) = (came_to old.visitor.came (Err why), ends.0)

  prints_words : (visit : Visit) (old new : At Q Printer) → Visits (printing rules) visit old new → new.visitor.words ≡ old.visitor.words
  prints_words (WasRead path found shut) old new (holds, still, (read, it, ends)) = ap (λ (p : Printer). p.words) ends.1 ∙ it.0
  prints_words (Barred path why) old new (bars, same, ends) = ap (λ (p : Printer). p.words) ends.1

  on_before : (visits : List Visit) (mid new : At Q Printer) → VisitsEach (printing rules) visits mid new → goes_on new.visitor.report ≡ true → goes_on mid.visitor.report ≡ true
  on_before [] mid new same on = subst (λ (a : At Q Printer). goes_on a.visitor.report ≡ true) same on
  on_before (visit ∷ more) mid new (wants, rest) on = wants

  abbrev at : At Q Printer → SoFar
  at a = so_far a.visitor a.output

  one : (newest : Option (List ℕ)) (visit : Visit) (old new : At Q Printer) → Visits (printing rules) visit old new → new.visitor.report.status ≡ 0
      → goes_on new.visitor.report ≡ true → option_copied old.visitor.report.newest ≡ newest
      → OnePart rules (PrintsItsRows old.visitor.words) newest (path_of visit) old.parts (at old) new.parts (at new)
  one newest (WasRead path found shut) old new (holds, still, (read, it, ends)) zero on part =
      let is : at new ≡ so_far read new.output = ap (λ (p : Printer). so_far p new.output) ends.1 in
      let did = printed_read newest path found old.visitor read old.output new.output new.visitor.report zero on (ap (λ (r : Report). option_copied r.newest) it.1 ∙ part) read.came shut it.3 ends.0 in
      inl (found, holds, still, λ clean. subst (λ (x : SoFar). IsTaken (PrintsItsRows old.visitor.words) newest path found.found (at old) x) (sym is) (did clean))
  one newest (Barred path why) old new (bars, same, ends) zero on part = go ends.0
    where
      is : at new ≡ at old
      is = ap (λ (p : Printer). so_far p new.output) ends.1 ∙ ap (λ (o : Held). so_far old.visitor o) same

      go : Ends path (Err (Troubled (File (Unopened why)))) old.visitor.report new.visitor.report
          → OnePart rules (PrintsItsRows old.visitor.words) newest path old.parts (at old) new.parts (at new)
      go (inl (spared, unchanged)) =
          let so = spared_so old.visitor.report path (File (Unopened why)) spared in
          let empty : why ≡ Empty = let f : Unopened why ≡ Unopened Empty = same_file (Unopened why) (Unopened Empty) so.0 in cc in
          inr (sym part ∙ so.1, subst (λ (w : NotOpened). rules.bars old.parts path w new.parts) empty bars, is)
      go (inr (told, tells)) = absurd (file_told (Unopened why) (told_zero path (File (Unopened why)) old.visitor.report new.visitor.report tells zero on))

  all : (newest : Option (List ℕ)) (words : Words) (visits : List Visit) (old new : At Q Printer) → VisitsEach (printing rules) visits old new
      → new.visitor.report.status ≡ 0 → goes_on new.visitor.report ≡ true → option_copied old.visitor.report.newest ≡ newest → old.visitor.words ≡ words
      → EachPart rules (PrintsItsRows words) newest (map path_of visits) old.parts (at old) new.parts (at new)
  all newest words [] old new same zero on part of = (ap (λ (a : At Q Printer). a.parts) same, ap at same)
  all newest words (visit ∷ more) old new (wants, (mid, visits, rest)) zero on part of =
      let before = zero_before (printing rules) (λ (p : Printer). p.report) prints_end more mid new rest zero in
      let it = prints_end visit old mid visits in
      let keeps = ends_keeps (path_of visit) it.0 old.visitor.report mid.visitor.report it.1 in
      let first = one newest visit old mid visits before.0 (on_before more mid new rest on) part in (
        mid.parts,
        at mid,
        subst (λ (w : Words). OnePart rules (PrintsItsRows w) newest (path_of visit) old.parts (at old) mid.parts (at mid)) of first,
        all newest words more mid new rest zero on (ap option_copied keeps.1 ∙ part) (prints_words visit old mid visits ∙ of),
      )

  all_words : (visits : List Visit) (old new : At Q Printer) → VisitsEach (printing rules) visits old new → new.visitor.words ≡ old.visitor.words
  all_words [] old new same = ap (λ (a : At Q Printer). a.visitor.words) same
  all_words (visit ∷ more) old new (wants, (mid, visits, rest)) = all_words more mid new rest ∙ prints_words visit old mid visits

  -- where nothing was told and no log was chosen, each was asked for
  chosen : (status : ℕ) (any every : Bool) → status ≡ 0 → ((status == 0) && (not any && not every)) ≡ false → (every ≡ true) ⊎ (any ≡ true)
  chosen status any true zero is = inl refl
  chosen status true false zero is = inr refl
  chosen status false false zero is = absurd (let e : true ≡ false = subst (λ n. ((n == 0) && true) ≡ false) zero is in cc)

  -- what was settled where nothing is told
  settled : (name : List ℕ) (words : Choice) (printed : Result Bool Fault) (any : Bool) (old new : Report) → printed ≡ Ok any ⊎ ((fault : Fault) × (printed ≡ Err fault)) → Settles name words printed old new
      → new.status ≡ 0 → goes_on new ≡ true → (old.status ≡ 0) × ((chooses_all words ≡ true) ⊎ (any ≡ true))
  settled name words (Ok some) any old new (inr (fault, is)) it zero on = absurd (let e = is in cc)
  settled name words (Ok some) any old new (inl is) (inl (test, tells)) zero on =
      absurd (let e : trouble_status NoLog ≡ 0 = told_zero name NoLog old new tells zero on in omega (arith, e))
  settled name words (Ok some) any old new (inl is) (inr (test, same)) zero on =
      let status : old.status ≡ 0 = subst (λ (r : Report). r.status ≡ 0) same zero in
      let so : some ≡ any = let e = is in cc in
      (status, chosen old.status any (chooses_all words) status (subst (λ b. ((old.status == 0) && (not b && not (chooses_all words))) ≡ false) so test))
  settled name words (Err fault) any old new is it zero on = absurd (stopped new fault (ap (λ (r : Report). r.fault) it) on)

  -- each part was printed
  pub each : (asked : Asked) (folder : Bool) (paths : List (List ℕ)) (old new : Scene Q) → PrintsParts rules asked folder paths old (Ok 0) new
      → PrintsEach rules asked.words folder paths old.output new.output old.parts new.parts
  each asked folder paths old new it =
      let last = closed_zero it.last.report old.errors new.errors it.closes in
      elim it.finishes [
        | inl w ↦ absurd (let no : false ≡ true = sym w.0 ∙ subst (λ (p : Printer). goes_on p.report ≡ true) w.1 last.1 in cc)
        | inr w ↦
            let either : (w.2.0 ≡ Ok it.read.has_any) ⊎ ((fault : Fault) × (w.2.0 ≡ Err fault)) = elim w.2.1 [ inl is ↦ inl is | inr is ↦ inr (_, is) ] in
            let so = settled asked.file.now it.read.words.choice w.2.0 it.read.has_any it.read.report it.last.report either w.2.2 last.0 last.1 in
            let visits = it.reads.0 in
            let chain = it.reads.4 in
            let from = at_visit old.parts it.begun it.first in
            let to = at_visit new.parts it.read it.output in
            let paths' = all_visited rules paths it.reads.1 visits it.read.report it.reads.2 it.reads.5 w.0 in
            let words : it.read.words ≡ asked.words = all_words visits from to chain ∙ it.fresh.words_are in
            let did = all (newest_of 1 folder paths) asked.words visits from to chain so.0 w.0 it.fresh.blank.newest_is it.fresh.words_are in (
              so_far it.begun it.first,
              so_far it.read it.output,
              record { seen = it.fresh.seen; names = it.fresh.names; any = it.fresh.any; output = it.named },
              subst (λ (l : List (List ℕ)). EachPart rules (PrintsItsRows asked.words) (newest_of 1 folder paths) l old.parts (so_far it.begun it.first) new.parts (so_far it.read it.output)) paths' did,
              w.1,
              subst (λ (x : Words). (chooses_all x.choice ≡ true) ⊎ (it.read.has_any ≡ true)) words so.1,
            )
      ]
