-- What status 0 says.
use Rattle.std.proofs.Common.{◌≡◌, ◌∙◌, ◌≤◌, inl, inr, refl, sym, ap, subst, arith, ℕ, true, false, List, [], ◌∷◌, Option, None, Some, is_none, option_copied, Result, Ok, Err, Bor}
use Rattle.std.proofs.Math.Nat.{le-max_left}
use Rattle.std.proofs.lemmas.Slice.Eq.{bytes_eq-Decides}
use Rattle.std.specs.Str.{bytes_eq}
use Rattle.bac_files.specs.declared.not_opened.NotOpened.TheVariants as unopened
use Rattle.bac_parts.specs.Faults.{fault_status}
use Rattle.bac_parts.specs.Visits.{At, Visit, VisitRules, Visits, VisitsEach, path_of}
use Rattle.bac_parts.specs.declared.fault.FileFault.{FileFault}
use Rattle.bac_parts.specs.declared.fault.FileFault.TheVariants.{Database, Refused, Unopened}
use Rattle.bac_print.specs.Output.{Held}
use Rattle.bac_reading.specs.Fault.{trouble_status}
use Rattle.bac_reading.specs.Report.{Closes, Ends, Tells, goes_on, is_spared}
use Rattle.bac_reading.specs.Taking.{Read}
use Rattle.bac_reading.specs.declared.fault.Fault.{Fault}
use Rattle.bac_reading.specs.declared.fault.Fault.TheVariants.{Memory}
use Rattle.bac_reading.specs.declared.fault.Stop.TheVariants.{Fault as Faulty, Trouble as Troubled}
use Rattle.bac_reading.specs.declared.fault.Trouble.{Trouble}
use Rattle.bac_reading.specs.declared.fault.Trouble.TheVariants.{Check, File, NoLog}
use Rattle.bac_reading.specs.declared.report.Report.{Report}

-- a file that is no use has a status
pub file_told : (why : FileFault) → fault_status why ≡ 0 → ⊥
file_told (Unopened unopened.InUse) zero = omega (arith, zero)
file_told (Unopened unopened.Absent) zero = omega (arith, zero)
file_told (Unopened unopened.Empty) zero = omega (arith, zero)
file_told (Unopened (unopened.Barred obstacle)) zero = omega (arith, zero)
file_told (Unopened unopened.Memory) zero = omega (arith, zero)
file_told (Unopened (unopened.Database error)) zero = omega (arith, zero)
file_told (Refused why) zero = omega (arith, zero)
file_told (Database error) zero = omega (arith, zero)

-- a tool that ends there doesn't go on
pub stopped : (report : Report) (fault : Fault) → report.fault ≡ Some fault → goes_on report ≡ true → ⊥
stopped report fault is on = let no : false ≡ true = sym (ap (λ (f : Option Fault). is_none f) is) ∙ on in cc

-- what is told raises the status
pub told_zero : (path : List ℕ) (trouble : Trouble) (old new : Report) → Tells path trouble old new → new.status ≡ 0 → goes_on new ≡ true → trouble_status trouble ≡ 0
told_zero path trouble old new (inl (lines, are, text, status, fault, newest)) zero on = omega (arith, status, zero, le-max_left (trouble_status trouble) old.status)
told_zero path trouble old new (inr (text, status, fault, newest)) zero on = absurd (stopped new Memory fault on)

tells_keeps : (path : List ℕ) (trouble : Trouble) (old new : Report) → Tells path trouble old new → (old.status ≤ new.status) × (new.newest ≡ old.newest)
tells_keeps path trouble old new (inl (lines, are, text, status, fault, newest)) = (omega (arith, status, le-max_left old.status (trouble_status trouble)), newest)
tells_keeps path trouble old new (inr (text, status, fault, newest)) = (omega (arith, status), newest)

-- no status falls, and the newest part is the same
pub ends_keeps : (path : List ℕ) (came : Read) (old new : Report) → Ends path came old new → (old.status ≤ new.status) × (new.newest ≡ old.newest)
ends_keeps path (Ok none) old new is = (omega (arith, ap (λ (r : Report). r.status) is), ap (λ (r : Report). r.newest) is)
ends_keeps path (Err (Troubled trouble)) old new (inl (spared, is)) = (omega (arith, ap (λ (r : Report). r.status) is), ap (λ (r : Report). r.newest) is)
ends_keeps path (Err (Troubled trouble)) old new (inr (told, tells)) = tells_keeps path trouble old new tells
ends_keeps path (Err (Faulty fault)) old new is = (omega (arith, ap (λ (r : Report). r.status) is), ap (λ (r : Report). r.newest) is)

-- that is the newest part
newest_so : (newest : Option (Bor (List ℕ))) (path : List ℕ) → (elim newest [ None ↦ false | Some n ↦ bytes_eq n.now path ]) ≡ true → option_copied newest ≡ Some path
newest_so None path is = absurd (let no : false ≡ true = is in cc)
newest_so (Some n) path is = ap Some ((bytes_eq-Decides n.now path).0 is)

-- that the newest part has nothing isn't told, and nothing else
pub spared_so : (report : Report) (path : List ℕ) (trouble : Trouble) → is_spared report path trouble ≡ true → (trouble ≡ File (Unopened unopened.Empty)) × (option_copied report.newest ≡ Some path)
spared_so report path (File (Unopened unopened.Empty)) is = (refl, newest_so report.newest path is)
spared_so report path (File (Unopened unopened.InUse)) is = absurd (let no : false ≡ true = is in cc)
spared_so report path (File (Unopened unopened.Absent)) is = absurd (let no : false ≡ true = is in cc)
spared_so report path (File (Unopened (unopened.Barred obstacle))) is = absurd (let no : false ≡ true = is in cc)
spared_so report path (File (Unopened unopened.Memory)) is = absurd (let no : false ≡ true = is in cc)
spared_so report path (File (Unopened (unopened.Database error))) is = absurd (let no : false ≡ true = is in cc)
spared_so report path (File (Refused why)) is = absurd (let no : false ≡ true = is in cc)
spared_so report path (File (Database error)) is = absurd (let no : false ≡ true = is in cc)
spared_so report path NoLog is = absurd (let no : false ≡ true = is in cc)
spared_so report path (Check end) is = absurd (let no : false ≡ true = is in cc)

-- a tool that ended with 0
pub closed_zero : (report : Report) (before after : Held) → Closes report before after (Ok 0) → (report.status ≡ 0) × (goes_on report ≡ true)
closed_zero report before after it = by report.fault refl
  where
    by : (f : Option Fault) → report.fault ≡ f → (report.status ≡ 0) × (goes_on report ≡ true)
    by None is = let same : ◌≡◌ {A = Result ℕ Fault} (Ok 0) (Ok report.status) = it.0 ∙ ap (λ (f : Option Fault). elim f [ None ↦ Ok report.status | Some fault ↦ Err fault ]) is in
        (cc, ap (λ (f : Option Fault). is_none f) is)
    by (Some fault) is = absurd (let no : ◌≡◌ {A = Result ℕ Fault} (Ok 0) (Err fault) = it.0 ∙ ap (λ (f : Option Fault). elim f [ None ↦ Ok report.status | Some why ↦ Err why ]) is in cc)

-- ---- parts that were visited

module _ {P V : Type 0} (rules : VisitRules P V) (report : V → Report)
    (ends : (visit : Visit) (old new : At P V) → Visits rules visit old new → (came : Read) × Ends (path_of visit) came (report old.visitor) (report new.visitor)) where
  -- where nothing is told in the end, nothing was before
  pub zero_before : (visits : List Visit) (old new : At P V) → VisitsEach rules visits old new → (report new.visitor).status ≡ 0
      → ((report old.visitor).status ≡ 0) × ((report new.visitor).newest ≡ (report old.visitor).newest)
  zero_before [] old new same zero = (subst (λ (a : At P V). (report a.visitor).status ≡ 0) same zero, ap (λ (a : At P V). (report a.visitor).newest) same)
  zero_before (visit ∷ more) old new (wants, (mid, one, rest)) zero =
      let later = zero_before more mid new rest zero in
      let it = ends visit old mid one in
      let keeps = ends_keeps (path_of visit) it.0 (report old.visitor) (report mid.visitor) it.1 in
      (omega (arith, keeps.0, later.0), later.1 ∙ keeps.1)
