-- A part that is begun, from one function to the next.
use Rattle.std.proofs.Common.{◌≡◌, ◌⊎◌, ◌∙◌, inl, inr, refl, Bool, true, false, List, [], ℕ, Option, None, Some, String, Global, IfErr, IfOk, IfSome, OnOk, OnErr, Result, Ok, Err, IsSomeAnd, subst, sym}
use Rattle.std.specs.String.{string_bytes}
use Rattle.sqlite_disk.specs.declared.Disk as disk
use Rattle.sqlite_disk.specs.declared.start.Start as start
use Rattle.sqlite_wal.specs.Recovery.{Image}
use Rattle.sqlite.specs.Effect.{Database}
use Rattle.bac_archive.specs.Follow.{puts_of}
use Rattle.bac_archive.specs.Making.{IsMadeOf}
use Rattle.bac_archive.specs.Schema.{no_schema}
use Rattle.bac_archive.specs.declared.standing.Standing.{Standing}
use Rattle.bac_files.specs.Files.{FileOf}
use Rattle.bac_files.specs.declared.disk_files.DiskFiles.{DiskFiles}
use Rattle.bac_parts.proofs.ArchiveLemmas.{made_has, not_both}
use Rattle.bac_parts.proofs.FileLemmas.{done_so}
use Rattle.bac_parts.specs.Archives.{IsTakenAs}
use Rattle.bac_parts.specs.Begun.{Begins, BeginsAs, FillsFrom, IsBegunAs, IsToldBefore}

pub on_ok_so : {T E : Type 0} (r : Result T E) (X Y : Type 0) → (X → Y) → OnOk r X → OnOk r Y
on_ok_so (Ok v) X Y f it = f it
on_ok_so (Err e) X Y f it = tt

pub if_err_so : {T E : Type 0} (r : Result T E) (P Q : E → Type 0) → ((e : E) → P e → Q e) → IfErr r P → IfErr r Q
if_err_so (Ok v) P Q f it = tt
if_err_so (Err e) P Q f it = f e it

-- what holds of what a result is holds of it
pub ok_is : {T E : Type 0} (r is : Result T E) (P : T → Type 0) → r ≡ is → IfOk is P → IfOk r P
ok_is r is P same it = subst (λ (x : Result _ _). IfOk x P) (sym same) it

pub err_is : {T E : Type 0} (r is : Result T E) (P : E → Type 0) → r ≡ is → IfErr is P → IfErr r P
err_is r is P same it = subst (λ (x : Result _ _). IfErr x P) (sym same) it

-- what is taken of a database that was filled
pub filled_as : (told : Standing) (made : List ℕ) (found filled archive : Database) → found.schema ≡ no_schema → IsMadeOf (string_bytes told.made) filled (puts_of told) → IsTakenAs made filled archive
    → BeginsAs (Some told) made found archive
filled_as told made found filled archive none of taken = record {
  is = taken.is;
  same = λ has. absurd (not_both found.schema none has);
  fit = inr none;
  fills = λ _. subst (λ (d : Database). IsMadeOf (string_bytes told.made) d (puts_of told)) (sym (taken.same (made_has _ filled _ of))) of;
}

-- what is taken of one that wasn't
pub taken_as : (made : List ℕ) (found archive : Database) → IsTakenAs made found archive → BeginsAs None made found archive
taken_as made found archive taken = record { is = taken.is; same = taken.same; fit = taken.fit; fills = taken.new }

module _ {G : Type 0} {s : start.Ghosts G} (g : disk.Ghosts (FileOf s)) (image : Image) (made : List ℕ) (parts : DiskFiles G s) (found archive : Database) (has_nothing : Bool) where
  -- a database is filled from what the part before told, so it follows on that
  pub begins_so : (before : Option (String Global)) (told : Option Standing) → (found.schema ≡ no_schema → has_nothing ≡ true) → IsToldBefore g image has_nothing before parts told
      → FillsFrom told made archive → found.schema ≡ no_schema → Begins g image made before parts archive
  begins_so before None has (inl alone) fills none = subst (λ (b : Option (String Global)). Begins g image made b parts archive) (sym alone) fills
  begins_so before None has (inr some) fills none = let no : false ≡ true = sym some ∙ has none in cc
  begins_so None (Some told) has it fills none = absurd it.1
  begins_so (Some path) (Some told) has it fills none =
      (it.1.0, it.1.1, done_so g image _ _ (λ was left tells. (tells.0, (told, tells.1, fills), tells.2)) parts.closed it.1.2)

  -- it begins so
  pub begun_as : (before : Option (String Global)) (told : Option Standing) → (found.schema ≡ no_schema → has_nothing ≡ true) → IsToldBefore g image has_nothing before parts told
      → BeginsAs told made found archive → IsBegunAs g image made before parts found archive
  begun_as before told has it begins = record {
    is = begins.is;
    same = begins.same;
    fit = begins.fit;
    begins = λ none. begins_so before told has it (begins.fills none) none;
  }

-- where something was told, the database had nothing
pub had_nothing : {G : Type 0} {s : start.Ghosts G} (g : disk.Ghosts (FileOf s)) (image : Image) (parts : DiskFiles G s) (has_nothing : Bool) (before : Option (String Global)) (told : Option Standing) (Q : Type 0)
    → IsToldBefore g image has_nothing before parts told → (has_nothing ≡ true → Q) → IfSome told (λ _. Q)
had_nothing g image parts has_nothing before None Q it f = tt
had_nothing g image parts has_nothing before (Some told) Q it f = f it.0
