-- A run that has nobody to poll. Read `IdleAsksNobody`.
use Rattle.std.specs.Prelude.{◌≡◌, []}
use Rattle.sqlite.specs.Effect.{Database}
use Rattle.bac_drive.specs.Happens.{Acts}
use Rattle.bac_batch.specs.Batch.{Batched}
use Rattle.bac_device_poller.specs.declared.status.Status.{Status}
use Rattle.bac_site_poller.specs.Site.{SiteState}
use Rattle.bac_keeping.specs.Keeping.{Around, IsNamed, IsSet, Keeps}
use Rattle.bac_keeping.specs.declared.run.Run.{Run}

-- Where no device waits for its turn as the poll begins, nothing is sent, received or printed, and nothing is put but
-- what words name.
abbrev pub IdleAsksNobody : {P C : Type 0} → Acts (Batched SiteState) P C → Type 0
IdleAsksNobody {P = P} {C = C} acts =
    (run : Run) (by left : Around P C) (old new : Database) (status : Status)
    → ((begun : Database) (site : SiteState) → IsSet run old begun site → site.waiting ≡ [])
    → Keeps acts run by left old new status
    → (left.port ≡ by.port) × IsNamed run old new × (left.output ≡ by.output) × (left.errors ≡ by.errors)
