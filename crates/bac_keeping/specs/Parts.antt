-- The parts of a run before its poll, each with why it fails.
use Rattle.std.specs.Prelude.{◌≡◌, ℕ, List, IsTrue}
use Rattle.sqlite.specs.Effect.{Database}
use Rattle.sqlite.specs.Held.{Held, state}
use Rattle.sqlite_trees.specs.Tree.{Trees}
use Rattle.sqlite_trees.specs.declared.store.Store.{Ghosts}
use Rattle.bac_archive.specs.Put.{FailsToPut, IsPut}
use Rattle.bac_archive.specs.Stands.{StandsAs}
use Rattle.bac_archive.specs.declared.row.Put.{Put}
use Rattle.bac_archive.specs.declared.standing.Standing.{Standing}
use Rattle.bac_plan.specs.declared.named.Named.{Named}
use Rattle.bac_keeping.specs.Keeping.{ArePut, IsOpened, IsRefused, IsUnnamed, IsUnput, IsUntold}
use Rattle.bac_keeping.specs.declared.run.KeepFault.{KeepFault}
use Rattle.bac_keeping.specs.declared.run.KeepFault.TheVariants as fault

-- an archive isn't opened, or isn't told as it was
abbrev pub HaltsOpening : {S : Type 0} → Ghosts S → (moment : List ℕ) → (old new : Held S) → KeepFault → Type 0
HaltsOpening g moment old new (fault.Refused why) = IsRefused g moment old new why
HaltsOpening g moment old new (fault.Untold e) = IsUntold g (IsOpened moment (state g old).now) new e
HaltsOpening g moment old new (fault.Naming e) = ⊥
HaltsOpening g moment old new (fault.Unput e) = ⊥
HaltsOpening g moment old new (fault.Plan e) = ⊥
HaltsOpening g moment old new (fault.Poll e) = ⊥

-- rows aren't put, or the archive isn't told with them
abbrev pub HaltsPutting : {S : Type 0} → Ghosts S → List Put → (old new : Held S) → KeepFault → Type 0
HaltsPutting g puts old new (fault.Refused why) = ⊥
HaltsPutting g puts old new (fault.Untold e) = IsUntold g (λ db. IsPut (state g old).now db puts) new e
HaltsPutting g puts old new (fault.Naming e) = ⊥
HaltsPutting g puts old new (fault.Unput e) =
    FailsToPut g old puts e × (IsTrue (state g new).is_open → (state g new).now ≡ (state g old).now)
HaltsPutting g puts old new (fault.Plan e) = ⊥
HaltsPutting g puts old new (fault.Poll e) = ⊥

-- what words name gets no row, its rows aren't put, or the archive isn't told with them
abbrev pub HaltsNaming : {S : Type 0} → Ghosts S → List Named → Standing → (old new : Held S) → KeepFault → Type 0
HaltsNaming g named told old new (fault.Refused why) = ⊥
HaltsNaming g named told old new (fault.Untold e) = IsUntold g (ArePut named told (state g old).now) new e
HaltsNaming g named told old new (fault.Naming e) =
    ((state g new).now ≡ (state g old).now) × IsUnnamed named told e
HaltsNaming g named told old new (fault.Unput e) = IsUnput g named told old new e
HaltsNaming g named told old new (fault.Plan e) = ⊥
HaltsNaming g named told old new (fault.Poll e) = ⊥

-- these rows may have been put
abbrev pub MayHavePut : List Put → Database → Trees → Type 0
MayHavePut puts old trees = (db : Database) × IsPut old db puts × (trees ≡ db.trees)

-- and so may those of what words name
abbrev pub MayHaveNamed : List Named → Standing → Database → Trees → Type 0
MayHaveNamed named told old trees = (db : Database) × ArePut named told old db × (trees ≡ db.trees)

-- rows are put, and the archive tells this then
abbrev pub ArePutAndTold : List Put → (old new : Database) → Standing → Type 0
ArePutAndTold puts old new told = IsPut old new puts × StandsAs new.trees told

-- and so are those of what words name
abbrev pub AreNamedAndTold : List Named → Standing → (old new : Database) → Standing → Type 0
AreNamedAndTold named told old new again = ArePut named told old new × StandsAs new.trees again
