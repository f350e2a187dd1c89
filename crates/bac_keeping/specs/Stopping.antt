-- What words name is stopped. Read `IsStopped` and `StopsNothing`.
use Rattle.std.specs.Prelude.{◌≡◌, ◌≢◌, ◌⊎◌, List, [], map, None, Some, IsTrue}
use Rattle.sqlite.specs.declared.error.Error.{Error}
use Rattle.sqlite.specs.Effect.{Database}
use Rattle.sqlite.specs.Held.{Held, state}
use Rattle.sqlite_trees.specs.Tree.{Trees}
use Rattle.sqlite_trees.specs.declared.store.Store.{Ghosts}
use Rattle.bac_archive.specs.Put.{FailsToPut, IsPut}
use Rattle.bac_archive.specs.Schema.{HasArchive, no_schema}
use Rattle.bac_archive.specs.Stands.{StandsAs}
use Rattle.bac_archive.specs.declared.row.Put.{Put}
use Rattle.bac_archive.specs.declared.standing.Standing.{Standing}
use Rattle.bac_device_poller.specs.Puts.{put_as}
use Rattle.bac_plan.specs.Stopping.{missing_from, stopped_rows}
use Rattle.bac_plan.specs.declared.fault.StopFault.{StopFault}
use Rattle.bac_plan.specs.declared.fault.StopFault.TheVariants.{Memory}
use Rattle.bac_plan.specs.declared.named.Named.{Named}
use Rattle.bac_keeping.specs.Keeping.{IsRefused, IsUntold}
use Rattle.bac_keeping.specs.declared.stopping.StopHalt.{StopHalt}
use Rattle.bac_keeping.specs.declared.stopping.StopHalt.TheVariants as halt
use Rattle.bac_keeping.specs.declared.stopping.Stopped.{Stopped}

-- an archive told this; all that words name was on record there; and these rows, by which it is stopped, are put
pub record IsStopped (named : List Named) (stopped : Stopped) (old new : Database) : Type 0 where
  pub archive : HasArchive old.schema
  pub told : StandsAs old.trees stopped.told
  pub there : missing_from 0 stopped.told named ≡ None
  pub rows : map put_as stopped.rows.items ≡ stopped_rows stopped.told named
  pub put : IsPut old new stopped.rows.items

-- the rows of what words name aren't put where an archive tells this
abbrev pub IsUnstopped : {S : Type 0} → Ghosts S → List Named → Standing → Held S → Error → Type 0
IsUnstopped g named told at e =
    (puts : List Put) × (map put_as puts ≡ stopped_rows told named) × FailsToPut g at puts e

-- one of those that are named isn't on record, or there is no memory; nothing changes
abbrev pub IsMissing : {S : Type 0} → Ghosts S → List Named → (old new : Held S) → StopFault → Type 0
IsMissing g named old new e =
    ((state g new).now ≡ (state g old).now)
    × ((told : Standing) × StandsAs (state g old).now.trees told
    × ((e ≡ Memory) ⊎ (missing_from 0 told named ≡ Some e)))

-- Why nothing is stopped; a database that is open still is as it was: it has nothing; it isn't opened as an archive; it
-- isn't told; one of those that are named isn't on record, or there is no memory; or the rows aren't put.
abbrev pub StopsNothing : {S : Type 0} → Ghosts S → List Named → (old new : Held S) → StopHalt → Type 0
StopsNothing g named old new halt.Nothing = ((state g old).now.schema ≡ no_schema) × (new ≡ old)
StopsNothing g named old new (halt.Refused why) =
    ((state g old).now.schema ≢ no_schema) × IsRefused g [] old new why
StopsNothing g named old new (halt.Untold e) = IsUntold g (λ db. db ≡ (state g old).now) new e
StopsNothing g named old new (halt.Missing e) = IsMissing g named old new e
StopsNothing {S = S} g named old new (halt.Unput e) =
    (at : Held S) × (told : Standing) × ((state g at).now ≡ (state g old).now)
    × StandsAs (state g old).now.trees told × IsUnstopped g named told at e
    × (IsTrue (state g new).is_open → (state g new).now ≡ (state g old).now)

-- why nothing is stopped where an archive is told
abbrev pub HaltsStopping : {S : Type 0} → Ghosts S → List Named → (old new : Held S) → StopHalt → Type 0
HaltsStopping g named old new halt.Nothing = ⊥
HaltsStopping g named old new (halt.Refused why) = ⊥
HaltsStopping g named old new (halt.Untold e) = ⊥
HaltsStopping g named old new (halt.Missing e) = IsMissing g named old new e
HaltsStopping g named old new (halt.Unput e) =
    (told : Standing) × StandsAs (state g old).now.trees told × IsUnstopped g named told old e
    × (IsTrue (state g new).is_open → (state g new).now ≡ (state g old).now)

-- A kill leaves what was there, or these trees: what words name is stopped there.
abbrev pub MayHaveStopped : List Named → Database → Trees → Type 0
MayHaveStopped named old trees =
    (stopped : Stopped) × (db : Database) × IsStopped named stopped old db × (trees ≡ db.trees)
