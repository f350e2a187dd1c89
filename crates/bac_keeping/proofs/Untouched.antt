-- What words name is stopped in an archive as it was opened.
use Rattle.std.proofs.Common.{◌≡◌, ◌↔◌, inl, inr, ℕ, Bool, true, false, IsTrue, List, map, None, subst, ◌∙◌}
use Rattle.sqlite_schema.specs.declared.schema.Schema.{Schema}
use Rattle.sqlite.specs.Effect.{Database}
use Rattle.sqlite.specs.Held.{Held, state}
use Rattle.sqlite.specs.State.{HasCleanDisk, State, Survives}
use Rattle.sqlite.proofs.StateLemmas.{survives_weaker}
use Rattle.sqlite_trees.specs.declared.store.Store.{Ghosts}
use Rattle.bac_archive.specs.Schema.{HasArchive, no_schema}
use Rattle.bac_archive.specs.Put.{IsPut}
use Rattle.bac_archive.specs.Stands.{StandsAs}
use Rattle.bac_archive.specs.declared.row.Put.{Put}
use Rattle.bac_device_poller.specs.Puts.{put_as}
use Rattle.bac_plan.specs.Stopping.{missing_from, stopped_rows}
use Rattle.bac_plan.specs.declared.named.Named.{Named}
use Rattle.bac_keeping.specs.Keeping.{IsOpened}
use Rattle.bac_keeping.specs.Stopping.{HaltsStopping, MayHaveStopped, StopsNothing}
use Rattle.bac_keeping.specs.declared.stopping.Stopped.{Stopped}
use Rattle.bac_keeping.specs.declared.stopping.StopHalt.{StopHalt}
use Rattle.bac_keeping.specs.declared.stopping.StopHalt.TheVariants as halt

-- what isn't empty is opened as it was
pub opened_there : (moment : List ℕ) (old new : Database) → (old.schema ≡ no_schema → ⊥) → IsOpened moment old new → new ≡ old
opened_there moment old new some (inl here) = here.1
opened_there moment old new some (inr made) = absurd (some made.0)

pub stops_behind : {S : Type 0} (g : Ghosts S) (named : List Named) (old mid new : Held S) (why : StopHalt) → (state g mid).now ≡ (state g old).now → HaltsStopping g named mid new why
    → StopsNothing g named old new why
stops_behind g named old mid new halt.Nothing same halts = absurd halts
stops_behind g named old mid new (halt.Refused e) same halts = absurd halts
stops_behind g named old mid new (halt.Untold e) same halts = absurd halts
stops_behind g named old mid new (halt.Missing e) same halts =
    (halts.0 ∙ same, (halts.1.0, subst (λ (db : Database). StandsAs db.trees halts.1.0) same halts.1.1, halts.1.2))
stops_behind g named old mid new (halt.Unput e) same halts =
    (mid, halts.0, same, subst (λ (db : Database). StandsAs db.trees halts.0) same halts.1, halts.2, λ is_open. halts.3 is_open ∙ same)

-- what isn't found to be nothing isn't
pub has_some : (found : Bool) (given schema : Schema) → given ≡ schema → found ≡ false → IsTrue found ↔ (given ≡ no_schema) → schema ≡ no_schema → ⊥
has_some true given schema same is means none = absurd (let e : true ≡ false = is in cc)
has_some false given schema same is means none = absurd (let e : false ≡ true = means.1 (same ∙ none) in cc)

-- what a kill leaves where its rows are put
pub stopped_crash : (named : List Named) (stopped : Stopped) (old new : State) (given : List Put) → given ≡ stopped.rows.items → (HasCleanDisk new → HasCleanDisk old)
    → (HasCleanDisk old → HasArchive old.now.schema) → (HasCleanDisk old → StandsAs old.now.trees stopped.told)
    → (missing_from 0 stopped.told named ≡ None) × (map put_as stopped.rows.items ≡ stopped_rows stopped.told named)
    → Survives old new (λ trees. HasArchive old.now.schema → (db : Database) × IsPut old.now db given × (trees ≡ db.trees)) → Survives old new (MayHaveStopped named old.now)
stopped_crash named stopped old new given same early has told are =
    survives_weaker old new _ _
    (λ clean trees it.
    let one = it (has (early clean)) in
    (stopped, one.0, record { archive = has (early clean); told = told (early clean); there = are.0; rows = are.1; put = subst (IsPut old.now one.0) same one.1 }, one.2))
