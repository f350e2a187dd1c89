-- Why a database isn't taken as an archive.
use Rattle.std.proofs.Common.{◌≢◌, inl, inr, refl, sym, subst, Err}
use Rattle.sqlite_trees.specs.declared.store.Store.{Ghosts}
use Rattle.sqlite.specs.Held.{Held as Connected, state}
use Rattle.sqlite.specs.State.{HasCleanDisk, State}
use Rattle.bac_archive.specs.Archive.{WhyRefused}
use Rattle.bac_archive.specs.Schema.{no_schema}
use Rattle.bac_archive.specs.declared.opening.Refused.{Refused}
use Rattle.bac_archive.specs.declared.opening.Refused.TheVariants.{Foreign, Earlier, Version, Range, NoDevice, Overlap, Orphan}
use Rattle.bac_archive.specs.declared.opening.Refused.TheVariants.{Database as Failed}
use Rattle.bac_files.specs.Parts.{reading}
use Rattle.bac_parts.specs.Archives.{RefusesToTake}
use Rattle.bac_parts.specs.declared.fault.FileFault.{FileFault}
use Rattle.bac_reading.specs.Taking.{IsUntaken, Lacks}

lacks : (old new : State) (why : Refused) → old.now.schema ≢ no_schema → WhyRefused old new (Err why) → HasCleanDisk new → Lacks old.now why
lacks old new Foreign some it clean = it
lacks old new Earlier some it clean = it
lacks old new Version some it clean = it clean
lacks old new Range some it clean = it clean
lacks old new NoDevice some it clean = it clean
lacks old new Overlap some it clean = it clean
lacks old new Orphan some it clean = it clean
lacks old new (Failed error) some it clean = some

-- what is refused so isn't taken
pub untaken : {S : Type 0} (g : Ghosts S) (old new : Connected S) (why : FileFault) → RefusesToTake g old new why → IsUntaken (reading (state g old) (state g new)) why
untaken g old new why (inl (is, none, same)) = subst (IsUntaken (reading (state g old) (state g new))) (sym is) (refl, none)
untaken g old new why (inr (some, (refused, is, refusal))) =
    subst (IsUntaken (reading (state g old) (state g new))) (sym is) (lacks (state g old) (state g new) refused some refusal.0)
