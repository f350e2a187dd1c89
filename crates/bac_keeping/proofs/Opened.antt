-- What an archive is as it was opened.
use Rattle.std.proofs.Common.{◌≡◌, ◌⊎◌, inl, inr, ℕ, List, [], map, Result, Ok, Err, OnOk, OnErr, IfErr, IsTrue, ap, subst, ◌∙◌}
use Rattle.sqlite.specs.declared.error.Error.{Error}
use Rattle.sqlite.specs.Held.{Held, state}
use Rattle.sqlite.specs.State.{IsUnchanged, State}
use Rattle.sqlite_trees.specs.declared.store.Store.{Ghosts}
use Rattle.bac_archive.specs.Archive.{FailsToOpen, WhyRefused}
use Rattle.bac_archive.specs.Ask.{IsLeft}
use Rattle.bac_archive.specs.Making.{IsMadeOf}
use Rattle.bac_archive.specs.Schema.{HasArchive, no_schema}
use Rattle.bac_archive.specs.declared.opening.Refused.{Refused}
use Rattle.bac_archive.specs.declared.opening.Refused.TheVariants.{Database as Failed}
use Rattle.bac_archive.specs.declared.row.Put.{Put}
use Rattle.bac_archive.specs.declared.standing.Standing.{Standing}
use Rattle.bac_device_poller.specs.Puts.{put_as}
use Rattle.bac_plan.specs.Naming.{named_rows}
use Rattle.bac_plan.specs.declared.named.Named.{Named}
use Rattle.bac_keeping.specs.Keeping.{IsOpened, IsRefused}
use Rattle.bac_keeping.specs.Parts.{HaltsNaming, HaltsPutting}
use Rattle.bac_keeping.specs.declared.run.KeepFault.{KeepFault}
use Rattle.bac_keeping.specs.declared.run.KeepFault.TheVariants as fault

pub opened_at : {A E : Type 0} (r : Result A E) (moment : List ℕ) (old new : State) → (HasArchive old.now.schema → OnOk r (IsUnchanged old new)) → OnOk r (HasArchive old.now.schema ⊎ (old.now.schema ≡ no_schema)) →
    (old.now.schema ≡ no_schema → OnOk r (IsMadeOf moment new.now [])) → OnOk r (IsOpened moment old.now new.now)
opened_at (Ok a) moment old new same (inl has) made = inl (has, (same has).0.now_is)
opened_at (Ok a) moment old new same (inr nothing) made = inr (nothing, made nothing)
opened_at (Err e) moment old new same taken made = tt

-- why it isn't
pub refused_as : {S : Type 0} (g : Ghosts S) (moment : List ℕ) (old new : Held S) (r : Result (Unit {0}) Refused) → WhyRefused (state g old) (state g new) r
    → ((e : Error) → r ≡ Err (Failed e) → FailsToOpen g moment old new e)
    → (IsTrue (state g new).is_open → OnErr r (((state g new).now ≡ (state g old).now) × ((state g new).committed ≡ (state g old).committed)))
    → IfErr r (IsRefused g moment old new)
refused_as g moment old new (Ok done) why cause left = tt
refused_as g moment old new (Err reason) why cause left = record { reason = why; cause = λ e is. cause e (ap Err is); left = λ is_open. (left is_open).0 }

-- what a question leaves of it
pub left_is : (mid new : State) → mid.committed ≡ mid.now → IsLeft mid new → IsTrue new.is_open → new.now ≡ mid.now
left_is mid new committed (inl same) is_open = same.0.now_is
left_is mid new committed (inr undone) is_open = (undone.undone is_open).0 ∙ committed

-- rows of what words name that aren't put, or aren't told
halts_named : {S : Type 0} (g : Ghosts S) (named : List Named) (told : Standing) (puts : List Put) (old new : Held S) (why : KeepFault) → named_rows told named ≡ Ok (map put_as puts)
    → HaltsPutting g puts old new why → HaltsNaming g named told old new why
halts_named g named told puts old new (fault.Refused e) rows halts = absurd halts
halts_named g named told puts old new (fault.Untold e) rows halts = (halts.0, (puts, rows, halts.1), halts.2, halts.3)
halts_named g named told puts old new (fault.Naming e) rows halts = absurd halts
halts_named g named told puts old new (fault.Unput e) rows halts = (puts, rows, halts.0, halts.1)
halts_named g named told puts old new (fault.Plan e) rows halts = absurd halts
halts_named g named told puts old new (fault.Poll e) rows halts = absurd halts

pub named_halts : {S A : Type 0} (g : Ghosts S) (named : List Named) (told : Standing) (given puts : List Put) (old new : Held S) (r : Result A KeepFault) → given ≡ puts
    → named_rows told named ≡ Ok (map put_as puts) → IfErr r (HaltsPutting g given old new) → IfErr r (HaltsNaming g named told old new)
named_halts g named told given puts old new (Ok a) same rows halts = tt
named_halts g named told given puts old new (Err why) same rows halts = halts_named g named told puts old new why rows (subst (λ (p : List Put). HaltsPutting g p old new why) same halts)
