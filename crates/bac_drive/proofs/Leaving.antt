-- Events that lead on from where others led.
use Rattle.std.proofs.Common.{◌≡◌, ◌≢◌, ◌∙◌, ◌==◌, IsTrue, Result, Ok, Err, OnOk, OnErr, true, length, List, [], ◌∷◌, ◌++◌, refl, sym, subst, inl, arith}
use Rattle.std.proofs.lemmas.Bool.{eqb-true}
use Rattle.bac_archive.specs.declared.row.Put.{Put}
use Rattle.sqlite.specs.State.{HasCleanDisk, State, Survives}
use Rattle.sqlite.specs.declared.error.Error.{Error}
use Rattle.sqlite_trees.specs.Tree.{Trees}
use Rattle.bac_archive.specs.Schema.{HasArchive}
use Rattle.bac_drive.specs.Chain.{Chain}
use Rattle.bac_drive.proofs.Chains.{joined}
use Rattle.bac_drive.specs.Event.{Event, Kept, Printed, Read, Sent, Waited, Warned}
use Rattle.bac_drive.specs.Happens.{Acts, Changes, Happens, IsUnending, Leaves, Scene, StaysSettled}
use Rattle.bac_drive.specs.declared.driving.Fault.{Fault}
use Rattle.bac_drive.specs.declared.driving.Fault.TheVariants as fault

pub leaves_then : {M P C : Type 0} (acts : Acts M P C) (old mid : Scene M P C) (es : List Event) (trees : Trees) → Chain (Happens acts) old es mid →
    Leaves acts mid trees → Leaves acts old trees
leaves_then acts old mid es trees before (fs, last, chain, is) = (es ++ fs, last, joined (Happens acts) old mid last es fs before chain, is)

-- an archive stays one, whatever happens
archive_on : {M P C : Type 0} (acts : Acts M P C) (old new : Scene M P C) (e : Event) → Changes acts old e new → HasArchive old.database.schema → HasArchive new.database.schema
archive_on acts old new (Sent octets to answer) changes has = subst (λ (s : Scene _ _ _). HasArchive s.database.schema) (sym changes.1) has
archive_on acts old new (Waited within heard) changes has = subst (λ (s : Scene _ _ _). HasArchive s.database.schema) (sym changes.1) has
archive_on acts old new (Read ms) changes has = subst (λ (s : Scene _ _ _). HasArchive s.database.schema) (sym changes.1) has
archive_on acts old new (Kept puts) changes has = subst HasArchive (sym changes.0.schema) has
archive_on acts old new (Printed text) changes has = subst (λ (s : Scene _ _ _). HasArchive s.database.schema) (sym changes.1) has
archive_on acts old new (Warned text) changes has = subst (λ (s : Scene _ _ _). HasArchive s.database.schema) (sym changes.1) has

pub archive_stays : {M P C : Type 0} (acts : Acts M P C) (old new : Scene M P C) (es : List Event) → Chain (Happens acts) old es new → HasArchive old.database.schema → HasArchive new.database.schema
archive_stays acts old new [] same has = subst (λ (s : Scene _ _ _). HasArchive s.database.schema) (sym same) has
archive_stays acts old new (e ∷ es) (mid, (wanted, half, gives, does, is, changes), more) has = archive_stays acts mid new es more (archive_on acts old mid e changes has)

-- what does nothing to a database
pub stays : (s : State) → Survives s s (λ _. ⊥)
stays s = record { clean = omega arith; shield = λ h. h; counts = omega arith; limit = refl; closes = λ _ h. inl h; crash = λ _ db h. inl h }

pub is_none : (puts : List Put) → (length puts == 0) ≡ true → puts ≡ []
is_none [] is = refl
is_none (put ∷ puts) is = absurd (omega (arith, eqb-true (length (put ∷ puts)) 0 is))

-- any other fault says nothing of how many events there were
pub is_no_end : (es : List Event) (why : Fault) → why ≢ fault.Unending → IsUnending es why
is_no_end es (fault.Archive error) other = tt
is_no_end es fault.Output other = tt
is_no_end es fault.Errors other = tt
is_no_end es fault.Memory other = tt
is_no_end es fault.Unending other = absurd (other refl)

-- a put commits what it puts, and otherwise leaves what was committed
pub settled_by : (P : Type 0) (old new : State) (r : Result (Unit {0}) Error) → (HasCleanDisk new → OnOk r (P × (new.committed ≡ new.now)))
    → (HasCleanDisk new → IsTrue new.is_open → OnErr r ((new.now ≡ old.now) × (new.committed ≡ old.committed))) → StaysSettled old new r
settled_by P old new (Ok value) all neither = λ clean same. (all clean).1
settled_by P old new (Err error) all neither = λ clean same is_open. let it = neither clean is_open in it.1 ∙ same ∙ sym it.0
