-- What a run comes to before its poll.
use Rattle.std.proofs.Common.{◌≡◌, inl, inr, ℕ, List, sym, subst, arith}
use Rattle.std.specs.String.{string_bytes}
use Rattle.sqlite.specs.Effect.{Database}
use Rattle.sqlite.specs.Held.{Held, state}
use Rattle.sqlite.specs.State.{HasCleanDisk, State, Survives}
use Rattle.sqlite.proofs.StateLemmas.{survives_then}
use Rattle.sqlite_trees.specs.Tree.{Trees}
use Rattle.sqlite_trees.specs.declared.store.Store.{Ghosts}
use Rattle.bac_archive.specs.declared.standing.Standing.{Standing}
use Rattle.bac_drive.specs.Happens.{Acts, Leaves}
use Rattle.bac_batch.specs.Batch.{Batched, fresh_batch}
use Rattle.bac_site_poller.specs.Site.{SiteState}
use Rattle.bac_plan.specs.declared.named.Named.{Named}
use Rattle.bac_keeping.specs.Keeping.{Around, ArePut, HaltsEarly, IsNamed, IsSet, IsTold, MayHaveMade, Remains, RemainsEarly, amid}
use Rattle.bac_keeping.specs.Parts.{HaltsNaming, HaltsOpening, MayHaveNamed}
use Rattle.bac_keeping.specs.declared.run.KeepFault.{KeepFault}
use Rattle.bac_keeping.specs.declared.run.KeepFault.TheVariants as fault
use Rattle.bac_keeping.specs.declared.run.Run.{Run}

-- what words name is on record where an archive was told
pub is_named : (run : Run) (old mid new : Database) (told : Standing) → IsTold (string_bytes run.moment) old mid told → ArePut run.named.items told mid new → IsNamed run old new
is_named run old mid new told is_told put = record { opened = mid; told = told; is_told = is_told; put = put }

-- the same by the words that were lent
pub named_by : (run : Run) (old mid new : Database) (told : Standing) (moment : List ℕ) (named : List Named) → moment ≡ string_bytes run.moment → named ≡ run.named.items
    → IsTold moment old mid told → ArePut named told mid new → IsNamed run old new
named_by run old mid new told moment named of_moment of_named is_told put =
    is_named run old mid new told (subst (λ (m : List ℕ). IsTold m old mid told) of_moment is_told) (subst (λ (n : List Named). ArePut n told mid new) of_named put)

pub not_opened : {S : Type 0} (g : Ghosts S) (run : Run) (old new : Held S) (why : KeepFault) → HaltsOpening g (string_bytes run.moment) old new why → HaltsEarly g run old new why
not_opened g run old new (fault.Refused e) halts = halts
not_opened g run old new (fault.Untold e) halts = inl halts
not_opened g run old new (fault.Naming e) halts = absurd halts
not_opened g run old new (fault.Unput e) halts = absurd halts
not_opened g run old new (fault.Plan e) halts = absurd halts
not_opened g run old new (fault.Poll e) halts = absurd halts

pub not_named : {S : Type 0} (g : Ghosts S) (run : Run) (old mid new : Held S) (told : Standing) (why : KeepFault) → IsTold (string_bytes run.moment) (state g old).now (state g mid).now told
    → HaltsNaming g run.named.items told mid new why → HaltsEarly g run old new why
not_named g run old mid new told (fault.Refused e) is_told halts = absurd halts
not_named g run old mid new told (fault.Untold e) is_told halts =
    inr (halts.0, is_named run (state g old).now (state g mid).now (state g halts.0).now told is_told halts.1, halts.2, halts.3)
not_named g run old mid new told (fault.Naming e) is_told halts =
    (told, subst (λ (db : Database). IsTold (string_bytes run.moment) (state g old).now db told) (sym halts.0) is_told, halts.1)
not_named g run old mid new told (fault.Unput e) is_told halts = (mid, told, is_told, halts)
not_named g run old mid new told (fault.Plan e) is_told halts = absurd halts
not_named g run old mid new told (fault.Poll e) is_told halts = absurd halts

pub may_name : (run : Run) (old mid : Database) (told : Standing) (trees : Trees) → IsTold (string_bytes run.moment) old mid told → MayHaveNamed run.named.items told mid trees → RemainsEarly run old trees
may_name run old mid told trees is_told it = inr (it.0, is_named run old mid it.0 told is_told it.1, it.2)

-- what a kill leaves before the poll
pub begun_crash : (run : Run) (old mid new : State) (told : Standing) (moment : List ℕ) (named : List Named) → moment ≡ string_bytes run.moment → named ≡ run.named.items
    → (HasCleanDisk mid → IsTold moment old.now mid.now told) → Survives old mid (MayHaveMade moment old.now) → Survives mid new (MayHaveNamed named told mid.now)
    → Survives old new (RemainsEarly run old.now)
begun_crash run old mid new told moment named of_moment of_named is_told one two =
    survives_then old mid new _ _ _
    (λ clean trees it. inl (subst (λ (m : List ℕ). MayHaveMade m old.now trees) of_moment it))
    (λ clean trees it.
    let early : HasCleanDisk mid = omega (arith, clean, two.clean) in
    may_name run old.now mid.now told trees (subst (λ (m : List ℕ). IsTold m old.now mid.now told) of_moment (is_told early)) (subst (λ (n : List Named). MayHaveNamed n told mid.now trees) of_named it))
    one two

-- and amid it
pub polled_crash : {P C : Type 0} (acts : Acts (Batched SiteState) P C) (run : Run) (by : Around P C) (old mid new : State) (site : SiteState) (first : Batched SiteState) → first ≡ fresh_batch site
    → (HasCleanDisk mid → IsSet run old.now mid.now site) → Survives old mid (RemainsEarly run old.now) → Survives mid new (Leaves acts (amid by first mid.now))
    → Survives old new (Remains acts run by old.now)
polled_crash acts run by old mid new site first is_first set one two =
    survives_then old mid new _ _ _
    (λ clean trees it. inl it)
    (λ clean trees it.
    let early : HasCleanDisk mid = omega (arith, clean, two.clean) in
    inr (mid.now, site, set early, subst (λ (b : Batched SiteState). Leaves acts (amid by b mid.now) trees) is_first it))
    one two
