-- A run of keep. Read `IsSet`, then `Keeps`, `Halts` and `Remains`.
use Rattle.std.specs.Prelude.{◌≡◌, ◌⊎◌, ℕ, List, [], map, Option, Err, Ok, IsTrue}
use Rattle.std.specs.String.{string_bytes}
use Rattle.sqlite.specs.declared.error.Error.{Error}
use Rattle.sqlite.specs.Effect.{Database}
use Rattle.sqlite.specs.Held.{Held, state}
use Rattle.sqlite_trees.specs.Tree.{Trees}
use Rattle.sqlite_trees.specs.declared.store.Store.{Ghosts}
use Rattle.bac_archive.specs.Archive.{FailsToOpen, WhyRefused}
use Rattle.bac_archive.specs.Making.{IsMadeOf}
use Rattle.bac_archive.specs.Put.{FailsToPut, IsPut}
use Rattle.bac_archive.specs.Schema.{HasArchive, no_schema}
use Rattle.bac_archive.specs.Stands.{FailsToTell, StandsAs}
use Rattle.bac_archive.specs.declared.opening.Refused.{Refused}
use Rattle.bac_archive.specs.declared.opening.Refused.TheVariants.{Database as Failed}
use Rattle.bac_archive.specs.declared.row.Put.{Put}
use Rattle.bac_archive.specs.declared.standing.Standing.{Standing}
use Rattle.bac_drive.specs.declared.driving.Fault.{Fault}
use Rattle.bac_drive.specs.Happens.{Acts, Leaves, Runs, Scene, Stops, scene}
use Rattle.bac_batch.specs.Batch.{Batched, fresh_batch}
use Rattle.bac_device_poller.specs.Puts.{put_as}
use Rattle.bac_device_poller.specs.declared.status.Status.{Status}
use Rattle.bac_site_poller.specs.Site.{SiteState}
use Rattle.bac_site_poller.specs.Status.{site_status}
use Rattle.bac_plan.specs.Naming.{named_rows}
use Rattle.bac_plan.specs.Site.{IsSite, IsSiteFault}
use Rattle.bac_plan.specs.declared.fault.NamingFault.{NamingFault}
use Rattle.bac_plan.specs.declared.fault.NamingFault.TheVariants.{Memory}
use Rattle.bac_plan.specs.declared.named.Named.{Named}
use Rattle.bac_keeping.specs.declared.run.KeepFault.{KeepFault}
use Rattle.bac_keeping.specs.declared.run.KeepFault.TheVariants as fault
use Rattle.bac_keeping.specs.declared.run.Run.{Run}

-- ---- before the poll

-- an archive that was there; or there was nothing, and a new one is made at this moment
abbrev pub IsOpened : (moment : List ℕ) → (old new : Database) → Type 0
IsOpened moment old new =
    (HasArchive old.schema × (new ≡ old)) ⊎ ((old.schema ≡ no_schema) × IsMadeOf moment new [])

-- an archive is opened, and tells this
abbrev pub IsTold : (moment : List ℕ) → (old new : Database) → Standing → Type 0
IsTold moment old new told = IsOpened moment old new × StandsAs new.trees told

-- where an archive tells this, the rows by which what words name is on record are put, and nothing else
abbrev pub ArePut : List Named → Standing → (old new : Database) → Type 0
ArePut named told old new =
    (puts : List Put) × (named_rows told named ≡ Ok (map put_as puts)) × IsPut old new puts

-- an archive is opened and told, and what words name is on record there
pub record IsNamed (run : Run) (old new : Database) : Type 0 where
  pub opened : Database
  pub told : Standing
  pub is_told : IsTold (string_bytes run.moment) old opened told
  pub put : ArePut run.named.items told opened new

-- then it is told again, and this is the site of what it tells
pub record IsSet (run : Run) (old new : Database) (site : SiteState) : Type 0 where
  pub named : IsNamed run old new
  pub told : Standing
  pub stands : StandsAs new.trees told
  pub site_is : IsSite run.options told site

-- ---- the poll

-- what a site is polled over: a port, a clock, and what the output and the errors have
pub record Around (P C : Type 0) : Type 0 where
  pub port : P
  pub clock : C
  pub output : Option (List ℕ)
  pub errors : Option (List ℕ)

-- all of it together
abbrev pub around : {P C : Type 0} → P → C → (output errors : Option (List ℕ)) → Around P C
around port clock output errors = record { port = port; clock = clock; output = output; errors = errors }

-- a site that is polled over that, and a database
abbrev pub amid : {P C : Type 0} → Around P C → Batched SiteState → Database → Scene (Batched SiteState) P C
amid by site db = scene site by.port by.clock db by.output by.errors

-- one that isn't polled yet
abbrev pub at_first : {P C : Type 0} → Around P C → SiteState → Database → Scene (Batched SiteState) P C
at_first by site db = amid by (fresh_batch site) db

-- An archive is opened, or made; what words name is put on record; the site of what is told then is polled to its end
-- by these acts, over what was there and to what is left; and its status is this.
abbrev pub Keeps : {P C : Type 0} → Acts (Batched SiteState) P C → Run → (by left : Around P C) →
    (old new : Database) → Status → Type 0
Keeps acts run by left old new status =
    (begun : Database) × (site : SiteState) × (last : Batched SiteState) × IsSet run old begun site
    × Runs acts (at_first by site begun) (amid left last new) × (status ≡ site_status last.machine)

-- ---- why a run halts

-- the reason why no archive is opened; a database that is open still is as it was
pub record IsRefused {S : Type 0} (g : Ghosts S) (moment : List ℕ) (old new : Held S) (why : Refused) : Type 0 where
  pub reason : WhyRefused (state g old) (state g new) (Err why)
  pub cause : (e : Error) → why ≡ Failed e → FailsToOpen g moment old new e
  pub left : IsTrue (state g new).is_open → (state g new).now ≡ (state g old).now

-- what words name gets no row where an archive tells this: no id is left, or there is no memory
abbrev pub IsUnnamed : List Named → Standing → NamingFault → Type 0
IsUnnamed named told e = (e ≡ Memory) ⊎ (named_rows told named ≡ Err e)

-- its rows aren't put there, for this reason; a database that is open still is as it was
abbrev pub IsUnput : {S : Type 0} → Ghosts S → List Named → Standing → (at new : Held S) → Error → Type 0
IsUnput g named told at new e =
    (puts : List Put) × (named_rows told named ≡ Ok (map put_as puts)) × FailsToPut g at puts e
    × (IsTrue (state g new).is_open → (state g new).now ≡ (state g at).now)

-- an archive gives no answer where it is so; if it is open still, it is so then
abbrev pub IsUntold : {S : Type 0} → Ghosts S → (Database → Type 0) → Held S → Error → Type 0
IsUntold {S = S} g IsSo new e =
    (at : Held S) × IsSo (state g at).now × FailsToTell g at new e
    × (IsTrue (state g new).is_open → (state g new).now ≡ (state g at).now)

-- How far a run came before its poll, and what the database is then: it isn't opened as an archive; it isn't told as it
-- was opened, or with what words name; what words name gets no row; its rows aren't put; or there is no site.
abbrev pub HaltsEarly : {S : Type 0} → Ghosts S → Run → (old new : Held S) → KeepFault → Type 0
HaltsEarly g run old new (fault.Refused why) = IsRefused g (string_bytes run.moment) old new why
HaltsEarly g run old new (fault.Untold e) =
    IsUntold g (IsOpened (string_bytes run.moment) (state g old).now) new e
    ⊎ IsUntold g (IsNamed run (state g old).now) new e
HaltsEarly g run old new (fault.Naming e) =
    (told : Standing) × IsTold (string_bytes run.moment) (state g old).now (state g new).now told
    × IsUnnamed run.named.items told e
HaltsEarly {S = S} g run old new (fault.Unput e) =
    (at : Held S) × (told : Standing) × IsTold (string_bytes run.moment) (state g old).now (state g at).now told
    × IsUnput g run.named.items told at new e
HaltsEarly g run old new (fault.Plan e) =
    IsNamed run (state g old).now (state g new).now
    × ((told : Standing) × StandsAs (state g new).now.trees told × IsSiteFault told e)
HaltsEarly g run old new (fault.Poll e) = ⊥

module _ {P C S : Type 0} (g : Ghosts S) (acts : Acts (Batched SiteState) P C) where
  -- the poll stops: events lead to where this fault comes, and this is left
  abbrev pub HaltsPolling : Run → (by left : Around P C) → (old new : Held S) → Fault → Type 0
  HaltsPolling run by left old new fault =
      (begun : Database) × (site : SiteState) × (last : Batched SiteState) × IsSet run (state g old).now begun site
      × Stops g acts (at_first by site begun) (amid left last (state g new).now) (state g new).is_open fault

  -- Why a run halts: before its poll, where nothing is sent, received, read or printed; or the poll stops.
  abbrev pub Halts : Run → (by left : Around P C) → (old new : Held S) → KeepFault → Type 0
  Halts run by left old new why =
      (HaltsEarly g run old new why × (left ≡ by))
      ⊎ ((of_poll : Fault) × (why ≡ fault.Poll of_poll) × HaltsPolling run by left old new of_poll)

-- ---- what a kill leaves

-- a new archive, where nothing was
abbrev pub MayHaveMade : (moment : List ℕ) → Database → Trees → Type 0
MayHaveMade moment old trees =
    (old.schema ≡ no_schema) × ((made : Database) × IsMadeOf moment made [] × (trees ≡ made.trees))

-- that, or an archive with what words name
abbrev pub RemainsEarly : Run → Database → Trees → Type 0
RemainsEarly run old trees =
    MayHaveMade (string_bytes run.moment) old trees
    ⊎ ((named : Database) × IsNamed run old named × (trees ≡ named.trees))

-- What a kill leaves, beside what was there, is such an archive, or one as events of the poll leave it.
abbrev pub Remains : {P C : Type 0} → Acts (Batched SiteState) P C → Run → Around P C → Database → Trees → Type 0
Remains acts run by old trees =
    RemainsEarly run old trees
    ⊎ ((begun : Database) × (site : SiteState) × IsSet run old begun site × Leaves acts (at_first by site begun) trees)
