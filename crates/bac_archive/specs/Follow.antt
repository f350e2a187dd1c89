-- A part follows on an archive.
use Rattle.std.specs.Prelude.{◌≡◌, ◌⊎◌, List, ◌++◌, map, reverse}
use Rattle.std.specs.String.{string_bytes}
use Rattle.sqlite_trees.specs.Tree.{Trees}
use Rattle.sqlite_trees.specs.declared.store.Store.{Ghosts}
use Rattle.sqlite.specs.declared.error.Error.{Error}
use Rattle.sqlite.specs.declared.error.Error.TheVariants.{SqliteFailure}
use Rattle.sqlite.specs.declared.error.ErrorCode.TheVariants.{OutOfMemory}
use Rattle.sqlite.specs.Effect.{Database}
use Rattle.sqlite.specs.Held.{Held, state}
use Rattle.bac_archive.specs.Archive.{IsArchive}
use Rattle.bac_archive.specs.Making.{FailsToMake, IsMadeOf}
use Rattle.bac_archive.specs.Stands.{FailsToTell, StandsAs}
use Rattle.bac_archive.specs.declared.row.Put.{Put}
use Rattle.bac_archive.specs.declared.row.Put.TheVariants.{NewDevice, NewLog, Beginning, Item}
use Rattle.bac_archive.specs.declared.standing.Standing.{Standing}

-- what is told of an archive, as it is put into a new one: items from the least id on
abbrev pub puts_of : Standing → List Put
puts_of s = map NewDevice s.devices.items ++ (map NewLog s.logs.items ++ (map Beginning s.last.items
    ++ map Item (reverse s.newest.items)))

-- a new archive is of the moment of an old one, and has what is told of that
abbrev pub FollowsOn : Trees → Database → Type 0
FollowsOn old new = (s : Standing) × StandsAs old s × IsMadeOf (string_bytes s.made) new (puts_of s)

-- the part that follows on an archive is one, which can be opened
abbrev pub PartIsArchive : Type 0
PartIsArchive = (old new : Database) → IsArchive old → FollowsOn old.trees new → IsArchive new

-- Why a part isn't made: the archive isn't told; there is no memory; or what it tells isn't put.
abbrev pub FailsToFollow : {A B : Type 0} → Ghosts A → Ghosts B → Held A → Held B → Held B → Error → Type 0
FailsToFollow a b part old new e =
    FailsToTell b old new e
    ⊎ ((e ≡ SqliteFailure OutOfMemory)
    ⊎ ((s : Standing) × StandsAs (state b old).now.trees s × FailsToMake a (string_bytes s.made) part (puts_of s) e))
