-- Batches that leave an archive.
use Rattle.std.specs.Prelude.{◌≡◌, ⊤, ℕ, pos, ◌/◌, ◌<◌, List, [], ◌∷◌}
use Rattle.std.specs.List.{Contains}
use Rattle.sqlite_value.specs.declared.value.Value.TheVariants.{Int}
use Rattle.sqlite_value.specs.Order.{Row as Values, column}
use Rattle.sqlite_trees.specs.Tree.{Trees}
use Rattle.sqlite.specs.Effect.{Database}
use Rattle.sqlite.specs.Values.{or_null}
use Rattle.bac_archive.specs.Archive.{EndsAt, HasId, IsArchive}
use Rattle.bac_archive.specs.Put.{IsPut, after}
use Rattle.bac_archive.specs.Read.{numbers}
use Rattle.bac_archive.specs.Stands.{epochs}
use Rattle.bac_archive.specs.declared.row.ItemRow.{ItemRow}
use Rattle.bac_archive.specs.declared.row.LogRow.{LogRow}
use Rattle.bac_archive.specs.declared.row.Put.{Put}
use Rattle.bac_archive.specs.declared.row.Put.TheVariants.{NewDevice, Device, NewLog, Log, Beginning, Lowered, Item}

-- each item of the epoch of this id lies before it
abbrev pub AllLieBefore : List Values → ℕ → Type 0
AllLieBefore rows id = (row : Values) (n end : ℕ) → Contains rows row → column row 0 ≡ Int (pos n)
    → n / numbers ≡ id / numbers → EndsAt (column row 2) n end → end < id

-- an item goes on where its epoch stands: that has a beginning, and its log a row; it lies behind each item of the
-- epoch, and ends there
pub record GoesOn (trees : Trees) (item : ItemRow) : Type 0 where
  pub id : ℕ
  pub end : ℕ
  pub id_is : item.id ≡ pos id
  pub ends : EndsAt (or_null (λ n. Int (pos n)) item.last) id end
  pub begun : HasId (trees 6) (id / numbers)
  pub known : HasId (trees 3) (id / numbers / epochs)
  pub behind : AllLieBefore (trees 5) id

-- a log is fit to be put here: its id is in range, and its device has a row
abbrev pub IsFitLog : Trees → LogRow → Type 0
IsFitLog trees l = (l.id < 65536) × HasId (trees 1) l.device

-- a row is fit to be put here: its id is in range, a log's device has a row, and an item goes on where its epoch stands
abbrev pub IsFit : Trees → Put → Type 0
IsFit trees (NewDevice d) = d.id < 65536
IsFit trees (Device d) = d.id < 65536
IsFit trees (NewLog l) = IsFitLog trees l
IsFit trees (Log l) = IsFitLog trees l
IsFit trees (Beginning b) = b.id < 2147483648
IsFit trees (Lowered b) = b.id < 2147483648
IsFit trees (Item i) = GoesOn trees i

-- the tables once it is put
abbrev pub with_put : Trees → Put → Trees
with_put trees put tree = after tree (trees tree) put

-- each of a batch is, as its turn comes
abbrev pub AreFit : Trees → List Put → Type 0
AreFit trees [] = ⊤
AreFit trees (put ∷ puts) = IsFit trees put × AreFit (with_put trees put) puts

-- what such a batch leaves of an archive is an archive, which can be opened
abbrev pub PutsKeepArchive : Type 0
PutsKeepArchive = (old new : Database) (puts : List Put) → IsArchive old → IsPut old new puts → AreFit old.trees puts
    → IsArchive new
