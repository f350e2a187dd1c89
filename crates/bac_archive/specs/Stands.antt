-- What an archive holds as a run begins.
use Rattle.std.specs.Prelude.{◌≡◌, ◌⊎◌, ℕ, pos, ◌+◌, ◌/◌, ◌<◌, ◌≤◌, Bool, true, false, if◌then◌else◌, ◌==◌, max}
use Rattle.std.specs.Prelude.{List, [], ◌∷◌, ◌++◌, map, fold, take, length}
use Rattle.std.specs.List.{Contains, filter, list_any}
use Rattle.std.specs.List.Sorted.{IsPermutation, IsSorted}
use Rattle.std.specs.String.{string_bytes}
use Rattle.sqlite_value.specs.declared.value.Value.{Value}
use Rattle.sqlite_value.specs.declared.value.Value.TheVariants.{Int, Text}
use Rattle.sqlite_value.specs.Order.{Row as Values, column}
use Rattle.sqlite_trees.specs.Tree.{Trees}
use Rattle.sqlite_trees.specs.declared.store.Store.{Ghosts}
use Rattle.sqlite.specs.declared.error.Error.{Error}
use Rattle.sqlite.specs.declared.error.Error.TheVariants.{SqliteFailure, QueryReturnedNoRows}
use Rattle.sqlite.specs.declared.error.ErrorCode.TheVariants.{OperationInterrupted}
use Rattle.sqlite.specs.Held.{Held, state}
use Rattle.bac_archive.specs.Ask.{FailsToAnswer, falls, shown, tree_of, width}
use Rattle.bac_archive.specs.Put.{beginning_columns, device_columns, item_columns, log_columns}
use Rattle.bac_archive.specs.Read.{FailsToReadOne, Kind, numbers}
use Rattle.bac_archive.specs.Read.{archive_kinds, beginning_kinds, device_kinds, item_kinds, log_kinds}
use Rattle.bac_archive.specs.declared.asking.Question.{Question}
use Rattle.bac_archive.specs.declared.asking.Tables.{Tables}
use Rattle.bac_archive.specs.declared.asking.Question.TheVariants.{Archive, Devices, Logs, Beginnings, Items, Spans}
use Rattle.bac_archive.specs.declared.row.BeginningRow.{BeginningRow}
use Rattle.bac_archive.specs.declared.standing.Found.{Found}
use Rattle.bac_archive.specs.declared.standing.Standing.{Standing}

-- how many epochs a log has
abbrev pub epochs : ℕ
epochs = 32768

-- an id is of the group at this place, where each has so many ids: of an epoch, or of a log
abbrev pub is_at : ℕ → ℕ → Value → Bool
is_at size place (Int (pos id)) = id / size == place
is_at size place _ = false

-- and so is a row
abbrev pub is_in : ℕ → ℕ → Values → Bool
is_in size place row = is_at size place (column row 0)

-- Of rows by falling ids those are told that come first in their groups, up to so many of each group that is wanted.
abbrev pub TellsFirst : ℕ → ℕ → (ℕ → Bool) → List Values → List Values → Type 0
TellsFirst size most wanted all told = (place : ℕ)
    → filter (is_in size place) told ≡ (if wanted place then take most (filter (is_in size place) all) else [])

-- of these rows those with the greatest ids are told, of each group
pub record TellsNewest (size most : ℕ) (wanted : ℕ → Bool) (rows told : List Values) : Type 0 where
  pub all : List Values
  pub each : IsPermutation rows all
  pub falling : IsSorted falls all
  pub first : TellsFirst size most wanted all told
  pub there : (row : Values) → Contains told row → Contains rows row

-- an epoch is the last of its log
abbrev pub is_last : List BeginningRow → ℕ → Bool
is_last last epoch = list_any (λ b. b.id == epoch) last

-- how many rows of this group were met so far, where they come one group after the other
abbrev pub met : {X : Type 0} → Found X → ℕ → ℕ
met found place = if found.place == place then found.count else 0

-- one row more is met, which is told by its columns if it is wanted and not too many of its group were met before
pub record Meets {X : Type 0} (columns : X → Values) (most place : ℕ) (wanted : Bool) (old : Found X) (row : Values)
    (new : Found X) : Type 0 where
  pub at : new.place ≡ place
  pub more : met old place < most → (new.count ≡ met old place + 1) × (map columns new.rows.items
      ≡ (if wanted then map columns old.rows.items ++ row ∷ [] else map columns old.rows.items))
  pub full : most ≤ met old place → (new.count ≡ met old place)
      × (map columns new.rows.items ≡ map columns old.rows.items)

-- the id behind all of these, from 1 on
abbrev pub behind : List ℕ → ℕ
behind = fold (λ n id. max n (id + 1)) 1

-- What is told of an archive: when it was made; each device and each log; of each log its last beginning, and the
-- newest items of the epoch that began there, up to three; and the next ids that no device and no log has or had.
pub record StandsAs (trees : Trees) (s : Standing) : Type 0 where
  pub made : (row : Values) × Contains (trees 0) row × (column row 2 ≡ Text (string_bytes s.made))
  pub devices : IsPermutation (map (shown 10) (trees 1)) (map device_columns s.devices.items)
  pub logs : IsPermutation (map (shown 9) (trees 3)) (map log_columns s.logs.items)
  pub last : TellsNewest epochs 1 (λ _. true) (map (shown 2) (trees 6)) (map beginning_columns s.last.items)
  pub newest : TellsNewest numbers 3 (is_last s.last.items) (map (shown 5) (trees 5)) (map item_columns s.newest.items)
  pub next_device : s.next_device ≡ behind (map (λ d. d.id) s.devices.items)
  pub next_log : s.next_log ≡ behind (map (λ l. l.id) s.logs.items ++ map (λ b. b.id / epochs) s.last.items)

-- what the columns of a table are to hold
abbrev pub kinds_of : Question → List Kind
kinds_of Archive = archive_kinds
kinds_of Devices = device_kinds
kinds_of Logs = log_kinds
kinds_of Beginnings = beginning_kinds
kinds_of Items = item_kinds
kinds_of Spans = item_kinds

-- what these rows of tables are to tell isn't told: none says when the archive was made, or one of them can't be read
abbrev pub IsNotTold : Tables → Error → Type 0
IsNotTold tables e =
    ((e ≡ QueryReturnedNoRows) × (tables.archive.items ≡ []))
    ⊎ (FailsToReadOne archive_kinds tables.archive.items e
    ⊎ (FailsToReadOne device_kinds tables.devices.items e ⊎ FailsToReadOne log_kinds tables.logs.items e))

-- a row of a table isn't read, as a question shows it
abbrev pub HasUnreadIn : Question → Trees → Error → Type 0
HasUnreadIn question trees e =
    FailsToReadOne (kinds_of question) (map (shown (width question)) (trees (tree_of question))) e

-- a row isn't read
abbrev pub HasUnread : Trees → Error → Type 0
HasUnread trees e = (question : Question) × HasUnreadIn question trees e

-- Why an archive isn't told: the database gives up on a question; a row can't be read; its table has no row that says
-- when it was made; or there are more items than are counted.
abbrev pub FailsToTell : {S : Type 0} → Ghosts S → Held S → Held S → Error → Type 0
FailsToTell {S = S} g old new e =
    FailsToAnswer g old new e ⊎ (HasUnread (state g old).now.trees e
    ⊎ (((e ≡ QueryReturnedNoRows) × ((state g old).now.trees 0 ≡ []))
    ⊎ ((e ≡ SqliteFailure OperationInterrupted) × (18446744073709551615 ≤ length ((state g old).now.trees 5)))))
