-- What an archive has on record of devices, logs and epochs.
use Rattle.std.specs.Prelude.{◌⊎◌, ⊤, ℕ, List, map}
use Rattle.std.specs.List.Sorted.{IsPermutation, IsSorted}
use Rattle.sqlite_value.specs.Order.{Row as Values}
use Rattle.sqlite_trees.specs.Tree.{Trees}
use Rattle.sqlite_trees.specs.declared.store.Store.{Ghosts}
use Rattle.sqlite.specs.declared.error.Error.{Error}
use Rattle.sqlite.specs.Held.{Held, state}
use Rattle.bac_archive.specs.Ask.{FailsToAnswerTo, IsAnswer, rises, shown}
use Rattle.bac_archive.specs.Put.{beginning_columns, device_columns, log_columns}
use Rattle.bac_archive.specs.Stands.{HasUnreadIn}
use Rattle.bac_archive.specs.declared.asking.Question.{Question}
use Rattle.bac_archive.specs.declared.asking.Question.TheVariants.{Archive, Beginnings, Devices, Items, Logs, Spans}
use Rattle.bac_archive.specs.declared.known.Known.{Known}

-- these are the rows of a table, with so many columns behind the id, by rising ids
abbrev pub AreRowsOf : ℕ → List Values → List Values → Type 0
AreRowsOf width table rows = IsPermutation (map (shown width) table) rows × IsSorted rises rows

-- each device of an archive is told, each log, and where each epoch begins
pub record IsKnown (trees : Trees) (k : Known) : Type 0 where
  pub devices : AreRowsOf 10 (trees 1) (map device_columns k.devices.items)
  pub logs : AreRowsOf 9 (trees 3) (map log_columns k.logs.items)
  pub beginnings : AreRowsOf 2 (trees 6) (map beginning_columns k.beginnings.items)

-- the answers to the questions for them
abbrev pub AreAnswersTo : Trees → List Values → List Values → List Values → Type 0
AreAnswersTo trees devices logs beginnings =
    IsAnswer Devices trees devices × IsAnswer Logs trees logs × IsAnswer Beginnings trees beginnings

-- a question for devices, logs or beginnings
abbrev pub AsksForKnown : Question → Type 0
AsksForKnown Devices = ⊤
AsksForKnown Logs = ⊤
AsksForKnown Beginnings = ⊤
AsksForKnown Archive = ⊥
AsksForKnown Items = ⊥
AsksForKnown Spans = ⊥

-- a row of theirs isn't read
abbrev pub HasUnreadKnown : Trees → Error → Type 0
HasUnreadKnown trees e = (question : Question) × AsksForKnown question × HasUnreadIn question trees e

-- Why they aren't told: the database gives up on a question for them, or one of their rows can't be read.
abbrev pub FailsToKnow : {S : Type 0} → Ghosts S → Held S → Held S → Error → Type 0
FailsToKnow g old new e =
    ((question : Question) × AsksForKnown question × FailsToAnswerTo g question old new e)
    ⊎ HasUnreadKnown (state g old).now.trees e
