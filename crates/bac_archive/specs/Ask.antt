-- What an archive is asked, and what it answers.
use Rattle.std.specs.Prelude.{◌≡◌, ◌⊎◌, ⊤, ℕ, ◌+◌, suc, zero, List, [], ◌∷◌, ◌++◌, map, codes}
use Rattle.std.specs.List.Sorted.{IsPermutation, IsSorted}
use Rattle.std.specs.declared.cmp.Ordering.{Ordering}
use Rattle.sqlite_value.specs.Order.{Row as Values, column, value_cmp}
use Rattle.sqlite_trees.specs.Tree.{Trees, rowid}
use Rattle.sqlite_trees.specs.declared.store.Store.{Ghosts}
use Rattle.sqlite.specs.declared.error.Error.{Error}
use Rattle.sqlite.specs.Held.{Held, state}
use Rattle.sqlite.specs.State.{State, IsUnchanged, IsRolledBack, FailsToQuery}
use Rattle.bac_archive.specs.declared.asking.Question.{Question}
use Rattle.bac_archive.specs.declared.asking.Question.TheVariants.{Archive, Devices, Logs, Beginnings, Items, Spans}
use Rattle.bac_archive.specs.declared.asking.Tables.{Tables}

-- a question as it is written; logs, beginnings and items are told from the greatest id on
abbrev pub asked : Question → List ℕ
asked Archive = codes "SELECT version, made FROM archive"
asked Devices =
    codes "SELECT id, address, dnet, dadr, instance, name, revision, whole, stopped, answered, offset "
    ++ codes "FROM devices ORDER BY id"
asked Logs =
    codes "SELECT id, device, instance, name, source, units, description, restart, revision, stopped "
    ++ codes "FROM logs ORDER BY id DESC"
asked Beginnings = codes "SELECT id, number, why FROM beginnings ORDER BY id DESC"
asked Items = codes "SELECT id, last, stamp, value, datum, flags FROM items ORDER BY id DESC"
asked Spans = codes "SELECT id, last FROM items ORDER BY id"

-- the place of its table
abbrev pub tree_of : Question → ℕ
tree_of Archive = 0
tree_of Devices = 1
tree_of Logs = 3
tree_of Beginnings = 6
tree_of Items = 5
tree_of Spans = 5

-- these numbers: from one on, so many
abbrev pub places : ℕ → ℕ → List ℕ
places from zero = []
places from (suc n) = from ∷ places (from + 1) n

-- the first columns of an answer's row
abbrev pub first : ℕ → Values → Values
first n row = map (column row) (places 0 n)

-- the row of a table as it is shown: its id, and so many columns behind it
abbrev pub shown : ℕ → Values → Values
shown n row = rowid row ∷ map (column row) (places 2 n)

-- how many columns are shown behind the id
abbrev pub width : Question → ℕ
width Archive = 1
width Devices = 10
width Logs = 9
width Beginnings = 2
width Items = 5
width Spans = 1

-- from the greatest id on
abbrev pub falls : Values → Values → Ordering
falls a b = value_cmp (column b 0) (column a 0)

-- from the least id on
abbrev pub rises : Values → Values → Ordering
rises a b = value_cmp (column a 0) (column b 0)

-- in which order the rows of an answer come
abbrev pub AreInOrder : Question → List Values → Type 0
AreInOrder Archive rows = ⊤
AreInOrder Devices rows = IsSorted rises rows
AreInOrder Logs rows = IsSorted falls rows
AreInOrder Beginnings rows = IsSorted falls rows
AreInOrder Items rows = IsSorted falls rows
AreInOrder Spans rows = IsSorted rises rows

-- the answer to a question: each row of its table
pub record IsAnswer (question : Question) (trees : Trees) (rows : List Values) : Type 0 where
  pub each : IsPermutation (map (shown (width question)) (trees (tree_of question))) rows
  pub order : AreInOrder question rows

-- the answers to the first four
pub record AreAnswers (trees : Trees) (tables : Tables) : Type 0 where
  pub archive : IsAnswer Archive trees tables.archive.items
  pub devices : IsAnswer Devices trees tables.devices.items
  pub logs : IsAnswer Logs trees tables.logs.items
  pub beginnings : IsAnswer Beginnings trees tables.beginnings.items

-- a database is as it was, or what wasn't committed is undone, since it failed
abbrev pub IsLeft : State → State → Type 0
IsLeft old new = IsUnchanged old new ⊎ IsRolledBack old new

-- nothing was asked, or its answers changed nothing
abbrev pub IsAsWas : {S : Type 0} → Ghosts S → Held S → Held S → Type 0
IsAsWas g old new = (new ≡ old) ⊎ IsUnchanged (state g old) (state g new)

-- the database gives up on a question, when nothing has changed before
abbrev pub FailsToAnswerTo : {S : Type 0} → Ghosts S → Question → Held S → Held S → Error → Type 0
FailsToAnswerTo {S = S} g question old new e =
    (mid : Held S) × IsAsWas g old mid × FailsToQuery (asked question) [] (state g mid) (state g new) e

-- it gives up on one of them
abbrev pub FailsToAnswer : {S : Type 0} → Ghosts S → Held S → Held S → Error → Type 0
FailsToAnswer g old new e = (question : Question) × FailsToAnswerTo g question old new e
