-- Where an archive is kept: in a file, or in parts.
use Rattle.std.specs.Fs.{dir_entry_name}
use Rattle.std.specs.Iterator.{Drains}
use Rattle.std.specs.List.{Contains, range_with_len}
use Rattle.std.specs.Prelude.{◌≡◌, ◌⊎◌, ◌++◌, ◌+◌, ◌-◌, ◌<◌, ◌≤◌, ℕ, zero, suc, Bool, List, length, map, replicate}
use Rattle.std.specs.Prelude.{Option, None, Some, IfSome, option_map, unwrap_or, Result, Ok, Err, IfOk, String, Vec}
use Rattle.std.specs.Prelude.{codes, decimal, if◌then◌else◌}
use Rattle.std.specs.declared.alloc.Global.{Global}
use Rattle.std.specs.declared.fs.dir.DirEntry.{DirEntry}
use Rattle.std.specs.String.{string_bytes}
use Rattle.sqlite.specs.Effect.{Database}
use Rattle.sqlite.specs.State.{State}
use Rattle.bac_files.specs.declared.folder.Numbers.{Numbers}
use Rattle.bac_files.specs.declared.folder.Place.{Place}
use Rattle.bac_files.specs.declared.not_opened.NotOpened.{NotOpened}

-- the file of the part of this number: its number in six digits, or more where it has more, and .db
abbrev pub part_file : ℕ → List ℕ
part_file number = replicate (6 - length (decimal number)) 48 ++ (decimal number ++ codes ".db")

-- a file of this name is the part of this number, which six digits have room for
abbrev pub IsPartFile : List ℕ → ℕ → Type 0
IsPartFile name number = (1 ≤ number) × (number ≤ 999999) × (name ≡ part_file number)

-- the path of a part in a folder
abbrev pub part_path : List ℕ → ℕ → List ℕ
part_path folder number = folder ++ (codes "/" ++ part_file number)

-- what the part behind so many others follows on: the last of these, or nothing where there are none
abbrev pub FollowsOn : List ℕ → ℕ → Option (String Global) → Type 0
FollowsOn folder zero before = before ≡ None
FollowsOn folder (suc others) before =
    (path : String Global) × (before ≡ Some path) × (string_bytes path ≡ part_path folder (suc others))

-- the part of a folder behind so many others, and what it follows on
abbrev pub IsPartBehind : List ℕ → ℕ → Place → Type 0
IsPartBehind folder others place =
    (string_bytes place.path ≡ part_path folder (suc others)) × FollowsOn folder others place.before

-- An archive of this name is kept in the file of that name, or in a part of the folder, which follows on the one
-- before.
abbrev pub IsPlaced : List ℕ → Place → Type 0
IsPlaced name place = ((string_bytes place.path ≡ name) × (place.before ≡ None))
    ⊎ ((others : ℕ) × (others < 999999) × IsPartBehind name others place)

-- ---- the parts among the files of a folder

-- no entry was told by an error, and they have these names
abbrev pub AreNamed : {R A F D E : Type 0} → List (Result (DirEntry R A F D) E) → List (List ℕ) → Type 0
AreNamed {R = R} {A = A} {F = F} {D = D} entries names =
    (all : List (DirEntry R A F D)) × (entries ≡ map Ok all) × (names ≡ map dir_entry_name all)

-- an iterator gave entries of these names, and then no more
abbrev pub GivesNames : {S R A F D E : Type 0} → (S → Option (Result (DirEntry R A F D) E) → S → Type 0) → S
    → List (List ℕ) → Type 0
GivesNames {R = R} {A = A} {F = F} {D = D} {E = E} gives entries names =
    (given : List (Result (DirEntry R A F D) E)) × Drains gives entries given × AreNamed given names

-- among files of these names is the part of this number
abbrev pub HasPart : List (List ℕ) → ℕ → Type 0
HasPart names number = (1 ≤ number) × (number ≤ 999999) × Contains names (part_file number)

-- there is none
abbrev pub HasNoPart : List (List ℕ) → Type 0
HasNoPart names = (number : ℕ) → HasPart names number → ⊥

-- the oldest part has this number: none has a lesser one
abbrev pub IsOldest : List (List ℕ) → ℕ → Type 0
IsOldest names least = HasPart names least × ((number : ℕ) → HasPart names number → least ≤ number)

-- the newest part has this number: none has a greater one
abbrev pub IsNewest : List (List ℕ) → ℕ → Type 0
IsNewest names greatest = HasPart names greatest × ((number : ℕ) → HasPart names number → number ≤ greatest)

-- which parts there are: none, or these are the numbers of the oldest and of the newest
abbrev pub ArePartsOf : List (List ℕ) → Option Numbers → Type 0
ArePartsOf names None = HasNoPart names
ArePartsOf names (Some found) = IsOldest names found.least × IsNewest names found.greatest

-- the newest part, which has this number, or the one behind it
abbrev pub IsNewestOrNext : List ℕ → ℕ → Place → Type 0
IsNewestOrNext folder newest place =
    IsPartBehind folder (newest - 1) place ⊎ ((newest < 999999) × IsPartBehind folder newest place)

-- the part of a folder that is opened, whose files have these names: the first where there is none
abbrev pub IsPlacedAmong : List ℕ → List (List ℕ) → Place → Type 0
IsPlacedAmong folder names place = (HasNoPart names × IsPartBehind folder 0 place)
    ⊎ ((newest : ℕ) × IsNewest names newest × IsNewestOrNext folder newest place)

-- the paths of the parts of a folder from the one to the other number, each of them, in rising order
abbrev pub part_paths : List ℕ → ℕ → ℕ → List (List ℕ)
part_paths folder least greatest = map (part_path folder) (range_with_len least (greatest + 1 - least))

-- from the oldest to the newest, where the files of the folder have these names
abbrev pub AreAllParts : List ℕ → List (List ℕ) → List (List ℕ) → Type 0
AreAllParts folder names paths = (least : ℕ) × (greatest : ℕ) × IsOldest names least × IsNewest names greatest
    × (paths ≡ part_paths folder least greatest)

-- from some number to another
abbrev pub AreParts : List ℕ → List (List ℕ) → Type 0
AreParts folder paths = (least : ℕ) × (greatest : ℕ) × (1 ≤ least) × (least ≤ greatest) × (greatest ≤ 999999)
    × (paths ≡ part_paths folder least greatest)

-- the path of the file that is no use: of the one that it follows on, where that is blamed
abbrev pub blamed : Place → List ℕ
blamed place =
    if place.blames_before then string_bytes (unwrap_or place.before place.path) else string_bytes place.path

-- ---- the parts of an archive, read one after the other

-- the paths of the parts of a folder, or nothing where there is no folder; or why they can't be told
abbrev pub Listing : Type 0
Listing = Result (Option (List (List ℕ))) NotOpened

-- the paths are those of parts of the folder of this name, where that is one and they can be told
abbrev pub AreListed : List ℕ → Listing → Type 0
AreListed name listing = IfOk listing (λ listed. IfSome listed (AreParts name))

-- the paths that a listing answers
abbrev pub paths_of : Result (Option (Vec (String Global) Global)) NotOpened → Listing
paths_of (Ok listed) = Ok (option_map (λ paths. map string_bytes paths.items) listed)
paths_of (Err why) = Err why

-- A database that was read: as it was opened and as it is left, whether the connection is still open, and whether the
-- disk has given back what was written.
pub record Reading : Type 0 where
  pub found : Database
  pub left : Database
  pub is_open : Bool
  pub is_clean : Bool

-- from the one to the other state of its connection
abbrev pub reading : State → State → Reading
reading old new = record { found = old.now; left = new.now; is_open = new.is_open; is_clean = new.is_clean }

-- what a listing of parts is, what is found in one, and why one isn't opened
pub record PartRules (P : Type 0) : Type 1 where
  pub lists : P → List ℕ → Listing → P → Type 0
  pub holds : P → List ℕ → Reading → P → Type 0
  pub bars : P → List ℕ → NotOpened → P → Type 0

-- the rules that are these
abbrev pub part_rules : {P : Type 0} → (P → List ℕ → Listing → P → Type 0) → (P → List ℕ → Reading → P → Type 0)
    → (P → List ℕ → NotOpened → P → Type 0) → PartRules P
part_rules lists holds bars = record { lists = lists; holds = holds; bars = bars }
