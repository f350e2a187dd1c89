-- The newest record of each log that isn't stopped.
use Rattle.std.specs.Prelude.{◌≡◌, ◌⊎◌, ℕ, ◌/◌, ◌==◌, ◌||◌, ◌&&◌, not, if◌then◌else◌, Bool, false, is_none, codes}
use Rattle.std.specs.Prelude.{List, [], ◌∷◌, ◌++◌, Option, None, Some, IsSome, filter_map, find, option_map}
use Rattle.std.specs.List.{list_any}
use Rattle.std.specs.Str.{bytes_eq}
use Rattle.std.specs.String.{string_bytes}
use Rattle.sqlite_value.specs.Order.{Row as Values}
use Rattle.sqlite_trees.specs.declared.store.Store.{Ghosts}
use Rattle.sqlite.specs.declared.error.Error.{Error}
use Rattle.sqlite.specs.Held.{Held}
use Rattle.bac_archive.specs.Ask.{IsAsWas}
use Rattle.bac_archive.specs.Stands.{epochs}
use Rattle.bac_archive.specs.declared.known.Known.{Known}
use Rattle.bac_archive.specs.declared.row.BeginningRow.{BeginningRow}
use Rattle.bac_kept.specs.Faults.{FailsOnItems}
use Rattle.bac_kept.specs.Records.{IsFirstIn, all_of}
use Rattle.bac_kept.specs.Shown.{Told, shown_of}
use Rattle.bac_kept.specs.declared.lasts.Found.{Found}
use Rattle.bac_kept.specs.declared.record.Record.{Record}
use Rattle.bac_kept.specs.declared.words.Choice.{Choice}

-- a log that is shown, unless it is stopped, or its device
abbrev pub asked : Option Told → Option Told
asked None = None
asked (Some told) = if told.log.stopped || told.device.stopped then None else Some told

-- the logs that are chosen and aren't stopped, by rising ids
abbrev pub last_logs : Known → Choice → List Told
last_logs k choice = filter_map (λ log. asked (shown_of k choice log)) k.logs.items

-- the newest record of a log that was found, if one was
abbrev pub found_of : List Found → ℕ → Option Record
found_of found log = option_map (λ (f : Found). f.newest) (find (λ f. f.log == log) found)

-- one that is found now
abbrev pub found_as : ℕ → Option Record → List Found → List Found
found_as log None found = found
found_as log (Some kept) found = found ++ record { log = log; newest = kept } ∷ []

-- the newest record of a log is looked for among items, unless one was found before
abbrev pub LooksFor : List Values → ℕ → List Found → List Found → Type 0
LooksFor items log old new = (IsSome (found_of old log) × (new ≡ old))
    ⊎ ((found_of old log ≡ None) × (newest : Option Record) × IsFirstIn (all_of log) items newest
    × (new ≡ found_as log newest old))

-- those of logs, one after the other
abbrev pub LooksForEach : List Values → List Told → List Found → List Found → Type 0
LooksForEach items [] old new = new ≡ old
LooksForEach items (told ∷ more) old new =
    (mid : List Found) × LooksFor items told.log.id old mid × LooksForEach items more mid new

-- those of the first of them were
abbrev pub HasLookedFor : List Values → List Told → List Found → List Found → Type 0
HasLookedFor items all old new =
    (logs : List Told) × (others : List Told) × (all ≡ logs ++ others) × LooksForEach items logs old new

-- only its log's count told where an epoch begins, so no record was kept of it
abbrev pub is_counted : BeginningRow → Bool
is_counted b = elim b.why [ None ↦ false | Some why ↦ bytes_eq (string_bytes why) (codes "counted") ]

-- records of a log were kept, in whichever part
abbrev pub has_begun : Told → Bool
has_begun told = list_any (λ b. (b.id / epochs == told.log.id) && not (is_counted b)) told.beginnings

-- the newest record of a log is still to be found
abbrev pub is_sought : List Found → Told → Bool
is_sought found told = has_begun told && is_none (found_of found told.log.id)

-- the items of one log aren't all read, when nothing has changed before
abbrev pub FailsOnOne : {S : Type 0} → Ghosts S → Held S → Held S → Error → Type 0
FailsOnOne {S = S} g old new e = (log : ℕ) × (mid : Held S) × IsAsWas g old mid
    × FailsOnItems g (all_of log) mid new e
