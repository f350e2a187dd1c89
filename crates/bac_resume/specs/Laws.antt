-- Laws of where a poll goes on. Read `GoesOnWhereItStopped`.
use Rattle.std.specs.Prelude.{◌≡◌, ⊤, ℕ, zero, suc, ◌+◌, ◌<◌, ◌≤◌, true, false}
use Rattle.std.specs.Prelude.{List, [], ◌∷◌, None, Some, map, take}
use Rattle.std.specs.List.{Contains, filter}
use Rattle.std.specs.List.Sorted.{IsPermutation}
use Rattle.std.specs.declared.cmp.Ordering.TheVariants.{Less}
use Rattle.std.specs.Option.{option_map}
use Rattle.hex.specs.Hex.{IsBytes, encode_lower}
use Rattle.sqlite_value.specs.Order.{Row as Values, column}
use Rattle.sqlite_trees.specs.Tree.{IsAscending, Trees}
use Rattle.bac_wire.specs.Primitive.{Id}
use Rattle.bac_archive.specs.Ask.{falls, shown}
use Rattle.bac_archive.specs.Items.{last_at, number_at, number_in, text_at}
use Rattle.bac_archive.specs.Put.{beginning_columns, item_columns}
use Rattle.bac_archive.specs.Read.{numbers}
use Rattle.bac_archive.specs.Stands.{StandsAs, is_in}
use Rattle.bac_archive.specs.declared.standing.Standing.{Standing}
use Rattle.bac_link.specs.Ordinals.{is_number, number_after}
use Rattle.bac_walk.specs.declared.batch.Numbered.{Numbered}
use Rattle.bac_poll.specs.Poll.{joining}
use Rattle.bac_poll.specs.Stamps.{stamp_text, stamped}
use Rattle.bac_poll.specs.State.{KeptAs, PollState, StandingAs, ToldAs, kept_of}
use Rattle.bac_poll.specs.Turns.{behind, last_in, number_before, renewed, standing_at}
use Rattle.bac_known.specs.declared.date_time.DateTime.{DateTime}
use Rattle.bac_resume.specs.Met.{log_in}
use Rattle.bac_resume.specs.Resumed.{IsStamped, StandsBy}
use Rattle.bac_resume.specs.Rows.{LogTold, told_of}
use Rattle.bac_resume.specs.Stands.{is_full, is_gap, known_at, next_of}
use Rattle.bac_resume.specs.Texts.{moment_in}

-- ---- nothing is made up

-- what an archive that stands so tells of a log
abbrev pub told_in : Standing → (log : ℕ) → LogTold
told_in s log = told_of (map beginning_columns s.last.items) (map item_columns s.newest.items) log

-- the number so many places before another
abbrev pub before : ℕ → ℕ → ℕ
before number zero = number
before number (suc back) = before (number_before number) back

-- a row of an archive's items is the record of a log under this number
pub record IsRecordIn (trees : Trees) (log number : ℕ) (item : Values) : Type 0 where
  pub there : Contains (map (shown 5) (trees 5)) item
  pub of_log : log_in item ≡ log
  pub is_record : is_gap item ≡ false
  pub number_is : number_in item ≡ number

-- Each record that is known of a log is one of its records in the archive, under the number at whose place it is known.
abbrev pub KnownAreKept : Type 0
KnownAreKept = (trees : Trees) (s : Standing) (log next back : ℕ) (item : Values) → StandsAs trees s
    → known_at next (told_in s log).newest back ≡ Some item → IsRecordIn trees log (before next (suc back)) item

-- these rows are all items of the epoch that begins there, by falling ids, no two with one id
pub record AreItemsOf (trees : Trees) (begins : Values) (rows : List Values) : Type 0 where
  pub each : IsPermutation (filter (is_in numbers (number_at (column begins 0))) (map (shown 5) (trees 5))) rows
  pub fall : IsAscending (λ a b. falls a b ≡ Less) rows

-- The items by which it goes on are the first three of these.
abbrev pub NewestAreTold : Type 0
NewestAreTold = (trees : Trees) (s : Standing) (log : ℕ) (begins : Values) (rows : List Values) → StandsAs trees s
    → (told_in s log).begins ≡ Some begins → AreItemsOf trees begins rows → (told_in s log).newest ≡ take 3 rows

-- No item of the epoch has a number behind that of the newest of these, behind whose last number the next one comes.
abbrev pub NoneIsNewer : Type 0
NoneIsNewer = (trees : Trees) (begins newest item : Values) (rows : List Values)
    → AreItemsOf trees begins (newest ∷ rows) → Contains (map (shown 5) (trees 5)) item
    → is_in numbers (number_at (column begins 0)) item ≡ true → number_in item ≤ number_in newest

-- The number that comes next is a sequence number, if that with which the epoch begins is one.
abbrev pub NextIsNumber : Type 0
NextIsNumber = (begins : ℕ) (items : List Values) → is_number begins ≡ true → is_number (next_of begins items) ≡ true

-- Where the last number of the epoch is kept 1 comes next.
abbrev pub FullGoesOnAtOne : Type 0
FullGoesOnAtOne = (begins : ℕ) (items : List Values) → is_full items ≡ true → next_of begins items ≡ 1

-- What is put on record of a restart is read back.
abbrev pub RestartIsReadBack : Type 0
RestartIsReadBack = (values : List ℕ) → IsBytes values → moment_in (encode_lower values) ≡ stamped values

-- ---- a run goes on where the last one stopped

-- a date and time as a row has it: without the weekday
abbrev pub undayed : DateTime → DateTime
undayed at = record at { date = record at.date { weekday = 255 } }

-- and so a record
abbrev pub kept_undayed : KeptAs → KeptAs
kept_undayed kept = record kept { stamp = undayed kept.stamp }

-- where a poll stands, as far as rows have it
abbrev pub place_of : PollState → StandingAs
place_of p = record {
  next = p.next;
  newest = option_map kept_undayed p.newest;
  earlier = option_map kept_undayed p.earlier;
  earliest = option_map kept_undayed p.earliest;
  stamp = option_map undayed p.stamp;
  word = p.word;
}

-- a row says a record
pub record SaysRecord (held : Numbered) (item : Values) : Type 0 where
  pub no_gap : last_at (column item 1) ≡ None
  pub number : number_in item ≡ held.number
  pub stamp : text_at (column item 2) ≡ stamp_text held.entry.date held.entry.time
  pub datum : text_at (column item 4) ≡ (kept_of held).datum
  pub flags : text_at (column item 5) ≡ (kept_of held).flags

-- these rows say these records of an epoch, whose numbers rise by one from this one on
abbrev pub SayRun : (next : ℕ) → List Numbered → List Values → Type 0
SayRun next [] [] = ⊤
SayRun next [] (item ∷ items) = ⊥
SayRun next (held ∷ others) [] = ⊥
SayRun next (held ∷ others) (item ∷ items) = SaysRecord held item × (held.number ≡ next) × (0 < next)
    × (next ≤ 4294967295) × SayRun (next + 1) others items

-- the items of an epoch, the newest first, and in front of them others that are put one after the other
abbrev pub with_rows : List Values → List Values → List Values
with_rows rows [] = rows
with_rows rows (item ∷ items) = with_rows (item ∷ rows) items

-- The poll that is made of what rows say stands where they say.
abbrev pub JoinsThere : Type 0
JoinsThere = (log device : Id) (count begins : ℕ) (rows : List Values) (at : StandingAs) (told : ToldAs)
    → StandsBy begins rows at → StandsBy begins rows (place_of (joining log device count at told))

-- Where a poll stands by the three newest items of its epoch, it stands so too behind records that it brings, once
-- their rows are put: the number that comes next, the records known before it, and the date and time of the newest.
-- Behind the last number that there is 1 comes next, and that record is known.
abbrev pub GoesOnBehindRecords : Type 0
GoesOnBehindRecords = (begins : ℕ) (rows items : List Values) (p : PollState) (records : List Numbered)
    (last : Numbered) → StandsBy begins (take 3 rows) (place_of p) → SayRun p.next records items
    → last_in records ≡ Some last
    → StandsBy begins (take 3 (with_rows rows items)) (place_of (behind p records last))
    × IsStamped (take 3 (with_rows rows items)) (place_of (behind p records last))

-- So what an archive tells, once they are put, is where the poll stood when it stopped.
abbrev pub GoesOnWhereItStopped : Type 0
GoesOnWhereItStopped = (trees : Trees) (s : Standing) (log : ℕ) (begins : Values) (rows items : List Values)
    (p : PollState) (records : List Numbered) (last : Numbered) → StandsAs trees s
    → (told_in s log).begins ≡ Some begins → AreItemsOf trees begins (with_rows rows items)
    → StandsBy (number_at (column begins 1)) (take 3 rows) (place_of p) → SayRun p.next records items
    → last_in records ≡ Some last
    → StandsBy (number_at (column begins 1)) (told_in s log).newest (place_of (behind p records last))
    × IsStamped (told_in s log).newest (place_of (behind p records last))

-- And behind a gap, whose last number this is.
abbrev pub GoesOnBehindGap : Type 0
GoesOnBehindGap = (begins last : ℕ) (rows : List Values) (item : Values) (p : PollState)
    → last_at (column item 1) ≡ Some last
    → StandsBy begins (take 3 (item ∷ rows)) (place_of (standing_at p (number_after last 1)))

-- And where an epoch begins: the first one, or the next.
abbrev pub GoesOnAnew : Type 0
GoesOnAnew = (first : ℕ) (p : PollState) (word : ToldAs) → StandsBy first [] (place_of (standing_at p first))
    × StandsBy 1 [] (place_of (renewed p word)) × IsStamped [] (place_of (renewed p word))
