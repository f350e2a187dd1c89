-- Where the poll of a log goes on. Read `GoesOn`.
use Rattle.std.specs.Prelude.{◌≡◌, ⊤, ℕ, ◌%◌, Bool, true, false, List, Option, None, Some, codes}
use Rattle.std.specs.Str.{bytes_eq}
use Rattle.sqlite_value.specs.Order.{Row as Values, column}
use Rattle.bac_archive.specs.Items.{number_at, number_in, text_at}
use Rattle.bac_archive.specs.Stands.{epochs}
use Rattle.bac_row_ids.specs.declared.place.Place.{Place}
use Rattle.bac_poll.specs.State.{KeptAs, StandingAs, standing_as, told_as}
use Rattle.bac_resume.specs.Rows.{LogTold}
use Rattle.bac_resume.specs.Stands.{is_full, known_at, newest_record, next_of}
use Rattle.bac_resume.specs.Texts.{HasDate, word_of}
use Rattle.bac_resume.specs.declared.resumed.Resumed.{Resumed}
use Rattle.bac_resume.specs.declared.resumed.Resumed.TheVariants.{Counted, Stands, Unbegun}

-- there is neither, or both, of which this holds
abbrev pub Agree : {X Y : Type 0} → (X → Y → Type 0) → Option X → Option Y → Type 0
Agree P None None = ⊤
Agree P None (Some y) = ⊥
Agree P (Some x) None = ⊥
Agree P (Some x) (Some y) = P x y

-- a record as its row has it
pub record IsKept (item : Values) (kept : KeptAs) : Type 0 where
  pub number : kept.number ≡ number_in item
  pub stamp : HasDate item kept.stamp
  pub datum : kept.datum ≡ text_at (column item 4)
  pub flags : kept.flags ≡ text_at (column item 5)

-- What these items of an epoch, the newest first, say of where it stands: which number comes next, and what is known of
-- the three before it; the epoch begins with this number.
pub record StandsBy (begins : ℕ) (items : List Values) (at : StandingAs) : Type 0 where
  pub next : at.next ≡ next_of begins items
  pub newest : Agree IsKept (known_at at.next items 0) at.newest
  pub earlier : Agree IsKept (known_at at.next items 1) at.earlier
  pub earliest : Agree IsKept (known_at at.next items 2) at.earliest

-- its newest record has this date and time
abbrev pub IsStamped : List Values → StandingAs → Type 0
IsStamped items at = Agree HasDate (newest_record items) at.stamp

-- whether a beginning is known by the count alone
abbrev pub is_counted : Values → Bool
is_counted begins = bytes_eq (text_at (column begins 2)) (codes "counted")

-- where the next row of a log stands: behind the items of the epoch that begins there
pub record IsPlaceOf (log begins : Values) (items : List Values) (place : Place) : Type 0 where
  pub log_is : place.log ≡ number_at (column log 0)
  pub epoch_is : place.epoch ≡ number_at (column begins 0) % epochs
  pub full_is : place.full ≡ is_full items

-- what a standing says: the items of the epoch, and the word in the log's row
pub record SaysOf (log begins : Values) (items : List Values) (at : StandingAs) : Type 0 where
  pub stands : StandsBy (number_at (column begins 1)) items at
  pub stamp : IsStamped items at
  pub word : at.word ≡ word_of log

-- Where the poll of the log of this row goes on: nothing of it has begun; it begins there by the count alone; or the
-- items of its last epoch say where it stands.
abbrev pub GoesOn : (log : Values) → LogTold → Resumed → Type 0
GoesOn log told Unbegun = told.begins ≡ None
GoesOn log told (Counted place number word) =
    (begins : Values) × (told.begins ≡ Some begins) × (is_counted begins ≡ true)
    × IsPlaceOf log begins told.newest place × (number ≡ number_at (column begins 1)) × (told_as word ≡ word_of log)
GoesOn log told (Stands place at) =
    (begins : Values) × (told.begins ≡ Some begins) × (is_counted begins ≡ false)
    × IsPlaceOf log begins told.newest place × SaysOf log begins told.newest (standing_as at)
