-- What records say of those that are known: section 1 of the rule.
use Rattle.std.specs.Prelude.{ℕ, ◌+◌, ◌-◌, ◌/◌, ◌%◌, ◌==◌, ◌&&◌, ◌||◌, not, nat_le, Bool, false, if◌then◌else◌}
use Rattle.std.specs.Prelude.{List, [], ◌∷◌, length, Option, None, Some}
use Rattle.std.specs.List.{find}
use Rattle.std.specs.Str.{bytes_eq}
use Rattle.bac_walk.specs.declared.batch.Numbered.{Numbered}
use Rattle.bac_known.specs.DateTime.{is_moment, is_same_time, ticks_of}
use Rattle.bac_known.specs.Kept.{KeptAs, ToldAs, kept_of}
use Rattle.bac_known.specs.declared.date_time.DateTime.{DateTime}
use Rattle.bac_known.specs.declared.known.Means.{Means}
use Rattle.bac_known.specs.declared.known.Means.TheVariants.{Shifted, Partly, Same, Unshown as NoneShown}
use Rattle.bac_known.specs.declared.known.Means.TheVariants.{Another as OtherShown}
use Rattle.bac_known.specs.declared.known.Shown.{Shown}
use Rattle.bac_known.specs.declared.known.Shown.TheVariants.{Unshown, Equal, Moved, Another}
use Rattle.bac_known.specs.declared.word.Word.{Word}
use Rattle.bac_known.specs.declared.word.Word.TheVariants.{Changed, Untold, Same as AsKept}

-- By how many quarter hours a moment is shown later, and a hundred, if it is a whole number of them: 25 hours at most,
-- and so 0 to 200.
abbrev pub shift : ℕ → ℕ → Shown
shift was now =
    if nat_le was (now + 9000000) && (nat_le now (was + 9000000) && ((now + 9000000 - was) % 90000 == 0))
    then Moved ((now + 9000000 - was) / 90000)
    else Another

-- ---- one known record

-- datum and flags are the same
abbrev pub is_same_value : KeptAs → KeptAs → Bool
is_same_value kept held = bytes_eq kept.datum held.datum && bytes_eq kept.flags held.flags

-- two dates and times that aren't the same
abbrev pub shift_of : DateTime → DateTime → Shown
shift_of was now = if is_moment was && is_moment now then shift (ticks_of was) (ticks_of now) else Another

-- a record that is shown under its number is the same, the same at another hour, or another one
abbrev pub shown_as : KeptAs → KeptAs → Shown
shown_as kept held =
    if is_same_value kept held
    then (if is_same_time kept.stamp held.stamp then Equal else shift_of kept.stamp held.stamp)
    else Another

-- the record of this number, if it is among these
abbrev pub record_at : ℕ → List Numbered → Option Numbered
record_at number records = find (λ held. held.number == number) records

-- that one, if there is one, as the known one
abbrev pub maybe_shown : KeptAs → Option Numbered → Shown
maybe_shown kept None = Unshown
maybe_shown kept (Some held) = shown_as kept (kept_of held)

-- what records show of one, if it is known
abbrev pub shown_in : Option KeptAs → List Numbered → Shown
shown_in None records = Unshown
shown_in (Some kept) records = maybe_shown kept (record_at kept.number records)

-- the records behind that of this number
abbrev pub records_behind : ℕ → List Numbered → List Numbered
records_behind number [] = []
records_behind number (held ∷ others) = if held.number == number then others else records_behind number others

-- the number of a known record, if there is one
abbrev pub number_in : Option KeptAs → Option ℕ
number_in None = None
number_in (Some kept) = Some kept.number

-- ---- all of them

-- the record isn't shown
abbrev pub is_unshown : Shown → Bool
is_unshown Unshown = Bool.true
is_unshown Equal = false
is_unshown (Moved by) = false
is_unshown Another = false

-- another one has its number
abbrev pub is_another : Shown → Bool
is_another Unshown = false
is_another Equal = false
is_another (Moved by) = false
is_another Another = Bool.true

-- nothing is against it
abbrev pub is_equal : Shown → Bool
is_equal Unshown = Bool.true
is_equal Equal = Bool.true
is_equal (Moved by) = false
is_equal Another = false

-- by how many quarter hours later, and a hundred
abbrev pub shift_in : Shown → ℕ
shift_in Unshown = 0
shift_in Equal = 100
shift_in (Moved by) = by
shift_in Another = 0

-- Three known records that are shown: by one shift, or one that changes once among them. That of the newest counts.
abbrev pub means_all : Shown → Shown → Shown → Means
means_all newest earlier earliest =
    if (shift_in newest == shift_in earlier) || (shift_in earlier == shift_in earliest)
    then Shifted (shift_in newest) else OtherShown

-- some aren't shown: of three the others are asked for one by one
abbrev pub means_some : (three : Bool) → Means
means_some three = if three then Partly else OtherShown

-- None of them is as it is known, and none is another one.
abbrev pub means_shifted : (three : Bool) → Shown → Shown → Shown → Means
means_shifted three newest earlier earliest =
    if is_unshown newest || (is_unshown earlier || is_unshown earliest) then means_some three
    else means_all newest earlier earliest

-- not all are equal
abbrev pub means_other : (three : Bool) → Shown → Shown → Shown → Means
means_other three newest earlier earliest =
    if is_another newest || (is_another earlier || is_another earliest) then OtherShown
    else means_shifted three newest earlier earliest

-- none is shown, or all that are are equal
abbrev pub means_of : (three : Bool) → Shown → Shown → Shown → Means
means_of three newest earlier earliest =
    if is_unshown newest && (is_unshown earlier && is_unshown earliest) then NoneShown
    else (if is_equal newest && (is_equal earlier && is_equal earliest) then Same
    else means_other three newest earlier earliest)

-- ---- the word of the device

-- another restart, where one is told and one is on record
abbrev pub is_other_restart : List ℕ → List ℕ → Bool
is_other_restart was [] = false
is_other_restart [] now = false
is_other_restart was now = not (bytes_eq was now)

-- another revision, where one is told and one is on record
abbrev pub is_other_revision : Option ℕ → Option ℕ → Bool
is_other_revision None now = false
is_other_revision (Some was) None = false
is_other_revision (Some was) (Some now) = not (was == now)

-- a part of the word that is told and on record is another one
abbrev pub is_other_word : ToldAs → ToldAs → Bool
is_other_word was now = is_other_restart was.restart now.restart || is_other_revision was.revision now.revision

-- a restart that is on record is refused, or another one
abbrev pub is_restart_changed : List ℕ → List ℕ → Bool
is_restart_changed [] now = false
is_restart_changed was now = not (bytes_eq was now)

-- the same of a revision
abbrev pub is_revision_changed : Option ℕ → Option ℕ → Bool
is_revision_changed None now = false
is_revision_changed (Some was) None = Bool.true
is_revision_changed (Some was) (Some now) = not (was == now)

-- no restart is on record: a revision alone tells none
abbrev pub is_untold : List ℕ → Word
is_untold [] = Untold
is_untold (octet ∷ octets) = AsKept

-- The word that is told now, against the one on record.
abbrev pub word_of : ToldAs → ToldAs → Word
word_of was now =
    if is_restart_changed was.restart now.restart || is_revision_changed was.revision now.revision
    then Changed else is_untold was.restart

-- the restart on record is told, and is the same
abbrev pub is_retold : ToldAs → ToldAs → Bool
is_retold was now = not (length was.restart == 0) && bytes_eq was.restart now.restart

-- ---- a reply

-- two known records have one value
abbrev pub is_steady_with : Option KeptAs → Option KeptAs → Bool
is_steady_with None other = false
is_steady_with (Some kept) None = false
is_steady_with (Some kept) (Some other) = is_same_value kept other

-- the word on record with the restart that is told, if one is
abbrev pub with_restart : ToldAs → (restart : List ℕ) → (moment : DateTime) → ToldAs
with_restart was [] moment = was
with_restart was (octet ∷ octets) moment = record was { restart = octet ∷ octets; moment = moment }

-- a revision that is told, else the one on record
abbrev pub revision_or : Option ℕ → Option ℕ → Option ℕ
revision_or was None = was
revision_or was (Some now) = Some now

-- the word on record, with each part that is told
abbrev pub word_with : ToldAs → ToldAs → ToldAs
word_with was now =
    record (with_restart was now.restart now.moment) { revision = revision_or was.revision now.revision }
