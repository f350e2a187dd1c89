-- 4. Dropped, or another life: what the evidence says where what is held lies behind the number that comes next.
use Rattle.std.specs.Prelude.{ℕ, ◌&&◌, ◌||◌, nat_lt, Bool, if◌then◌else◌}
use Rattle.std.specs.Prelude.{List, [], ◌∷◌, Option, None, Some}
use Rattle.std.specs.Option.{is_some}
use Rattle.bac_link.specs.Ordinals.{number_after}
use Rattle.bac_walk.specs.declared.batch.Numbered.{Numbered}
use Rattle.bac_known.specs.DateTime.{dated, is_before}
use Rattle.bac_poll_steps.specs.Known.{word_of}
use Rattle.bac_poll_steps.specs.State.{PollState, ToldAs}
use Rattle.bac_poll_steps.specs.Turns.{Turned, anew, asks_at, brings, confirmed, first_in, gap_up_to, number_or}
use Rattle.bac_poll_steps.specs.Turns.{renewed, standing_at}
use Rattle.bac_known.specs.declared.date_time.DateTime.{DateTime}
use Rattle.bac_poll_steps.specs.declared.gone.Gone.{Gone}
use Rattle.bac_poll_steps.specs.declared.gone.Gone.TheVariants.{Dropped, Doubtful, Both}
use Rattle.bac_poll_steps.specs.declared.stage.Stage.TheVariants.{Revision, Restart}
use Rattle.bac_poll_steps.specs.declared.turn.Line.TheVariants.{BeganOrDropped, DroppedOrBegan}
use Rattle.bac_known.specs.declared.word.Word.{Word}
use Rattle.bac_known.specs.declared.word.Word.TheVariants.{Same, Changed, Untold}

-- the newest that is kept of the epoch, if there is one, is dated before the oldest
abbrev pub is_behind : Option DateTime → DateTime → Bool
is_behind None stamp = Bool.true
is_behind (Some kept) stamp = is_before kept stamp

-- there is one, and the oldest is dated before it
abbrev pub is_earlier : DateTime → Option DateTime → Bool
is_earlier stamp None = Bool.false
is_earlier stamp (Some kept) = is_before stamp kept

-- the oldest is dated between the newest that is kept and the restart that is told: the log outlived that restart
abbrev pub is_outlived : PollState → DateTime → Bool
is_outlived p stamp = is_behind p.stamp stamp && is_before stamp p.again.moment

-- by the word, where the oldest isn't dated before the newest that is kept
abbrev pub gone_by : PollState → DateTime → Word → Gone
gone_by p stamp Same = Dropped
gone_by p stamp Untold = Doubtful
gone_by p stamp Changed = if is_outlived p stamp then Doubtful else Both

-- by the word alone
abbrev pub gone_of_none : Word → Gone
gone_of_none Same = Dropped
gone_of_none Untold = Doubtful
gone_of_none Changed = Both

-- what the evidence says where something was logged in the epoch: by the oldest that is held, or by the word alone
abbrev pub gone_behind : PollState → Option Numbered → Word → Gone
gone_behind p None word = gone_of_none word
gone_behind p (Some held) word =
    if is_earlier (dated held.entry) p.stamp then Both else gone_by p (dated held.entry) word

-- whether something was logged before the number that comes next: a record of the epoch is kept, or numbers come before
abbrev pub has_logged : PollState → Bool
has_logged p = (is_some p.newest || is_some p.stamp) || nat_lt 1 p.next

-- What the evidence says: the numbers up to the oldest that is held were dropped; dropped, or the log began anew; or
-- both are told. Where nothing was logged in the epoch yet nothing that is held can be of another life.
abbrev pub gone_of : PollState → Option Numbered → Word → Gone
gone_of p held word = if has_logged p then gone_behind p held word else Dropped

-- the word that was told again is the one that is told
abbrev pub retold : PollState → PollState
retold p = record p { told = p.again }

-- the gap ends where these are kept
abbrev pub brings_gone : PollState → ℕ → List Numbered → Turned
brings_gone p first held = record (brings (standing_at p first) held) { missing = gap_up_to p.next first }

-- the gap in the old epoch, and one in a new one, with the word that was told before its records were asked for
abbrev pub brings_both : PollState → ToldAs → ℕ → List Numbered → Turned
brings_both p told first held =
    record (anew (brings (standing_at (renewed p told) first) held) BeganOrDropped)
    { missing = gap_up_to p.next first; gap = gap_up_to 1 first }

-- a gap of which nobody can tell whether there is any
abbrev pub brings_doubtful : PollState → ℕ → List Numbered → Turned
brings_doubtful p first held =
    record (brings_gone p first held) { doubtful = Bool.true; line = Some (DroppedOrBegan p.next first) }

-- by the evidence
abbrev pub by_gone : PollState → ℕ → List Numbered → Gone → Turned
by_gone p first held Dropped = brings_gone (confirmed (retold p)) first held
by_gone p first held Doubtful = brings_doubtful (confirmed (retold p)) first held
by_gone p first held Both = brings_both (retold p) p.told first held

-- the word was told again
abbrev pub by_word : PollState → List Numbered → Turned
by_word p held =
    by_gone p (number_or (number_after p.total 1) (first_in held)) held
    (gone_of p (first_in held) (word_of p.word p.again))

-- its restart is asked for again, if one is on record
abbrev pub asks_restart : PollState → List Numbered → (restart : List ℕ) → Turned
asks_restart p held [] = by_word p held
asks_restart p held (octet ∷ octets) = asks_at (record p { held = held }) Restart p.reference

-- its revision, if one is on record, and then the restart
abbrev pub asks_revision : PollState → List Numbered → (revision : Option ℕ) → Turned
asks_revision p held None = asks_restart p held p.word.restart
asks_revision p held (Some was) = asks_at (record p { held = held }) Revision p.reference

-- each part of the word on record is asked for again
abbrev pub asks_word : PollState → List Numbered → Turned
asks_word p held = asks_revision (record p { again = p.told }) held p.word.revision
