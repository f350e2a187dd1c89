-- 5. A first run.
use Rattle.std.specs.Prelude.{ℕ, ◌==◌, ◌&&◌, not, Bool, true, false, if◌then◌else◌, List, [], Option, None, Some}
use Rattle.std.specs.Option.{is_some}
use Rattle.bac_link.specs.Ordinals.{is_ahead, number_after}
use Rattle.bac_walk.specs.declared.batch.Numbered.{Numbered}
use Rattle.bac_poll_steps.specs.Epochs.{asks_back, asks_oldest}
use Rattle.bac_poll_steps.specs.Known.{word_of}
use Rattle.bac_poll_steps.specs.State.{PollState}
use Rattle.bac_poll_steps.specs.Turns.{Turned, brings, confirmed, ends, first_in, first_number, number_or, gap_up_to}
use Rattle.bac_poll_steps.specs.Turns.{standing_at}
use Rattle.bac_poll_steps.specs.declared.stage.Aim.TheVariants.{Starts}
use Rattle.bac_poll_steps.specs.declared.turn.Beginning.{Beginning}
use Rattle.bac_poll_steps.specs.declared.turn.PollEnd.TheVariants.{ShowsNone}
use Rattle.bac_known.specs.declared.word.Word.{Word}
use Rattle.bac_known.specs.declared.word.Word.TheVariants.{Same, Changed, Untold}

-- whether numbers are missing from the one behind the count up to 1, round the count of all numbers
abbrev pub is_since : (counted : Option ℕ) → Bool
is_since None = false
is_since (Some counted) = is_ahead counted 1

-- Whether no gap is put in front of this number, in this epoch or in a new one: it is 1, and comes next.
abbrev pub is_first : PollState → ℕ → Bool
is_first p number = (number == 1) && ((p.next == 1) && not (is_since p.counted))

-- where the first epoch begins, and whether that is known by the count alone
abbrev pub beginning : ℕ → Bool → Option Beginning
beginning number counted = Some (record { number = number; counted = counted })

-- whether the log may have begun anew since the count of a run before
abbrev pub is_doubted : PollState → Word → Bool
is_doubted p Same = false
is_doubted p Untold = is_some p.begins
is_doubted p Changed = is_some p.begins

-- these are kept from this number on
abbrev pub stands_from : PollState → ℕ → List Numbered → Turned
stands_from p first held = brings (standing_at (confirmed p) first) held

-- the first epoch begins at the oldest that is held
abbrev pub starts_here : PollState → ℕ → List Numbered → Turned
starts_here p first held = record (stands_from p first held) { begins = beginning first false }

-- or behind the count: what was logged since is a gap
abbrev pub starts_behind : PollState → ℕ → ℕ → List Numbered → Turned
starts_behind p counted first held =
    record (stands_from p first held) {
      begins = beginning counted false;
      missing = gap_up_to counted first;
      doubtful = is_doubted p (word_of p.word p.told);
    }

-- by the count, if it is told
abbrev pub starts_at : PollState → ℕ → List Numbered → (counted : Option ℕ) → Turned
starts_at p first held None = starts_here p first held
starts_at p first held (Some counted) =
    if is_ahead counted first then starts_behind p counted first held else starts_here p first held

-- these are the oldest that are held; of none, the number behind the count
abbrev pub starts : PollState → List Numbered → Turned
starts p held = starts_at p (number_or (number_after p.total 1) (first_in held)) held p.counted

-- records came first: those before them are asked for
abbrev pub starts_by : PollState → List Numbered → Turned
starts_by p records =
    if is_first (standing_at p 1) (first_number records)
    then starts (standing_at p 1) records else asks_back (standing_at p 1) Starts records

-- how many were logged; 0 if that isn't told
abbrev pub total_of : Option ℕ → ℕ
total_of None = 0
total_of (Some total) = total

-- no record is shown: a beginning by the count stays as it is on record where the count is refused now
abbrev pub starts_none : PollState → Turned
starts_none p = if p.refused && is_some p.counted then ends p ShowsNone else starts p []

-- the oldest are asked for, and the first epoch begins there by the count alone
abbrev pub starts_at_count : PollState → ℕ → Turned
starts_at_count p number = record (asks_oldest (confirmed p) Starts) { begins = beginning number true }

-- so many were logged: the beginning behind them goes on record; a run before may have put one there
abbrev pub starts_told : PollState → (begins : Option ℕ) → ℕ → Turned
starts_told p None next = starts_at_count (record p { counted = Some next }) next
starts_told p (Some begins) next = asks_oldest p Starts

-- the count is refused: a beginning by a count that is on record stays
abbrev pub starts_refused : PollState → (counted : Option ℕ) → Turned
starts_refused p None = starts_at_count p 1
starts_refused p (Some counted) = asks_oldest p Starts

-- the count of a first run
abbrev pub starts_from : PollState → (count : Option ℕ) → Turned
starts_from p None = starts_refused (record p { total = 0; refused = true }) p.counted
starts_from p (Some total) =
    starts_told (record p { total = total; refused = false }) p.begins (number_after total 1)
