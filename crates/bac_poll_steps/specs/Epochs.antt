-- 6. A new epoch: what is done where another life is told.
use Rattle.std.specs.Prelude.{ℕ, ◌==◌, if◌then◌else◌, List}
use Rattle.bac_link.specs.Ordinals.{number_after}
use Rattle.bac_walk.specs.declared.batch.Numbered.{Numbered}
use Rattle.bac_poll_steps.specs.State.{PollState}
use Rattle.bac_poll_steps.specs.Turns.{Turned, anew, asks, asks_at, brings, end_of, ends, first_in, first_number}
use Rattle.bac_poll_steps.specs.Turns.{gap_up_to}
use Rattle.bac_poll_steps.specs.Turns.{number_or, renewed, standing_at}
use Rattle.bac_poll_steps.specs.declared.stage.Aim.{Aim}
use Rattle.bac_poll_steps.specs.declared.stage.Aim.TheVariants.{Renews}
use Rattle.bac_poll_steps.specs.declared.stage.Stage.TheVariants.{Oldest, UpTo, Back}
use Rattle.bac_poll_steps.specs.declared.turn.Line.TheVariants.{BeganAnew}
use Rattle.bac_poll_steps.specs.declared.turn.PollEnd.TheVariants.{CaughtUp, Contradicts}

-- the oldest are asked for, by time
abbrev pub asks_oldest : PollState → Aim → Turned
asks_oldest p aim = asks_at p (Oldest aim) p.reference

-- before a gap is put in front of records, those before the first of them are asked for
abbrev pub asks_back : PollState → Aim → List Numbered → Turned
asks_back p aim records =
    asks (record p { stage = Back aim; reference = first_number records; held = records })

-- records are kept, behind a gap from where the log stands up to the first of them
abbrev pub brings_behind : PollState → List Numbered → Turned
brings_behind p records = record (brings p records) { missing = gap_up_to p.next (number_or p.next (first_in records)) }

-- an epoch has begun, and these are the oldest that are held
abbrev pub renews : PollState → List Numbered → Turned
renews p records = if first_number records == 1 then brings p records else asks_back p Renews records

-- Another life, told by a record: it is kept from its oldest on. A third one in a poll contradicts itself.
abbrev pub another : PollState → Turned
another p =
    if p.lives == 2 then ends p Contradicts else anew (asks_oldest (renewed p p.told) Renews) BeganAnew

-- the same, told by its oldest records, which are the first that are kept
abbrev pub another_by : PollState → List Numbered → Turned
another_by p records =
    if p.lives == 2 then ends p Contradicts else anew (renews (renewed p p.told) records) BeganAnew

-- an epoch has begun and holds nothing, though so many were logged in it
abbrev pub renews_none : PollState → ℕ → Turned
renews_none p total =
    record (ends (standing_at p (number_after total 1)) CaughtUp) { missing = gap_up_to p.next (number_after total 1) }

-- an epoch has begun and shows no record by time: of so many that were logged in it the last are asked for by number
abbrev pub renews_of : PollState → ℕ → Turned
renews_of p total =
    if total == 0 then ends p (end_of p) else asks_at (record p { total = total }) (UpTo Renews) total

-- another life, told by its count
abbrev pub another_of : PollState → ℕ → Turned
another_of p total =
    if p.lives == 2 then ends p Contradicts else anew (renews_of (renewed p p.told) total) BeganAnew
