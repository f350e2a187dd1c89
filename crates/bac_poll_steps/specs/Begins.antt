-- With what is known of a log its poll begins.
use Rattle.std.specs.Prelude.{ℕ, ◌==◌, false, if◌then◌else◌, [], Option, None, Some}
use Rattle.std.specs.Option.{is_none}
use Rattle.bac_wire.specs.Primitive.{Id}
use Rattle.bac_walk.specs.Place.{asking, walk_from_oldest}
use Rattle.bac_known.specs.DateTime.{undated}
use Rattle.bac_poll_steps.specs.State.{KeptAs, PollState, StandingAs, ToldAs}
use Rattle.bac_poll_steps.specs.Turns.{number_before}
use Rattle.bac_poll_steps.specs.declared.stage.Aim.TheVariants.{Finds, Starts}
use Rattle.bac_poll_steps.specs.declared.stage.Stage.{Stage}
use Rattle.bac_poll_steps.specs.declared.stage.Stage.TheVariants.{Joins, Prior, Oldest, Counts}

-- the number of a known record, or that one
abbrev pub kept_number : Option KeptAs → ℕ → ℕ
kept_number None number = number
kept_number (Some kept) number = kept.number

-- what is asked first of a log that stands there: the known records; else the number before, if there is one; else the
-- oldest
abbrev pub first_stage : Option KeptAs → (next : ℕ) → Stage
first_stage (Some newest) next = Joins
first_stage None next = if next == 1 then Oldest Finds else Prior

-- from which number: that of the first known record, or the one before
abbrev pub first_reference : StandingAs → ℕ
first_reference at =
    kept_number at.earliest (kept_number at.earlier (kept_number at.newest (number_before at.next)))

-- nothing is told
abbrev pub nothing_told : ToldAs
nothing_told = record { restart = []; moment = undated; revision = None }

-- A log whose rows stand there: its device told this before it is asked.
abbrev pub joining : Id → Id → (count : ℕ) → StandingAs → ToldAs → PollState
joining log device count at told = record {
  walk = asking count (walk_from_oldest log);
  device = device;
  stage = first_stage at.newest at.next;
  reference = first_reference at;
  next = at.next;
  newest = at.newest;
  earlier = at.earlier;
  earliest = at.earliest;
  alone = is_none at.earlier;
  stamp = at.stamp;
  word = at.word;
  told = told;
  again = nothing_told;
  lives = 0;
  more = false;
  begins = None;
  counted = None;
  total = 0;
  refused = false;
  back = 0;
  held = [];
}

-- One of which nothing is kept yet; a run before may have put its beginning on record, by the count alone.
abbrev pub starting : Id → Id → (count : ℕ) → (begins : Option ℕ) → (word : ToldAs) → ToldAs → PollState
starting log device count begins word told = record {
  walk = asking count (walk_from_oldest log);
  device = device;
  stage = Counts Starts;
  reference = 1;
  next = 1;
  newest = None;
  earlier = None;
  earliest = None;
  alone = false;
  stamp = None;
  word = word;
  told = told;
  again = nothing_told;
  lives = 0;
  more = false;
  begins = begins;
  counted = begins;
  total = 0;
  refused = false;
  back = 0;
  held = [];
}
