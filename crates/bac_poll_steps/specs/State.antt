-- What is known of a log that is polled.
use Rattle.std.specs.Prelude.{ℕ, Bool, List, Option}
use Rattle.bac_wire.specs.Primitive.{Id}
use Rattle.bac_walk.specs.Place.{WalkPlace}
use Rattle.bac_walk.specs.declared.batch.Numbered.{Numbered}
use Rattle.bac_known.specs.declared.date_time.DateTime.{DateTime}
use Rattle.bac_poll_steps.specs.declared.state.Standing.{Standing}
use Rattle.bac_poll_steps.specs.declared.stage.Stage.{Stage}
pub use Rattle.bac_known.specs.Kept.{KeptAs, ToldAs, Reply, reply_as, maybe_reply, kept_of, kept_as, maybe_kept}
pub use Rattle.bac_known.specs.Kept.{told_as}

-- What is known of a log that is polled.
pub record PollState : Type 0 where
  pub walk : WalkPlace  -- the walk from its oldest record, by which each reply is read
  pub device : Id  -- its device
  pub stage : Stage  -- what the next answer is for
  pub reference : ℕ  -- the number from which that asks, or up to which
  pub next : ℕ  -- the number that comes next
  pub newest : Option KeptAs  -- the record right before that, if it is known
  pub earlier : Option KeptAs  -- the one before it
  pub earliest : Option KeptAs  -- and the one before that
  pub alone : Bool  -- whether the newest was asked for by its own number, not behind an earlier one
  pub stamp : Option DateTime  -- the date and time of the newest record of the epoch, if it has one
  pub word : ToldAs  -- what was told when the log was last found at its place
  pub told : ToldAs  -- what was told before its records were asked for
  pub again : ToldAs  -- the same told again
  pub lives : ℕ  -- how many epochs the poll began, two at most
  pub more : Bool  -- whether the last reply with records said that more is there
  pub begins : Option ℕ  -- where the first epoch begins by the count of a run before that ended behind it
  pub counted : Option ℕ  -- the same, or by the count of this run
  pub total : ℕ  -- the count
  pub refused : Bool  -- whether that was refused
  pub back : ℕ  -- how many numbers the poll went back, before the first of records
  pub held : List Numbered  -- records that came and aren't kept yet

-- where a log stands by its rows
pub record StandingAs : Type 0 where
  pub next : ℕ
  pub newest : Option KeptAs
  pub earlier : Option KeptAs
  pub earliest : Option KeptAs
  pub stamp : Option DateTime
  pub word : ToldAs

-- the same of the code
abbrev pub standing_as : Standing → StandingAs
standing_as at = record {
  next = at.next;
  newest = maybe_kept at.newest;
  earlier = maybe_kept at.earlier;
  earliest = maybe_kept at.earliest;
  stamp = at.stamp;
  word = told_as at.word;
}
