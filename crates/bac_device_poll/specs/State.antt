-- What is known of a device that is polled.
use Rattle.std.specs.Prelude.{ℕ, Bool, List, Option}
use Rattle.bac_wire.specs.Primitive.{Id}
use Rattle.bac_poll.specs.Poll.{joining, starting}
use Rattle.bac_poll.specs.State.{PollState, StandingAs, ToldAs, standing_as, told_as}
use Rattle.bac_answers.specs.declared.entry.Naming.{Naming}
use Rattle.bac_answers.specs.declared.entry.Others.{Others}
use Rattle.bac_device_poll.specs.declared.stage.Stage.{Stage}
use Rattle.bac_device_poll.specs.declared.task.Begin.{Begin}
use Rattle.bac_device_poll.specs.declared.task.Begin.TheVariants as code
use Rattle.bac_device_poll.specs.declared.task.Polled.{Polled}
use Rattle.bac_answers.specs.declared.who.Who.{Who}

-- From where a log is polled: behind its rows; or from its beginning, which may be on record by its count.
pub data BeginAs : Type 0 where
  Behind : StandingAs → BeginAs
  Starting : Option ℕ → ToldAs → BeginAs

-- the same of the code
abbrev pub begin_as : Begin → BeginAs
begin_as (code.Behind at) = Behind (standing_as at)
begin_as (code.Starting begins word) = Starting begins (told_as word)

-- a log that is polled in its turn
pub record LogAs : Type 0 where
  pub log : Id
  pub begin : BeginAs

-- the poll of a log of a device that told this before it
abbrev pub begun : Id → (device : Id) → (many : ℕ) → ToldAs → BeginAs → PollState
begun log device many told (Behind at) = joining log device many at told
begun log device many told (Starting begins word) = starting log device many begins word told

-- What is known of a device that is polled.
pub record DeviceState : Type 0 where
  pub stage : Stage  -- what the next answer is for
  pub who : Option Who  -- by what it is known
  pub told : ToldAs  -- its word: what it tells of its restart, and its Database_Revision
  pub revision : Option ℕ  -- the Database_Revision on record, at which its list and its logs' names were read
  pub whole : Bool  -- whether all trend logs of its Object_List are kept
  pub clock : Bool  -- whether its clock is asked for in this run
  pub others : Option Others  -- how many objects it had whose records aren't kept, as it was told last
  pub stopped : List Id  -- logs of it that are on record, and aren't asked any more
  pub many : ℕ  -- how many records its logs are asked for at a time
  pub retries : ℕ  -- how often a request is repeated
  pub steps : Option ℕ  -- how many replies with records each of its logs has in this run, if not as many as come
  pub busy : ℕ  -- how often it was too busy for its question
  pub doubt : Bool  -- whether the question before, or a log, was lost, so that the next one is sent once
  pub read : Bool  -- whether its Object_List was read, where that is wanted, and no question what a log is was lost
  pub objects : List Id  -- the elements of the list that it told so far
  pub unnamed : List Id  -- the logs whose names are still to be asked for
  pub naming : Naming  -- what it told so far of the one whose names are
  pub polled : Option Polled  -- the log that is polled
  pub logs : List LogAs  -- the logs behind it
