-- What an answer to the question of a log makes of its poll, as a step.
use Rattle.std.proofs.Common.{◌≡◌, ℕ, Bool, true, false, if◌then◌else◌, List, refl}
use Rattle.bac_link.specs.declared.exchanges.Verdict.{Verdict}
use Rattle.bac_link.specs.declared.exchanges.Verdict.TheVariants.{Ack, BadReply, Refused}
use Rattle.bac_walk.specs.declared.outcome.WalkFault.TheVariants as walk
use Rattle.bac_poll.specs.State.{PollState}
use Rattle.bac_poll.specs.Turns.{Turned}
use Rattle.bac_poll_steps.specs.declared.stage.Stage.{Stage}
use Rattle.bac_poll_steps.specs.declared.stage.Stage.TheVariants.{Joins, Prior, Ahead, Again, Each, Oldest, ByNumber}
use Rattle.bac_poll_steps.specs.declared.stage.Stage.TheVariants.{Counts, UpTo, Back, Revision, Restart}
use Rattle.bac_poll_steps.specs.declared.turn.PollEnd.TheVariants.{Fault}
use Rattle.bac_poll_laws.specs.Laws.{Counted, Replied, Restarted, Revised}
use Rattle.bac_device_poll.specs.Logs.{log_after, read_as, wanted_at, with_records}
use Rattle.bac_device_poll.specs.Refusals.{is_busy}
use Rattle.bac_device_poll.specs.Values.{number_of, told_by, value_by}
use Rattle.bac_device_poll.specs.Word.{moment_of, restart_of}
use Rattle.bac_device_poll.specs.declared.logs.Wanted.TheVariants as wanted
use Rattle.bac_site_laws.specs.Steps.{Ended, IsAskedBy, Step, Took, after_step}

-- a step with this turn
pub record IsStepOf (q : PollState) (t : Turned) : Type 0 where
  pub step : Step
  pub asked : IsAskedBy q step
  pub is : t ≡ after_step q step

records_step : (q : PollState) (v : Verdict) (datagram : List ℕ) → IsStepOf q (with_records q v datagram)
records_step q Ack datagram = record { step = Took (Replied datagram); asked = tt; is = refl }
records_step q (Refused r) datagram = record { step = Ended (Fault (walk.Refused r)); asked = tt; is = refl }
records_step q BadReply datagram = record { step = Ended (Fault walk.BadReply); asked = tt; is = refl }

count_step : (q : PollState) (v : Verdict) (datagram : List ℕ) → IsStepOf q (read_as q wanted.Count v datagram)
count_step q v datagram = record { step = Took (Counted (number_of (value_by v datagram))); asked = tt; is = refl }

read_step : (q : PollState) (s : Stage) (v : Verdict) (datagram : List ℕ) → q.stage ≡ s → IsStepOf q (read_as q (wanted_at s) v datagram)
read_step q Joins v datagram at = records_step q v datagram
read_step q Prior v datagram at = records_step q v datagram
read_step q Ahead v datagram at = records_step q v datagram
read_step q Again v datagram at = records_step q v datagram
read_step q Each v datagram at = records_step q v datagram
read_step q ByNumber v datagram at = records_step q v datagram
read_step q (Oldest aim) v datagram at = records_step q v datagram
read_step q (Counts aim) v datagram at = count_step q v datagram
read_step q (UpTo aim) v datagram at = records_step q v datagram
read_step q (Back aim) v datagram at = records_step q v datagram
read_step q Revision v datagram at = record { step = Took (Revised (number_of (value_by v datagram))); asked = at; is = refl }
read_step q Restart v datagram at =
    record { step = Took (Restarted (restart_of (told_by v datagram)) (moment_of (told_by v datagram))); asked = at; is = refl }

pub answer_step : (q : PollState) (v : Verdict) (datagram : List ℕ) → IsStepOf q (log_after q v datagram)
answer_step q v datagram = by (is_busy v)
  where
    by : (b : Bool) → IsStepOf q (if b then with_records q v datagram else read_as q (wanted_at q.stage) v datagram)
    by true = records_step q v datagram
    by false = read_step q q.stage v datagram refl
