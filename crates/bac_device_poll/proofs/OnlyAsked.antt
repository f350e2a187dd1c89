-- A device is asked for nothing but what is read.
use Rattle.std.proofs.Common.{Option, None, Some}
use Rattle.bac_poll.specs.Poll.{question_at as log_question_at}
use Rattle.bac_poll.specs.State.{PollState}
use Rattle.bac_poll_steps.specs.declared.stage.Stage.{Stage as LogStage}
use Rattle.bac_poll_steps.specs.declared.stage.Stage.TheVariants as log
use Rattle.bac_device_poll.specs.Laws.{AsksReadings, IsReading}
use Rattle.bac_device_poll.specs.Poll.{asks_log, question_at}
use Rattle.bac_device_poll.specs.State.{DeviceState}
use Rattle.bac_device_poll.specs.declared.question.Question.TheVariants.{Confirmed}
use Rattle.bac_device_poll.specs.declared.stage.Stage.{Stage}
use Rattle.bac_device_poll.specs.declared.stage.Stage.TheVariants as stage
use Rattle.bac_device_poll.specs.declared.task.Polled.{Polled}

-- what the poll of a log asks
log_reads : (p : PollState) (s : LogStage) → IsReading (Confirmed (log_question_at p s))
log_reads p log.Joins = tt
log_reads p log.Prior = tt
log_reads p log.Ahead = tt
log_reads p log.Again = tt
log_reads p log.Each = tt
log_reads p log.ByNumber = tt
log_reads p (log.Oldest aim) = tt
log_reads p (log.Counts aim) = tt
log_reads p (log.UpTo aim) = tt
log_reads p (log.Back aim) = tt
log_reads p log.Revision = tt
log_reads p log.Restart = tt

-- if one is polled
polled_reads : (polled : Option Polled) → IsReading (asks_log polled)
polled_reads None = tt
polled_reads (Some q) = log_reads q.poll q.poll.stage

-- by what the answer is for
stage_reads : (p : DeviceState) (s : Stage) → IsReading (question_at p s)
stage_reads p stage.Instance = tt
stage_reads p stage.IAm = tt
stage_reads p stage.Name = tt
stage_reads p stage.Restart = tt
stage_reads p stage.Revision = tt
stage_reads p stage.Date = tt
stage_reads p (stage.Time date) = tt
stage_reads p stage.Objects = tt
stage_reads p stage.Count = tt
stage_reads p (stage.Element index count) = tt
stage_reads p (stage.LogName log) = tt
stage_reads p (stage.Source log) = tt
stage_reads p (stage.Units log) = tt
stage_reads p (stage.Description log) = tt
stage_reads p stage.Log = polled_reads p.polled
stage_reads p stage.Between = tt
stage_reads p stage.Ended = tt

pub asks_readings : AsksReadings
asks_readings p = stage_reads p p.stage
