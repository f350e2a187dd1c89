-- What the end of a log's walk comes to, beside its line, which is printed whatever it says.
use Rattle.std.specs.Prelude.{ℕ, List, Option, Some, None, Ok, Err}
use Rattle.bac_form.specs.declared.form.Form.{Form}
use Rattle.bac_form.specs.declared.form.Form.TheVariants.{Lines, Csv, Json}
use Rattle.bac_tools.specs.Ending.{Ending}
use Rattle.bac_tools.specs.Status.{walk_status}
use Rattle.bac_tools.specs.declared.fault.Fault.TheVariants.{Flawed, Silent, Declined}
use Rattle.bac_walk.specs.declared.flaw.ReplyFlaw.{ReplyFlaw}
use Rattle.bac_walk.specs.declared.outcome.WalkFault.TheVariants.{Lost, Refused, BadReply}
use Rattle.bac_walk.specs.declared.outcome.Why.{Why}
use Rattle.bac_walk.specs.declared.outcome.Why.TheVariants.{CaughtUp, StepLimit, Fault, Memory}

-- of a log that was lost it is told who didn't answer, of a refusal what it means; any other end is its status
abbrev pub of_cause : List ℕ → Why → Ending
of_cause address (Fault Lost) = Err (Silent address)
of_cause address (Fault (Refused refusal)) = Err (Declined refusal)
of_cause address (Fault BadReply) = Ok (walk_status (Fault BadReply))
of_cause address CaughtUp = Ok (walk_status CaughtUp)
of_cause address StepLimit = Ok (walk_status StepLimit)
of_cause address Memory = Ok (walk_status Memory)

-- Rows of CSV and lines of JSON have no line of the end, by which a run that ended at its step limit is known: so its
-- status says that there may be more, by 8.
abbrev pub ended_as : Form → Why → Ending → Ending
ended_as Lines cause ended = ended
ended_as Csv CaughtUp ended = ended
ended_as Csv StepLimit ended = Ok 8
ended_as Csv (Fault fault) ended = ended
ended_as Csv Memory ended = ended
ended_as Json CaughtUp ended = ended
ended_as Json StepLimit ended = Ok 8
ended_as Json (Fault fault) ended = ended
ended_as Json Memory ended = ended

-- what is wrong with a bad reply is told
abbrev pub of_why : List ℕ → Why → Option ReplyFlaw → Ending
of_why address cause (Some flaw) = Err (Flawed flaw)
of_why address cause None = of_cause address cause
