-- What a walk made of a reply whose records are still octets.
use Rattle.std.specs.Prelude.{◌≡◌, ℕ, List, Option, Result, Ok, Err}
use Rattle.bac_walk.specs.declared.batch.Gap.{Gap as GapOf}
use Rattle.bac_walk.specs.declared.batch.Batch.{Batch}
use Rattle.bac_walk.specs.declared.outcome.BadReply.{BadReply}
use Rattle.bac_walk.specs.declared.outcome.WalkFault.{WalkFault}
use Rattle.bac_walk.specs.declared.outcome.Progress.{Progress}
use Rattle.bac_walk.specs.declared.outcome.Progress.TheVariants.{Batch as BatchOf, AskOldest, CaughtUp}
use Rattle.bac_walk.specs.declared.outcome.Step.{Step}
use Rattle.bac_walk.specs.declared.outcome.Step.TheVariants.{Batch as StepOf, CaughtUp as NoStep}
use Rattle.bac_walk.specs.declared.reply.Reply.{Reply}
use Rattle.bac_walk.specs.declared.reply.Verdict.{Verdict}
use Rattle.bac_walk.specs.declared.reply.Verdict.TheVariants as verdict
use Rattle.bac_walk.specs.declared.reply.Turned.{Turned}
use Rattle.bac_walk.specs.declared.reply.Turned.TheVariants as turned
use Rattle.bac_walk.specs.declared.reply.Replied.{Replied}
use Rattle.bac_walk.specs.declared.reply.Replied.TheVariants as replied
use Rattle.bac_walk.specs.Place.{WalkPlace}
use Rattle.bac_link.specs.Heard.{heard_at}
use Rattle.bac_walk.specs.Walks.{IsTakenFrom}
use Rattle.bac_walk.specs.Spelled.{IsWhole, data_in, data_held, records_from}

-- the batch that octets are
abbrev pub batch_from : Option GapOf → (first : ℕ) (octets : List ℕ) → IsWhole first octets → Batch
batch_from gap first octets whole =
    record { gap = gap; entries = record { items = records_from first octets }; some = whole.some; most = whole.most }

-- the batch that a reply is, with its records decoded
abbrev pub batch_of : Reply → Batch
batch_of r = batch_from r.gap r.first (data_held r.datagram) r.whole

-- the verdict on the parameters of an ACK, and where the walk is then
abbrev pub IsJudged : WalkPlace → List ℕ → Result Verdict BadReply → WalkPlace → Type 0
IsJudged old ack (Err e) new = IsTakenFrom old (heard_at old.log ack) (Err e) new
IsJudged old ack (Ok verdict.AskOldest) new = IsTakenFrom old (heard_at old.log ack) (Ok AskOldest) new
IsJudged old ack (Ok verdict.CaughtUp) new = IsTakenFrom old (heard_at old.log ack) (Ok CaughtUp) new
IsJudged old ack (Ok (verdict.Records gap first items)) new =
    (whole : IsWhole first (data_in ack))
    × IsTakenFrom old (heard_at old.log ack) (Ok (BatchOf (batch_from gap first (data_in ack) whole))) new
    × (items.now ≡ data_in ack)

-- the same with the records of a reply decoded
abbrev pub progress_of : {E : Type 0} → Result Turned E → Result Progress E
progress_of (Err e) = Err e
progress_of (Ok turned.AskOldest) = Ok AskOldest
progress_of (Ok turned.CaughtUp) = Ok CaughtUp
progress_of (Ok (turned.Reply r)) = Ok (BatchOf (batch_of r))

-- the same of a step
abbrev pub step_of : Result Replied WalkFault → Result Step WalkFault
step_of (Err e) = Err e
step_of (Ok replied.CaughtUp) = Ok NoStep
step_of (Ok (replied.Reply r)) = Ok (StepOf (batch_of r))

-- two steps that bring the same
abbrev pub IsSame : Result Step WalkFault → Result Step WalkFault → Type 0
IsSame (Err e) (Err f) = e ≡ f
IsSame (Ok NoStep) (Ok NoStep) = Unit {0}
IsSame (Ok (StepOf b)) (Ok (StepOf c)) = (b.gap ≡ c.gap) × (b.entries.items ≡ c.entries.items)
IsSame _ _ = ⊥
