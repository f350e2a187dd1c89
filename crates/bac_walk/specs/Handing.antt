-- What is made of a step: its batch is put into a sink.
use Rattle.std.specs.Prelude.{◌≡◌, ℕ, Bool, false, Option, Some, None, Result, Ok, Err}
use Rattle.bac_walk.specs.declared.batch.Gap.{Gap as GapOf}
use Rattle.bac_walk.specs.declared.batch.Numbered.{Numbered}
use Rattle.bac_walk.specs.Place.{WalkPlace}
use Rattle.bac_walk.specs.declared.outcome.WalkFault.{WalkFault}
use Rattle.bac_walk.specs.declared.outcome.Step.{Step}
use Rattle.bac_walk.specs.declared.outcome.Step.TheVariants.{Batch as StepOf, CaughtUp as NoStep}
use Rattle.bac_walk.specs.declared.outcome.Ended.{Ended}
use Rattle.bac_walk.specs.declared.outcome.Ended.TheVariants.{CaughtUp, StepLimit, Stopped, Fault}
use Rattle.bac_link.specs.Ordinals.{number_after}
use Rattle.bac_walk.specs.Sinks.{PutAll}

-- where the walk is after a batch whose record of this number was refused, and how the step ended
abbrev pub walk_after : WalkPlace → Option ℕ → WalkPlace
walk_after w None = w
walk_after w (Some n) = record w { next = number_after n 1; fresh = false; asks_oldest = false }

-- how that step ended: it was stopped, if a record was refused
abbrev pub ended_after : Option ℕ → Ended
ended_after None = StepLimit
ended_after (Some n) = Stopped

-- the batch of a step is put into the sink; a step without a batch and a fault leave sink and walk as they were
abbrev pub HandedOn : {S : Type 0} → (S → Option GapOf → Numbered → Bool → S → Type 0) →
    S → WalkPlace → Result Step WalkFault → Ended → WalkPlace → S → Type 0
HandedOn puts sink w (Err e) ended after left = (left ≡ sink) × (after ≡ w) × (ended ≡ Fault e)
HandedOn puts sink w (Ok NoStep) ended after left = (left ≡ sink) × (after ≡ w) × (ended ≡ CaughtUp)
HandedOn puts sink w (Ok (StepOf b)) ended after left =
    (refused : Option ℕ) × PutAll puts sink b.gap b.entries.items refused left
    × (after ≡ walk_after w refused) × (ended ≡ ended_after refused)
