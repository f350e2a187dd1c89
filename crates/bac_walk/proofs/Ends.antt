-- How a run over an honest link ends.
use Rattle.std.proofs.Common.{◌≡◌, ℕ, refl}
use Rattle.bac_walk.specs.Honest.{IsHonestEnd}
use Rattle.bac_walk.specs.Outcomes.{IsRunOf}
use Rattle.bac_walk.specs.declared.outcome.Ended.{Ended}
use Rattle.bac_walk.specs.declared.outcome.Ended.TheVariants.{Fault}
use Rattle.bac_walk.specs.declared.outcome.WalkFault.{WalkFault}
use Rattle.bac_walk.specs.declared.outcome.WalkFault.TheVariants.{Lost, Refused, BadReply}
use Rattle.bac_walk.specs.declared.outcome.Why.{Why}
use Rattle.bac_walk.specs.declared.outcome.Why.TheVariants as why

-- a fault that is told is the one that ended it
pub ended_as : (w : Why) (steps n : ℕ) (ended : Ended) (e : WalkFault) → IsRunOf w steps n ended → w ≡ why.Fault e → ended ≡ Fault e
ended_as why.CaughtUp steps n ended e run is = absurd (cc)
ended_as why.StepLimit steps n ended e run is = absurd (cc)
ended_as (why.Fault f) steps n ended e run is = let a = run.1 in cc
ended_as why.Memory steps n ended e run is = absurd (cc)

-- it is a loss
pub is_loss : (e : WalkFault) → IsHonestEnd (Fault e) → e ≡ Lost
is_loss Lost end = refl
is_loss (Refused refusal) end = absurd end
is_loss BadReply end = absurd end
