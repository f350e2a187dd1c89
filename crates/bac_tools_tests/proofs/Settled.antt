-- What the status of `bac log` says of how its walk ended.
use Rattle.std.proofs.Common.{◌≡◌, ℕ, List, Option, Some, None, Ok, Err}
use Rattle.bac_tools.specs.LogEnds.{of_cause, of_why}
use Rattle.bac_tools.specs.Status.{walk_status}
use Rattle.bac_tools.specs.declared.fault.Fault.{Fault}
use Rattle.bac_tools.specs.declared.fault.Fault.TheVariants.{Flawed}
use Rattle.bac_walk.specs.declared.flaw.ReplyFlaw.{ReplyFlaw}
use Rattle.bac_walk.specs.declared.outcome.WalkFault.TheVariants as walk
use Rattle.bac_walk.specs.declared.outcome.Why.{Why}
use Rattle.bac_walk.specs.declared.outcome.Why.TheVariants as why

by_cause : (address : List ℕ) (done : ℕ) (cause : Why) → Ok done ≡ of_cause address cause → done ≡ walk_status cause
by_cause address done why.CaughtUp is = cc
by_cause address done why.StepLimit is = cc
by_cause address done (why.Fault walk.Lost) is = absurd cc
by_cause address done (why.Fault (walk.Refused refusal)) is = absurd cc
by_cause address done (why.Fault walk.BadReply) is = cc
by_cause address done why.Memory is = cc

-- where nothing is told of an end, the status is the end's own
pub end_of : (address : List ℕ) (done : ℕ) (cause : Why) (flaw : Option ReplyFlaw) → Ok done ≡ of_why address cause flaw → done ≡ walk_status cause
end_of address done cause None is = by_cause address done cause is
end_of address done cause (Some flaw) is = absurd cc

-- and no flaw is told
pub unflawed : (address : List ℕ) (done : ℕ) (cause : Why) (flaw : Option ReplyFlaw) (told : ReplyFlaw) → flaw ≡ Some told →
    Ok done ≡ of_why address cause flaw → ⊥
unflawed address done cause None told some is = cc
unflawed address done cause (Some flaw) told some is = cc

-- a fault without a flaw is that of the end
pub without_flaw : (address : List ℕ) (fault : Fault) (cause : Why) (flaw : Option ReplyFlaw) → flaw ≡ None →
    Err fault ≡ of_why address cause flaw → Err fault ≡ of_cause address cause
without_flaw address fault cause None none is = is
without_flaw address fault cause (Some flaw) none is = absurd cc

pub told_is : (address : List ℕ) (fault : Fault) (cause : Why) (flaw : Option ReplyFlaw) (told : ReplyFlaw) → flaw ≡ Some told →
    Err fault ≡ of_why address cause flaw → fault ≡ Flawed told
told_is address fault cause None told some is = absurd cc
told_is address fault cause (Some flaw) told some is = cc
