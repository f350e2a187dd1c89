use Rattle.bac_walk.proofs.Runs.{headline_of}
use Rattle.bac_walk.proofs.laws.runs_deliver.Goals as goal

pub returns : goal.returns
returns g c = λ link left log retries old new before after steps ended items run.
    headline_of (λ r M H. g.L.LogLink.is_ours link log r M H) (λ r M H. g.L.LogLink.is_ours left log r M H)
    retries old new before after steps ended items run
