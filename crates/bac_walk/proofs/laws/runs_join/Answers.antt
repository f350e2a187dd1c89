use Rattle.bac_walk.proofs.Runs.{join_runs}
use Rattle.bac_walk.proofs.laws.runs_join.Goals as goal

pub returns : goal.returns
returns g c = λ link half left log retries old mid new before middle after steps more ended first rest up same was is.
    join_runs (λ r M H. g.L.LogLink.is_ours link log r M H) (λ r M H. g.L.LogLink.is_ours half log r M H)
    (λ r M H. g.L.LogLink.is_ours left log r M H) retries old mid new before middle after steps more ended first rest was is up same
