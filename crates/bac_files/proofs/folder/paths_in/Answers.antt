use Rattle.std.proofs.lemmas.Result.{IfOk-weaker}
use Rattle.bac_files.proofs.folder.paths_in.Goals as goal

pub returns-in-Ok-clause-paths : goal.returns-in-Ok-clause-paths
returns-in-Ok-clause-paths c =
    IfOk-weaker c.paths_among.result _ _ (λ paths all.
    let (names, gives, are) = all in
    (are.0, are.1, are.2.0.0, are.2.1 are.1 are.3.0, are.3.0.1, are.4))
    c.paths_among.ensures.paths
