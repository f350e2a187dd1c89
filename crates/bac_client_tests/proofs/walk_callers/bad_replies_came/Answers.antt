use Rattle.std.proofs.Common.{subst}
use Rattle.bac_link.specs.Path.{towards}
use Rattle.bac_walk.specs.Told.{Told, ended_of}
use Rattle.bac_walk.specs.declared.outcome.Why.{Why}
use Rattle.bac_client_tests.proofs.walk_callers.bad_replies_came.Goals as goal

pub returns-clause-told : goal.returns-clause-told
returns-clause-told g c = λ bad.
    let P : Why → Type 0 =
    λ y. Told g.L.LogLink.asks (towards c.args.transactions.now.route) c.args.transactions.now.retries (ended_of y) c.collect.new.walk c.collect.new.link in
    subst P bad c.collect.ensures.told
