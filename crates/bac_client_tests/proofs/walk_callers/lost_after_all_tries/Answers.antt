use Rattle.std.proofs.Common.{ℕ, Result, List, subst}
use Rattle.bac_link.specs.declared.exchanges.ExchangeFault.{ExchangeFault}
use Rattle.bac_link.specs.Exchanges.{Exchanges, way_by}
use Rattle.bac_link.specs.Links.{question}
use Rattle.bac_link.specs.Path.{towards}
use Rattle.bac_walk.specs.Told.{Told, ended_of}
use Rattle.bac_walk.specs.Walks.{question_of}
use Rattle.bac_walk.specs.declared.outcome.Why.{Why}
use Rattle.bac_client_tests.proofs.walk_callers.lost_after_all_tries.Goals as goal

pub returns : goal.returns
returns g c = λ lost.
    let path = towards c.args.transactions.now.route in
    let retries = c.args.transactions.now.retries in
    let w = c.collect.new.walk in
    let P : Why → Type 0 = λ y. Told g.L.LogLink.asks path retries (ended_of y) w c.collect.new.link in
    let told = subst P lost c.collect.ensures.told in
    let Q : Result (List ℕ) ExchangeFault → Type 0 = λ r. Exchanges g.L.LogLink.asks (way_by path told.1.1 retries) (question w.log (question_of w)) told.1.0 r c.collect.new.link in
    (told.1.0, told.1.1, subst Q told.2 told.1.2)
