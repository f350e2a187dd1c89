use Rattle.std.proofs.Common.{◌≡◌}
use Rattle.bac_link.proofs.Honest.{goes_on, stands_honest}
use Rattle.bac_link.proofs.laws.links_are_honest.Goals as goal

pub returns-clause-told : goal.returns-clause-told
returns-clause-told g c = λ moments. stands_honest g.L.LogLink.asks (λ link M. moments link ≡ M)

pub returns-clause-ours : goal.returns-clause-ours
returns-clause-ours g c = λ log r H. stands_honest g.L.LogLink.asks (λ link M. g.L.LogLink.is_ours link log r M H)

pub returns-clause-goes_on : goal.returns-clause-goes_on
returns-clause-goes_on g c = λ path log count H low. goes_on g.L.LogLink.asks path log count H low
