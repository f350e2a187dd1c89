use Rattle.std.proofs.Common.{◌≡◌}
use Rattle.bac_walk.proofs.Honest.{honest_delivers}
use Rattle.bac_link.specs.Honest.{IsHonest, asked_log}
use Rattle.bac_walk.proofs.laws.honest_is_delivered.Goals as goal

pub returns-clause-told : goal.returns-clause-told
returns-clause-told g c = λ moments. honest_delivers g.L.LogLink.asks (λ link M. moments link ≡ M)

pub returns-clause-ours : goal.returns-clause-ours
returns-clause-ours g c = λ log r H. honest_delivers g.L.LogLink.asks (λ link M. g.L.LogLink.is_ours link log r M H)

pub returns-clause-honest : goal.returns-clause-honest
returns-clause-honest g c = λ path log count H low. honest_delivers g.L.LogLink.asks (λ link M. IsHonest g.L.LogLink.asks (asked_log path log count) H low link M)
