use Rattle.std.proofs.Common.{◌≡◌, ◌≤◌}
use Rattle.bac_link.specs.Growing.{StaysHonest}
use Rattle.bac_link.specs.Honest.{asked_log}
use Rattle.bac_walk.proofs.Came.{brought_delivers}
use Rattle.bac_walk.proofs.Growing.{growing_delivers}
use Rattle.bac_walk.proofs.laws.growing_is_delivered.Goals as goal

pub returns-clause-told : goal.returns-clause-told
returns-clause-told g c = λ standing most. growing_delivers g.L.LogLink.asks (λ more link at. (standing link ≡ at) × (more ≤ most link)) (brought_delivers g.L.LogLink.asks)

pub returns-clause-honest : goal.returns-clause-honest
returns-clause-honest g c = λ path log count low. growing_delivers g.L.LogLink.asks (λ more link at. StaysHonest g.L.LogLink.asks (asked_log path log count) low more link at) (brought_delivers g.L.LogLink.asks)
