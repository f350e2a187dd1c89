use Rattle.std.proofs.Common.{◌≡◌, ◌≤◌}
use Rattle.bac_link.proofs.Growing.{honest_stays, stands_on, stays_on}
use Rattle.bac_link.proofs.laws.links_stay_honest.Goals as goal

pub returns-clause-told : goal.returns-clause-told
returns-clause-told g c = λ standing most. stands_on g.L.LogLink.asks (λ more link at. (standing link ≡ at) × (more ≤ most link))

pub returns-clause-goes_on : goal.returns-clause-goes_on
returns-clause-goes_on g c = λ path log count low. stays_on g.L.LogLink.asks path log count low

pub returns-clause-honest : goal.returns-clause-honest
returns-clause-honest g c = honest_stays g.L.LogLink.asks
