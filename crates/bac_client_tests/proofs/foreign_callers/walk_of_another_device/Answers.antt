use Rattle.std.proofs.Common.{[], ◌∷◌, subst}
use Rattle.bac_link.specs.Standard.{IsCount}
use Rattle.bac_walk.specs.Told.{ended_of}
use Rattle.bac_walk.specs.Transacted.{spare}
use Rattle.bac_client_tests.proofs.Foreign.{walk_delivers}
use Rattle.bac_client_tests.specs.Foreign.{held}
use Rattle.bac_client_tests.proofs.foreign_callers.walk_of_another_device.Goals as goal

pub returns : goal.returns
returns c = λ s low near log_is next two below at.
    walk_delivers c.args.link.now c.collect.new.link c.args.transactions.now.route c.args.walk.now c.collect.new.walk c.collect.result.items.items c.collect.result.why low s (spare (ended_of c.collect.result.why))
    (c.links_are_honest.ensures.told (λ link. held ∷ [])) c.collect.ensures.headline near log_is next
    (subst IsCount c.count-count.ensures.count c.count-count.ensures.bounds) two below at
