use Rattle.std.proofs.Common.{refl}
use Rattle.bac_client_tests.proofs.walk_callers.no_steps.Goals as goal

pub returns : goal.returns
returns g c =
    let none = c.collect.ensures.none refl in (none.0, none.1, none.3, none.4)
