use Rattle.bac_drive.specs.Happens.{acting}
use Rattle.bac_batch.proofs.Happening.{steps_happen}
use Rattle.bac_batch.proofs.laws.steps_happen.Goals as goal

pub returns : goal.returns
returns g c =
    steps_happen
    (acting g.M.Machine.gives g.M.Machine.hears g.M.Machine.reads g.P.Port.sends g.P.Port.receives_within g.C.Clock.reads)
