use Rattle.bac_drive.specs.Happens.{acting}
use Rattle.bac_drive.proofs.Putting.{loses_nothing, runs_put}
use Rattle.bac_drive.proofs.laws.runs_put.Goals as goal

pub returns-clause-put : goal.returns-clause-put
returns-clause-put g c =
    runs_put (acting g.M.Machine.gives g.M.Machine.hears g.M.Machine.reads g.P.Port.sends g.P.Port.receives_within g.C.Clock.reads) c.puts_are_one.ensures.join

pub returns-clause-lose_nothing : goal.returns-clause-lose_nothing
returns-clause-lose_nothing g c =
    loses_nothing (acting g.M.Machine.gives g.M.Machine.hears g.M.Machine.reads g.P.Port.sends g.P.Port.receives_within g.C.Clock.reads) c.puts_are_one.ensures.join c.puts_are_one.ensures.lose_nothing
