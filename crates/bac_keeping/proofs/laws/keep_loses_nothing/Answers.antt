use Rattle.bac_site_poller.specs.SiteLaws.{site_acts}
use Rattle.bac_keeping.proofs.Losing.{end_loses, fault_loses, kill_loses}
use Rattle.bac_keeping.proofs.laws.keep_loses_nothing.Goals as goal

pub returns-clause-killed : goal.returns-clause-killed
returns-clause-killed g c =
    kill_loses (site_acts g.P.Port.sends g.P.Port.receives_within g.C.Clock.reads) c.puts_are_one.ensures.join c.puts_are_one.ensures.lose_nothing c.runs_put.ensures.put

pub returns-clause-ended : goal.returns-clause-ended
returns-clause-ended g c =
    let acts = site_acts g.P.Port.sends g.P.Port.receives_within g.C.Clock.reads in
    end_loses acts (kill_loses acts c.puts_are_one.ensures.join c.puts_are_one.ensures.lose_nothing c.runs_put.ensures.put)

pub returns-clause-halted : goal.returns-clause-halted
returns-clause-halted g c =
    let acts = site_acts g.P.Port.sends g.P.Port.receives_within g.C.Clock.reads in
    fault_loses g.S.Store acts c.puts_are_one.ensures.lose_nothing (kill_loses acts c.puts_are_one.ensures.join c.puts_are_one.ensures.lose_nothing c.runs_put.ensures.put)
