use Rattle.std.proofs.Common.{◌≡◌, ◌++◌, map, take, drop}
use Rattle.bac_site_poller.specs.Hosts.{answered_at}
use Rattle.bac_site_poller.proofs.hosts.answer_all.Given as goal

abbrev pub invariant-loop-host : goal.invariant-loop-host
invariant-loop-host l = l.hosts ≡ map (answered_at l.most l.peer) (take l.host-index l.fn.hosts) ++ drop l.host-index l.fn.hosts
