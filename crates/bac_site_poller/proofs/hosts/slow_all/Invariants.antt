use Rattle.std.proofs.Common.{◌≡◌, ◌++◌, map, take, drop}
use Rattle.bac_site_poller.specs.Hosts.{slowed_at}
use Rattle.bac_site_poller.proofs.hosts.slow_all.Given as goal

abbrev pub invariant-loop-host : goal.invariant-loop-host
invariant-loop-host l = l.hosts ≡ map (slowed_at l.peer l.limit) (take l.host-index l.fn.hosts) ++ drop l.host-index l.fn.hosts
