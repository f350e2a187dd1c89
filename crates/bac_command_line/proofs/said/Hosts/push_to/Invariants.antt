use Rattle.std.proofs.Common.{◌≡◌, ◌+◌, ◌-◌, ◌++◌}
use Rattle.bac_command_line.specs.Networks.{hosts_from}
use Rattle.bac_command_line.proofs.said.Hosts.push_to.Given as goal

abbrev pub invariant-loop-k : goal.invariant-loop-k
invariant-loop-k l =
    l.fn.list.items ++ hosts_from l.self.address l.self.first l.self.count
    ≡ l.list.items ++ hosts_from l.self.address (l.self.first + l.k) (l.self.count - l.k)
