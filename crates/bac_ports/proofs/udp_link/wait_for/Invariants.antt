use Rattle.std.proofs.Common.{◌-◌}
use Rattle.bac_ports.specs.Asking.{Awaits}
use Rattle.bac_ports.proofs.udp_link.wait_for.Given as goal

-- what is still awaited makes the whole
abbrev pub invariant-loop-tried : goal.invariant-loop-tried
invariant-loop-tried g l =
    (result : _) (new : _) → Awaits g.P.Port.receives l.peer l.request (l.limit - l.tried) l.port result new
    → Awaits g.P.Port.receives l.fn.peer l.fn.request l.fn.limit l.fn.port result new
