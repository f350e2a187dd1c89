use Rattle.std.proofs.Common.{◌-◌}
use Rattle.bac_serve.specs.Serving.{Serves, server}
use Rattle.bac_serve.proofs.serving.serve.Given as goal

-- what the datagrams that are left lead to, all of them lead to
abbrev pub invariant-loop-served : goal.invariant-loop-served
invariant-loop-served g l =
    (result : _) (new : _) →
    Serves g.P.Port.sends g.P.Port.receives g.C.Clock.tells (l.count - l.served) (server l.port l.device l.clock) result new
    → Serves g.P.Port.sends g.P.Port.receives g.C.Clock.tells l.fn.count (server l.fn.port l.fn.device l.fn.clock) result new
