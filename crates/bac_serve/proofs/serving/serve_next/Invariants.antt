use Rattle.std.proofs.Common.{◌-◌}
use Rattle.bac_serve.specs.Serving.{ServesNext, server}
use Rattle.bac_serve.proofs.serving.serve_next.Given as goal

-- what the waits that are left lead to, all of them lead to
abbrev pub invariant-loop-waited : goal.invariant-loop-waited
invariant-loop-waited g l =
    (result : _) (new : _) →
    ServesNext g.P.Port.sends g.P.Port.receives g.C.Clock.tells (l.waits - l.waited) (server l.port l.device l.clock) result new
    → ServesNext g.P.Port.sends g.P.Port.receives g.C.Clock.tells l.fn.waits (server l.fn.port l.fn.device l.fn.clock) result new
