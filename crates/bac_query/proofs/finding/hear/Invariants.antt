use Rattle.std.proofs.Common.{◌-◌}
use Rattle.bac_query.specs.Hearing.{Hears, ReceivesBy, port_rules, searching, standing}
use Rattle.bac_query.proofs.finding.hear.Given as goal

-- what the receives that are left lead to, all of them lead to
abbrev pub invariant-loop-received : goal.invariant-loop-received
invariant-loop-received g l =
    (result : _) (after : _) (new : _) →
    Hears (ReceivesBy (port_rules g.P.Port.sends g.P.Port.receives g.P.Port.receives_within) l.fn.wait) l.fn.least (l.limit - l.received) (searching l.port (standing (g.W.Write.contents l.out) l.seeking)) result (searching after new)
    → Hears (ReceivesBy (port_rules g.P.Port.sends g.P.Port.receives g.P.Port.receives_within) l.fn.wait) l.fn.least l.fn.limit (searching l.fn.port (standing (g.W.Write.contents l.fn.out) l.fn.seeking)) result (searching after new)
