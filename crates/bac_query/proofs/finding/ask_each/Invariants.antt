use Rattle.std.proofs.Common.{drop}
use Rattle.bac_query.specs.Finding.{Turns}
use Rattle.bac_query.specs.Hearing.{port_rules, searching, standing}
use Rattle.bac_query.proofs.finding.ask_each.Given as goal

-- what the turns that are left lead to, all of them lead to
abbrev pub invariant-loop-address : goal.invariant-loop-address
invariant-loop-address g l =
    (result : _) (after : _) (new : _) →
    Turns (port_rules g.P.Port.sends g.P.Port.receives g.P.Port.receives_within) l.octets (drop l.address-index l.addresses) l.left (searching l.port (standing (g.W.Write.contents l.out) l.seeking)) result (searching after new)
    → Turns (port_rules g.P.Port.sends g.P.Port.receives g.P.Port.receives_within) l.fn.octets l.fn.addresses 4096 (searching l.fn.port (standing (g.W.Write.contents l.fn.out) l.fn.seeking)) result (searching after new)
